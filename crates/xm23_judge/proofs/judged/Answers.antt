-- Both buffers are cleared, the start is told, the run is judged from the machine that the record holds, frames left open are told;
-- what is left and the reply are the parts of the definition's answer. Assumes nothing.
use Rattle.std.proofs.Common.{List, ℕ, replicate, ap, subst, ◌∙◌, arith, rules}
use Rattle.machine.specs.State.{state_of}
use Rattle.machine.specs.Events.{events_of}
use Rattle.soundness.specs.Judge.{judged_run}
use Rattle.judge.specs.Reached.{JudgedIs}
use Rattle.turn.proofs.Laws.{events-fit, events-ordered, count_fits}
use Rattle.xm23_judge.proofs.Laws.{few_steps, told-close, answer}
use Rattle.xm23_judge.proofs.judged.Goals as goal

pub tell_start-requires : goal.tell_start-requires
tell_start-requires c = c.fill-2.ensures.after (λ y h. h) ∙ ap (λ k. replicate k 0) c.requires.2

pub judge_run-r-requires : goal.judge_run-r-requires
judge_run-r-requires c =
    let a = c.args in
    let p = c.requires.0 in (
      count_fits a.memory.now a.state.now a.events.now a.n p _ c.read_record-m.ensures,
      events-ordered a.memory.now a.state.now a.events.now a.n p,
      events-fit a.memory.now a.state.now a.events.now a.n p,
      p.few_steps,
      c.fill.ensures.after (λ y h. h) ∙ ap (λ k. replicate k 0) c.requires.1,
      omega (arith, c.tell_start.auto.findings, c.fill-2.auto.self, c.requires.2),
      c.tell_start.ensures c.unwrap-whole.result.now,
    )

pub write_record-requires : goal.write_record-requires
write_record-requires c = c.requires.0.record_size

pub reply_of-requires : goal.reply_of-requires
reply_of-requires c =
    let x = c.judge_run-r in
    let a = c.args in
    let m = c.read_record-m in
    let judged =
    subst
    (λ (y : List ℕ). JudgedIs (state_of m.result y) m.result.rest.count (judged_run (events_of a.events.now) (state_of m.result y) a.n)
    (state_of x.result.machine x.new.memory) x.result.steps x.result.frames x.result.deep x.new.writers x.new.findings)
    (search rules) x.ensures in (
      few_steps a.memory.now a.state.now a.events.now a.n m.result m.ensures x.result.machine x.new.memory
          x.result.steps x.result.frames x.result.deep x.new.writers x.new.findings judged
          c.requires.0.few_steps,
      c.kinds.ensures.1,
    )

pub returns : goal.returns
returns c =
    let x = c.judge_run-r in
    let a = c.args in
    let m = c.read_record-m in
    let judged =
    subst
    (λ (y : List ℕ). JudgedIs (state_of m.result y) m.result.rest.count (judged_run (events_of a.events.now) (state_of m.result y) a.n)
    (state_of x.result.machine x.new.memory) x.result.steps x.result.frames x.result.deep x.new.writers x.new.findings)
    (search rules) x.ensures in
    let t = c.tell_close in
    let told =
    told-close a.memory.now a.state.now a.events.now a.n m.result m.ensures x.result.machine x.new.memory
    x.result.steps x.result.frames x.result.deep x.new.writers x.new.findings judged
    t.new.findings t.ensures in
    let e =
    answer a.memory.now a.state.now a.events.now a.n m.result m.ensures x.result.machine x.new.memory
    x.result.steps x.result.frames x.result.deep x.new.writers x.new.findings judged t.new.findings told _
    c.write_record.ensures _ c.kinds.ensures.0 _ c.reply_of.ensures in
    record {
      reply = ap (λ y. y.reply) e;
      memory = ap (λ y. y.memory) e;
      state = ap (λ y. y.state) e;
      writers = ap (λ y. y.writers) e;
      findings = ap (λ y. y.findings) e;
    }

pub unwrap-whole-requires : goal.unwrap-whole-requires
unwrap-whole-requires c = c.as_mut_array.ensures.variant.1 c.requires.0.memory_size

-- Refused, nothing is changed; else what `judged` needs is what the refusal has settled. Assumes nothing.
use Rattle.std.proofs.Common.{refl, sym, ap, ◌∙◌, arith}
use Rattle.xm23_judge.proofs.Laws.{call-passed, call-writers, call-findings, call-refused, call-judged}
use Rattle.xm23_judge.proofs.judge_call.Goals as goal

pub returns-in-Err : goal.returns-in-Err
returns-in-Err c =
    let a = c.args in
    let e =
    call-refused a.memory.now a.state.now a.events.now a.writers.now a.findings.now a.n _
    c.in-Err.ensures.0 c.in-Err.ensures.1 in
    record {
      reply = ap (λ y. y.reply) e;
      memory = ap (λ y. y.memory) e;
      state = ap (λ y. y.state) e;
      writers = ap (λ y. y.writers) e;
      findings = ap (λ y. y.findings) e;
    }

pub overflow_cast-n : goal.overflow_cast-n
overflow_cast-n c =
    let a = c.args in
    let p =
    call-passed a.memory.now a.state.now a.events.now a.writers.now a.findings.now a.n _
    (sym c.in_default.ensures) refl in
    let few = p.few_steps in
    omega (arith, few)

pub judged-requires : goal.judged-requires
judged-requires c =
    let a = c.args in
    let k = sym c.in_default.ensures in
    let h = refl in (
      call-passed a.memory.now a.state.now a.events.now a.writers.now a.findings.now a.n _ k h,
      call-writers a.memory.now a.state.now a.events.now a.writers.now a.findings.now a.n _ k h,
      call-findings a.memory.now a.state.now a.events.now a.writers.now a.findings.now a.n _ k h,
    )

pub returns : goal.returns
returns c =
    let a = c.args in
    let j = c.judged.ensures in
    let e =
    call-judged a.memory.now a.state.now a.events.now a.writers.now a.findings.now a.n _
    (sym c.in_default.ensures) refl in
    record {
      reply = j.reply ∙ ap (λ y. y.reply) e;
      memory = j.memory ∙ ap (λ y. y.memory) e;
      state = j.state ∙ ap (λ y. y.state) e;
      writers = j.writers ∙ ap (λ y. y.writers) e;
      findings = j.findings ∙ ap (λ y. y.findings) e;
    }

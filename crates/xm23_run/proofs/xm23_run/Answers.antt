-- Refused, nothing is changed; else what the callees need is what the verdict has settled (`Passed`), and the run's answer is the
-- definition's, whose steps and records are few enough for their bits of the reply (Calls). The figure that it carries is the greatest
-- number of open frames; demand 3 of the call follows from the equations of memory and record. Assumes nothing.
use Prim.Native.Nat.{◌≤◌}
use borrow.Author.Rules.{rules}
use Rattle.run_answer.proofs.Same.{leaves-same}
use mathlib.Core.Path.{◌≡◌, ap, sym, subst, ◌∙◌}
use native.Mathlib.Omega.{arith}
use Rattle.machine.specs.Call.{Closing}
use Rattle.turn.proofs.Laws.{behind-none, events-fit, events-ordered, count_fits}
use Rattle.resume.proofs.Deepest.{call-carried}
use Rattle.resume.proofs.Resumption.{call-resumes}
use Rattle.run_answer.proofs.Calls.{call-passed, call-refused, call-ran, few_steps, few-records, figure-kept, figure-ran}
use Rattle.xm23_run.proofs.xm23_run.Goals as goal

pub returns-in-Err : goal.returns-in-Err
returns-in-Err c =
    let a = c.args in
    let v = sym c.call_verdict.ensures ∙ c.in-Err.is in
    let e = call-refused _ _ _ _ _ _ _ v c.refusal_number.ensures.0 in
    let f = figure-kept _ _ _ _ _ _ v a.deepest.now in
    let memory = ap (λ (x : Closing). x.memory) e in
    let state = ap (λ (x : Closing). x.state) e in
    let carried = call-carried a.memory.now a.state.now a.events.now a.log.now a.n a.deepest.now in
    let resumes = call-resumes a.memory.now a.state.now a.events.now a.log.now a.n _ _ memory state in
    record {
      reply = ap (λ (x : Closing). x.reply) e;
      memory = memory;
      state = state;
      log = ap (λ (x : Closing). x.log) e;
      deepest = f ∙ carried;
      resumption = resumes;
    }

pub read_record-m-requires : goal.read_record-m-requires
read_record-m-requires c =
    let p = call-passed _ _ _ _ _ (sym c.call_verdict.ensures ∙ c.in_default.is) in
    p.record_size

pub overflow_cast-n : goal.overflow_cast-n
overflow_cast-n c =
    let p = call-passed _ _ _ _ _ (sym c.call_verdict.ensures ∙ c.in_default.is) in
    let few = p.few_steps in
    omega arith

pub run-r-requires : goal.run-r-requires
run-r-requires c =
    let p = call-passed _ _ _ _ _ (sym c.call_verdict.ensures ∙ c.in_default.is) in
    let few = p.few_steps in (
      count_fits _ _ _ _ p _ c.read_record-m.ensures,
      events-ordered _ _ _ _ p,
      events-fit _ _ _ _ p,
      behind-none _ _,
      omega arith,
    )

pub write_record-requires : goal.write_record-requires
write_record-requires c =
    let p = call-passed _ _ _ _ _ (sym c.call_verdict.ensures ∙ c.in_default.is) in
    p.record_size

pub returns : goal.returns
returns c =
    let b = c.args in
    let same : c.unwrap-whole.result.now ≡ c.args.memory.now = search rules in
    let l = leaves-same b.events.now c.read_record-m.result _ _ b.log.now _ _ _ _ _ same c.run-r.ensures in
    let m = c.read_record-m in
    let v = sym c.call_verdict.ensures ∙ c.in_default.is in
    let e =
    call-ran _ _ _ _ _ v m.result m.ensures
    _ _ _ _ _ _ _ _ l.state l.reason l.steps l.added l.log c.write_record.ensures
    c.reply_of.ensures in
    let f = figure-ran _ _ _ _ _ v m.result m.ensures _ b.deepest.now l.depth in
    let memory = ap (λ (x : Closing). x.memory) e in
    let state = ap (λ (x : Closing). x.state) e in
    let carried = call-carried b.memory.now b.state.now b.events.now b.log.now b.n b.deepest.now in
    let resumes = call-resumes b.memory.now b.state.now b.events.now b.log.now b.n _ _ memory state in
    record {
      reply = ap (λ (x : Closing). x.reply) e;
      memory = memory;
      state = state;
      log = ap (λ (x : Closing). x.log) e;
      deepest = f ∙ carried;
      resumption = resumes;
    }

pub reply_of-requires : goal.reply_of-requires
reply_of-requires c =
    let b = c.args in
    let same : c.unwrap-whole.result.now ≡ c.args.memory.now = search rules in
    let l = leaves-same b.events.now c.read_record-m.result _ _ b.log.now _ _ _ _ _ same c.run-r.ensures in
    let m = c.read_record-m in
    let v = sym c.call_verdict.ensures ∙ c.in_default.is in (
      subst (λ j. j ≤ 1000000) (sym l.steps) (few_steps _ _ _ _ _ v m.result m.ensures),
      subst (λ j. j ≤ 1000000) (sym l.added) (few-records _ _ _ _ _ v m.result m.ensures),
    )

pub unwrap-whole-requires : goal.unwrap-whole-requires
unwrap-whole-requires c =
    let p = call-passed _ _ _ _ _ (sym c.call_verdict.ensures ∙ c.in_default.is) in
    c.as_mut_array.ensures.variant.1 p.memory_size

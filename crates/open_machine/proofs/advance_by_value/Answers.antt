-- Turned back, nothing is changed; else what the run needs is what the verdict on the machine has settled.
-- Assumes nothing.
use mathlib.Core.Path.{sym, ap, ◌∙◌}
use native.Mathlib.Omega.{arith}
use borrow.Author.Rules.{rules}
use Rattle.turn.proofs.Laws.{behind-none, events-fit, events-ordered}
use Rattle.run_answer.proofs.Calls.{call-passed}
use Rattle.run_answer.proofs.Same.{leaves-same}
use Rattle.refusal.proofs.Own.{count_fits}
use Rattle.open_machine.proofs.Laws.{advance-refused, advance-ran, few_steps, few-records, figure-kept, figure-ran}
use Rattle.open_machine.proofs.advance_by_value.Goals as goal

pub returns-in-Err : goal.returns-in-Err
returns-in-Err c =
    let v = sym c.advance_verdict.ensures ∙ c.in-Err.is in
    let e = advance-refused _ _ _ _ _ _ v c.refusal_number.ensures.0 in
    let f = figure-kept _ _ _ _ _ v _ in
    record { reply = ap (λ x. x.reply) e; state = ap (λ x. x.state) e; log = ap (λ x. x.log) e; deepest = f }

pub overflow_cast-n : goal.overflow_cast-n
overflow_cast-n c =
    let p = call-passed _ _ _ _ _ (sym c.advance_verdict.ensures ∙ c.in_default.is) in
    let few = p.few_steps in
    omega arith

pub run-r-requires : goal.run-r-requires
run-r-requires c =
    let p = call-passed _ _ _ _ _ (sym c.advance_verdict.ensures ∙ c.in_default.is) in (
      count_fits c.args.m _ c.well_formed.0 _ _ _ p,
      events-ordered _ _ _ _ p,
      events-fit _ _ _ _ p,
      behind-none _ _,
      (let few = p.few_steps in omega arith),
    )

pub reply_of-reply-requires : goal.reply_of-reply-requires
reply_of-reply-requires c =
    let a = c.args in
    let l = leaves-same a.events.now a.m _ _ a.log.now _ _ _ _ _ (search rules) c.run-r.ensures in
    let v = sym c.advance_verdict.ensures ∙ c.in_default.is in
    (few_steps _ _ _ _ v _ l.steps, few-records _ _ _ _ v _ l.added)

pub returns : goal.returns
returns c =
    let a = c.args in
    let l = leaves-same a.events.now a.m _ _ a.log.now _ _ _ _ _ (search rules) c.run-r.ensures in
    let v = sym c.advance_verdict.ensures ∙ c.in_default.is in
    let e =
    advance-ran _ _ _ _ v
    _ _ _ _ _ _ l.state l.reason l.steps l.added l.log c.reply_of-reply.ensures in
    let f = figure-ran _ _ _ _ v _ _ l.depth in
    record { reply = ap (λ x. x.reply) e; state = ap (λ x. x.state) e; log = ap (λ x. x.log) e; deepest = f }

pub unwrap-whole-requires : goal.unwrap-whole-requires
unwrap-whole-requires c =
    let p = call-passed _ _ _ _ _ (sym c.advance_verdict.ensures ∙ c.in_default.is) in
    c.as_mut_array.ensures.variant.1 p.memory_size

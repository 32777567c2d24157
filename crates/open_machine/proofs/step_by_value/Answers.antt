-- One step by value: turned back as an advance of 1 is, else what the step needs is what the verdict has settled.
-- Assumes nothing.
use mathlib.Core.Bool.{not}
use mathlib.Core.List.{List}
use mathlib.Core.Path.{◌≡◌, sym, ap, subst, ◌∙◌}
use Prim.Native.Nat.{ℕ}
use Rattle.machine.specs.Events.{events_of}
use Rattle.machine.specs.Step.{step_of}
use native.Mathlib.Omega.{arith}
use borrow.Author.Rules.{rules}
use Rattle.word.proofs.Laws.{bit_le}
use Rattle.machine.specs.State.{state_of}
use Rattle.machine_laws.proofs.Records.{passed}
use Rattle.turn.proofs.Laws.{events-fit, events-ordered}
use Rattle.refusal.proofs.Own.{count_fits}
use Rattle.open_machine.proofs.Laws.{step-refused, step-ran, run-one}
use Rattle.open_machine.proofs.step_by_value.Goals as goal

pub returns-in-Err : goal.returns-in-Err
returns-in-Err c =
    let e =
    step-refused _ _ _ _ (sym c.start_verdict.ensures ∙ c.in-Err.is) c.refusal_number.ensures.0 in
    (ap (λ x. x.reply) e, ap (λ x. x.state) e)

pub step-x-requires : goal.step-x-requires
step-x-requires c =
    let a = c.args in
    let p =
    passed a.memory.now _ _ _ (sym c.start_verdict.ensures ∙ c.in_default.is) in
    let h = count_fits a.m _ c.well_formed.0 _ _ _ p in (
      omega arith,
      (omega arith, λ j l. absurd (omega arith)),
      events-ordered _ _ _ _ p,
      events-fit _ _ _ _ p,
    )

pub overflow_mul-reply : goal.overflow_mul-reply
overflow_mul-reply c =
    let h = bit_le c.step-x.result.machine.rest.halted in
    omega arith

pub overflow_mul-reply-2 : goal.overflow_mul-reply-2
overflow_mul-reply-2 c =
    let h = bit_le (not c.args.m.rest.halted) in
    omega arith

pub overflow_add-reply : goal.overflow_add-reply
overflow_add-reply c =
    let h = bit_le c.step-x.result.machine.rest.halted in
    let k = bit_le (not c.args.m.rest.halted) in
    omega arith

pub returns : goal.returns
returns c =
    let a = c.args in
    let stepped =
    subst
    (λ (y : List ℕ). state_of c.step-x.result.machine c.step-x.new.memory ≡ step_of (events_of a.events.now) (state_of a.m y))
    (search rules) c.step-x.ensures.state in
    let e =
    step-ran _ _ _ _ (sym c.start_verdict.ensures ∙ c.in_default.is)
    (run-one (state_of a.m a.memory.now) a.events.now _ stepped) in
    (ap (λ x. x.reply) e, ap (λ x. x.state) e)

pub unwrap-whole-requires : goal.unwrap-whole-requires
unwrap-whole-requires c =
    let p =
    passed c.args.memory.now _ _ _ (sym c.start_verdict.ensures ∙ c.in_default.is) in
    c.as_mut_array.ensures.variant.1 p.memory_size

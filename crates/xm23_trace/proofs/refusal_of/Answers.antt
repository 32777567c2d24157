-- The refusals in their order: those of a start, then the trace's length and the kinds. Assumes nothing.
use Rattle.std.proofs.Common.{◌≢◌, refl, sym, ap, ◌∙◌, arith}
use Rattle.machine.specs.Refusal.{refusal_number}
use Rattle.machine_laws.proofs.Records.{refused-number}
use Rattle.xm23_trace.proofs.Calls.{misfit-length, misfit-kinds, fitting, start-refused, then-refused, none-refused}
use Rattle.xm23_trace.proofs.refusal_of.Goals as goal

pub returns-in-Err : goal.returns-in-Err
returns-in-Err c =
    let e = c.refusal_number.ensures.0 in
    let s = e ∙ ap refusal_number (sym c.in-Err.is ∙ c.verdict.ensures) in
    let h : c.refusal_number.result ≢ 0 = λ q. absurd (omega (arith, q, e, (refused-number c.in-Err.refused).0)) in
    (start-refused _ _ _ _ _ _ _ s h, h)

pub returns-then-trace-ne0 : goal.returns-then-trace-ne0
returns-then-trace-ne0 c =
    let s = ap refusal_number (sym c.in_default.is ∙ c.verdict.ensures) in
    (then-refused _ _ _ _ _ _ _ s refl (misfit-length _ _ c.if-trace-ne0.true), λ q. absurd (omega (arith, q)))

pub returns-then-kinds-gt4095 : goal.returns-then-kinds-gt4095
returns-then-kinds-gt4095 c =
    let s = ap refusal_number (sym c.in_default.is ∙ c.verdict.ensures) in (
      then-refused _ _ _ _ _ _ _ s refl (misfit-kinds _ _ c.if-trace-ne0.false c.if-kinds-gt4095.true),
      λ q. absurd (omega (arith, q)),
    )

pub returns : goal.returns
returns c =
    let s = ap refusal_number (sym c.in_default.is ∙ c.verdict.ensures) in
    sym (none-refused _ _ _ _ _ _ _ s refl (fitting _ _ c.if-trace-ne0.false c.if-kinds-gt4095.false))

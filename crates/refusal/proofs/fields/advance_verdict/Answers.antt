-- The start's refusal where there is one, then the log's length. Assumes nothing.
use Rattle.std.proofs.Common.{◌≡◌, sym, ◌∙◌, rules}
use Rattle.std.specs.Prelude.{Err}
use Rattle.run_laws.proofs.Verdicts.{start-refused, verdict-nine, call-accepts}
use Rattle.refusal.proofs.fields.advance_verdict.Goals as goal

pub returns-in_err-start_verdict : goal.returns-in_err-start_verdict
returns-in_err-start_verdict c =
    let e : c.from_residual.result ≡ Err c.in_err-start_verdict.field-0.0 = search rules in
    e ∙ sym (start-refused _ _ _ _ _ _ (sym c.in_err-start_verdict.ensures))

pub returns-then-log-ne0 : goal.returns-then-log-ne0
returns-then-log-ne0 c = sym (verdict-nine _ _ _ _ _ (sym c.in_ok-start_verdict.ensures) c.if-log-ne0.true)

pub returns : goal.returns
returns c = sym (call-accepts _ _ _ _ _ (sym c.in_ok-start_verdict.ensures) c.if-log-ne0.false)

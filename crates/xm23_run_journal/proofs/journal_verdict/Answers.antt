-- The run call's refusal where there is one, then the journal. Assumes nothing.
use Rattle.std.proofs.Common.{◌≡◌, sym, ◌∙◌, rules}
use Rattle.std.specs.Prelude.{Err}
use Rattle.journal.proofs.Calls.{call-refused, verdict-fourteen, journal-accepts}
use Rattle.xm23_run_journal.proofs.journal_verdict.Goals as goal

pub returns-in_err-call_verdict : goal.returns-in_err-call_verdict
returns-in_err-call_verdict c =
    let e : c.from_residual.result ≡ Err c.in_err-call_verdict.field-0.0 = search rules in
    e ∙ sym (call-refused _ _ _ _ _ _ _ (sym c.in_err-call_verdict.ensures))

pub returns-then-not-journal_fits : goal.returns-then-not-journal_fits
returns-then-not-journal_fits c =
    sym (verdict-fourteen _ _ _ _ _ _ (sym c.in_ok-call_verdict.ensures) (sym c.journal_fits.ensures ∙ c.if-not-journal_fits.true))

pub returns : goal.returns
returns c =
    sym (journal-accepts _ _ _ _ _ _ (sym c.in_ok-call_verdict.ensures) (sym c.journal_fits.ensures ∙ c.if-not-journal_fits.false))

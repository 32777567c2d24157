use Rattle.std.proofs.Common.{eq-eqb, ne_eqb}
use Rattle.step_plan.proofs.Laws.{no_true, no_false, some-false}
use Rattle.step_plan.proofs.lower.Goals as goal

pub returns-then-cex-eq0 : goal.returns-then-cex-eq0
returns-then-cex-eq0 c = rw (no_true c.args.cex c.if-cex-eq0.true, no_false c.args.cex c.if-cex-eq0.true)

pub returns-then-cex-eq0-2 : goal.returns-then-cex-eq0-2
returns-then-cex-eq0-2 c =
    simp (eq-eqb _ _ c.if-cex-eq0-2.true, ne_eqb _ _ (some-false c.args.cex c.if-cex-eq0.false c.if-cex-eq0-2.true))

pub returns : goal.returns
returns c = simp (ne_eqb _ _ c.if-cex-eq0-2.false)

-- The invariant: every use passed fits. Assumes nothing.
use mathlib.Core.Path.{◌≡◌, sym, ◌∙◌, ap}
use native.Mathlib.Omega.{arith}
use lib.Dec.{ltb}
use borrow.Author.Tests.{lt-ltb, le-ltb}
use Rattle.stack_need.specs.Need.{uses_fit}
use Rattle.stack_bytes.proofs.Laws.{fit_none, fit_next, unfit-below}
use Rattle.stack_bytes.proofs.uses_fit.Goals as goal

pub returns-then-two_at-gt1024 : goal.returns-then-two_at-gt1024
returns-then-two_at-gt1024 c =
    sym (unfit-below c.args.uses.now _ 8 (omega arith)
    (ap (ltb 1024) (sym c.two_at.ensures) ∙ lt-ltb _ _ c.if-two_at-gt1024.true))

pub loop-d-preserved : goal.loop-d-preserved
loop-d-preserved c =
    let e = ap (ltb 1024) (sym c.two_at.ensures) ∙ le-ltb _ _ c.if-two_at-gt1024.false in
    fit_next c.args.uses.now _ c.loop-d.invariant e

pub returns : goal.returns
returns c =
    let a = c.args in
    let e : c.loop-d.d ≡ 8 = omega arith in
    sym (ap (uses_fit a.uses.now) (sym e) ∙ c.loop-d.invariant)

pub loop-d-init : goal.loop-d-init
loop-d-init c = fit_none _

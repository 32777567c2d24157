use mathlib.Core.Bool.{not}
use mathlib.Core.Path.{ap}
use borrow.Author.Tests.{eq-eqb, ne_eqb, lt-ltb, le-ltb}
use Rattle.stack_need.specs.Need.{need_refused?}
use Rattle.stack_bytes.proofs.refused.Goals as goal

pub returns-then-vectors-ne64 : goal.returns-then-vectors-ne64
unfolding need_refused?
returns-then-vectors-ne64 c = rw (ne_eqb _ _ c.if-vectors-ne64.true)

pub returns-then-uses-ne16 : goal.returns-then-uses-ne16
unfolding need_refused?
returns-then-uses-ne16 c = rw (eq-eqb _ _ c.if-vectors-ne64.false, ne_eqb _ _ c.if-uses-ne16.true)

pub returns-then-p-gt7 : goal.returns-then-p-gt7
unfolding need_refused?
returns-then-p-gt7 c = rw (eq-eqb _ _ c.if-vectors-ne64.false, eq-eqb _ _ c.if-uses-ne16.false, lt-ltb _ _ c.if-p-gt7.true)

pub returns : goal.returns
unfolding need_refused?
returns c =
    rw (eq-eqb _ _ c.if-vectors-ne64.false, eq-eqb _ _ c.if-uses-ne16.false, le-ltb _ _ c.if-p-gt7.false)
    (ap not c.uses_fit.ensures)

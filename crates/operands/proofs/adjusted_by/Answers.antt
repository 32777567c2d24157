-- `operands::adjusted_by` meets its contract. Assumes nothing.
use Rattle.std.proofs.Common.{arith, eq-eqb, ne_eqb}
use Rattle.operands.proofs.adjusted_by.Goals as goal

pub returns-then-dec-inc : goal.returns-then-dec-inc
returns-then-dec-inc c = rw (eq-eqb _ _ c.if-dec-inc.true)

pub returns : goal.returns
returns c =
    rw (ne_eqb _ _ c.if-dec-inc.false, ne_eqb _ _ c.if-inc-eq1.false, ← c.step_size-size.ensures.0)
    (omega arith)

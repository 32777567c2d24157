-- `operands::operand` meets its contract. Assumes nothing.
use Rattle.std.proofs.Common.{eq-eqb, ne_eqb}
use Rattle.operands.proofs.operand.Goals as goal

pub returns-then-rc-eq1 : goal.returns-then-rc-eq1
returns-then-rc-eq1 c = rw (eq-eqb _ _ c.if-rc-eq1.true) c.constant.ensures

pub returns : goal.returns
returns c = rw (ne_eqb _ _ c.if-rc-eq1.false) c.get.ensures

-- `operands::address` meets its contract. Assumes nothing.
use Rattle.std.proofs.Common.{eq-eqb, ne_eqb}
use Rattle.operands.proofs.address.Goals as goal

pub returns-then-prpo-eq1 : goal.returns-then-prpo-eq1
returns-then-prpo-eq1 c = rw (eq-eqb _ _ c.if-prpo-eq1.true)

pub returns-else-prpo-eq1 : goal.returns-else-prpo-eq1
returns-else-prpo-eq1 c = rw (ne_eqb _ _ c.if-prpo-eq1.false)

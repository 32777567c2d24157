-- `operands::step_size` meets its contract. Assumes nothing.
use Rattle.std.proofs.Common.{refl, rules, eq-eqb, ne_eqb}
use Rattle.operands.proofs.step_size.Goals as goal

pub returns-then-wb-eq1 : goal.returns-then-wb-eq1
returns-then-wb-eq1 c = rw (eq-eqb _ _ c.if-wb-eq1.true) (refl, search rules)

pub returns-else-wb-eq1 : goal.returns-else-wb-eq1
returns-else-wb-eq1 c = rw (ne_eqb _ _ c.if-wb-eq1.false) (refl, search rules)

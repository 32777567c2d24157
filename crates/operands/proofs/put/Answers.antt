-- `operands::put` meets its contract. Assumes nothing.
use Rattle.std.proofs.Common.{refl, eq-eqb, ne_eqb}
use Rattle.operands.proofs.put.Goals as goal

pub returns-then-i-eq7 : goal.returns-then-i-eq7
returns-then-i-eq7 c = (refl, rw (eq-eqb _ _ c.if-i-eq7.true))

pub returns : goal.returns
returns c = (refl, rw (ne_eqb _ _ c.if-i-eq7.false))

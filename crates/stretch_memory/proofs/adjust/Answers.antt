use Rattle.std.proofs.Common.{refl, eq-eqb, ne_eqb}
use Rattle.stretch_memory.proofs.adjust.Goals as goal

pub returns-then-dec-inc : goal.returns-then-dec-inc
returns-then-dec-inc c = rw (eq-eqb _ _ c.if-dec-inc.true) refl

pub returns : goal.returns
returns c = rw (ne_eqb _ _ c.if-dec-inc.false) refl

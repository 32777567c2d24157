use Rattle.asm_write.specs.Written.{misplaced?}
use mathlib.Core.Path.{refl}
use Rattle.asm_write.proofs.misplaced.Goals as goal

pub returns : goal.returns
unfolding misplaced?
returns c = refl

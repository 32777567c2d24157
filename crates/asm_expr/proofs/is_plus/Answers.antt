use Rattle.asm_expr.specs.Grammar.{plus?}
use mathlib.Core.Path.{refl}
use Rattle.asm_expr.proofs.is_plus.Goals as goal

pub returns : goal.returns
unfolding plus?
returns c = refl

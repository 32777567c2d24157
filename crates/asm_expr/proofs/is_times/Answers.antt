use Rattle.asm_expr.specs.Grammar.{times?}
use mathlib.Core.Path.{refl}
use Rattle.asm_expr.proofs.is_times.Goals as goal

pub returns : goal.returns
unfolding times?
returns c = refl

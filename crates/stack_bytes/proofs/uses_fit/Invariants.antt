use mathlib.Core.Bool.{true}
use mathlib.Core.Path.{◌≡◌}
use Rattle.stack_need.specs.Need.{uses_fit}
use Rattle.stack_bytes.proofs.uses_fit.Given as goal

abbrev pub invariant-loop-d : goal.invariant-loop-d
invariant-loop-d l = uses_fit l.uses l.d ≡ true

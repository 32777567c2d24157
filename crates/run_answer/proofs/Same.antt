-- A run from a memory that is the same under another name. Assumes nothing.
use Rattle.std.specs.Prelude.{ℕ, List, ◌≡◌}
use mathlib.Core.Path.{subst}
use Rattle.machine.specs.declared.Machine.{Machine}
use Rattle.machine.specs.declared.Depth.{Depth}
use Rattle.machine.specs.State.{state_of}
use Rattle.run_answer.specs.declared.Ran.{Ran}
use Rattle.run_answer.specs.Leaves.{RunLeaves}

pub leaves-same : (events : List ℕ) (m : Machine) (x y lent : List ℕ) (d : Depth) (n : ℕ) (r : Ran) (memory filled : List ℕ) → x ≡ y
    → RunLeaves events (state_of m x) lent d n r memory filled → RunLeaves events (state_of m y) lent d n r memory filled
leaves-same events m x y lent d n r memory filled e h = subst (λ (z : List ℕ). RunLeaves events (state_of m z) lent d n r memory filled) e h

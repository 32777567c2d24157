-- The step count of a record that has its length. Assumes nothing.
use Prim.Native.Nat.{ℕ}
use mathlib.Core.Bool.{cond}
use mathlib.Core.List.{List}
use mathlib.Core.Path.{◌≡◌, sym, ap, ◌∙◌}
use native.Mathlib.Omega.{arith}
use lib.Dec.{ltb}
use lib.ListN.{length}
use borrow.Author.Tests.{le-ltb}
use Rattle.machine.specs.Record.{four_at}

pub count-in : (r : List ℕ) (x : ℕ) → x ≡ cond (ltb (length r) 26) 0 (four_at r 22) → length r ≡ 32 → four_at r 22 ≡ x
count-in r x e h = sym (e ∙ ap (λ t. cond t 0 (four_at r 22)) (le-ltb (length r) 26 (omega arith)))

use mathlib.Core.Path.{◌≡◌}
use Prim.Native.Nat.{◌≤◌, ◌^◌}
use lib.ListN.{drop}
use Rattle.asm_text.specs.Text.{spelled, spelled_from, key_of, key_from}
use Rattle.asm_text.proofs.read_word.Given as goal

abbrev pub invariant-loop-b : goal.invariant-loop-b
invariant-loop-b l =
    (l.spelled ≤ 2 ^ 48)
    × (spelled_from l.spelled (drop l.b-index l.w) ≡ spelled l.w)
    × (key_from l.key (drop l.b-index l.w) ≡ key_of l.w)

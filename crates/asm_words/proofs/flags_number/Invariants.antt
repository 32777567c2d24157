use mathlib.Core.Path.{◌≡◌}
use Prim.Native.Nat.{◌<◌}
use Rattle.std.specs.Prelude.{Some}
use lib.ListN.{drop}
use Rattle.asm_words.specs.Words.{flags_from}
use Rattle.asm_words.proofs.flags_number.Given as goal

abbrev pub invariant-loop-b : goal.invariant-loop-b
invariant-loop-b l = (l.f < 32) × (flags_from (Some l.f) (drop l.b-index l.w) ≡ flags_from (Some 0) l.w)

-- Numbers with a sign in 16 bits: what a cast and `!` give is what the definitions say, and from zero on a number is its `mag`.
-- Assumes nothing.
use mathlib.Core.Path.{◌≡◌, refl, ap, ◌∙◌}
use mathlib.Core.Bool.{Bool, true, false}
use Prim.Native.Nat.{ℕ, suc, ◌+◌, ◌-◌, ◌<◌, ◌≤◌}
use native.Mathlib.Omega.{arith}
use lib.IntN.{ℤ, pos, negsuc}
use lib.Signed.{mag, lt_z}
use mir.Syntax.{w16}
use mir.Val.{to_z}
use mir.ValLaws.{to_z_pos, to_z-neg}
use borrow.Author.Tests.{lt-ltb, le-ltb}
use Rattle.word.specs.Offset.{signed_of}

-- below half
pub plus : (half n : ℕ) → half ≤ 4096 → n < half → to_z w16 n ≡ signed_of half n
plus half n hh h = to_z_pos w16 n (omega arith) ∙ simp (lt-ltb n half h)

-- from half on: the bits of `!x`
pub minus : (half n : ℕ) → half ≤ 4096 → half ≤ n → n < half + half
    → to_z w16 (65535 - (half + half - 1 - n)) ≡ signed_of half n
minus half n hh h k =
    let e : 65535 - (half + half - 1 - n) ≡ 65536 - suc (half + half - suc n) = omega arith in
    ap (to_z w16) e ∙ to_z-neg w16 (half + half - suc n) (omega arith) ∙ simp (le-ltb n half h)

-- a number from zero on
pub kept : (z : ℤ) → lt_z z (pos 0) ≡ false → z ≡ pos (mag z)
kept (pos n) e = refl
kept (negsuc n) e = let z : ◌≡◌ {A = Bool} true false = e in cc

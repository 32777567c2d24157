-- One bit, shifted to the place of a device below 8, is its mark. Assumes nothing.
use mathlib.Core.Path.{◌≡◌, ◌∙◌}
use Prim.Native.Nat.{ℕ, ◌*◌, ◌%◌, ◌^◌, ◌<◌}
use native.Mathlib.Nat.{one-mul}
use native.Mathlib.Omega.{arith}
use lib.Dec.{lit<}
use lib.Pow.{shl_exact}

pub one_shifted : (d : ℕ) → d < 8 → (1 * 2 ^ d) % 256 ≡ 2 ^ d
one_shifted d h = shl_exact 1 d 8 (lit< tt) (omega arith) ∙ one-mul (2 ^ d)

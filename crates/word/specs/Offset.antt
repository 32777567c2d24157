-- How the bits of an offset stand for a number with a sign. Assumes nothing.
use Rattle.std.specs.Prelude.{ℕ, suc, ◌+◌, ◌-◌, Bool, cond, ltb, ℤ, pos, negsuc}
use Rattle.std.specs.Int.Signed.{mag}

-- n, a number below 2 × half, read in two's complement: from half on it is n - 2 × half. [003 14]
abbrev pub signed_of : (half n : ℕ) → ℤ
signed_of half n = cond (ltb n half) (pos n) (negsuc (half + half - suc n))

-- z, from -half to half - 1, in two's complement: below zero it is z + 2 × half. [003 14]
abbrev pub bits_of : ℕ → ℤ → ℕ
bits_of half (pos n) = n
bits_of half (negsuc n) = half + half - suc n

-- z is from -half to half - 1. [003 14]
abbrev pub off_fits : ℕ → ℤ → Bool
off_fits half z = ltb (mag z) half

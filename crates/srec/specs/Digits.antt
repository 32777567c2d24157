-- Bytes as hexadecimal digits, and digits as bytes (document 02, §2).
-- Assumes nothing.
use Rattle.std.specs.Prelude.{ℕ, ◌+◌, ◌-◌, ◌*◌, ◌/◌, ◌%◌, Bool, true, false, cond, ◌&&◌, List, [], ◌∷◌, ltb}
use Rattle.text.specs.Text.{glyph}

-- two digits for each byte, "all in upper case". [02 §2]
unfoldable pub digits_of : List ℕ → List ℕ
digits_of [] = []
digits_of (b ∷ bs) = glyph (b / 16) ∷ glyph (b % 16) ∷ digits_of bs

-- `0` to `9`, `A` to `F`, `a` to `f`: "digits may be of either case". [02 §2]
unfoldable pub is_digit : ℕ → Bool
is_digit b =
    cond (ltb b 48) false
    (cond (ltb b 58) true
    (cond (ltb b 65) false
    (cond (ltb b 71) true
    (cond (ltb b 97) false
    (cond (ltb b 103) true false)))))

-- a digit's value; 0 for what is none. [02 §2]
unfoldable pub digit_of : ℕ → ℕ
digit_of b =
    cond (ltb b 48) 0
    (cond (ltb b 58) (b - 48)
    (cond (ltb b 65) 0
    (cond (ltb b 71) (b - 55)
    (cond (ltb b 97) 0
    (cond (ltb b 103) (b - 87) 0)))))

-- whether all bytes are digits. [02 §2]
unfoldable pub all_digits : List ℕ → Bool
all_digits [] = true
all_digits (b ∷ t) = let r = all_digits t in is_digit b && r

-- the bytes that digits stand for, two by two; a last odd one stands for none. [02 §2]
unfoldable pub pairs_of : List ℕ → List ℕ
pairs_of [] = []
pairs_of (a ∷ []) = []
pairs_of (a ∷ b ∷ t) = (16 * digit_of a + digit_of b) ∷ pairs_of t

-- what a checksum is of
unfoldable pub sum_of : List ℕ → ℕ
sum_of [] = 0
sum_of (b ∷ bs) = b + sum_of bs

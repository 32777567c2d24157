-- What an expression's parts come to: a number in 32 signed bits, or the reason why there is none. Assumes nothing.
use Rattle.std.specs.Prelude.{Bool, cond, ℕ, zero, suc, ◌/◌, ◌^◌, ltb, eqb, ℤ, pos, negsuc, neg_ℤ, ◌+ℤ◌, ◌-ℤ◌, ◌*ℤ◌, Result, Ok, Err}
use Prim.Native.Char.{code}
use Rattle.std.specs.Int.Signed.{mag}
use Rattle.asm_value.specs.declared.Lack.{Lack}
use Rattle.asm_value.specs.declared.Lack.TheVariants.{Unknown, Outside}

-- z, if it is from -2^31 to 2^31 - 1, else 19 (`mag z` is n of n and of -(n + 1)). [02 §12]
unfoldable pub fitted : ℤ → Result ℤ Lack
fitted z = cond (ltb (mag z) (2 ^ 31)) (Ok z) (Err Outside)

-- a number as it is written: digits that say n, with `-` before them or not. [02 §12]
abbrev pub with_sign : Bool → ℕ → ℤ
with_sign negative n = cond negative (neg_ℤ (pos n)) (pos n)

-- "division towards zero" of numbers with their signs. [02 §12]
abbrev pub towards_zero : ℤ → ℤ → ℤ
towards_zero (pos a) (pos b) = pos (a / b)
towards_zero (pos a) (negsuc b) = neg_ℤ (pos (a / suc b))
towards_zero (negsuc a) (pos b) = neg_ℤ (pos (suc a / b))
towards_zero (negsuc a) (negsuc b) = pos (suc a / suc b)

-- by zero there is none, 19. [02 §12]
abbrev pub quotient : ℤ → ℤ → Result ℤ Lack
quotient x (pos zero) = Err Outside
quotient x (pos (suc n)) = fitted (towards_zero x (pos (suc n)))
quotient x (negsuc n) = fitted (towards_zero x (negsuc n))

-- by the byte of the operator. [02 §12]
unfoldable pub applied : ℕ → ℤ → ℤ → Result ℤ Lack
applied op x y =
    cond (eqb op (code "+")) (fitted (x +ℤ y))
    (cond (eqb op (code "-")) (fitted (x -ℤ y))
    (cond (eqb op (code "*")) (fitted (x *ℤ y))
    (quotient x y)))

-- an unknown name in either part decides, then a value outside 32 bits: "18, then 19". [02 §12]
unfoldable pub joined : ℕ → Result ℤ Lack → Result ℤ Lack → Result ℤ Lack
joined op (Err Unknown) b = Err Unknown
joined op (Err Outside) (Err e) = Err e
joined op (Err Outside) (Ok y) = Err Outside
joined op (Ok x) (Err e) = Err e
joined op (Ok x) (Ok y) = applied op x y

-- Single bits of numbers that code joins by `&`, `|`, `^` and multiplies by a power of two. Each operation works bit by bit, so a bit of
-- the result is read from the same bit of both operands. Assumes nothing.
use mathlib.Core.Path.{◌≡◌, refl, sym, ap, ap₂, ◌∙◌}
use mathlib.Core.Bool.{Bool, true, false, not, ◌&&◌, ◌||◌, beq}
use mathlib.Core.Logic.{⊎_elim}
use Prim.Native.Nat.{ℕ, ◌+◌, ◌-◌, ◌*◌, ◌/◌, ◌%◌, ◌^◌, ◌≤◌, ◌<◌}
use native.Mathlib.Nat.{div-eq_of_lt}
use native.Mathlib.Omega.{arith}
use lib.Dec.{leb, eqb}
use lib.Bits.{bit_and, bit_or, bit_xor, and_shr, or_shr, xor_shr, and_mod, or_mod, xor_mod}
use lib.Pow.{high, field}
use borrow.Author.Tests.{le-leb, lt-leb}
use Rattle.word.specs.Width.{width_of, bit}
use Rattle.word.specs.Psw.{bit_of}
use Rattle.word.proofs.Laws.{order, bit-back}

-- ---- one bit of two numbers

and_flags : (x y : Bool) → eqb (bit_and (bit x) (bit y)) 1 ≡ x && y
and_flags true true = refl
and_flags true false = refl
and_flags false true = refl
and_flags false false = refl

or_flags : (x y : Bool) → eqb (bit_or (bit x) (bit y)) 1 ≡ x || y
or_flags true true = refl
or_flags true false = refl
or_flags false true = refl
or_flags false false = refl

xor-flags : (x y : Bool) → eqb (bit_xor (bit x) (bit y)) 1 ≡ not (beq x y)
xor-flags true true = refl
xor-flags true false = refl
xor-flags false true = refl
xor-flags false false = refl

-- a digit is the number of its test
digit : (x : ℕ) → x % 2 ≡ bit (eqb (x % 2) 1)
digit x = sym (bit-back (x % 2) (omega arith))

module _ (k a b : ℕ) where
  pub and-bit : bit_of k (bit_and a b) ≡ bit_of k a && bit_of k b
  and-bit =
      ap (λ (x : ℕ). eqb (x % 2) 1) (and_shr a b k) ∙ ap (λ (x : ℕ). eqb x 1) (and_mod (a / 2 ^ k) (b / 2 ^ k) 1)
      ∙ ap₂ (λ (x y : ℕ). eqb (bit_and x y) 1) (digit (a / 2 ^ k)) (digit (b / 2 ^ k)) ∙ and_flags (bit_of k a) (bit_of k b)

  pub or-bit : bit_of k (bit_or a b) ≡ bit_of k a || bit_of k b
  or-bit =
      ap (λ (x : ℕ). eqb (x % 2) 1) (or_shr a b k) ∙ ap (λ (x : ℕ). eqb x 1) (or_mod (a / 2 ^ k) (b / 2 ^ k) 1)
      ∙ ap₂ (λ (x y : ℕ). eqb (bit_or x y) 1) (digit (a / 2 ^ k)) (digit (b / 2 ^ k)) ∙ or_flags (bit_of k a) (bit_of k b)

  pub xor-bit : bit_of k (bit_xor a b) ≡ not (beq (bit_of k a) (bit_of k b))
  xor-bit =
      ap (λ (x : ℕ). eqb (x % 2) 1) (xor_shr a b k) ∙ ap (λ (x : ℕ). eqb x 1) (xor_mod (a / 2 ^ k) (b / 2 ^ k) 1)
      ∙ ap₂ (λ (x y : ℕ). eqb (bit_xor x y) 1) (digit (a / 2 ^ k)) (digit (b / 2 ^ k)) ∙ xor-flags (bit_of k a) (bit_of k b)

-- ---- the top bit

-- a number of k + 1 bits is from 2 ^ k on where its bit k is set
pub top_bit : (k x : ℕ) → x < 2 ^ k + 2 ^ k → leb (2 ^ k) x ≡ bit_of k x
top_bit k x h = ⊎_elim above below (order (2 ^ k) x)
  where
    above : 2 ^ k ≤ x → leb (2 ^ k) x ≡ bit_of k x
    above l =
        let r : x - 2 ^ k < 2 ^ k = omega arith in
        let e : x ≡ 1 * 2 ^ k + (x - 2 ^ k) = omega arith in
        let q : x / 2 ^ k ≡ 1 = ap (λ (y : ℕ). y / 2 ^ k) e ∙ high 1 k r in
        le-leb (2 ^ k) x l ∙ sym (ap (λ (y : ℕ). eqb (y % 2) 1) q)

    below : x < 2 ^ k → leb (2 ^ k) x ≡ bit_of k x
    below l = lt-leb (2 ^ k) x l ∙ sym (ap (λ (q : ℕ). eqb (q % 2) 1) (div-eq_of_lt l))

-- bit k of the low bits of a number, k the highest among them
pub low_bit : (k x : ℕ) → bit_of k (x % 2 ^ (1 + k)) ≡ bit_of k x
low_bit k x =
    let e : x / 2 ^ k % 2 % 2 ≡ x / 2 ^ k % 2 = omega arith in
    ap (λ (q : ℕ). eqb (q % 2) 1) (field x 1 k) ∙ ap (λ (q : ℕ). eqb q 1) e

-- ---- numbers of the width, as they stand in what is kept

pub kept_top : (byte : Bool) (m : ℕ) → bit_of 15 (m * 2 ^ (16 - width_of byte)) ≡ bit_of (width_of byte - 1) m
unfolding width_of
kept_top true m = let e : m * 256 / 32768 ≡ m / 128 = omega arith in ap (λ (q : ℕ). eqb (q % 2) 1) e
kept_top false m = let e : m * 1 / 32768 ≡ m / 32768 = omega arith in ap (λ (q : ℕ). eqb (q % 2) 1) e

pub kept-carry : (byte : Bool) (m : ℕ) → bit_of 16 (m * 2 ^ (16 - width_of byte)) ≡ bit_of (width_of byte) m
unfolding width_of
kept-carry true m = let e : m * 256 / 65536 ≡ m / 256 = omega arith in ap (λ (q : ℕ). eqb (q % 2) 1) e
kept-carry false m = let e : m * 1 / 65536 ≡ m / 65536 = omega arith in ap (λ (q : ℕ). eqb (q % 2) 1) e

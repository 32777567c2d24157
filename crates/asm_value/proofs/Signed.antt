-- Numbers with a sign: that the operations on 32 bits fit 64. Assumes nothing.
use mathlib.Core.Path.{◌≡◌, refl, sym, ap, ◌∙◌, subst}
use Prim.Native.Nat.{ℕ, zero, suc, ◌+◌, ◌*◌, ◌/◌, ◌<◌, ◌≤◌}
use native.Mathlib.Nat.{mul-le-mul, div-le_self, le_trans}
use native.Mathlib.Omega.{arith}
use lib.Dec.{ltb}
use lib.IntN.{ℤ, pos, negsuc, nat_abs, neg_ℤ, sub_ℕ, ◌+ℤ◌, ◌-ℤ◌, ◌*ℤ◌}
use lib.Signed.{mag, quot_z}
use mir.Syntax.{w32, w64}
use mir.Val.{to_z, of_z, SFits}
use mir.ValLaws.{to_z_pos, to_z-of_z}
use Rattle.std.specs.Prelude.{Err}
use Rattle.asm_value.specs.Value.{fitted, quotient, towards_zero}
use Rattle.asm_value.specs.declared.Lack.TheVariants.{Outside}
use borrow.Author.Tests.{lt-ltb, ltb-true}
use Rattle.word.proofs.Laws.{bool_cases}

-- ---- 32 bits in 64

-- a number of 32 bits, widened
abbrev pub wide : ℤ → ℤ
wide z = to_z w64 (of_z w64 (to_z w32 (of_z w32 z)))

pub sfits_wide : (z : ℤ) → SFits w32 z → SFits w64 z
sfits_wide z f = let h : mag z < 2147483648 = f.sfits in record { sfits = omega arith }

pub wide_is : (z : ℤ) → SFits w32 z → wide z ≡ z
wide_is z f = rw (to_z-of_z w32 z f) (to_z-of_z w64 z (sfits_wide z f))

-- ---- how far the operations reach
abs_mag : (z : ℤ) → nat_abs z ≤ suc (mag z)
abs_mag (pos n) = omega arith
abs_mag (negsuc n) = omega arith

mag-neg : (n : ℕ) → mag (neg_ℤ (pos n)) ≤ n
mag-neg zero = omega arith
mag-neg (suc n) = omega arith

mag-negℤ : (z : ℤ) → mag (neg_ℤ z) ≤ suc (mag z)
mag-negℤ (pos zero) = omega arith
mag-negℤ (pos (suc n)) = omega arith
mag-negℤ (negsuc n) = omega arith

mag-sub : (a b : ℕ) → mag (sub_ℕ a b) ≤ a + b
mag-sub a b = bool_cases (ltb a b)
    (λ q. let h : a < b = ltb-true a b q in rw q (omega arith)) (λ q. rw q (omega arith))

mag-add : (x y : ℤ) → mag (x +ℤ y) ≤ suc (mag x + mag y)
mag-add (pos a) (pos b) = omega arith
mag-add (pos a) (negsuc b) = let h = mag-sub a (suc b) in omega (arith, h)
mag-add (negsuc a) (pos b) = let h = mag-sub b (suc a) in omega (arith, h)
mag-add (negsuc a) (negsuc b) = omega arith

mag-mul : (x y : ℤ) → mag (x *ℤ y) ≤ nat_abs x * nat_abs y
mag-mul (pos a) (pos b) = omega arith
mag-mul (pos a) (negsuc b) = mag-neg (a * suc b)
mag-mul (negsuc a) (pos b) = mag-neg (suc a * b)
mag-mul (negsuc a) (negsuc b) = omega arith

mag-quot : (x y : ℤ) → mag (quot_z x y) ≤ nat_abs x
mag-quot (pos a) (pos b) = div-le_self a b
mag-quot (pos a) (negsuc b) = le_trans (mag-neg (a / suc b)) (div-le_self a (suc b))
mag-quot (negsuc a) (pos b) = le_trans (mag-neg (suc a / b)) (div-le_self (suc a) b)
mag-quot (negsuc a) (negsuc b) = div-le_self (suc a) (suc b)

module _ (x y : ℤ) (f : SFits w32 x) (g : SFits w32 y) where
  pub sum_fits : SFits w64 (x +ℤ y)
  sum_fits =
      let hx : mag x < 2147483648 = f.sfits in let hy : mag y < 2147483648 = g.sfits in
      record { sfits = omega (arith, mag-add x y) }

  pub difference-fits : SFits w64 (x -ℤ y)
  difference-fits =
      let hx : mag x < 2147483648 = f.sfits in let hy : mag y < 2147483648 = g.sfits in
      record { sfits = omega (arith, mag-add x (neg_ℤ y), mag-negℤ y) }

  pub product-fits : SFits w64 (x *ℤ y)
  product-fits =
      let hx : mag x < 2147483648 = f.sfits in let hy : mag y < 2147483648 = g.sfits in
      let hb : nat_abs x ≤ 2147483648 = omega (arith, abs_mag x) in
      let hc : nat_abs y ≤ 2147483648 = omega (arith, abs_mag y) in
      let hm : nat_abs x * nat_abs y ≤ 4611686018427387904 = mul-le-mul hb hc in
      record { sfits = omega (arith, mag-mul x y, hm) }

  pub quotient_fits : SFits w64 (quot_z x y)
  quotient_fits =
      let hx : mag x < 2147483648 = f.sfits in
      record { sfits = omega (arith, mag-quot x y, abs_mag x) }

  -- an operation on the widened numbers is the operation
  pub on-wide : (op : ℤ → ℤ → ℤ) → op (wide x) (wide y) ≡ op x y
  on-wide op = rw (wide_is x f, wide_is y g)

  pub fits-on-wide : (op : ℤ → ℤ → ℤ) → SFits w64 (op x y) → SFits w64 (op (wide x) (wide y))
  fits-on-wide op h = subst (λ (z : ℤ). SFits w64 z) (sym (on-wide op)) h

  pub back-on-wide : (op : ℤ → ℤ → ℤ) → SFits w64 (op x y) → to_z w64 (of_z w64 (op (wide x) (wide y))) ≡ op x y
  back-on-wide op h = ap (λ (z : ℤ). to_z w64 (of_z w64 z)) (on-wide op) ∙ to_z-of_z w64 (op x y) h

-- the bits of zero
pub zero_bits : (z : ℤ) → SFits w32 z → of_z w32 z ≡ 0 → z ≡ pos 0
zero_bits (pos n) f e = ap pos e
zero_bits (negsuc n) f e = let h : n < 2147483648 = f.sfits in absurd (omega arith)

pub bits_pos : (z : ℤ) → SFits w32 z → ((of_z w32 z ≡ 0) → ⊥) → 0 < of_z w64 (to_z w32 (of_z w32 z))
bits_pos z f ne = rw (to_z-of_z w32 z f) (go z f ne)
  where
    go : (y : ℤ) → SFits w32 y → ((of_z w32 y ≡ 0) → ⊥) → 0 < of_z w64 y
    go (pos zero) k d = absurd (d refl)
    go (pos (suc n)) k d = omega arith
    go (negsuc n) k d = let h : n < 2147483648 = k.sfits in omega arith

-- the definition's division is the machine's
towards-zero : (x y : ℤ) → towards_zero x y ≡ quot_z x y
towards-zero (pos a) (pos b) = refl
towards-zero (pos a) (negsuc b) = refl
towards-zero (negsuc a) (pos b) = refl
towards-zero (negsuc a) (negsuc b) = refl

pub no-quotient : (x y : ℤ) → y ≡ pos 0 → quotient x y ≡ Err Outside
no-quotient x y e = rw e

pub some-quotient : (x y : ℤ) → ((of_z w32 y ≡ 0) → ⊥) → quotient x y ≡ fitted (quot_z x y)
some-quotient x (pos zero) d = absurd (d refl)
some-quotient x (pos (suc n)) d = ap fitted (towards-zero x (pos (suc n)))
some-quotient x (negsuc n) d = ap fitted (towards-zero x (negsuc n))

-- a number made of its digits
pub minus-fits : (n : ℕ) → n ≤ 4294967296 → SFits w64 (pos 0 -ℤ pos n)
minus-fits n h = record { sfits = omega (arith, mag-add (pos 0) (neg_ℤ (pos n)), mag-neg n) }

pub minus_is : (n : ℕ) → pos 0 -ℤ pos n ≡ neg_ℤ (pos n)
minus_is zero = refl
minus_is (suc n) = simp (lt-ltb 0 (suc n) (omega arith)) (ap negsuc (omega arith))

pub sized : (n : ℕ) → n ≤ 4294967296 → to_z w64 (of_z w64 (pos 0 -ℤ to_z w64 n)) ≡ neg_ℤ (pos n)
sized n h = rw (to_z_pos w64 n (omega arith)) (to_z-of_z w64 (pos 0 -ℤ pos n) (minus-fits n h) ∙ minus_is n)

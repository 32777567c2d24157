-- What the layers above cite of tests, widths, bits and the PSW's fields: each law is over every width or every place.
-- Assumes nothing.
use mathlib.Core.Path.{◌≡◌, refl, sym, ap, ap₂, ◌∙◌}
use mathlib.Core.Bool.{Bool, true, false}
use mathlib.Core.Logic.{◌⊎◌, inl, inr, ⊎_elim}
use Prim.Native.Nat.{ℕ, zero, suc, ◌+◌, ◌-◌, ◌*◌, ◌/◌, ◌%◌, ◌^◌, ◌≤◌, ◌<◌}
use native.Mathlib.Nat.{mod-lt, div-eq_of_lt, add-mul, mul_assoc, mul_comm, div-lt_iff_lt-mul, one-mul}
use native.Mathlib.Decide.{dec_le}
use native.Mathlib.Omega.{arith}
use lib.Dec.{eqb, lit<}
use lib.Bits.{bit_or, or_step, or_block, or_zero_r}
use lib.Pow.{ones_sub-lt, pow_pos, pow-add, high, low as low_part, split, field, mod-mod-pow, shr-shr, shl_exact}
use Rattle.word.specs.Width.{width_of, bit, low, with_low, turned}
use Rattle.word.specs.Psw.{bit_of, put_bit}

-- ---- tests

-- a fact by the two values of a test
pub bool_cases {ℓ} : {P : Type ℓ} (b : Bool) → (b ≡ true → P) → (b ≡ false → P) → P
bool_cases true f g = f refl
bool_cases false f g = g refl

-- a test made a number reads back, and so does a number below 2 made a test
pub bit-read : (b : Bool) → eqb (bit b) 1 ≡ b
bit-read true = refl
bit-read false = refl

pub bit-back : (n : ℕ) → n < 2 → bit (eqb n 1) ≡ n
bit-back zero h = refl
bit-back (suc zero) h = refl
bit-back (suc (suc n)) h = absurd (omega arith)

-- ---- widths

-- the top bit of a width is half of its range
pub two-halves-at : (w : ℕ) → 1 ≤ w → 2 ^ (w - 1) + 2 ^ (w - 1) ≡ 2 ^ w
two-halves-at w h =
    let e : w - 1 + 1 ≡ w = omega arith in
    let d : 2 ^ w ≡ 2 ^ (w - 1) * 2 = rw e at (pow-add 2 (w - 1) 1) in
    omega arith

-- each of the two widths is from 1 to 16, and its numbers fit 16 bits
pub width-pos : (byte : Bool) → 1 ≤ width_of byte
unfolding width_of
width-pos true = omega arith
width-pos false = omega arith

pub width-le : (byte : Bool) → width_of byte ≤ 16
unfolding width_of
width-le true = omega arith
width-le false = omega arith

pub fits_word : (byte : Bool) → 2 ^ width_of byte ≤ 2 ^ 16
unfolding width_of
fits_word true = omega arith
fits_word false = omega arith

pub two-halves : (byte : Bool) → 2 ^ (width_of byte - 1) + 2 ^ (width_of byte - 1) ≡ 2 ^ width_of byte
two-halves byte = two-halves-at (width_of byte) (width-pos byte)

-- two numbers with the same bits from k on have the same bits from any later place on
pub same_above : (a b k j : ℕ) → k ≤ j → a / 2 ^ k ≡ b / 2 ^ k → a / 2 ^ j ≡ b / 2 ^ j
same_above a b k j h s =
    let e : k + (j - k) ≡ j = omega arith in
    let r : a / 2 ^ (k + (j - k)) ≡ b / 2 ^ (k + (j - k)) =
    sym (shr-shr a k (j - k)) ∙ ap (λ (x : ℕ). x / 2 ^ (j - k)) s ∙ shr-shr b k (j - k) in
    rw e at r

-- and if the one fits n bits, so does the other
pub same-fits : (a b n : ℕ) → a / 2 ^ n ≡ b / 2 ^ n → b < 2 ^ n → a < 2 ^ n
same-fits a b n e h =
    let z : a / 2 ^ n < 1 = rw (e, div-eq_of_lt h) (omega arith) in
    rw one-mul at ((div-lt_iff_lt-mul (pow_pos n)).0 z)

pub low-lt : (w x : ℕ) → low w x < 2 ^ w
low-lt w x = mod-lt x (pow_pos w)

pub turned_lt : (w x : ℕ) → turned w x < 2 ^ w
turned_lt w x = ones_sub-lt w (low w x)

-- the low bits written read back, the rest of the register stays, and it stays one of n bits
module _ (w x v : ℕ) (h : v < 2 ^ w) where
  pub with-low-same : low w (with_low w x v) ≡ v
  with-low-same = low_part (x / 2 ^ w) w h

  pub with-low-above : (j : ℕ) → w ≤ j → with_low w x v / 2 ^ j ≡ x / 2 ^ j
  with-low-above j l = same_above (with_low w x v) x w j l (high (x / 2 ^ w) w h)

  pub with-low-lt : (n : ℕ) → w ≤ n → x < 2 ^ n → with_low w x v < 2 ^ n
  with-low-lt n l f = same-fits (with_low w x v) x n (with-low-above n l) f

-- ---- one bit put into a number

pub bit_le : (b : Bool) → bit b ≤ 1
bit_le true = omega arith
bit_le false = omega arith

pub order : (m n : ℕ) → (m ≤ n) ⊎ (n < m)
order m n = elim (dec_le m n) [ yes p ↦ inl p | no q ↦ inr (omega arith) ]

-- a high part q, one digit t and a low part r, with m twice the digit's weight h
regroup : (q t r h m : ℕ) → m ≡ h * 2 → q * m + t * h + r ≡ (q * 2 + t) * h + r
regroup q t r h m e = rw (e, add-mul (q * 2) t h, mul_assoc q 2 h, mul_comm 2 h)

halves : (n t : ℕ) → t ≤ 1 → ((n * 2 + t) / 2 ≡ n) × ((n * 2 + t) % 2 ≡ t)
halves n t h = (omega arith, omega arith)

module _ (k p : ℕ) (b : Bool) where
  -- what stands above bit k, then b, then what stands below
  whole : put_bit k p b ≡ (p / 2 ^ (k + 1) * 2 + bit b) * 2 ^ k + p % 2 ^ k
  whole = regroup (p / 2 ^ (k + 1)) (bit b) (p % 2 ^ k) (2 ^ k) (2 ^ (k + 1)) (pow-add 2 k 1)

  upper : put_bit k p b / 2 ^ k ≡ p / 2 ^ (k + 1) * 2 + bit b
  upper = ap (λ (x : ℕ). x / 2 ^ k) whole ∙ high (p / 2 ^ (k + 1) * 2 + bit b) k (mod-lt p (pow_pos k))

  lower : put_bit k p b % 2 ^ k ≡ p % 2 ^ k
  lower = ap (λ (x : ℕ). x % 2 ^ k) whole ∙ low_part (p / 2 ^ (k + 1) * 2 + bit b) k (mod-lt p (pow_pos k))

  next : put_bit k p b / 2 ^ (k + 1) ≡ p / 2 ^ (k + 1)
  next =
      sym (shr-shr (put_bit k p b) k 1) ∙ ap (λ (x : ℕ). x / 2) upper
      ∙ (halves (p / 2 ^ (k + 1)) (bit b) (bit_le b)).0

  -- the bit put reads back
  pub put-here : put_bit k p b / 2 ^ k % 2 ≡ bit b
  put-here = ap (λ (x : ℕ). x % 2) upper ∙ (halves (p / 2 ^ (k + 1)) (bit b) (bit_le b)).1

  -- what stands above the bit, and below it, stays
  pub put-above : (j : ℕ) → k < j → put_bit k p b / 2 ^ j ≡ p / 2 ^ j
  put-above j h = same_above (put_bit k p b) p (k + 1) j (omega arith) next

  pub put-below : (j : ℕ) → j ≤ k → put_bit k p b % 2 ^ j ≡ p % 2 ^ j
  put-below j h =
      let e : k - j + j ≡ k = omega arith in
      let cut : (x : ℕ) → x % 2 ^ k % 2 ^ j ≡ x % 2 ^ j = λ x. (rw e at (mod-mod-pow x (k - j) j)) in
      sym (cut (put_bit k p b)) ∙ ap (λ (x : ℕ). x % 2 ^ j) lower ∙ cut p

  -- every other bit stays
  pub put-elsewhere : (j : ℕ) → (j ≡ k → ⊥) → put_bit k p b / 2 ^ j % 2 ≡ p / 2 ^ j % 2
  put-elsewhere j h =
      ⊎_elim (λ (l : 1 + j ≤ k). sym (field (put_bit k p b) 1 j) ∙ ap (λ (x : ℕ). x / 2 ^ j) (put-below (1 + j) l) ∙ field p 1 j)
      (λ (l : k < 1 + j). ap (λ (x : ℕ). x % 2) (put-above j (omega arith))) (order (1 + j) k)

  -- a number of n bits stays one
  pub put-lt : (n : ℕ) → k < n → p < 2 ^ n → put_bit k p b < 2 ^ n
  put-lt n h l = same-fits (put_bit k p b) p n (put-above n h) l

-- the same in the words of the PSW: the bit put reads back, and every other bit stays
pub put_same : (k p : ℕ) (b : Bool) → bit_of k (put_bit k p b) ≡ b
put_same k p b = ap (λ (x : ℕ). eqb x 1) (put-here k p b) ∙ bit-read b

pub put_other : (j k p : ℕ) (b : Bool) → (j ≡ k → ⊥) → bit_of j (put_bit k p b) ≡ bit_of j p
put_other j k p b h = ap (λ (x : ℕ). eqb x 1) (put-elsewhere k p b j h)

-- as code computes it, by shifts
module _ (k : ℕ) (h : k < 15) where
  pub shifted_one : 1 * 2 ^ k % 65536 ≡ 2 ^ k
  shifted_one = shl_exact 1 k 16 (lit< tt) (omega arith) ∙ one-mul (2 ^ k)

  pub shifted_two : 2 * 2 ^ k % 65536 ≡ 2 ^ (k + 1)
  shifted_two = shl_exact 2 k 16 (lit< tt) (omega arith) ∙ mul_comm 2 (2 ^ k) ∙ sym (pow-add 2 k 1)

  pub put-fits : (p : ℕ) (b : Bool) → p < 65536 → p / 2 ^ (k + 1) * 2 ^ (k + 1) + bit b * 2 ^ k + p % 2 ^ k < 65536
  put-fits p b l = put-lt k p b 16 (omega arith) l

-- an or with one bit puts it in
odd : (q : ℕ) → bit_or q 1 ≡ q / 2 * 2 + 1
odd q = or_step q 1 ∙ rw (or_zero_r (q / 2)) (omega arith)

pub or-bit : (k p : ℕ) → bit_or p (2 ^ k) ≡ put_bit k p true
or-bit k p =
    ap₂ bit_or (sym (split p k)) (omega arith)
    ∙ or_block k (p / 2 ^ k) 1 (p % 2 ^ k) 0 (mod-lt p (pow_pos k)) (pow_pos k)
    ∙ rw (odd (p / 2 ^ k), or_zero_r (p % 2 ^ k), shr-shr p k 1) (rw (pow-add 2 k 1) (omega arith))

-- ---- the last arm of a `match` on a number

-- n is none of the first k numbers, as that arm has it
abbrev pub Past : ℕ → ℕ → Type 0
Past n zero = Unit {0}
Past n (suc k) = Past n k × (n ≡ k → ⊥)

onward : (n k : ℕ) → k ≤ n → (n ≡ k → ⊥) → suc k ≤ n
onward n k p q = omega arith

pub past : (n k : ℕ) → Past n k → k ≤ n
past n zero p = omega arith
past n (suc k) p = onward n k (past n k p.0) p.1

-- What the arithmetic means, for every width w, and what an instruction leaves as it was: a sum lies below twice 2 ^ w, so its remainder
-- and its carry tell it whole; each flag put into the PSW leaves the bits above it and SLP. Assumes nothing.
use mathlib.Core.Path.{◌≡◌, refl, sym, ap, ◌∙◌}
use mathlib.Core.Bool.{Bool, false, not}
use mathlib.Core.Logic.{◌⊎◌, inl, inr, ⊎_elim}
use Prim.Native.Nat.{ℕ, zero, suc, ◌+◌, ◌-◌, ◌*◌, ◌/◌, ◌%◌, ◌^◌, ◌≤◌, ◌<◌}
use native.Mathlib.Nat.{mod-lt, mod-eq_of_lt, mod-eq-sub-mod, pow-suc, mul_assoc, mul-le-mul_right}
use native.Mathlib.Omega.{arith}
use lib.Dec.{leb, eqb}
use lib.Bits.{bit_and, bit_or, bit_xor, and_lt, or_lt, xor_lt}
use lib.Pow.{pow_pos, pow_mono, pow-add, shr-shr}
use lib.IntN.{ℤ, pos, ◌+ℤ◌, ◌-ℤ◌}
use borrow.Author.Tests.{le-leb, lt-leb}
use Rattle.word.specs.Width.{width_of, bit, low, with_low, turned}
use Rattle.word.specs.Psw.{put_bit, carry_of, current, previous, asleep?, faulted?}
use Rattle.word.specs.Offset.{signed_of, off_fits}
use Rattle.word.proofs.Laws.{order, bit_le, low-lt, turned_lt, two-halves-at, width-pos, width-le}
use Rattle.word.proofs.Laws.{same_above, same-fits, with-low-above, put-above, put-elsewhere}
use Rattle.alu.specs.declared.Op.{Op}
use Rattle.alu.specs.declared.Op.TheVariants.{Add, Addc, Sub, Subc, Cmp, Dadd, And, Or, Xor}
use Rattle.alu.specs.declared.Op.TheVariants.{Bit, Bic, Bis, Sra, Rrc, Comp, Swpb, Sxt}
use Rattle.alu.specs.Sums.{add_with_carry, negative, overflow_of}
use Rattle.alu.specs.Decimal.{decimal_sum, digit_of, digit_carry, decimal_value, DecimalDigits}
use Rattle.alu.specs.Alu.{alu_of, sign_flags, summed, halved, mask_of}
use Rattle.alu.proofs.Bits.{mask_lt}
use Rattle.alu.proofs.Digits.{digit-bounds, digit-exact, lowest, carried}
use Rattle.alu.proofs.Signed.{overflow-by-sign, turned-reading}

-- ---- sums

-- a number below twice the modulus is its remainder and the carry
exact : (m s : ℕ) → s < m + m → s % m + bit (leb m s) * m ≡ s
exact m s h =
    ⊎_elim (λ (q : m ≤ s). let r : s - m < m = omega arith in rw (le-leb m s q, mod-eq-sub-mod q, mod-eq_of_lt r) (omega arith))
    (λ (q : s < m). rw (lt-leb m s q, mod-eq_of_lt q) (omega arith)) (order m s)

-- No bit of a sum is lost: the value, and 2 ^ w for a carry, are the sum of both addends and the carry in.
pub sum-exact : (w a b c : ℕ) → a < 2 ^ w → b < 2 ^ w → c ≤ 1
    → (add_with_carry w a b c).value + bit (add_with_carry w a b c).carry * 2 ^ w ≡ a + b + c
unfolding add_with_carry
sum-exact w a b c ha hb hc = exact (2 ^ w) (a + b + c) (omega arith)

difference : (m a x c : ℕ) → a < m → x < m → c ≤ 1
    → ((a + (m - 1 - x) + c) % m + x + (1 - c) ≡ a + bit (not (leb m (a + (m - 1 - x) + c))) * m)
    × (leb m (a + (m - 1 - x) + c) ≡ leb (x + (1 - c)) a)
difference m a x c ha hx hc =
    ⊎_elim (λ (q : x + (1 - c) ≤ a). let t : m ≤ a + (m - 1 - x) + c = omega arith in
    let r : a + (m - 1 - x) + c - m < m = omega arith in
    rw (le-leb _ _ t, le-leb _ _ q, mod-eq-sub-mod t, mod-eq_of_lt r) (omega arith, refl))
    (λ (q : a < x + (1 - c)). let t : a + (m - 1 - x) + c < m = omega arith in
    rw (lt-leb _ _ t, lt-leb _ _ q, mod-eq_of_lt t) (omega arith, refl)) (order (x + (1 - c)) a)

-- SUB (c is 1) and SUBC (c is C): the value is the difference less 1 - c, with 2 ^ w added where that was borrowed, and
-- the carry says that nothing was.
pub subtract-exact : (w a b c : ℕ) → a < 2 ^ w → c ≤ 1
    → ((add_with_carry w a (turned w b) c).value + low w b + (1 - c) ≡ a + bit (not (add_with_carry w a (turned w b) c).carry) * 2 ^ w)
    × ((add_with_carry w a (turned w b) c).carry ≡ leb (low w b + (1 - c)) a)
unfolding add_with_carry
subtract-exact w a b c ha hc = difference (2 ^ w) a (low w b) c ha (low-lt w b) hc

-- ---- overflow

-- V of ADD and ADDC: the sum of the addends, each read with its sign, and of the carry leaves -2 ^ (w - 1) to 2 ^ (w - 1) - 1.
pub sum-overflow : (w a b c : ℕ) → 1 ≤ w → a < 2 ^ w → b < 2 ^ w → c ≤ 1
    → overflow_of w a b (add_with_carry w a b c).value
    ≡ not (off_fits (2 ^ (w - 1)) (signed_of (2 ^ (w - 1)) a +ℤ signed_of (2 ^ (w - 1)) b +ℤ pos c))
unfolding overflow_of add_with_carry
sum-overflow w a b c hw ha hb hc = overflow-by-sign (2 ^ (w - 1)) (2 ^ w) a b c (two-halves-at w hw) ha hb hc

-- V of SUB (c is 1) and SUBC (c is C), worked from the complement of the source: the difference, less 1 - c, leaves that range.
pub subtract-overflow : (w a b c : ℕ) → 1 ≤ w → a < 2 ^ w → c ≤ 1
    → overflow_of w a (turned w b) (add_with_carry w a (turned w b) c).value
    ≡ not (off_fits (2 ^ (w - 1)) (signed_of (2 ^ (w - 1)) a -ℤ signed_of (2 ^ (w - 1)) (low w b) -ℤ pos (1 - c)))
subtract-overflow w a b c hw ha hc =
    sum-overflow w a (turned w b) c hw ha (turned_lt w b) hc
    ∙ ap (λ (z : ℤ). not (off_fits (2 ^ (w - 1)) z))
    (turned-reading (2 ^ (w - 1)) (2 ^ w) (low w b) c (signed_of (2 ^ (w - 1)) a) (two-halves-at w hw) (low-lt w b) hc)

-- ---- decimal sums

-- DADD of n digits, for all operands: the sum has n digits, and its carry is 0 or 1.
pub decimal-bounds : (n a b c : ℕ) → c ≤ 1 → ((decimal_sum n a b c).value < 16 ^ n) × ((decimal_sum n a b c).carry ≤ 1)
unfolding decimal_sum
decimal-bounds zero a b c h = (omega arith, h)
decimal-bounds (suc n) a b c h =
    let s = a % 16 + b % 16 + c in
    let d = digit-bounds s in
    let r = decimal-bounds n (a / 16) (b / 16) (digit_carry s) d.1 in
    let e : 16 ^ suc n ≡ 16 ^ n * 16 = pow-suc 16 n in
    (omega arith, r.1)

-- DADD of n digits, each digit of the operands at most 9: the sum, read in base ten, and 10 ^ n for a carry, are the sum of
-- both operands read in base ten and the carry in; and its digits are at most 9.
pub decimal-exact : (n a b c : ℕ) → DecimalDigits n a → DecimalDigits n b → c ≤ 1
    → (decimal_value n (decimal_sum n a b c).value + (decimal_sum n a b c).carry * 10 ^ n ≡ decimal_value n a + decimal_value n b + c)
    × DecimalDigits n (decimal_sum n a b c).value
unfolding decimal_sum
decimal-exact zero a b c ha hb h = (omega arith, tt)
decimal-exact (suc n) a b c ha hb h =
    let s = a % 16 + b % 16 + c in
    let k = digit_carry s in
    let d = digit-exact s (omega (arith, ha.0, hb.0)) in
    let r = decimal_sum n (a / 16) (b / 16) k in
    let i = decimal-exact n (a / 16) (b / 16) k ha.1 hb.1 (digit-bounds s).1 in
    let l = lowest (digit_of s) r.value (digit-bounds s).0 in
    let y : r.carry * 10 ^ suc n ≡ r.carry * 10 ^ n * 10 =
    ap (λ (x : ℕ). r.carry * x) (pow-suc 10 n) ∙ sym (mul_assoc r.carry (10 ^ n) 10) in
    rw (l.0, l.1) (
      carried (digit_of s) (decimal_value n r.value) (r.carry * 10 ^ n) (r.carry * 10 ^ suc n) (decimal_value n (a / 16))
          (decimal_value n (b / 16)) k (a % 16) (b % 16) c y i.0 d.0,
      (d.1, i.1),
    )

-- ---- what an instruction leaves as it was

-- q has p's bits 15 to 5 and its bit 3: all but C, Z, N and V
pub record Kept (p q : ℕ) : Type 0 where
  pub above : q / 32 ≡ p / 32
  pub sleep : q / 8 % 2 ≡ p / 8 % 2

same : {p : ℕ} → Kept p p
same = record { above = refl; sleep = refl }

-- a flag put in keeps the rest
put : (k : ℕ) {p q : ℕ} → k < 5 → (3 ≡ k → ⊥) → Kept p q → (t : Bool) → Kept p (put_bit k q t)
put k {p} {q} l n h t = record { above = put-above k q t 5 l ∙ h.above; sleep = put-elsewhere k q t 3 n ∙ h.sleep }

module _ {p q : ℕ} (h : Kept p q) where
  carry-kept : (t : Bool) → Kept p (put_bit 0 q t)
  carry-kept = put 0 (omega arith) (λ e. omega arith) h

  zero-kept : (t : Bool) → Kept p (put_bit 1 q t)
  zero-kept = put 1 (omega arith) (λ e. omega arith) h

  negative-kept : (t : Bool) → Kept p (put_bit 2 q t)
  negative-kept = put 2 (omega arith) (λ e. omega arith) h

  overflow-kept : (t : Bool) → Kept p (put_bit 4 q t)
  overflow-kept = put 4 (omega arith) (λ e. omega arith) h

sign_kept : {p q : ℕ} → Kept p q → (w v : ℕ) → Kept p (sign_flags w q v)
sign_kept h w v = negative-kept (zero-kept h (eqb v 0)) (negative w v)

sum_kept : (w d b c p : ℕ) → Kept p (summed w d b c p).psw
sum_kept w d b c p =
    let s = add_with_carry w (low w d) b c in
    overflow-kept (sign_kept (carry-kept same s.carry) w s.value) (overflow_of w (low w d) b s.value)

-- No arithmetic or logical instruction changes a bit of the PSW but C, Z, N and V.
pub alu-kept : (op : Op) (w d s p : ℕ) → Kept p (alu_of op w d s p).psw
unfolding alu_of
alu-kept Add w d s p = sum_kept w d (low w s) 0 p
alu-kept Addc w d s p = sum_kept w d (low w s) (carry_of p) p
alu-kept Sub w d s p = sum_kept w d (turned w s) 1 p
alu-kept Subc w d s p = sum_kept w d (turned w s) (carry_of p) p
alu-kept Cmp w d s p = sum_kept w d (turned w s) 1 p
alu-kept Dadd w d s p =
    let r = decimal_sum (w / 4) (low w d) (low w s) (carry_of p) in
    zero-kept (carry-kept same (eqb r.carry 1)) (eqb r.value 0)
alu-kept And w d s p = sign_kept same w (bit_and (low w d) (low w s))
alu-kept Or w d s p = sign_kept same w (bit_or (low w d) (low w s))
alu-kept Xor w d s p = sign_kept same w (bit_xor (low w d) (low w s))
alu-kept Bit w d s p = sign_kept same w (bit_and (low w d) (low w s))
alu-kept Bic w d s p = zero-kept same (eqb (bit_and (low w d) (turned w (mask_of w s))) 0)
alu-kept Bis w d s p = zero-kept same false
alu-kept Sra w d s p = sign_kept (carry-kept same (eqb (d % 2) 1)) w (halved w d (bit (negative w (low w d))))
alu-kept Rrc w d s p = sign_kept (carry-kept same (eqb (d % 2) 1)) w (halved w d (carry_of p))
alu-kept Comp w d s p = sign_kept same w (turned w d)
alu-kept Swpb w d s p = same
alu-kept Sxt w d s p = same

-- The same, field by field: both priorities, SLP, FLT, and bits 12 to 9.
module _ (op : Op) (w d s p : ℕ) where
  from : (k : ℕ) → (alu_of op w d s p).psw / 2 ^ (5 + k) ≡ p / 2 ^ (5 + k)
  from k = sym (shr-shr (alu_of op w d s p).psw 5 k) ∙ ap (λ (x : ℕ). x / 2 ^ k) (alu-kept op w d s p).above ∙ shr-shr p 5 k

  pub alu-current : current (alu_of op w d s p).psw ≡ current p
  alu-current = ap (λ (x : ℕ). x % 8) (from 0)

  pub alu-previous : previous (alu_of op w d s p).psw ≡ previous p
  alu-previous = ap (λ (x : ℕ). x % 8) (from 8)

  pub alu-asleep : asleep? (alu_of op w d s p).psw ≡ asleep? p
  alu-asleep = ap (λ (x : ℕ). eqb x 1) (alu-kept op w d s p).sleep

  pub alu-faulted : faulted? (alu_of op w d s p).psw ≡ faulted? p
  alu-faulted = ap (λ (x : ℕ). eqb (x % 2) 1) (from 3)

  pub alu-unused : (alu_of op w d s p).psw / 512 % 16 ≡ p / 512 % 16
  alu-unused = ap (λ (x : ℕ). x % 16) (from 4)

  -- a PSW of 16 bits stays one
  pub alu-psw-word : p < 65536 → (alu_of op w d s p).psw < 65536
  alu-psw-word h = let e = (alu-kept op w d s p).above in omega arith

-- ---- what an instruction writes

sum_lt : (w a b c : ℕ) → (add_with_carry w a b c).value < 2 ^ w
unfolding add_with_carry
sum_lt w a b c = mod-lt (a + b + c) (pow_pos w)

sixteens : (n : ℕ) → 16 ^ n ≡ 2 ^ (n * 4)
sixteens zero = refl
sixteens (suc n) =
    let e : n * 4 + 4 ≡ suc n * 4 = omega arith in
    pow-suc 16 n ∙ ap (λ (x : ℕ). x * 16) (sixteens n) ∙ sym (pow-add 2 (n * 4) 4) ∙ ap (λ (x : ℕ). 2 ^ x) e

decimal-lt : (w a b c : ℕ) → c ≤ 1 → (decimal_sum (w / 4) a b c).value < 2 ^ w
decimal-lt w a b c h =
    let v = (decimal-bounds (w / 4) a b c h).0 in
    let e = sixteens (w / 4) in
    let l : 2 ^ (w / 4 * 4) ≤ 2 ^ w = pow_mono (omega arith) in
    omega arith

halved-lt : (w d t : ℕ) → 1 ≤ w → t ≤ 1 → halved w d t < 2 ^ w
halved-lt w d t hw ht = omega (arith, two-halves-at w hw, low-lt w d, mul-le-mul_right (2 ^ (w - 1)) ht)

module _ (w d : ℕ) where
  above : (v : ℕ) → v < 2 ^ w → with_low w d v / 2 ^ w ≡ d / 2 ^ w
  above v h = with-low-above w d v h w (omega arith)

  logic-lt : (x y : ℕ) → y < 2 ^ w
      → (bit_and (low w x) y < 2 ^ w) × (bit_or (low w x) y < 2 ^ w) × (bit_xor (low w x) y < 2 ^ w)
  logic-lt x y h = (and_lt w (low w x) y (low-lt w x) h, or_lt w (low w x) y (low-lt w x) h, xor_lt w (low w x) y (low-lt w x) h)

-- Every instruction but SWPB and SXT keeps the bits above the width: a byte form keeps the high byte.
pub alu-high-kept : (op : Op) (w d s p : ℕ) → 1 ≤ w
    → ((alu_of op w d s p).value / 2 ^ w ≡ d / 2 ^ w) ⊎ ((op ≡ Swpb) ⊎ (op ≡ Sxt))
unfolding alu_of
alu-high-kept Add w d s p hw = inl (above w d _ (sum_lt w (low w d) (low w s) 0))
alu-high-kept Addc w d s p hw = inl (above w d _ (sum_lt w (low w d) (low w s) (carry_of p)))
alu-high-kept Sub w d s p hw = inl (above w d _ (sum_lt w (low w d) (turned w s) 1))
alu-high-kept Subc w d s p hw = inl (above w d _ (sum_lt w (low w d) (turned w s) (carry_of p)))
alu-high-kept Cmp w d s p hw = inl refl
alu-high-kept Dadd w d s p hw = inl (above w d _ (decimal-lt w (low w d) (low w s) (carry_of p) (omega arith)))
alu-high-kept And w d s p hw = inl (above w d _ (logic-lt w d d (low w s) (low-lt w s)).0)
alu-high-kept Or w d s p hw = inl (above w d _ (logic-lt w d d (low w s) (low-lt w s)).1)
alu-high-kept Xor w d s p hw = inl (above w d _ (logic-lt w d d (low w s) (low-lt w s)).2)
alu-high-kept Bit w d s p hw = inl refl
alu-high-kept Bic w d s p hw = inl (above w d _ (logic-lt w d d (turned w (mask_of w s)) (turned_lt w (mask_of w s))).0)
alu-high-kept Bis w d s p hw = inl (above w d _ (logic-lt w d d (mask_of w s) (mask_lt w s)).1)
alu-high-kept Sra w d s p hw = inl (above w d _ (halved-lt w d (bit (negative w (low w d))) hw (bit_le (negative w (low w d)))))
alu-high-kept Rrc w d s p hw = inl (above w d _ (halved-lt w d (carry_of p) hw (omega arith)))
alu-high-kept Comp w d s p hw = inl (above w d _ (turned_lt w d))
alu-high-kept Swpb w d s p hw = inr (inl refl)
alu-high-kept Sxt w d s p hw = inr (inr refl)

swapped-word : (w d s p : ℕ) → d < 65536 → (alu_of Swpb w d s p).value < 65536
unfolding alu_of
swapped-word w d s p h = omega arith

extended-word : (w d s p : ℕ) → (alu_of Sxt w d s p).value < 65536
unfolding alu_of
extended-word w d s p =
    ⊎_elim (λ (o : 128 ≤ d % 256). rw (le-leb 128 (d % 256) o) (omega arith))
    (λ (o : d % 256 < 128). rw (lt-leb 128 (d % 256) o) (omega arith)) (order 128 (d % 256))

-- A destination of 16 bits stays one.
pub alu-value-word : (op : Op) (byte : Bool) (d s p : ℕ) → d < 65536 → (alu_of op (width_of byte) d s p).value < 65536
alu-value-word op byte d s p h =
    let w = width_of byte in
    ⊎_elim (λ (e : (alu_of op w d s p).value / 2 ^ w ≡ d / 2 ^ w).
    same-fits (alu_of op w d s p).value d 16 (same_above (alu_of op w d s p).value d w 16 (width-le byte) e) h)
    (λ (o : (op ≡ Swpb) ⊎ (op ≡ Sxt)). ⊎_elim (λ (e : op ≡ Swpb). rw e (swapped-word w d s p h))
    (λ (e : op ≡ Sxt). rw e (extended-word w d s p)) o) (alu-high-kept op w d s p (width-pos byte))

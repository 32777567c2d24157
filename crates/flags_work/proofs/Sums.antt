-- The flags of a sum as they are kept are those of the sum. A sum of two numbers of the width w and a carry has w + 1 bits: bit w is C,
-- bit w - 1 is N, and V where that bit differs from the same bit of both addends; Z is that its low w bits are 0. Assumes nothing.
use mathlib.Core.Path.{◌≡◌, refl, sym, ap, ap₂, ◌∙◌}
use mathlib.Core.Bool.{Bool, true, false, not, ◌&&◌, ◌||◌, beq}
use Prim.Native.Nat.{ℕ, zero, suc, ◌+◌, ◌-◌, ◌*◌, ◌/◌, ◌%◌, ◌^◌, ◌≤◌, ◌<◌}
use native.Mathlib.Nat.{lt_of_le_of_lt, mul-le-mul_right, mod-eq_of_lt}
use native.Mathlib.Omega.{arith}
use lib.Dec.{eqb}
use lib.Bits.{bit_and, bit_xor, and_le_l, xor_lt}
use borrow.Author.Tests.{ne_eqb}
use Rattle.word.specs.Width.{width_of, low, with_low}
use Rattle.word.specs.Psw.{bit_of}
use Rattle.word.proofs.Laws.{two-halves, width-pos, fits_word, low-lt}
use Rattle.alu.specs.Sums.{add_with_carry, negative, differs, overflow_of}
use Rattle.alu.specs.Alu.{summed, shifted, halved, sign_flags}
use Rattle.flags.specs.declared.Kept.{Kept}
use Rattle.flags.specs.Kept.{nothing?, minus?, held, held_in}
use Rattle.flags.proofs.Bits.{and-bit, xor-bit, top_bit, low_bit, kept_top, kept-carry}
use Rattle.flags.proofs.Laws.{held-put-carry, held_two, held-four}

-- N of a number of the width, by its top bit
pub sign : (byte : Bool) (x : ℕ) → x < 2 ^ width_of byte → negative (width_of byte) x ≡ bit_of (width_of byte - 1) x
sign byte x h = top_bit (width_of byte - 1) x (rw (two-halves byte) h)

-- a number of w + 1 bits as it is kept: bit 18 is not set, bit 15 is its bit w - 1
kept_above : (byte : Bool) (x : ℕ) → x < 2 ^ width_of byte + 2 ^ width_of byte → bit_of 18 (x * 2 ^ (16 - width_of byte)) ≡ false
unfolding width_of
kept_above true x h = let e : x * 256 / 262144 ≡ 0 = omega arith in ap (λ (q : ℕ). eqb (q % 2) 1) e
kept_above false x h = let e : x * 1 / 262144 ≡ 0 = omega arith in ap (λ (q : ℕ). eqb (q % 2) 1) e

kept-minus : (byte : Bool) (x : ℕ) → x < 2 ^ width_of byte + 2 ^ width_of byte
    → minus? (x * 2 ^ (16 - width_of byte)) ≡ bit_of (width_of byte - 1) x
kept-minus byte x h = ap₂ ◌||◌ (kept_top byte x) (kept_above byte x h) ∙ alone (bit_of (width_of byte - 1) x)
  where
    alone : (b : Bool) → b || false ≡ b
    alone true = refl
    alone false = refl

-- its low 16 bits are 0 where its own low bits are
kept-nothing : (byte : Bool) (x : ℕ) → nothing? (x * 2 ^ (16 - width_of byte)) ≡ eqb (low (width_of byte) x) 0
unfolding width_of
kept-nothing true x =
    let e : x * 256 % 65536 ≡ x % 256 * 256 = omega arith in
    ap (λ (q : ℕ). eqb q 0) e ∙ larger (x % 256)
  where
    larger : (y : ℕ) → eqb (y * 256) 0 ≡ eqb y 0
    larger zero = refl
    larger (suc y) = ne_eqb (suc y * 256) 0 (omega arith) ∙ sym (ne_eqb (suc y) 0 (omega arith))
kept-nothing false x = let e : x * 1 % 65536 ≡ x % 65536 = omega arith in ap (λ (q : ℕ). eqb q 0) e

module _ (byte : Bool) (a b c : ℕ) (ha : a < 2 ^ width_of byte) (hb : b < 2 ^ width_of byte) (hc : c ≤ 1) where
  sum-carry : bit_of 16 ((a + b + c) * 2 ^ (16 - width_of byte)) ≡ (add_with_carry (width_of byte) a b c).carry
  unfolding add_with_carry
  sum-carry = kept-carry byte (a + b + c) ∙ sym (top_bit (width_of byte) (a + b + c) (omega arith))

  -- the top bit of the sum is that of its value
  value-sign : negative (width_of byte) (add_with_carry (width_of byte) a b c).value ≡ bit_of (width_of byte - 1) (a + b + c)
  unfolding add_with_carry
  value-sign =
      let k = width_of byte - 1 in
      let e : 1 + k ≡ width_of byte = omega (arith, width-pos byte) in
      let f : bit_of k ((a + b + c) % 2 ^ width_of byte) ≡ bit_of k (a + b + c) = rw e at (low_bit k (a + b + c)) in
      sign byte ((a + b + c) % 2 ^ width_of byte) (low-lt (width_of byte) (a + b + c)) ∙ f

  sum-sign : minus? ((a + b + c) * 2 ^ (16 - width_of byte)) ≡ negative (width_of byte) (add_with_carry (width_of byte) a b c).value
  sum-sign = kept-minus byte (a + b + c) (omega arith) ∙ sym value-sign

  sum-zero : nothing? ((a + b + c) * 2 ^ (16 - width_of byte)) ≡ eqb (add_with_carry (width_of byte) a b c).value 0
  unfolding add_with_carry
  sum-zero = kept-nothing byte (a + b + c)

  sum_over : bit_of 15 (bit_and (bit_xor a (a + b + c)) (bit_xor b (a + b + c)) * 2 ^ (16 - width_of byte))
      ≡ overflow_of (width_of byte) a b (add_with_carry (width_of byte) a b c).value
  unfolding overflow_of
  sum_over =
      let k = width_of byte - 1 in
      let t = a + b + c in
      let n = negative (width_of byte) in
      let r = (add_with_carry (width_of byte) a b c).value in
      kept_top byte (bit_and (bit_xor a t) (bit_xor b t)) ∙ and-bit k (bit_xor a t) (bit_xor b t)
      ∙ ap₂ ◌&&◌ (xor-bit k a t) (xor-bit k b t)
      ∙ (λ i. not (beq (sym (sign byte a ha) i) (sym value-sign i)) && not (beq (sym (sign byte b hb) i) (sym value-sign i)))
      ∙ signs (n a) (n b) (n r)
    where
      signs : (x y r : Bool) → not (beq x r) && not (beq y r) ≡ differs x y r
      signs true true true = refl
      signs true true false = refl
      signs true false true = refl
      signs true false false = refl
      signs false true true = refl
      signs false true false = refl
      signs false false true = refl
      signs false false false = refl

-- ---- the three kinds of results, with what the callees promise in the order of the calls

-- a number's low bits are those of its low word
low_word : (byte : Bool) (x : ℕ) → low (width_of byte) (x % 65536) ≡ low (width_of byte) x
unfolding width_of
low_word true x = omega arith
low_word false x = omega arith

module _ (byte : Bool) (dst b c : ℕ) {a : ℕ} (ea : a ≡ low (width_of byte) dst) where
  pub sum-value : {v r : ℕ} → v ≡ low (width_of byte) ((a + b + c) % 65536) → r ≡ with_low (width_of byte) dst v
      → (p : ℕ) → r ≡ (summed (width_of byte) dst b c p).value
  unfolding add_with_carry
  sum-value ev e p =
      let w = width_of byte in
      e ∙ ap (with_low w dst) (ev ∙ low_word byte (a + b + c) ∙ ap (λ (x : ℕ). (x + b + c) % 2 ^ w) ea)

  pub sum-psw : {k over : ℕ} → b < 2 ^ width_of byte → c ≤ 1 → k ≡ (a + b + c) * 2 ^ (16 - width_of byte)
      → over ≡ bit_and (bit_xor a (a + b + c)) (bit_xor b (a + b + c)) * 2 ^ (16 - width_of byte)
      → (kept : Kept) (p : ℕ) → held p k k over ≡ (summed (width_of byte) dst b c (held_in p kept)).psw
  sum-psw {k} {over} hb hc ek eo kept p =
      let w = width_of byte in
      let x = low w dst in
      let m = 2 ^ (16 - w) in
      let s = add_with_carry w x b c in
      let fk : k ≡ (x + b + c) * m = ek ∙ ap (λ (y : ℕ). (y + b + c) * m) ea in
      let fo : over ≡ bit_and (bit_xor x (x + b + c)) (bit_xor b (x + b + c)) * m =
      eo ∙ ap (λ (y : ℕ). bit_and (bit_xor y (y + b + c)) (bit_xor b (y + b + c)) * m) ea in
      held-four p kept.last kept.sum kept.over k k over s.carry (eqb s.value 0) (negative w s.value) (overflow_of w x b s.value)
      (ap (bit_of 16) fk ∙ sum-carry byte x b c (low-lt w dst) hb hc) (ap nothing? fk ∙ sum-zero byte x b c (low-lt w dst) hb hc)
      (ap minus? fk ∙ sum-sign byte x b c (low-lt w dst) hb hc) (ap (bit_of 15) fo ∙ sum_over byte x b c (low-lt w dst) hb hc)

pub logic-psw : (byte : Bool) (v : ℕ) {last' : ℕ} → v < 2 ^ width_of byte → last' ≡ v * 2 ^ (16 - width_of byte)
    → (kept : Kept) (p : ℕ) → held p last' kept.sum kept.over ≡ sign_flags (width_of byte) (held_in p kept) v
logic-psw byte v {last'} h e kept p =
    let w = width_of byte in
    held_two p kept.last kept.sum kept.over last' (eqb v 0) (negative w v)
    (ap nothing? e ∙ kept-nothing byte v ∙ ap (λ (q : ℕ). eqb q 0) (mod-eq_of_lt h))
    (ap minus? e ∙ kept-minus byte v (omega arith) ∙ sym (sign byte v h))

-- what `logic` leaves, where C is the bit that fell out
pub shift-psw : (byte : Bool) (dst high : ℕ) {v : ℕ} {q : ℕ → ℕ} → v ≡ halved (width_of byte) dst high → (kept : Kept)
    → ((p : ℕ) → q p ≡ sign_flags (width_of byte) (held p kept.last (dst * 65536) kept.over) v)
    → (p : ℕ) → q p ≡ (shifted (width_of byte) dst high (held_in p kept)).psw
shift-psw byte dst high e kept f p =
    let d : dst * 65536 / 65536 ≡ dst = omega arith in
    let g = held-put-carry p kept.last kept.sum kept.over (dst * 65536) (eqb (dst % 2) 1) (ap (λ (q : ℕ). eqb (q % 2) 1) d) in
    f p ∙ λ i. sign_flags (width_of byte) (sym g i) (e i)

-- ---- what fits

-- twice 16 bits
pub over-lt : (byte : Bool) (a b c : ℕ) → a < 2 ^ width_of byte → b < 2 ^ width_of byte → c ≤ 1
    → bit_and (bit_xor a (a + b + c)) (bit_xor b (a + b + c)) < 131072
over-lt byte a b c ha hb hc =
    let m = fits_word byte in
    let t : a + b + c < 2 ^ 17 = omega arith in
    let x : a < 2 ^ 17 = omega arith in
    lt_of_le_of_lt (and_le_l (bit_xor a (a + b + c)) (bit_xor b (a + b + c))) (xor_lt 17 a (a + b + c) x t)

-- a number moved down by one below a bit stays one of the width
pub halved-lt : (byte : Bool) (high : ℕ) {a t : ℕ} → a < 2 ^ width_of byte → t ≡ 2 ^ (width_of byte - 1) → high ≤ 1
    → (high * t < 2 ^ width_of byte) × (a / 2 + high * t < 2 ^ width_of byte)
halved-lt byte high {a} {t} ha e hh =
    let m : high * t ≤ 1 * t = mul-le-mul_right t hh in
    let d = two-halves byte in
    (omega arith, omega arith)

-- What each kind of arm of `work` comes to. The callee gives value and flags of the definition's right-hand side at the operands as the
-- code has them; these are the definition's operands, C among them. Assumes nothing.
use mathlib.Core.Path.{◌≡◌, refl, sym, ap, ◌∙◌}
use mathlib.Core.Bool.{Bool, false}
use Prim.Native.Nat.{ℕ, ◌*◌, ◌/◌, ◌%◌, ◌^◌, ◌<◌}
use native.Mathlib.Nat.{lt_of_le_of_lt}
use native.Mathlib.Omega.{arith}
use lib.Dec.{eqb}
use lib.Bits.{bit_and, and_le_l}
use Rattle.word.specs.Width.{width_of, bit, low, with_low, turned}
use Rattle.word.specs.Psw.{bit_of, put_bit, carry_of}
use Rattle.word.proofs.Laws.{bit-back, low-lt, with-low-same, put_same, put_other}
use Rattle.alu.specs.declared.Op.{Op}
use Rattle.alu.specs.declared.Op.TheVariants.{Dadd, Bic, Bis, Swpb, Sxt}
use Rattle.alu.specs.declared.Computed.{Computed}
use Rattle.alu.specs.declared.Decimal.{Decimal}
use Rattle.alu.specs.Decimal.{decimal_sum}
use Rattle.alu.specs.Alu.{alu_of, summed, logical, shifted, tested, decimal, mask_of}
use Rattle.flags.specs.declared.Kept.{Kept}
use Rattle.flags.specs.Kept.{nothing?, minus?, held, held_in}
use Rattle.flags.proofs.Laws.{held-carry, held-put-carry, held-put-zero}

-- C, as the number that a sum takes in
pub held-carry-of : (kept : Kept) (p : ℕ) → kept.sum / 65536 % 2 ≡ carry_of (held_in p kept)
held-carry-of kept p =
    let q = held_in p kept in
    let one : q / 1 % 2 ≡ q % 2 = omega arith in
    sym (bit-back (kept.sum / 65536 % 2) (omega arith)) ∙ ap bit (sym (held-carry p kept.last kept.sum kept.over))
    ∙ bit-back (q / 1 % 2) (omega arith) ∙ one

module _ (byte : Bool) (d s : ℕ) (kept : Kept) where
  -- r is the value, and q p the PSW, that the operation leaves where the PSW was p but for the flags
  abbrev pub Worked : Op → ℕ → (ℕ → ℕ) → Type 0
  Worked op r q =
      ((p : ℕ) → r ≡ (alu_of op (width_of byte) d s (held_in p kept)).value)
      × ((p : ℕ) → q p ≡ (alu_of op (width_of byte) d s (held_in p kept)).psw)

  module _ {op o : Op} (e : op ≡ o) where
    -- the operation is o
    is : (p : ℕ) → alu_of op (width_of byte) d s p ≡ alu_of o (width_of byte) d s p
    is p = ap (λ (x : Op). alu_of x (width_of byte) d s p) e

    worked : (y : ℕ → Computed) {r : ℕ} {q : ℕ → ℕ}
        → ((p : ℕ) → alu_of o (width_of byte) d s (held_in p kept) ≡ y p) → ((p : ℕ) → r ≡ (y p).value)
        → ((p : ℕ) → q p ≡ (y p).psw) → Worked op r q
    worked y f v t =
        let g : (p : ℕ) → alu_of op (width_of byte) d s (held_in p kept) ≡ y p = λ p. is (held_in p kept) ∙ f p in
        ((λ p. v p ∙ sym (ap (λ (x : Computed). x.value) (g p))), (λ p. t p ∙ sym (ap (λ (x : Computed). x.psw) (g p))))

    pub adds : {b c B r : ℕ} {C q : ℕ → ℕ} → b ≡ B → ((p : ℕ) → c ≡ C p)
        → ((p : ℕ) → alu_of o (width_of byte) d s (held_in p kept) ≡ summed (width_of byte) d B (C p) (held_in p kept))
        → ((p : ℕ) → r ≡ (summed (width_of byte) d b c p).value)
        → ((p : ℕ) → q p ≡ (summed (width_of byte) d b c (held_in p kept)).psw) → Worked op r q
    adds {b} {c} eb ec f v t =
        let h : ℕ → ℕ = λ p. held_in p kept in
        worked (λ p. summed (width_of byte) d b c (h p)) (λ p. f p ∙ λ i. summed (width_of byte) d (sym eb i) (sym (ec p) i) (h p))
        (λ p. v (h p)) t

    pub compares : (c : ℕ) {b B : ℕ} {q : ℕ → ℕ} → b ≡ B
        → ((p : ℕ) → alu_of o (width_of byte) d s (held_in p kept) ≡ tested d (summed (width_of byte) d B c (held_in p kept)))
        → ((p : ℕ) → q p ≡ (summed (width_of byte) d b c (held_in p kept)).psw) → Worked op d q
    compares c {b} eb f t =
        let h : ℕ → ℕ = λ p. held_in p kept in
        worked (λ p. tested d (summed (width_of byte) d b c (h p))) (λ p. f p ∙ λ i. tested d (summed (width_of byte) d (sym eb i) c (h p)))
        (λ p. refl) t

    pub joins : {v W r : ℕ} {q : ℕ → ℕ} → v ≡ W
        → ((p : ℕ) → alu_of o (width_of byte) d s (held_in p kept) ≡ logical (width_of byte) d (held_in p kept) W)
        → ((p : ℕ) → r ≡ (logical (width_of byte) d p v).value)
        → ((p : ℕ) → q p ≡ (logical (width_of byte) d (held_in p kept) v).psw) → Worked op r q
    joins {v} ev f r t =
        let h : ℕ → ℕ = λ p. held_in p kept in
        worked (λ p. logical (width_of byte) d (h p) v) (λ p. f p ∙ λ i. logical (width_of byte) d (h p) (sym ev i)) (λ p. r (h p))
        t

    pub looks : {v W : ℕ} {q : ℕ → ℕ} → v ≡ W
        → ((p : ℕ) → alu_of o (width_of byte) d s (held_in p kept) ≡ tested d (logical (width_of byte) d (held_in p kept) W))
        → ((p : ℕ) → q p ≡ (logical (width_of byte) d (held_in p kept) v).psw) → Worked op d q
    looks {v} ev f t =
        let h : ℕ → ℕ = λ p. held_in p kept in
        worked (λ p. tested d (logical (width_of byte) d (h p) v)) (λ p. f p ∙ λ i. tested d (logical (width_of byte) d (h p) (sym ev i)))
        (λ p. refl) t

    pub shifts : {t r : ℕ} {T q : ℕ → ℕ} → ((p : ℕ) → t ≡ T p)
        → ((p : ℕ) → alu_of o (width_of byte) d s (held_in p kept) ≡ shifted (width_of byte) d (T p) (held_in p kept))
        → ((p : ℕ) → r ≡ (shifted (width_of byte) d t p).value)
        → ((p : ℕ) → q p ≡ (shifted (width_of byte) d t (held_in p kept)).psw) → Worked op r q
    shifts {t} et f r u =
        let h : ℕ → ℕ = λ p. held_in p kept in
        worked (λ p. shifted (width_of byte) d t (h p)) (λ p. f p ∙ λ i. shifted (width_of byte) d (sym (et p) i) (h p)) (λ p. r (h p))
        u

  -- the operations of which the code asks `alu` itself, with a PSW of which all but C is 0: their values come from no other flag
  module _ (last' : ℕ) {op : Op} {x : Computed} (same : minus? last' ≡ minus? kept.last) where
    pub sums : {c : ℕ} → x ≡ alu_of op (width_of byte) d s c → c ≡ kept.sum / 65536 % 2 → op ≡ Dadd → nothing? last' ≡ bit_of 1 x.psw
        → Worked op x.value (λ p. held p last' (x.psw * 65536) kept.over)
    unfolding alu_of
    sums {c} m ec e z =
        let w = width_of byte in
        let b = low w s in
        let t : ℕ → Decimal = λ k. decimal_sum (w / 4) (low w d) b k in
        let carried = eqb (t (carry_of c)).carry 1 in
        let none = eqb (t (carry_of c)).value 0 in
        let q = put_bit 0 c carried in
        let o : x ≡ decimal w d b c = m ∙ is e c in
        let f : x.psw ≡ put_bit 1 q none = ap (λ (y : Computed). y.psw) o in
        let one : x.psw * 65536 / 65536 ≡ x.psw / 1 = omega arith in
        let fc : bit_of 16 (x.psw * 65536) ≡ carried =
        ap (λ (y : ℕ). eqb (y % 2) 1) one ∙ ap (bit_of 0) f ∙ put_other 0 1 q none (omega arith) ∙ put_same 0 c carried in
        let fz : nothing? last' ≡ none = z ∙ ap (bit_of 1) f ∙ put_same 1 q none in
        let digit : carry_of c ≡ kept.sum / 65536 % 2 = omega (arith, ec) in
        let g : (p : ℕ) → carry_of c ≡ carry_of (held_in p kept) = λ p. digit ∙ held-carry-of kept p in
        worked e (λ p. decimal w d b (held_in p kept)) (λ p. refl)
        (λ p. ap (λ (y : Computed). y.value) o ∙ ap (λ (k : ℕ). with_low w d (t k).value) (g p))
        (λ p. sym
        (ap (λ (y : ℕ). put_bit 1 y none) (held-put-carry p kept.last kept.sum kept.over (x.psw * 65536) carried fc)
        ∙ held-put-zero p kept.last (x.psw * 65536) kept.over last' none fz same)
        ∙ ap (λ (k : ℕ). put_bit 1 (put_bit 0 (held_in p kept) (eqb (t k).carry 1)) (eqb (t k).value 0)) (g p))

    pub clears : {r : ℕ} → x ≡ alu_of op (width_of byte) d s 0 → op ≡ Bic → r ≡ low (width_of byte) x.value → nothing? last' ≡ eqb r 0
        → Worked op x.value (λ p. held p last' kept.sum kept.over)
    unfolding alu_of
    clears {r} m e l z =
        let w = width_of byte in
        let v = bit_and (low w d) (turned w (mask_of w s)) in
        let f : x.value ≡ with_low w d v = ap (λ (y : Computed). y.value) (m ∙ is e 0) in
        let fits : v < 2 ^ w = lt_of_le_of_lt (and_le_l (low w d) (turned w (mask_of w s))) (low-lt w d) in
        let g : r ≡ v = l ∙ ap (low w) f ∙ with-low-same w d v fits in
        worked e (λ p. alu_of Bic w d s (held_in p kept)) (λ p. refl) (λ p. f)
        (λ p. sym (held-put-zero p kept.last kept.sum kept.over last' (eqb v 0) (z ∙ ap (λ (y : ℕ). eqb y 0) g) same))

    pub raises : x ≡ alu_of op (width_of byte) d s 0 → op ≡ Bis → nothing? last' ≡ false
        → Worked op x.value (λ p. held p last' kept.sum kept.over)
    unfolding alu_of
    raises m e z =
        worked e (λ p. alu_of Bis (width_of byte) d s (held_in p kept)) (λ p. refl) (λ p. ap (λ (y : Computed). y.value) (m ∙ is e 0))
        (λ p. sym (held-put-zero p kept.last kept.sum kept.over last' false z same))

  module _ {op : Op} {x : Computed} (m : x ≡ alu_of op (width_of byte) d s 0) where
    pub swaps : op ≡ Swpb → Worked op x.value (λ p. held_in p kept)
    unfolding alu_of
    swaps e =
        worked e (λ p. alu_of Swpb (width_of byte) d s (held_in p kept)) (λ p. refl)
        (λ p. ap (λ (y : Computed). y.value) (m ∙ is e 0))
        (λ p. refl)

    pub extends : op ≡ Sxt → Worked op x.value (λ p. held_in p kept)
    unfolding alu_of
    extends e =
        worked e (λ p. alu_of Sxt (width_of byte) d s (held_in p kept)) (λ p. refl) (λ p. ap (λ (y : Computed). y.value) (m ∙ is e 0))
        (λ p. refl)

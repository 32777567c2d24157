-- What the layers above cite of flags that are kept. A PSW is its bits from 5 on, SLP, and the four flags; `held` changes the four alone,
-- so two PSWs are compared by these six parts. Assumes nothing.
use mathlib.Core.Path.{◌≡◌, refl, sym, ap, ◌∙◌}
use mathlib.Core.Bool.{Bool, true, false, not}
use Prim.Native.Nat.{ℕ, zero, suc, ◌+◌, ◌-◌, ◌*◌, ◌/◌, ◌%◌, ◌^◌, ◌<◌}
use native.Mathlib.Omega.{arith}
use lib.Dec.{eqb}
use lib.Pow.{shr-shr, field, mod-mod-pow}
use Rattle.word.specs.Width.{bit}
use Rattle.word.specs.Psw.{bit_of, put_bit, carry?, zero?, negative?, overflow?, asleep?, faulted?, current, previous}
use Rattle.word.proofs.Laws.{bit_le, bit-read, bit-back, put-above, put_same, put_other, same-fits, same_above}
use Rattle.machine.specs.Effect.{put_current}
use Rattle.flags.specs.Kept.{nothing?, minus?, flagged, held}

-- ---- bits below 5

-- are those of the remainder
pub same-below : (k a b : ℕ) → k < 5 → a % 32 ≡ b % 32 → bit_of k a ≡ bit_of k b
same-below k a b h e =
    let j = 4 - k in
    let five : j + 1 + k ≡ 5 = omega arith in
    let cut : (x : ℕ) → x % 32 / 2 ^ k % 2 ≡ x / 2 ^ k % 2 =
    λ x. ap (λ (n : ℕ). x % 2 ^ n / 2 ^ k % 2) (sym five) ∙ ap (λ (q : ℕ). q % 2) (field x (j + 1) k) ∙ mod-mod-pow (x / 2 ^ k) j 1 in
    ap (λ (q : ℕ). eqb q 1) (sym (cut a) ∙ ap (λ (q : ℕ). q / 2 ^ k % 2) e ∙ cut b)

-- ---- the six parts of a PSW

step : (a b : ℕ) → a / 2 ≡ b / 2 → a % 2 ≡ b % 2 → a ≡ b
step a b e f = omega arith

-- one bit more
grow : (k a b : ℕ) → a / 2 ^ (k + 1) ≡ b / 2 ^ (k + 1) → bit_of k a ≡ bit_of k b → a / 2 ^ k ≡ b / 2 ^ k
grow k a b e f =
    let digit : (x : ℕ) → bit (bit_of k x) ≡ x / 2 ^ k % 2 = λ x. bit-back (x / 2 ^ k % 2) (omega arith) in
    step (a / 2 ^ k) (b / 2 ^ k) (shr-shr a k 1 ∙ e ∙ sym (shr-shr b k 1)) (sym (digit a) ∙ ap bit f ∙ digit b)

pub same_parts : (a b : ℕ) → a / 32 ≡ b / 32 → asleep? a ≡ asleep? b → carry? a ≡ carry? b → zero? a ≡ zero? b
    → negative? a ≡ negative? b → overflow? a ≡ overflow? b → a ≡ b
same_parts a b h s c z n v =
    let one : (x : ℕ) → x / 1 ≡ x = λ x. omega arith in
    sym (one a) ∙ grow 0 a b (grow 1 a b (grow 2 a b (grow 3 a b (grow 4 a b h v) s) n) z) c ∙ one b

module _ (p : ℕ) (c z n v : Bool) where
  pub flagged-above : flagged p c z n v / 32 ≡ p / 32
  flagged-above =
      put-above 4 (put_bit 2 (put_bit 1 (put_bit 0 p c) z) n) v 5 (omega arith)
      ∙ put-above 2 (put_bit 1 (put_bit 0 p c) z) n 5 (omega arith)
      ∙ put-above 1 (put_bit 0 p c) z 5 (omega arith) ∙ put-above 0 p c 5 (omega arith)

  pub flagged-asleep : asleep? (flagged p c z n v) ≡ asleep? p
  flagged-asleep =
      put_other 3 4 (put_bit 2 (put_bit 1 (put_bit 0 p c) z) n) v (omega arith)
      ∙ put_other 3 2 (put_bit 1 (put_bit 0 p c) z) n (omega arith)
      ∙ put_other 3 1 (put_bit 0 p c) z (omega arith) ∙ put_other 3 0 p c (omega arith)

  pub flagged-carry : carry? (flagged p c z n v) ≡ c
  flagged-carry =
      put_other 0 4 (put_bit 2 (put_bit 1 (put_bit 0 p c) z) n) v (omega arith)
      ∙ put_other 0 2 (put_bit 1 (put_bit 0 p c) z) n (omega arith) ∙ put_other 0 1 (put_bit 0 p c) z (omega arith) ∙ put_same 0 p c

  pub flagged-zero : zero? (flagged p c z n v) ≡ z
  flagged-zero =
      put_other 1 4 (put_bit 2 (put_bit 1 (put_bit 0 p c) z) n) v (omega arith)
      ∙ put_other 1 2 (put_bit 1 (put_bit 0 p c) z) n (omega arith) ∙ put_same 1 (put_bit 0 p c) z

  pub flagged-negative : negative? (flagged p c z n v) ≡ n
  flagged-negative =
      put_other 2 4 (put_bit 2 (put_bit 1 (put_bit 0 p c) z) n) v (omega arith) ∙ put_same 2 (put_bit 1 (put_bit 0 p c) z) n

  pub flagged-overflow : overflow? (flagged p c z n v) ≡ v
  flagged-overflow = put_same 4 (put_bit 2 (put_bit 1 (put_bit 0 p c) z) n) v

  -- what has these six parts is that PSW
  pub same-flagged : (q : ℕ) → q / 32 ≡ p / 32 → asleep? q ≡ asleep? p → carry? q ≡ c → zero? q ≡ z → negative? q ≡ n
      → overflow? q ≡ v → q ≡ flagged p c z n v
  same-flagged q h s fc fz fn fv =
      same_parts q (flagged p c z n v) (h ∙ sym flagged-above) (s ∙ sym flagged-asleep) (fc ∙ sym flagged-carry)
      (fz ∙ sym flagged-zero) (fn ∙ sym flagged-negative) (fv ∙ sym flagged-overflow)

-- ---- one flag put, and all four

-- a flag put leaves the other parts
put-part : (j k q : ℕ) (b : Bool) {x : Bool} → (j ≡ k → ⊥) → bit_of j q ≡ x → bit_of j (put_bit k q b) ≡ x
put-part j k q b h e = put_other j k q b h ∙ e

module _ (p : ℕ) (c z n v b : Bool) where
  pub flagged-put-carry : put_bit 0 (flagged p c z n v) b ≡ flagged p b z n v
  flagged-put-carry =
      let q = flagged p c z n v in
      same-flagged p b z n v (put_bit 0 q b) (put-above 0 q b 5 (omega arith) ∙ flagged-above p c z n v)
      (put-part 3 0 q b (omega arith) (flagged-asleep p c z n v)) (put_same 0 q b)
      (put-part 1 0 q b (omega arith) (flagged-zero p c z n v)) (put-part 2 0 q b (omega arith) (flagged-negative p c z n v))
      (put-part 4 0 q b (omega arith) (flagged-overflow p c z n v))

  pub flagged-put-zero : put_bit 1 (flagged p c z n v) b ≡ flagged p c b n v
  flagged-put-zero =
      let q = flagged p c z n v in
      same-flagged p c b n v (put_bit 1 q b) (put-above 1 q b 5 (omega arith) ∙ flagged-above p c z n v)
      (put-part 3 1 q b (omega arith) (flagged-asleep p c z n v)) (put-part 0 1 q b (omega arith) (flagged-carry p c z n v))
      (put_same 1 q b) (put-part 2 1 q b (omega arith) (flagged-negative p c z n v))
      (put-part 4 1 q b (omega arith) (flagged-overflow p c z n v))

  pub flagged-put-negative : put_bit 2 (flagged p c z n v) b ≡ flagged p c z b v
  flagged-put-negative =
      let q = flagged p c z n v in
      same-flagged p c z b v (put_bit 2 q b) (put-above 2 q b 5 (omega arith) ∙ flagged-above p c z n v)
      (put-part 3 2 q b (omega arith) (flagged-asleep p c z n v)) (put-part 0 2 q b (omega arith) (flagged-carry p c z n v))
      (put-part 1 2 q b (omega arith) (flagged-zero p c z n v)) (put_same 2 q b)
      (put-part 4 2 q b (omega arith) (flagged-overflow p c z n v))

  pub flagged-put-overflow : put_bit 4 (flagged p c z n v) b ≡ flagged p c z n b
  flagged-put-overflow =
      let q = flagged p c z n v in
      same-flagged p c z n b (put_bit 4 q b) (put-above 4 q b 5 (omega arith) ∙ flagged-above p c z n v)
      (put-part 3 4 q b (omega arith) (flagged-asleep p c z n v)) (put-part 0 4 q b (omega arith) (flagged-carry p c z n v))
      (put-part 1 4 q b (omega arith) (flagged-zero p c z n v)) (put-part 2 4 q b (omega arith) (flagged-negative p c z n v))
      (put_same 4 q b)

-- flags put over flags
pub flagged-again : (p : ℕ) (c z n v c' z' n' v' : Bool) → flagged (flagged p c z n v) c' z' n' v' ≡ flagged p c' z' n' v'
flagged-again p c z n v c' z' n' v' =
    let q = flagged p c z n v in
    same-flagged p c' z' n' v' (flagged q c' z' n' v') (flagged-above q c' z' n' v' ∙ flagged-above p c z n v)
    (flagged-asleep q c' z' n' v' ∙ flagged-asleep p c z n v) (flagged-carry q c' z' n' v') (flagged-zero q c' z' n' v')
    (flagged-negative q c' z' n' v') (flagged-overflow q c' z' n' v')

-- its own flags put into a PSW
pub flagged-own : (p : ℕ) {c z n v : Bool} → carry? p ≡ c → zero? p ≡ z → negative? p ≡ n → overflow? p ≡ v → flagged p c z n v ≡ p
flagged-own p {c} {z} {n} {v} fc fz fn fv = sym (same-flagged p c z n v p refl refl fc fz fn fv)

-- ---- the PSW with its flags as they are kept

module _ (p last sum over : ℕ) where
  pub held-above : held p last sum over / 32 ≡ p / 32
  unfolding held
  held-above = flagged-above p (bit_of 16 sum) (nothing? last) (minus? last) (bit_of 15 over)

  pub held-asleep : asleep? (held p last sum over) ≡ asleep? p
  unfolding held
  held-asleep = flagged-asleep p (bit_of 16 sum) (nothing? last) (minus? last) (bit_of 15 over)

  pub held-faulted : faulted? (held p last sum over) ≡ faulted? p
  held-faulted = ap (λ (x : ℕ). eqb (x % 2) 1) (same_above (held p last sum over) p 5 8 (omega arith) held-above)

  pub held-current : current (held p last sum over) ≡ current p
  held-current = ap (λ (x : ℕ). x % 8) held-above

  pub held-previous : previous (held p last sum over) ≡ previous p
  held-previous = ap (λ (x : ℕ). x % 8) (same_above (held p last sum over) p 5 13 (omega arith) held-above)

  pub held-lt : p < 65536 → held p last sum over < 65536
  held-lt h = same-fits (held p last sum over) p 16 (same_above (held p last sum over) p 5 16 (omega arith) held-above) h

  pub held-carry : carry? (held p last sum over) ≡ bit_of 16 sum
  unfolding held
  held-carry = flagged-carry p (bit_of 16 sum) (nothing? last) (minus? last) (bit_of 15 over)

  pub held-zero : zero? (held p last sum over) ≡ nothing? last
  unfolding held
  held-zero = flagged-zero p (bit_of 16 sum) (nothing? last) (minus? last) (bit_of 15 over)

  pub held-negative : negative? (held p last sum over) ≡ minus? last
  unfolding held
  held-negative = flagged-negative p (bit_of 16 sum) (nothing? last) (minus? last) (bit_of 15 over)

  pub held-overflow : overflow? (held p last sum over) ≡ bit_of 15 over
  unfolding held
  held-overflow = flagged-overflow p (bit_of 16 sum) (nothing? last) (minus? last) (bit_of 15 over)

  -- other flags kept, over these
  pub held-held : (last' sum' over' : ℕ) → held (held p last sum over) last' sum' over' ≡ held p last' sum' over'
  unfolding held
  held-held last' sum' over' =
      flagged-again p (bit_of 16 sum) (nothing? last) (minus? last) (bit_of 15 over) (bit_of 16 sum') (nothing? last') (minus? last')
      (bit_of 15 over')

  -- one flag put
  pub held-put-carry : (sum' : ℕ) (b : Bool) → bit_of 16 sum' ≡ b → put_bit 0 (held p last sum over) b ≡ held p last sum' over
  unfolding held
  held-put-carry sum' b e =
      flagged-put-carry p (bit_of 16 sum) (nothing? last) (minus? last) (bit_of 15 over) b
      ∙ λ i. flagged p (sym e i) (nothing? last) (minus? last) (bit_of 15 over)

  pub held-put-zero : (last' : ℕ) (b : Bool) → nothing? last' ≡ b → minus? last' ≡ minus? last
      → put_bit 1 (held p last sum over) b ≡ held p last' sum over
  unfolding held
  held-put-zero last' b e f =
      flagged-put-zero p (bit_of 16 sum) (nothing? last) (minus? last) (bit_of 15 over) b
      ∙ λ i. flagged p (bit_of 16 sum) (sym e i) (sym f i) (bit_of 15 over)

  -- Z and N of another result
  pub held_two : (last' : ℕ) (z n : Bool) → nothing? last' ≡ z → minus? last' ≡ n
      → held p last' sum over ≡ put_bit 2 (put_bit 1 (held p last sum over) z) n
  unfolding held
  held_two last' z n ez en =
      (λ i. flagged p (bit_of 16 sum) (ez i) (en i) (bit_of 15 over))
      ∙ sym
      (ap (λ (q : ℕ). put_bit 2 q n) (flagged-put-zero p (bit_of 16 sum) (nothing? last) (minus? last) (bit_of 15 over) z)
      ∙ flagged-put-negative p (bit_of 16 sum) z (minus? last) (bit_of 15 over) n)

  -- the four flags of a sum
  pub held-four : (last' sum' over' : ℕ) (c z n v : Bool) → bit_of 16 sum' ≡ c → nothing? last' ≡ z → minus? last' ≡ n
      → bit_of 15 over' ≡ v → held p last' sum' over' ≡ flagged (held p last sum over) c z n v
  unfolding held
  held-four last' sum' over' c z n v ec ez en ev =
      (λ i. flagged p (ec i) (ez i) (en i) (ev i))
      ∙ sym (flagged-again p (bit_of 16 sum) (nothing? last) (minus? last) (bit_of 15 over) c z n v)

-- ---- another priority

module _ (q p level : ℕ) where
  priority-above : q / 32 ≡ p / 32 → put_current q level / 32 ≡ put_current p level / 32
  priority-above e = let f : q / 256 ≡ p / 256 = same_above q p 5 8 (omega arith) e in omega arith

-- bits below 5 stay
below-priority : (k p level : ℕ) → k < 5 → bit_of k (put_current p level) ≡ bit_of k p
below-priority k p level h = same-below k (put_current p level) p h (omega arith)

pub held-put-current : (p last sum over level : ℕ) → put_current (held p last sum over) level ≡ held (put_current p level) last sum over
unfolding held
held-put-current p last sum over level =
    let c = bit_of 16 sum in
    let z = nothing? last in
    let n = minus? last in
    let v = bit_of 15 over in
    let q = flagged p c z n v in
    same-flagged (put_current p level) c z n v (put_current q level) (priority-above q p level (flagged-above p c z n v))
    (below-priority 3 q level (omega arith) ∙ flagged-asleep p c z n v ∙ sym (below-priority 3 p level (omega arith)))
    (below-priority 0 q level (omega arith) ∙ flagged-carry p c z n v) (below-priority 1 q level (omega arith) ∙ flagged-zero p c z n v)
    (below-priority 2 q level (omega arith) ∙ flagged-negative p c z n v)
    (below-priority 4 q level (omega arith) ∙ flagged-overflow p c z n v)

-- ---- flags put together, and taken apart

-- each digit of a sum of the six parts
digits : (h v s n z c q : ℕ) → v < 2 → s < 2 → n < 2 → z < 2 → c < 2 → q ≡ h * 32 + v * 16 + s * 8 + n * 4 + z * 2 + c
    → (q / 32 ≡ h) × (q / 16 % 2 ≡ v) × (q / 8 % 2 ≡ s) × (q / 4 % 2 ≡ n) × (q / 2 % 2 ≡ z) × (q / 1 % 2 ≡ c)
digits h v s n z c q hv hs hn hz hc e =
    (omega arith, omega arith, omega arith, omega arith, omega arith, omega arith)

pub held-together : (p last sum over : ℕ)
    → p / 32 * 32 + over / 32768 % 2 * 16 + p / 8 % 2 * 8 + bit (minus? last) * 4 + bit (nothing? last) * 2 + sum / 65536 % 2
    ≡ held p last sum over
unfolding held
held-together p last sum over =
    let v = over / 32768 % 2 in
    let s = p / 8 % 2 in
    let n = bit (minus? last) in
    let z = bit (nothing? last) in
    let c = sum / 65536 % 2 in
    let q = p / 32 * 32 + v * 16 + s * 8 + n * 4 + z * 2 + c in
    let d =
    digits (p / 32) v s n z c q (omega arith) (omega arith) (omega (arith, bit_le (minus? last)))
    (omega (arith, bit_le (nothing? last))) (omega arith) refl in
    let test : ℕ → Bool = λ x. eqb x 1 in
    same-flagged p (bit_of 16 sum) (nothing? last) (minus? last) (bit_of 15 over) q d.0 (ap test d.2) (ap test d.5)
    (ap test d.4 ∙ bit-read (nothing? last)) (ap test d.3 ∙ bit-read (minus? last)) (ap test d.1)

-- a result of which Z and N are these
pub marks-zero : (z n : Bool) → nothing? (bit (not z) + bit n * 262144) ≡ z
marks-zero true true = refl
marks-zero true false = refl
marks-zero false true = refl
marks-zero false false = refl

pub marks-negative : (z n : Bool) → minus? (bit (not z) + bit n * 262144) ≡ n
marks-negative true true = refl
marks-negative true false = refl
marks-negative false true = refl
marks-negative false false = refl

-- of a PSW's Z and N
apart_marks : (z n : ℕ) → z < 2 → n < 2 → (nothing? (2 - z * 2 + n * 262144) ≡ eqb z 1) × (minus? (2 - z * 2 + n * 262144) ≡ eqb n 1)
apart_marks zero zero hz hn = (refl, refl)
apart_marks zero (suc zero) hz hn = (refl, refl)
apart_marks (suc zero) zero hz hn = (refl, refl)
apart_marks (suc zero) (suc zero) hz hn = (refl, refl)
apart_marks (suc (suc z)) n hz hn = absurd (omega arith)
apart_marks zero (suc (suc n)) hz hn = absurd (omega arith)
apart_marks (suc zero) (suc (suc n)) hz hn = absurd (omega arith)

pub held-apart : (p : ℕ) → held p (2 - p / 2 % 2 * 2 + p / 4 % 2 * 262144) (p * 65536) (p * 2048) ≡ p
unfolding held
held-apart p =
    let c : p / 1 % 2 ≡ p * 65536 / 65536 % 2 = omega arith in
    let e = apart_marks (p / 2 % 2) (p / 4 % 2) (omega arith) (omega arith) in
    let w : p * 2048 / 2048 ≡ p = omega arith in
    let v : p / 16 % 2 ≡ p * 2048 / 32768 % 2 =
    ap (λ (x : ℕ). x / 16 % 2) (sym w) ∙ ap (λ (x : ℕ). x % 2) (shr-shr (p * 2048) 11 4) in
    let test : ℕ → Bool = λ x. eqb x 1 in
    flagged-own p (ap test c) (sym e.0) (sym e.1) (ap test v)

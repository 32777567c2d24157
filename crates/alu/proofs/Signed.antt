-- Numbers with a sign as differences of two naturals: how such differences add, when one lies from -h to h - 1, and that
-- the rule of V, which looks at three signs, says exactly that the sum does not. Assumes nothing.
use mathlib.Core.Path.{◌≡◌, refl, sym, ap, ◌∙◌}
use mathlib.Core.Bool.{Bool, true, false, not}
use mathlib.Core.Logic.{⊎_elim}
use Prim.Native.Nat.{ℕ, zero, suc, ◌+◌, ◌-◌, ◌%◌, ◌≤◌, ◌<◌}
use native.Mathlib.Nat.{sub-zero, add-zero, mod-eq_of_lt, mod-eq-sub-mod}
use native.Mathlib.Omega.{arith}
use lib.Dec.{leb}
use lib.IntN.{ℤ, pos, negsuc, sub_ℕ, neg_ℤ, ◌+ℤ◌, ◌-ℤ◌, +ℤ_assoc, +ℤ_comm, neg_ℤ-+ℤ, neg_ℤ-neg_ℤ, +ℤ_idr}
use borrow.Author.Tests.{lt-ltb, le-ltb, le-leb, lt-leb}
use Rattle.word.specs.Offset.{signed_of, off_fits}
use Rattle.word.proofs.Laws.{order}
use Rattle.alu.specs.Sums.{differs}

-- the difference of two naturals, by their order
sub-up : (p q : ℕ) → q ≤ p → sub_ℕ p q ≡ pos (p - q)
sub-up p q h = rw (le-ltb p q h)

sub-down : (p q : ℕ) → p < q → sub_ℕ p q ≡ negsuc (q - suc p)
sub-down p q h = rw (lt-ltb p q h)

pub whole : (n : ℕ) → pos n ≡ sub_ℕ n 0
whole n = sym (sub-up n 0 (omega arith) ∙ ap pos (sub-zero n))

-- equal differences
pub sub_same : (p q r s : ℕ) → p + s ≡ r + q → sub_ℕ p q ≡ sub_ℕ r s
sub_same p q r s e =
    ⊎_elim (λ (h : q ≤ p). let k : s ≤ r = omega arith in
    let d : p - q ≡ r - s = omega arith in
    sub-up p q h ∙ ap pos d ∙ sym (sub-up r s k))
    (λ (h : p < q). let k : r < s = omega arith in
    let d : q - suc p ≡ s - suc r = omega arith in
    sub-down p q h ∙ ap negsuc d ∙ sym (sub-down r s k)) (order q p)

-- a difference as a sum
as-sum : (p q : ℕ) → sub_ℕ p q ≡ pos p -ℤ pos q
as-sum p zero = sym (whole p) ∙ sym (+ℤ_idr (pos p))
as-sum p (suc q) = refl

four : (a b c d : ℤ) → a +ℤ b +ℤ (c +ℤ d) ≡ a +ℤ c +ℤ (b +ℤ d)
four a b c d =
    +ℤ_assoc a b (c +ℤ d)
    ∙ ap (λ (x : ℤ). a +ℤ x) (sym (+ℤ_assoc b c d) ∙ ap (λ (x : ℤ). x +ℤ d) (+ℤ_comm b c) ∙ +ℤ_assoc c b d)
    ∙ sym (+ℤ_assoc a c (b +ℤ d))

pub sub-add : (p q r s : ℕ) → sub_ℕ p q +ℤ sub_ℕ r s ≡ sub_ℕ (p + r) (q + s)
sub-add p q r s =
    ap (λ (x : ℤ). x +ℤ sub_ℕ r s) (as-sum p q) ∙ ap (λ (x : ℤ). pos p -ℤ pos q +ℤ x) (as-sum r s)
    ∙ four (pos p) (neg_ℤ (pos q)) (pos r) (neg_ℤ (pos s))
    ∙ ap (λ (x : ℤ). pos (p + r) +ℤ x) (sym (neg_ℤ-+ℤ (pos q) (pos s)))
    ∙ sym (as-sum (p + r) (q + s))

pub sub-neg : (p q : ℕ) → neg_ℤ (sub_ℕ p q) ≡ sub_ℕ q p
sub-neg p q =
    ap neg_ℤ (as-sum p q) ∙ neg_ℤ-+ℤ (pos p) (neg_ℤ (pos q))
    ∙ ap (λ (x : ℤ). neg_ℤ (pos p) +ℤ x) (neg_ℤ-neg_ℤ (pos q))
    ∙ +ℤ_comm (neg_ℤ (pos p)) (pos q)
    ∙ sym (as-sum q p)

-- the reading of a number below 2 × h, by its top bit
pub signed_low : (h n : ℕ) → n < h → signed_of h n ≡ sub_ℕ n 0
signed_low h n l = rw (lt-ltb n h l) (whole n)

pub signed_high : (h n : ℕ) → h ≤ n → n < h + h → signed_of h n ≡ sub_ℕ n (h + h)
signed_high h n l k = rw (le-ltb n h l) (sym (sub-down n (h + h) k))

-- whether a difference lies from -h to h - 1
pub fits_in : (h p q : ℕ) → q ≤ p + h → p < q + h → off_fits h (sub_ℕ p q) ≡ true
fits_in h p q l k =
    ⊎_elim (λ (o : q ≤ p). ap (off_fits h) (sub-up p q o) ∙ lt-ltb (p - q) h (omega arith))
    (λ (o : p < q). ap (off_fits h) (sub-down p q o) ∙ lt-ltb (q - suc p) h (omega arith)) (order q p)

pub fits-past : (h p q : ℕ) → q + h ≤ p → off_fits h (sub_ℕ p q) ≡ false
fits-past h p q l = ap (off_fits h) (sub-up p q (omega arith)) ∙ le-ltb (p - q) h (omega arith)

pub fits_under : (h p q : ℕ) → p + h < q → off_fits h (sub_ℕ p q) ≡ false
fits_under h p q l = ap (off_fits h) (sub-down p q (omega arith)) ∙ le-ltb (q - suc p) h (omega arith)

-- ---- V

-- the sum of two readings and a carry
total : (p q r s c : ℕ) {x y : ℤ} → x ≡ sub_ℕ p q → y ≡ sub_ℕ r s → x +ℤ y +ℤ pos c ≡ sub_ℕ (p + r + c) (q + s)
total p q r s c {x} {y} d e =
    ap (λ (z : ℤ). z +ℤ y +ℤ pos c) d ∙ ap (λ (z : ℤ). sub_ℕ p q +ℤ z +ℤ pos c) e
    ∙ ap (λ (z : ℤ). z +ℤ pos c) (sub-add p q r s) ∙ ap (λ (z : ℤ). sub_ℕ (p + r) (q + s) +ℤ z) (whole c)
    ∙ sub-add (p + r) (q + s) c 0 ∙ ap (sub_ℕ (p + r + c)) (add-zero (q + s))

module _ (h m a b c : ℕ) (e : h + h ≡ m) (ha : a < m) (hb : b < m) (hc : c ≤ 1) where
  abbrev flag : Bool
  flag = differs (leb h a) (leb h b) (leb h ((a + b + c) % m))

  abbrev leaves : Bool
  leaves = not (off_fits h (signed_of h a +ℤ signed_of h b +ℤ pos c))

  both-low : a < h → b < h → flag ≡ leaves
  both-low p q =
      let s : signed_of h a +ℤ signed_of h b +ℤ pos c ≡ sub_ℕ (a + b + c) 0 = total a 0 b 0 c (signed_low h a p) (signed_low h b q) in
      let r : (a + b + c) % m ≡ a + b + c = mod-eq_of_lt (omega arith) in
      ⊎_elim (λ (o : h ≤ a + b + c). simp (lt-leb h a p, lt-leb h b q, r, le-leb h (a + b + c) o)
      (sym (ap not (ap (off_fits h) s ∙ fits-past h (a + b + c) 0 (omega arith)))))
      (λ (o : a + b + c < h). simp (lt-leb h a p, lt-leb h b q, r, lt-leb h (a + b + c) o)
      (sym (ap not (ap (off_fits h) s ∙ fits_in h (a + b + c) 0 (omega arith) (omega arith))))) (order h (a + b + c))

  both_high : h ≤ a → h ≤ b → flag ≡ leaves
  both_high p q =
      let s : signed_of h a +ℤ signed_of h b +ℤ pos c ≡ sub_ℕ (a + b + c) (h + h + (h + h)) =
      total a (h + h) b (h + h) c (signed_high h a p (omega arith)) (signed_high h b q (omega arith)) in
      let o : m ≤ a + b + c = omega arith in
      let r : (a + b + c) % m ≡ a + b + c - m = mod-eq-sub-mod o ∙ mod-eq_of_lt (omega arith) in
      ⊎_elim (λ (k : h ≤ a + b + c - m). simp (le-leb h a p, le-leb h b q, r, le-leb h (a + b + c - m) k)
      (sym (ap not (ap (off_fits h) s ∙ fits_in h (a + b + c) (h + h + (h + h)) (omega arith) (omega arith)))))
      (λ (k : a + b + c - m < h). simp (le-leb h a p, le-leb h b q, r, lt-leb h (a + b + c - m) k)
      (sym (ap not (ap (off_fits h) s ∙ fits_under h (a + b + c) (h + h + (h + h)) (omega arith))))) (order h (a + b + c - m))

  high-low : h ≤ a → b < h → flag ≡ leaves
  high-low p q =
      let s : signed_of h a +ℤ signed_of h b +ℤ pos c ≡ sub_ℕ (a + b + c) (h + h + 0) =
      total a (h + h) b 0 c (signed_high h a p (omega arith)) (signed_low h b q) in
      simp (le-leb h a p, lt-leb h b q)
      (sym (ap not (ap (off_fits h) s ∙ fits_in h (a + b + c) (h + h + 0) (omega arith) (omega arith))))

  low-high : a < h → h ≤ b → flag ≡ leaves
  low-high p q =
      let s : signed_of h a +ℤ signed_of h b +ℤ pos c ≡ sub_ℕ (a + b + c) (0 + (h + h)) =
      total a 0 b (h + h) c (signed_low h a p) (signed_high h b q (omega arith)) in
      simp (lt-leb h a p, le-leb h b q)
      (sym (ap not (ap (off_fits h) s ∙ fits_in h (a + b + c) (0 + (h + h)) (omega arith) (omega arith))))

  pub overflow-by-sign : flag ≡ leaves
  overflow-by-sign =
      ⊎_elim (λ (p : h ≤ a). ⊎_elim (both_high p) (high-low p) (order h b))
      (λ (p : a < h). ⊎_elim (low-high p) (both-low p) (order h b)) (order h a)

-- a reading t - q and a carry, against another, x - r, taken away with a borrow
balance : (t q x r c : ℕ) {a b : ℤ} → a ≡ sub_ℕ t q → b ≡ sub_ℕ x r → t + c + (x + (1 - c)) ≡ r + q
    → a +ℤ pos c ≡ neg_ℤ b -ℤ pos (1 - c)
balance t q x r c {a} {b} d e k =
    ap (λ (z : ℤ). z +ℤ pos c) d ∙ ap (λ (z : ℤ). sub_ℕ t q +ℤ z) (whole c) ∙ sub-add t q c 0
    ∙ sub_same (t + c) (q + 0) (r + 0) (x + (1 - c)) (omega arith)
    ∙ sym
    (ap (λ (z : ℤ). neg_ℤ z -ℤ pos (1 - c)) e ∙ ap (λ (z : ℤ). z -ℤ pos (1 - c)) (sub-neg x r)
    ∙ ap (λ (z : ℤ). sub_ℕ r x -ℤ z) (whole (1 - c)) ∙ ap (λ (z : ℤ). sub_ℕ r x +ℤ z) (sub-neg (1 - c) 0)
    ∙ sub-add r x 0 (1 - c))

-- not x, read with its sign, is -x - 1: a sum with it and a carry c is the difference less 1 - c
pub turned-reading : (h m x c : ℕ) (y : ℤ) → h + h ≡ m → x < m → c ≤ 1
    → y +ℤ signed_of h (m - 1 - x) +ℤ pos c ≡ y -ℤ signed_of h x -ℤ pos (1 - c)
turned-reading h m x c y e hx hc =
    let k : signed_of h (m - 1 - x) +ℤ pos c ≡ neg_ℤ (signed_of h x) -ℤ pos (1 - c) =
    ⊎_elim (λ (o : h ≤ x).
    balance (m - 1 - x) 0 x (h + h) c (signed_low h (m - 1 - x) (omega arith)) (signed_high h x o (omega arith)) (omega arith))
    (λ (o : x < h).
    balance (m - 1 - x) (h + h) x 0 c (signed_high h (m - 1 - x) (omega arith) (omega arith)) (signed_low h x o) (omega arith))
    (order h x) in
    +ℤ_assoc y (signed_of h (m - 1 - x)) (pos c) ∙ ap (λ (z : ℤ). y +ℤ z) k
    ∙ sym (+ℤ_assoc y (neg_ℤ (signed_of h x)) (neg_ℤ (pos (1 - c))))

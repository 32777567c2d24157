-- Digits one by one; what writes one after the other leave. Assumes nothing.
use Prim.Native.Nat.{ℕ, zero, suc, ◌+◌, ◌-◌, ◌/◌, ◌%◌, ◌<◌, ◌≤◌}
use mathlib.Core.Path.{◌≡◌, refl, sym, ap, subst, ◌∙◌}
use mathlib.Core.List.{List, [], ◌∷◌, ◌++◌, append-nil, append_assoc}
use native.Mathlib.Numerals.{unary_clauses}
use native.Mathlib.Nat.{mod-eq_of_lt}
use native.Mathlib.Omega.{arith}
use lib.ListN.{take, drop}
use lib.Seq.{drop-drop}
use borrow.Author.Tests.{lt-ltb, le-ltb}
use Rattle.text.specs.Text.{glyph, hex_of, decimal_of, Puts}

-- no digits
pub hex-none : (x : List ℕ) (at k n : ℕ) → k ≡ 0 → Puts x at (hex_of k n) at x
unfolding hex_of
hex-none x at k n h = record { onward = omega arith; put = rw (h, append-nil); kept = refl }

pub hex-more : (k n : ℕ) → (k ≡ 0 → ⊥) → hex_of k n ≡ hex_of (k - 1) (n / 16) ++ (glyph (n % 16) ∷ [])
unfolding hex_of
hex-more zero n h = absurd (h refl)
hex-more (suc k) n h = simp unary_clauses

pub decimal-last : (k n : ℕ) → k ≡ 0 → decimal_of k n ≡ glyph (n % 10) ∷ []
unfolding decimal_of
decimal-last k n h = rw h

pub decimal-low : (k n : ℕ) → n < 10 → decimal_of k n ≡ glyph (n % 10) ∷ []
unfolding decimal_of
decimal-low zero n h = refl
decimal-low (suc k) n h = rw (lt-ltb n 10 h, mod-eq_of_lt h, lt-ltb n 10 h)

pub decimal-more : (k n : ℕ) → (k ≡ 0 → ⊥) → 10 ≤ n → decimal_of k n ≡ decimal_of (k - 1) (n / 10) ++ (glyph (n % 10) ∷ [])
unfolding decimal_of
decimal-more zero n h g = absurd (h refl)
decimal-more (suc k) n h g = rw (le-ltb n 10 g) (simp unary_clauses)

-- what agrees from a place on agrees from any later place on
later : (a b : ℕ) (x y : List ℕ) → a ≤ b → drop a x ≡ drop a y → drop b x ≡ drop b y
later a b x y h e =
    let q : a + (b - a) ≡ b = omega arith in
    ap (λ (n : ℕ). drop n x) (sym q)
    ∙ sym (drop-drop (b - a) a x)
    ∙ ap (λ (l : List ℕ). drop (b - a) l) e
    ∙ drop-drop (b - a) a y
    ∙ ap (λ (n : ℕ). drop n y) q

-- one text behind another is one text
pub puts-then : {x y z s t : List ℕ} {a b c : ℕ} → Puts x a s b y → Puts y b t c z → Puts x a (s ++ t) c z
puts-then {x = x} {y = y} {z = z} {s = s} {t = t} {a = a} {b = b} {c = c} p q = record {
  onward = (let h = p.onward in let k = q.onward in omega arith);
  put = q.put ∙ ap (λ (l : List ℕ). l ++ t) p.put ∙ append_assoc (take a x) s t;
  kept = q.kept ∙ later b c y x q.onward p.kept;
}

-- another spelling of the text
pub puts-same : {x y s t : List ℕ} {a b : ℕ} → Puts x a s b y → s ≡ t → Puts x a t b y
puts-same {x = x} {y = y} {a = a} {b = b} p e = subst (λ (l : List ℕ). Puts x a l b y) e p

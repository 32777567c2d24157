-- Laws of the lines of a text: how they go on at a place, and the lines of a text that was made of lines.
-- Assumes nothing.
use Prim.Native.Nat.{ℕ, suc, ◌+◌, ◌-◌, ◌≤◌, ◌<◌}
use mathlib.Core.Path.{◌≡◌, refl, sym, ap, ◌∙◌}
use mathlib.Core.Bool.{Bool, true, false, cond, ◌&&◌, and-false, false≢true}
use mathlib.Core.List.{List, [], ◌∷◌, ◌++◌, append-nil}
use native.Mathlib.Numerals.{add-one}
use native.Mathlib.Omega.{arith}
use lib.Dec.{eqb}
use lib.ListN.{length, take, drop, get_or, length-drop, length-take, drop_of_length-le}
use lib.Seq.{drop-cons, take-suc, get_or-drop, drop-drop}
use borrow.Author.Tests.{ne_eqb, eqb-true}
use Rattle.text_lines.specs.Lines.{starts_lf, starts_cr_lf, onto, lines_of, text_of, none, LineAt}

-- ---- bytes put before the first line

abbrev pub onto_all : List ℕ → List (List ℕ) → List (List ℕ)
onto_all [] ls = ls
onto_all (b ∷ p) ls = onto b (onto_all p ls)

onto-all-cons : (p l : List ℕ) (ls : List (List ℕ)) → onto_all p (l ∷ ls) ≡ (p ++ l) ∷ ls
onto-all-cons [] l ls = refl
onto-all-cons (b ∷ p) l ls = ap (onto b) (onto-all-cons p l ls)

onto-all-snoc : (p : List ℕ) (b : ℕ) (ls : List (List ℕ)) → onto_all (p ++ (b ∷ [])) ls ≡ onto_all p (onto b ls)
onto-all-snoc [] b ls = refl
onto-all-snoc (x ∷ p) b ls = ap (onto x) (onto-all-snoc p b ls)

onto-all-nil : (p : List ℕ) → 0 < length p → onto_all p [] ≡ p ∷ []
onto-all-nil [] h = let z : ⊥ = omega arith in absurd z
onto-all-nil (b ∷ []) h = refl
onto-all-nil (b ∷ x ∷ p) h = ap (onto b) (onto-all-nil (x ∷ p) (omega arith))

-- ---- the lines from a place on

lf-first : (t : List ℕ) → lines_of (10 ∷ t) ≡ [] ∷ lines_of t
unfolding lines_of
lf-first t = refl

crlf-first : (t : List ℕ) → starts_cr_lf t ≡ true → lines_of t ≡ [] ∷ lines_of (drop 2 t)
unfolding lines_of
crlf-first [] h = absurd (false≢true h)
crlf-first (b ∷ []) h = absurd (false≢true (sym (and-false (eqb b 13)) ∙ h))
crlf-first (b ∷ x ∷ t) h = go (eqb b 13) refl (eqb x 10) refl h
  where
    go : (p : Bool) → eqb b 13 ≡ p → (q : Bool) → eqb x 10 ≡ q → p && q ≡ true → lines_of (b ∷ x ∷ t) ≡ [] ∷ lines_of t
    go true e true f g = rw (eqb-true b 13 e, eqb-true x 10 f) refl
    go true e false f g = absurd (false≢true g)
    go false e q f g = absurd (false≢true g)

char-first : (b : ℕ) (t : List ℕ) → (b ≡ 10 → ⊥) → starts_cr_lf (b ∷ t) ≡ false → lines_of (b ∷ t) ≡ onto b (lines_of t)
unfolding lines_of
char-first b t h k = rw (ne_eqb b 10 h, k)

-- bytes from `at` up to i
abbrev pub part : List ℕ → ℕ → ℕ → List ℕ
part t at i = take (i - at) (drop at t)

-- the lines from `at` on are those from i on, after the bytes between
abbrev pub Scanned : List ℕ → ℕ → ℕ → Type 0
Scanned t at i = lines_of (drop at t) ≡ onto_all (part t at i) (lines_of (drop i t))

pub scan-start : (t : List ℕ) (at : ℕ) → Scanned t at at
scan-start t at = let e : at - at ≡ 0 = omega arith in rw e

part-more : (t : List ℕ) (at i : ℕ) → at ≤ i → i < length t → part t at (i + 1) ≡ part t at i ++ (get_or t i 0 ∷ [])
part-more t at i h k =
    let e : i + 1 - at ≡ suc (i - at) = omega arith in
    let f : at + (i - at) ≡ i = omega arith in
    let l : i - at < length (drop at t) = simp length-drop (omega arith) in
    rw (e, take-suc (drop at t) (i - at) 0 l, get_or-drop at t (i - at) 0, f)

pub scan-char : (t : List ℕ) (at i : ℕ) → at ≤ i → i < length t → (get_or t i 0 ≡ 10 → ⊥) → starts_cr_lf (drop i t) ≡ false
    → Scanned t at i → Scanned t at (i + 1)
scan-char t at i h k n r e =
    let here : drop i t ≡ get_or t i 0 ∷ drop (i + 1) t = rw add-one (drop-cons t i 0 k) in
    let go : lines_of (drop i t) ≡ onto (get_or t i 0) (lines_of (drop (i + 1) t)) =
    ap lines_of here ∙ char-first (get_or t i 0) (drop (i + 1) t) n (rw here at r) in
    e ∙ ap (onto_all (part t at i)) go ∙ sym (onto-all-snoc (part t at i) (get_or t i 0) (lines_of (drop (i + 1) t)))
    ∙ sym (ap (λ (p : List ℕ). onto_all p (lines_of (drop (i + 1) t))) (part-more t at i h k))

-- an ending at i: the line is what was passed
closed_at : (t : List ℕ) (at i j : ℕ) → Scanned t at i → lines_of (drop i t) ≡ [] ∷ lines_of (drop j t)
    → lines_of (drop at t) ≡ part t at i ∷ lines_of (drop j t)
closed_at t at i j e g =
    e ∙ ap (onto_all (part t at i)) g ∙ onto-all-cons (part t at i) [] (lines_of (drop j t))
    ∙ ap (λ (p : List ℕ). p ∷ lines_of (drop j t)) (append-nil (part t at i))

pub scan-lf : (t : List ℕ) (at i : ℕ) → at ≤ i → i < length t → get_or t i 0 ≡ 10 → Scanned t at i → LineAt t at i (i + 1)
scan-lf t at i h k b e =
    let here : drop i t ≡ 10 ∷ drop (i + 1) t = rw (add-one, drop-cons t i 0 k, b) refl in
    record {
      split = closed_at t at i (i + 1) e (ap lines_of here ∙ lf-first (drop (i + 1) t));
      from = h;
      to = omega arith;
      onward = omega arith;
      within = omega arith;
    }

crlf-long : (t : List ℕ) → starts_cr_lf t ≡ true → 2 ≤ length t
crlf-long [] h = absurd (false≢true h)
crlf-long (b ∷ []) h = absurd (false≢true (sym (and-false (eqb b 13)) ∙ h))
crlf-long (b ∷ x ∷ t) h = omega arith

pub scan-crlf : (t : List ℕ) (at i : ℕ) → at ≤ i → starts_cr_lf (drop i t) ≡ true → Scanned t at i → LineAt t at i (i + 2)
scan-crlf t at i h r e =
    let long : 2 ≤ length t - i = simp length-drop at (crlf-long (drop i t) r) in
    record {
      split = closed_at t at i (i + 2) e (rw drop-drop at (crlf-first (drop i t) r));
      from = h;
      to = omega arith;
      onward = omega arith;
      within = omega arith;
    }

pub scan-end : (t : List ℕ) (at i : ℕ) → at < length t → i ≡ length t → Scanned t at i → LineAt t at i i
unfolding lines_of
scan-end t at i h k e =
    let l : length (part t at i) ≡ i - at = simp (length-take, length-drop) (omega arith) in
    let rest : drop i t ≡ [] = rw k (lib.Seq.drop-length t) in
    let all : lines_of (drop at t) ≡ part t at i ∷ [] =
    e ∙ ap (λ (s : List ℕ). onto_all (part t at i) (lines_of s)) rest ∙ onto-all-nil (part t at i) (omega arith) in
    record {
      split = all ∙ sym (ap (λ (s : List ℕ). part t at i ∷ lines_of s) rest);
      from = omega arith;
      to = omega arith;
      onward = omega arith;
      within = omega arith;
    }

-- ---- no line is left exactly where no byte is left

pub lines_end : (t : List ℕ) (at : ℕ) → length t ≤ at → lines_of (drop at t) ≡ []
unfolding lines_of
lines_end t at h = ap lines_of (drop_of_length-le t {i = at} h)

onto-none : (b : ℕ) (ls : List (List ℕ)) → none (onto b ls) ≡ false
onto-none b [] = refl
onto-none b (l ∷ ls) = refl

pub lines_none : (t : List ℕ) → none (lines_of t) ≡ none t
unfolding lines_of
lines_none [] = refl
lines_none (b ∷ []) = go (eqb b 10) (eqb b 13)
  where
    go : (x y : Bool) → none (cond x ([] ∷ []) (cond (y && false) [] ((b ∷ []) ∷ []))) ≡ false
    go true y = refl
    go false true = refl
    go false false = refl
lines_none (b ∷ c ∷ t) = go (eqb b 10) (eqb b 13 && eqb c 10) (lines_none (c ∷ t))
  where
    go : (x y : Bool) → none (lines_of (c ∷ t)) ≡ false
        → none (cond x ([] ∷ lines_of (c ∷ t)) (cond y (lines_of (c ∷ t)) (onto b (lines_of (c ∷ t))))) ≡ false
    go true y e = refl
    go false true e = e
    go false false e = onto-none b (lines_of (c ∷ t))

-- ---- the lines of a text that was made of lines

-- no byte of a line is a control character
abbrev pub Plain : List ℕ → Type 0
Plain [] = Unit
Plain (b ∷ l) = (31 < b) × Plain l

abbrev pub AllPlain : List (List ℕ) → Type 0
AllPlain [] = Unit
AllPlain (l ∷ ls) = Plain l × AllPlain ls

plain-line : (l t : List ℕ) → Plain l → lines_of (l ++ (10 ∷ t)) ≡ l ∷ lines_of t
plain-line [] t h = lf-first t
plain-line (b ∷ l) t h =
    let low : 31 < b = h.0 in
    char-first b (l ++ (10 ∷ t)) (λ (e : b ≡ 10). omega arith)
    (ap (λ (x : Bool). x && starts_lf (l ++ (10 ∷ t))) (ne_eqb b 13 (λ (e : b ≡ 13). omega arith)))
    ∙ ap (onto b) (plain-line l t h.1)

pub lines-text : (ls : List (List ℕ)) → AllPlain ls → lines_of (text_of ls) ≡ ls
unfolding lines_of text_of
lines-text [] h = refl
lines-text (l ∷ ls) h = plain-line l (text_of ls) h.0 ∙ ap (λ (x : List (List ℕ)). l ∷ x) (lines-text ls h.1)

-- ---- CR LF at a place

pub crlf-none : (t : List ℕ) (i : ℕ) → i < length t → (get_or t i 0 ≡ 13 → ⊥) → false ≡ starts_cr_lf (drop i t)
crlf-none t i k n = rw (drop-cons t i 0 k, ne_eqb (get_or t i 0) 13 n)

pub crlf-last : (t : List ℕ) (i : ℕ) → i < length t → length t ≤ i + 1 → get_or t i 0 ≡ 13 → false ≡ starts_cr_lf (drop i t)
crlf-last t i k n e =
    let l : length t ≤ suc i = omega arith in
    rw (drop-cons t i 0 k, drop_of_length-le t {i = suc i} l, e)

pub crlf-two : (t : List ℕ) (i : ℕ) → i + 1 < length t → get_or t i 0 ≡ 13 → eqb (get_or t (i + 1) 0) 10 ≡ starts_cr_lf (drop i t)
crlf-two t i k e =
    let l : i < length t = omega arith in
    let m : suc i < length t = omega arith in
    rw (drop-cons t i 0 l, drop-cons t (suc i) 0 m, e, add-one) refl

-- Words that are spelled the same are the same: a word of at most six bytes is told by its spelling as one number.
-- Assumes nothing.
use mathlib.Core.Path.{◌≡◌, refl, sym, ap, ◌∙◌}
use mathlib.Core.Bool.{true, ◌&&◌}
use mathlib.Core.List.{List, [], ◌∷◌}
use Prim.Native.Nat.{ℕ, ◌+◌, ◌*◌, ◌^◌, ◌<◌, ◌≤◌, min}
use native.Mathlib.Omega.{arith}
use lib.Dec.{ltb, leb, eqb}
use lib.ListN.{length}
use borrow.Author.Tests.{ltb-true, ltb-false, eqb-true, eqb-false}
use Rattle.word.proofs.Laws.{bool_cases}
use Rattle.asm_text.specs.Text.{name_byte?, word, spelled, spelled_from}
use Rattle.asm_text.proofs.Laws.{both_true}

-- bytes other than 0
abbrev pub Bytes : List ℕ → Type 0
Bytes [] = Unit
Bytes (b ∷ l) = (1 ≤ b) × (b < 256) × Bytes l

-- the same number, never cut
number : ℕ → List ℕ → ℕ
number n [] = n
number n (b ∷ l) = number (n * 256 + b) l

cut-le : (l : List ℕ) (n : ℕ) → n ≤ 281474976710656 → n ≤ spelled_from n l
unfolding spelled_from
cut-le [] n h = omega arith
cut-le (b ∷ l) n h = let k = cut-le l (min (n * 256 + b) 281474976710656) (omega arith) in omega (arith, k)

uncut : (l : List ℕ) (n : ℕ) → n ≤ 281474976710656 → spelled_from n l < 281474976710656 → spelled_from n l ≡ number n l
unfolding spelled_from number
uncut [] n h k = refl
uncut (b ∷ l) n h k = bool_cases (ltb (n * 256 + b) 281474976710656)
    (λ q. let e : min (n * 256 + b) 281474976710656 ≡ n * 256 + b = omega (arith, ltb-true (n * 256 + b) 281474976710656 q) in
    ap (λ x. spelled_from x l) e ∙ uncut l (n * 256 + b) (omega (arith, ltb-true (n * 256 + b) 281474976710656 q)) (rw e at k))
    (λ q. let e : min (n * 256 + b) 281474976710656 ≡ 281474976710656 = omega (arith, ltb-false (n * 256 + b) 281474976710656 q) in
    let j : spelled_from 281474976710656 l < 281474976710656 = rw e at k in
    absurd (omega (arith, cut-le l 281474976710656 (omega arith), j)))

-- lists of one length, by their last bytes
same_length : (w v : List ℕ) (n m : ℕ) → Bytes w → Bytes v → length w ≡ length v → number n w ≡ number m v → (n ≡ m) × (w ≡ v)
unfolding number
same_length [] [] n m x y h e = (e, refl)
same_length [] (c ∷ v) n m x y h e = absurd (omega (arith, h))
same_length (b ∷ w) [] n m x y h e = absurd (omega (arith, h))
same_length (b ∷ w) (c ∷ v) n m x y h e =
    let r = same_length w v (n * 256 + b) (m * 256 + c) x.2 y.2 (omega (arith, h)) e in
    let k : b ≡ c = omega (arith, r.0, x.1, y.1) in
    (omega (arith, r.0, x.1, y.1), ap (λ z. z ∷ w) k ∙ ap (λ l. c ∷ l) r.1)

shorter : (w v : List ℕ) (m : ℕ) → Bytes w → Bytes v → length w < length v → number m v ≡ number 0 w → ⊥
unfolding number
shorter w [] m x y h e = absurd (omega (arith, h))
shorter w (c ∷ v) m x y h e = bool_cases (eqb (length v) (length w))
    (λ q. let r = same_length v w (m * 256 + c) 0 y.2 x (eqb-true (length v) (length w) q) e in omega (arith, r.0, y.0))
    (λ q. let d = eqb-false (length v) (length w) q in
    shorter w v (m * 256 + c) x y.2 (bool_cases (ltb (length w) (length v)) (λ z. ltb-true (length w) (length v) z)
    (λ z. let k : length v ≡ length w = omega (arith, h, ltb-false (length w) (length v) z) in absurd (d k))) e)

pub spelled-once : (w v : List ℕ) → Bytes w → Bytes v → spelled w ≡ spelled v → spelled w < 2 ^ 48 → w ≡ v
unfolding spelled
spelled-once w v x y e h =
    let n : number 0 w ≡ number 0 v =
    sym (uncut w 0 (omega arith) h) ∙ e ∙ uncut v 0 (omega arith) (omega (arith, e, h)) in
    bool_cases (ltb (length w) (length v))
    (λ q. absurd (shorter w v 0 x y (ltb-true (length w) (length v) q) (sym n))) (λ q. bool_cases (ltb (length v) (length w))
    (λ z. absurd (shorter v w 0 y x (ltb-true (length v) (length w) z) n))
    (λ z. (same_length w v 0 0 x y (omega (arith, ltb-false (length w) (length v) q, ltb-false (length v) (length w) z)) n).1))

name-range : (b : ℕ) → name_byte? b ≡ true → (1 ≤ b) × (b < 256)
unfolding name_byte?
name-range b h = bool_cases (leb 65 b && leb b 90)
    (λ q. let k = both_true 65 b 90 q in (omega (arith, k.0), omega (arith, k.1)))
    (λ q. let k = both_true 48 b 57 (rw q at h) in (omega (arith, k.0), omega (arith, k.1)))

word_bytes : (l : List ℕ) → Bytes (word l)
unfolding word
word_bytes [] = tt
word_bytes (b ∷ l) = bool_cases (name_byte? b)
    (λ q. let r = name-range b q in rw q (r.0, r.1, word_bytes l)) (λ q. rw q tt)

-- the words of two texts
pub same-spelling : (s t : List ℕ) → spelled (word s) ≡ spelled (word t) → spelled (word s) < 2 ^ 48 → word s ≡ word t
same-spelling s t e h = spelled-once (word s) (word t) (word_bytes s) (word_bytes t) e h

-- What the loops of writing keep, and a line from its parts. What is written and what is still to be written behind it are, turn by turn,
-- the whole text; stores one behind the other are one store of what they hold. Assumes nothing.
use Prim.Native.Nat.{ℕ, suc, ◌+◌, ◌-◌, ◌*◌, ◌/◌, ◌%◌, ◌≤◌, ◌<◌, min}
use mathlib.Core.Path.{◌≡◌, refl, sym, ap, ◌∙◌}
use mathlib.Core.List.{List, [], ◌∷◌, ◌++◌, append_assoc}
use native.Mathlib.Numerals.{add-one}
use native.Mathlib.Omega.{arith}
use lib.Dec.{ltb}
use lib.ListN.{length, get_or, take, drop, set, length-append, drop_of_length-le}
use lib.Seq.{sets, drop-cons}
use borrow.Author.Tests.{ltb-true, ltb-false}
use Rattle.word.proofs.Laws.{bool_cases}
use Rattle.text.specs.Text.{glyph}
use Rattle.text_lines.specs.Lines.{text_of}
use Rattle.srec.specs.Digits.{digits_of, sum_of}
use Rattle.srec.specs.Write.{line_of, data_lines, span_text, span_length}
use Rattle.stores.proofs.Laws.{sets_then}
use Rattle.srec.proofs.Laws.{length_digits, length-line}

-- ---- bytes

pub digits_more : (t bs : List ℕ) (at i x y : ℕ) → i < length bs → x ≡ glyph (get_or bs i 0 / 16) → y ≡ glyph (get_or bs i 0 % 16)
    → sets (set (set t at x) (at + 1) y) (at + 2) (digits_of (drop (i + 1) bs)) ≡ sets t at (digits_of (drop i bs))
unfolding digits_of
digits_more t bs at i x y h ex ey =
    let e : at + 1 ≡ suc at = omega arith in
    let f : at + 2 ≡ suc (suc at) = omega arith in
    rw (drop-cons bs i 0 h, add-one i, e, f, ex, ey) refl

pub digits-end : (t bs : List ℕ) (at i : ℕ) → length bs ≤ i → sets t at (digits_of (drop i bs)) ≡ t
unfolding digits_of
digits-end t bs at i h = rw (drop_of_length-le bs {i = i} h)

digits_append : (a b : List ℕ) → digits_of (a ++ b) ≡ digits_of a ++ digits_of b
unfolding digits_of
digits_append [] b = refl
digits_append (x ∷ a) b = ap (λ (t : List ℕ). glyph (x / 16) ∷ glyph (x % 16) ∷ t) (digits_append a b)

-- ---- a line from its parts

five : (s h d k e : List ℕ) → (((s ++ h) ++ d) ++ k) ++ e ≡ (s ++ (h ++ (d ++ k))) ++ e
five s h d k e = simp append_assoc

-- the line's characters: type, digits of count and address, of the data, of the checksum, LF
line-parts : (kind a k : ℕ) (ds : List ℕ) → k ≡ 255 - sum_of ((length ds + 3) ∷ (a / 256) ∷ (a % 256) ∷ ds) % 256
    → ((((83 ∷ kind ∷ []) ++ digits_of ((length ds + 3) ∷ (a / 256) ∷ (a % 256) ∷ [])) ++ digits_of ds) ++ digits_of (k ∷ [])) ++ (10 ∷ [])
    ≡ line_of kind a ds ++ (10 ∷ [])
unfolding line_of
line-parts kind a k ds e =
    let s : List ℕ = 83 ∷ kind ∷ [] in
    let h : List ℕ = (length ds + 3) ∷ (a / 256) ∷ (a % 256) ∷ [] in
    five s (digits_of h) (digits_of ds) (digits_of (k ∷ [])) (10 ∷ [])
    ∙ ap (λ (t : List ℕ). (s ++ (digits_of h ++ t)) ++ (10 ∷ [])) (sym (digits_append ds (k ∷ [])))
    ∙ ap (λ (t : List ℕ). (s ++ t) ++ (10 ∷ [])) (sym (digits_append h (ds ++ (k ∷ []))))
    ∙ ap (λ (x : ℕ). (s ++ digits_of (h ++ (ds ++ (x ∷ [])))) ++ (10 ∷ [])) e

pub line-put : (t t1 t2 t3 t4 t5 : List ℕ) (at one two three four kind a k : ℕ) (ds : List ℕ)
    → k ≡ 255 - sum_of ((length ds + 3) ∷ (a / 256) ∷ (a % 256) ∷ ds) % 256
    → t1 ≡ sets t at (83 ∷ kind ∷ []) → one ≡ at + 2
    → t2 ≡ sets t1 one (digits_of ((length ds + 3) ∷ (a / 256) ∷ (a % 256) ∷ [])) → two ≡ one + 6
    → t3 ≡ sets t2 two (digits_of ds) → three ≡ two + 2 * length ds
    → t4 ≡ sets t3 three (digits_of (k ∷ [])) → four ≡ three + 2
    → t5 ≡ sets t4 four (10 ∷ [])
    → t5 ≡ sets t at (line_of kind a ds ++ (10 ∷ []))
line-put t t1 t2 t3 t4 t5 at one two three four kind a k ds ek e1 p1 e2 p2 e3 p3 e4 p4 e5 =
    let s : List ℕ = 83 ∷ kind ∷ [] in
    let h : List ℕ = digits_of ((length ds + 3) ∷ (a / 256) ∷ (a % 256) ∷ []) in
    let lh = length_digits ((length ds + 3) ∷ (a / 256) ∷ (a % 256) ∷ []) in
    let ld = length_digits ds in
    let lk = length_digits (k ∷ []) in
    let l2 = length-append s h in
    let l3 = length-append (s ++ h) (digits_of ds) in
    let l4 = length-append ((s ++ h) ++ digits_of ds) (digits_of (k ∷ [])) in
    let q2 : t2 ≡ sets t at (s ++ h) = e2 ∙ ap (λ (x : List ℕ). sets x one h) e1 ∙ sets_then t at one s h p1 in
    let q3 : t3 ≡ sets t at ((s ++ h) ++ digits_of ds) =
    e3 ∙ ap (λ (x : List ℕ). sets x two (digits_of ds)) q2 ∙ sets_then t at two (s ++ h) (digits_of ds) (omega arith) in
    let q4 : t4 ≡ sets t at (((s ++ h) ++ digits_of ds) ++ digits_of (k ∷ [])) =
    e4 ∙ ap (λ (x : List ℕ). sets x three (digits_of (k ∷ []))) q3
    ∙ sets_then t at three ((s ++ h) ++ digits_of ds) (digits_of (k ∷ [])) (omega arith) in
    e5 ∙ ap (λ (x : List ℕ). sets x four (10 ∷ [])) q4
    ∙ sets_then t at four (((s ++ h) ++ digits_of ds) ++ digits_of (k ∷ [])) (10 ∷ []) (omega arith)
    ∙ ap (sets t at) (line-parts kind a k ds ek)

-- ---- a span, its first line first

-- the lines after the first
lines_next : (m : List ℕ) (a n s : ℕ) → 0 < n → s ≡ min n 16
    → data_lines ((n + 15) / 16) m a n ≡ line_of 49 a (take s (drop a m)) ∷ data_lines ((n - s + 15) / 16) m (a + s) (n - s)
unfolding data_lines
lines_next m a n s h e =
    let k : (n + 15) / 16 ≡ suc ((n - s + 15) / 16) = omega arith in
    rw (k, ← e)
    (bool_cases (ltb n 16) (λ q.
    let lt = ltb-true n 16 q in
    let z : (n - s + 15) / 16 ≡ 0 = omega arith in
    rw z)
    (λ q.
    let ge = ltb-false n 16 q in
    let f : s ≡ 16 = omega arith in
    rw f))

pub span_more : (m : List ℕ) (a n s pc : ℕ) → 0 < n → s ≡ min n 16
    → span_text m a n pc ≡ (line_of 49 a (take s (drop a m)) ++ (10 ∷ [])) ++ span_text m (a + s) (n - s) pc
unfolding text_of
span_more m a n s pc h e =
    ap (λ (ls : List (List ℕ)). text_of (ls ++ (line_of 57 pc [] ∷ []))) (lines_next m a n s h e)
    ∙ sym (append_assoc (line_of 49 a (take s (drop a m))) (10 ∷ []) (span_text m (a + s) (n - s) pc))

pub span_none : (m : List ℕ) (a n pc : ℕ) → n ≡ 0 → span_text m a n pc ≡ line_of 57 pc [] ++ (10 ∷ [])
unfolding data_lines text_of
span_none m a n pc e = rw e

-- a line put, and the rest of the text put after it
pub write-more : (t t' m : List ℕ) (at next a n s w pc : ℕ) → 0 < n → s ≡ min n 16 → w ≡ s
    → t' ≡ sets t at (line_of 49 a (take w (drop a m)) ++ (10 ∷ [])) → next ≡ at + (2 * length (take w (drop a m)) + 11)
    → sets t' next (span_text m (a + s) (n - s) pc) ≡ sets t at (span_text m a n pc)
write-more t t' m at next a n s w pc h e ew et en =
    let x : List ℕ = line_of 49 a (take w (drop a m)) in
    let l = length-line 49 a (take w (drop a m)) in
    let f = length-append (line_of 49 a (take w (drop a m))) (10 ∷ []) in
    let p : next ≡ at + length (line_of 49 a (take w (drop a m)) ++ (10 ∷ [])) = omega arith in
    ap (λ (y : List ℕ). sets y next (span_text m (a + s) (n - s) pc)) et
    ∙ sets_then t at next (line_of 49 a (take w (drop a m)) ++ (10 ∷ [])) (span_text m (a + s) (n - s) pc) p
    ∙ ap (λ (y : ℕ). sets t at ((line_of 49 a (take y (drop a m)) ++ (10 ∷ [])) ++ span_text m (a + s) (n - s) pc)) ew
    ∙ ap (sets t at) (sym (span_more m a n s pc h e))

pub write-end : (t t' m : List ℕ) (at a n pc : ℕ) → n ≡ 0 → t' ≡ sets t at (line_of 57 pc [] ++ (10 ∷ []))
    → t' ≡ sets t at (span_text m a n pc)
write-end t t' m at a n pc h e = e ∙ ap (sets t at) (sym (span_none m a n pc h))

-- the checksum as the code works it out
pub check-of : (x y z p q : ℕ) (ds : List ℕ) → p ≡ sum_of (x ∷ y ∷ z ∷ []) → q ≡ sum_of ds
    → 255 - (p + q) % 256 ≡ 255 - sum_of (x ∷ y ∷ z ∷ ds) % 256
unfolding sum_of
check-of x y z p q ds ep eq =
    let e : p + q ≡ x + (y + (z + sum_of ds)) = omega arith in
    ap (λ (n : ℕ). 255 - n % 256) e

-- ---- the place in the text

pub length-turn : (at next n s l total : ℕ) → 0 < n → s ≡ min n 16 → l ≡ s → next ≡ at + (2 * l + 11)
    → at + span_length n ≡ total → next + span_length (n - s) ≡ total
length-turn at next n s l total h e el en et =
    let k : (n + 15) / 16 ≡ suc ((n - s + 15) / 16) = omega arith in
    let g : s ≤ n = omega arith in
    omega arith

pub length-end : (at r n total : ℕ) → n ≡ 0 → at + span_length n ≡ total → r ≡ at + 11 → r ≡ total
length-end at r n total h et er =
    let e : at + span_length 0 ≡ total = rw h at et in
    omega arith

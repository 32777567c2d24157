-- The range around a word is unbroken, and the longest. Shown for every list of rows that follow each other up to #FFFF,
-- each with another operation than the row before it; then of the rows. Assumes nothing.
use Prim.Native.Nat.{ℕ, suc, ◌-◌, ◌<◌, ◌≤◌}
use mathlib.Core.Path.{◌≡◌, refl, sym, ◌∙◌}
use mathlib.Core.Bool.{Bool, true, not, ◌&&◌}
use mathlib.Core.Logic.{◌⊎◌, inl, inr, ⊎_elim}
use mathlib.Core.List.{List, [], ◌∷◌}
use native.Mathlib.Omega.{arith}
use lib.Dec.{T, leb, eqb, eqb→eq}
use Rattle.word.proofs.Laws.{bool_cases}
use Rattle.isa_ranges.specs.declared.Operation.{Operation}
use Rattle.isa_ranges.specs.declared.Operation.TheVariants as op
use Rattle.isa_ranges.specs.Operation.{operation_number, same_operation}
use Rattle.isa_ranges.specs.Ranges.{Row, rows, ends_in, ends_of, operation_among, first_of, last_of}
use Rattle.isa_ranges.specs.Theorems.{Around, Unbroken, LongestBelow, LongestAbove}
use Rattle.isa_ranges.proofs.All.{left, right}
use Rattle.isa_ranges.proofs.Operations.{other-operation}
use Rattle.isa_ranges.proofs.Rows.{follows, begins-le, follows-rest, follows-le, rows-follow, row-operation}
use borrow.Author.Tests.{leb-true, leb-false, le-leb, lt-leb, eqb-true, eqb-false}

-- each row has another operation than the one before it
abbrev differ : Operation → List Row → Bool
differ before [] = true
differ before (row ∷ rest) = not (same_operation before row.1) && differ row.1 rest

-- ---- every list of rows that follow each other

differ-row : (before : Operation) (row : Row) (rest : List Row) → T (differ before (row ∷ rest)) → before ≡ row.1 → ⊥
differ-row before row rest t =
    other-operation before row.1 (left (not (same_operation before row.1)) (differ row.1 rest) t)

differ-rest : (before : Operation) (row : Row) (rest : List Row) → T (differ before (row ∷ rest)) → T (differ row.1 rest)
differ-rest before row rest t = right (not (same_operation before row.1)) (differ row.1 rest) t

-- a row's range begins no lower than the rows do
first-ge : (first : ℕ) (rs : List Row) (w : ℕ) → T (follows first rs) → first ≤ (ends_in first rs w).first
first-ge first [] w t = omega arith
first-ge first (row ∷ rest) w t =
    let h : first ≤ row.0 = begins-le first row rest t in
    let i : suc row.0 ≤ (ends_in (suc row.0) rest w).first =
    first-ge (suc row.0) rest w (follows-rest first row rest t) in
    bool_cases (leb w row.0) (λ q. rw q (omega arith)) (λ q. rw q (omega arith))

around-in : (first : ℕ) (rs : List Row) (w : ℕ) → T (follows first rs) → first ≤ w → w < 65536
    → ((ends_in first rs w).first ≤ w) × (w ≤ (ends_in first rs w).last) × ((ends_in first rs w).last < 65536)
around-in first [] w t l h = let e : first ≡ 65536 = eqb→eq first 0x10000 t in absurd (omega arith)
around-in first (row ∷ rest) w t l h =
    let i : suc row.0 ≤ 65536 = follows-le (suc row.0) rest (follows-rest first row rest t) in
    bool_cases (leb w row.0) (λ q. rw q (l, leb-true w row.0 q, i))
    (λ q. rw q (around-in (suc row.0) rest w (follows-rest first row rest t) (leb-false w row.0 q) h))

-- the words of a row have its operation
unbroken-in : (first : ℕ) (rs : List Row) (w v : ℕ) → T (follows first rs)
    → (ends_in first rs w).first ≤ v → v ≤ (ends_in first rs w).last → operation_among rs v ≡ operation_among rs w
unbroken-in first [] w v t l u = refl
unbroken-in first (row ∷ rest) w v t l u =
    let r = follows-rest first row rest t in
    let g : suc row.0 ≤ (ends_in (suc row.0) rest w).first = first-ge (suc row.0) rest w r in
    bool_cases (leb w row.0)
    (λ q. let b : v ≤ row.0 = rw q at u in rw (q, le-leb v row.0 b) refl) (λ q.
    let a : (ends_in (suc row.0) rest w).first ≤ v = rw q at l in
    let b : v ≤ (ends_in (suc row.0) rest w).last = rw q at u in
    rw (q, lt-leb v row.0 (omega arith)) (unbroken-in (suc row.0) rest w v r a b))

-- below the range is the operation before the rows, which is another one, or a word with another operation
below_in : (before : Operation) (first : ℕ) (rs : List Row) (w : ℕ) → T (follows first rs) → T (differ before rs)
    → first ≤ w → w < 65536
    → (((ends_in first rs w).first ≡ first) × (before ≡ operation_among rs w → ⊥))
    ⊎ ((first < (ends_in first rs w).first) × (operation_among rs ((ends_in first rs w).first - 1) ≡ operation_among rs w → ⊥))
below_in before first [] w t d l h = let e : first ≡ 65536 = eqb→eq first 0x10000 t in absurd (omega arith)
below_in before first (row ∷ rest) w t d l h =
    let r = follows-rest first row rest t in
    let b : first ≤ row.0 = begins-le first row rest t in
    bool_cases (leb w row.0) (λ q. rw q (inl (refl, differ-row before row rest d)))
    (λ q. rw q
    (⊎_elim
    (λ p.
    let e : (ends_in (suc row.0) rest w).first ≡ suc row.0 = p.0 in
    inr (omega arith, rw (le-leb ((ends_in (suc row.0) rest w).first - 1) row.0 (omega arith)) p.1))
    (λ p.
    let e : suc row.0 < (ends_in (suc row.0) rest w).first = p.0 in
    inr (omega arith, rw (lt-leb ((ends_in (suc row.0) rest w).first - 1) row.0 (omega arith)) p.1))
    (below_in row.1 (suc row.0) rest w r (differ-rest before row rest d) (leb-false w row.0 q) h)))

-- the word above a row is of the next row, or there is none
next_row : (row : Row) (rest : List Row) → T (follows (suc row.0) rest) → T (differ row.1 rest)
    → (row.0 ≡ 0xFFFF) ⊎ (operation_among rest (suc row.0) ≡ row.1 → ⊥)
next_row row [] t d = let e : suc row.0 ≡ 65536 = eqb→eq (suc row.0) 0x10000 t in inl (omega arith)
next_row row (next ∷ rest) t d =
    inr (rw (le-leb (suc row.0) next.0 (begins-le (suc row.0) next rest t)) (λ e. differ-row row.1 next rest d (sym e)))

above_in : (before : Operation) (first : ℕ) (rs : List Row) (w : ℕ) → T (follows first rs) → T (differ before rs)
    → first ≤ w → w < 65536
    → ((ends_in first rs w).last ≡ 0xFFFF) ⊎ (operation_among rs (suc (ends_in first rs w).last) ≡ operation_among rs w → ⊥)
above_in before first [] w t d l h = let e : first ≡ 65536 = eqb→eq first 0x10000 t in absurd (omega arith)
above_in before first (row ∷ rest) w t d l h =
    let r = follows-rest first row rest t in
    let s = differ-rest before row rest d in
    bool_cases (leb w row.0) (λ q. rw (q, lt-leb (suc row.0) row.0 (omega arith)) (next_row row rest r s))
    (λ q.
    let g : suc row.0 ≤ w = leb-false w row.0 q in
    let a : w ≤ (ends_in (suc row.0) rest w).last = (around-in (suc row.0) rest w r g h).1 in
    rw (q, lt-leb (suc (ends_in (suc row.0) rest w).last) row.0 (omega arith)) (above_in row.1 (suc row.0) rest w r s g h))

-- ---- the rows

rows-differ : T (differ op.Illegal rows)
unfolding rows operation_number
rows-differ = tt

pub around : Around
unfolding ends_of
around w h = around-in 0 rows w rows-follow (omega arith) h

unbroken-rows : (w v : ℕ) → first_of w ≤ v → v ≤ last_of w → operation_among rows v ≡ operation_among rows w
unfolding ends_of
unbroken-rows w v l u = unbroken-in 0 rows w v rows-follow l u

pub unbroken : Unbroken
unbroken w h v l u =
    let b : last_of w < 65536 = (around w h).2 in
    row-operation v (omega arith) ∙ unbroken-rows w v l u ∙ sym (row-operation w h)

below_rows : (w : ℕ) → w < 65536 → (first_of w ≡ 0) ⊎ (operation_among rows (first_of w - 1) ≡ operation_among rows w → ⊥)
unfolding ends_of
below_rows w h =
    ⊎_elim (λ p. inl p.0) (λ p. inr p.1) (below_in op.Illegal 0 rows w rows-follow rows-differ (omega arith) h)

pub longest-below : LongestBelow
longest-below w h =
    let b : first_of w ≤ w = (around w h).0 in
    ⊎_elim inl (λ n. inr (λ e. n (sym (row-operation (first_of w - 1) (omega arith)) ∙ e ∙ row-operation w h))) (below_rows w h)

above_rows : (w : ℕ) → w < 65536 → (last_of w ≡ 0xFFFF) ⊎ (operation_among rows (suc (last_of w)) ≡ operation_among rows w → ⊥)
unfolding ends_of
above_rows w h = above_in op.Illegal 0 rows w rows-follow rows-differ (omega arith) h

pub longest-above : LongestAbove
longest-above w h =
    let b : last_of w < 65536 = (around w h).2 in
    ⊎_elim inl
    (λ n. ⊎_elim inl (λ l. inr (λ e. n (sym (row-operation (suc (last_of w)) l) ∙ e ∙ row-operation w h))) (top (last_of w) b))
    (above_rows w h)
  where
    top : (n : ℕ) → n < 65536 → (n ≡ 0xFFFF) ⊎ (suc n < 65536)
    top n l = bool_cases (eqb n 0xFFFF) (λ q. inl (eqb-true n 0xFFFF q)) (λ q. inr (let e = eqb-false n 0xFFFF q in omega arith))

-- The rows are right: each word of a row has the row's operation and, by its leading bits, the row's ends. The last three bits tell
-- neither, and one test is computed, row by row, at each of the 8,192 words that have them 0. Assumes nothing.
use Prim.Native.Nat.{ℕ, suc, ◌+◌, ◌-◌, ◌*◌, ◌/◌, ◌%◌, ◌<◌, ◌≤◌}
use mathlib.Core.Path.{◌≡◌, refl, sym, ap, ◌∙◌}
use mathlib.Core.Bool.{Bool, true, ◌&&◌}
use mathlib.Core.List.{List, [], ◌∷◌}
use native.Mathlib.Nat.{div-div-eq-div-mul}
use native.Mathlib.Omega.{arith}
use borrow.Author.Tests.{leb-true, leb-false, lt-ltb, le-ltb, ltb-true, ltb-false}
use lib.Dec.{T, leb, ltb, eqb, eqb→eq, leb→le}
use Rattle.word.proofs.Laws.{bool_cases}
use Rattle.isa.specs.Decode.{unary_of, control_of, misc_of, memory_of, relative_of, decode_of}
use Rattle.isa_ranges.specs.declared.Ends.{Ends}
use Rattle.isa_ranges.specs.Operation.{branch_operation, alu_operation, mov_imm_operation}
use Rattle.isa_ranges.specs.Operation.{operation_in, operation_of, operation_number, same_operation}
use Rattle.isa_ranges.specs.Ranges.{Row, rows, row_ends, operation_among, ends_in, ends_of}
use Rattle.isa_ranges.specs.Bits.{bits_ends}
use Rattle.isa_ranges.specs.Theorems.{RowOperation, RowCount}
use Rattle.isa_ranges.proofs.All.{all_below, at, left, right}
use Rattle.isa_ranges.proofs.Operations.{same_operation_lem}

-- ---- rows that follow each other, from a word up to #FFFF

abbrev pub follows : ℕ → List Row → Bool
follows first [] = eqb first 0x10000
follows first (row ∷ rest) = leb first row.0 && follows (suc row.0) rest

pub begins-le : (first : ℕ) (row : Row) (rest : List Row) → T (follows first (row ∷ rest)) → first ≤ row.0
begins-le first row rest t = leb→le first row.0 (left (leb first row.0) (follows (suc row.0) rest) t)

pub follows-rest : (first : ℕ) (row : Row) (rest : List Row) → T (follows first (row ∷ rest)) → T (follows (suc row.0) rest)
follows-rest first row rest t = right (leb first row.0) (follows (suc row.0) rest) t

pub follows-le : (first : ℕ) (rs : List Row) → T (follows first rs) → first ≤ 65536
follows-le first [] t = let e : first ≡ 65536 = eqb→eq first 0x10000 t in omega arith
follows-le first (row ∷ rest) t =
    let h : first ≤ row.0 = begins-le first row rest t in
    let i : suc row.0 ≤ 65536 = follows-le (suc row.0) rest (follows-rest first row rest t) in
    omega arith

pub rows-follow : T (follows 0 rows)
unfolding rows
rows-follow = tt

pub row_count : RowCount
unfolding rows
row_count = refl

-- ---- the eight words that differ in their last three bits alone are alike

limit : (w l : ℕ) → l % 8 ≡ 0 → ltb w l ≡ ltb (w / 8 * 8) l
limit w l e = bool_cases (ltb w l) (λ q. q ∙ sym (lt-ltb (w / 8 * 8) l (omega (arith, ltb-true w l q))))
    (λ q. q ∙ sym (le-ltb (w / 8 * 8) l (omega (arith, ltb-false w l q, e))))

quotient : (w k : ℕ) → w / (8 * k) ≡ w / 8 * 8 / (8 * k)
quotient w k =
    let e : w / 8 ≡ w / 8 * 8 / 8 = omega arith in
    sym (div-div-eq-div-mul w 8 k) ∙ ap (λ (x : ℕ). x / k) e ∙ div-div-eq-div-mul (w / 8 * 8) 8 k

module _ (w : ℕ) where
  unary-alike : operation_in (unary_of w) ≡ operation_in (unary_of (w / 8 * 8))
  unfolding operation_in
  unary-alike =
      let e : w / 8 * 8 / 8 % 8 ≡ w / 8 % 8 = omega arith in
      rw e
      (bool_cases (ltb (w / 8 % 8) 3) (λ q. rw q) (λ q. rw q
      (bool_cases (ltb (w / 8 % 8) 4) (λ q. rw q) (λ q. rw q
      (bool_cases (ltb (w / 8 % 8) 5) (λ q. rw q) (λ q. rw q))))))

  control-alike : operation_in (control_of w) ≡ operation_in (control_of (w / 8 * 8))
  unfolding operation_in
  control-alike =
      let v = w / 8 * 8 in
      rw (limit w 0x4D88 refl, limit w 0x4DA0 refl, limit w 0x4DB0 refl, limit w 0x4DC0 refl, limit w 0x4DE0 refl)
      (bool_cases (ltb v 0x4D88) (λ q. rw q) (λ q. rw q
      (bool_cases (ltb v 0x4DA0) (λ q. rw q) (λ q. rw q
      (bool_cases (ltb v 0x4DB0) (λ q. rw q) (λ q. rw q
      (bool_cases (ltb v 0x4DC0) (λ q. rw q) (λ q. rw q
      (bool_cases (ltb v 0x4DE0) (λ q. rw q) (λ q. rw q))))))))))

  misc-alike : operation_in (misc_of w) ≡ operation_in (misc_of (w / 8 * 8))
  unfolding operation_in
  misc-alike =
      let v = w / 8 * 8 in
      rw (limit w 0x4C80 refl, limit w 0x4D00 refl, limit w 0x4D80 refl, limit w 0x4E00 refl)
      (bool_cases (ltb v 0x4C80) (λ q. rw q) (λ q. rw q
      (bool_cases (ltb v 0x4D00) (λ q. rw q) (λ q. rw q
      (bool_cases (ltb v 0x4D80) (λ q. rw q unary-alike) (λ q. rw q
      (bool_cases (ltb v 0x4E00) (λ q. rw q control-alike) (λ q. rw q))))))))

  memory-alike : operation_in (memory_of w) ≡ operation_in (memory_of (w / 8 * 8))
  unfolding operation_in
  memory-alike =
      let v = w / 8 * 8 in
      rw (limit w 0x5400 refl, limit w 0x5800 refl, limit w 0x5C00 refl)
      (bool_cases (ltb v 0x5400) (λ q. rw q) (λ q. rw q
      (bool_cases (ltb v 0x5800) (λ q. rw q) (λ q. rw q
      (bool_cases (ltb v 0x5C00) (λ q. rw q) (λ q. rw q))))))

  relative-alike : operation_in (relative_of w) ≡ operation_in (relative_of (w / 8 * 8))
  unfolding operation_in
  relative-alike = rw (limit w 0xC000 refl) (bool_cases (ltb (w / 8 * 8) 0xC000) (λ q. rw q) (λ q. rw q))

  operation-alike : operation_of w ≡ operation_of (w / 8 * 8)
  unfolding operation_in decode_of
  operation-alike =
      let v = w / 8 * 8 in
      let c : w / 1024 % 8 ≡ v / 1024 % 8 = ap (λ (x : ℕ). x % 8) (quotient w 128) in
      let o : w / 256 % 16 ≡ v / 256 % 16 = ap (λ (x : ℕ). x % 16) (quotient w 32) in
      let m : w / 2048 % 4 ≡ v / 2048 % 4 = ap (λ (x : ℕ). x % 4) (quotient w 256) in
      rw (limit w 0x2000 refl, limit w 0x4000 refl, limit w 0x4C00 refl, limit w 0x5000 refl, limit w 0x6000 refl, limit w 0x8000 refl)
      (bool_cases (ltb v 0x2000) (λ q. rw q) (λ q. rw q
      (bool_cases (ltb v 0x4000) (λ q. rw q (ap branch_operation c)) (λ q. rw q
      (bool_cases (ltb v 0x4C00) (λ q. rw q (ap alu_operation o)) (λ q. rw q
      (bool_cases (ltb v 0x5000) (λ q. rw q misc-alike) (λ q. rw q
      (bool_cases (ltb v 0x6000) (λ q. rw q memory-alike) (λ q. rw q
      (bool_cases (ltb v 0x8000) (λ q. rw q (ap mov_imm_operation m)) (λ q. rw q relative-alike))))))))))))

  ends-alike : bits_ends w ≡ bits_ends (w / 8 * 8)
  ends-alike =
      let e : w / 8 * 8 / 8 ≡ w / 8 = omega arith in
      rw (limit w 0x2000 refl, limit w 0x4000 refl, limit w 0x4C00 refl, limit w 0x5000 refl, limit w 0x6000 refl, limit w 0x8000 refl)
      (rw (limit w 0x4D00 refl, limit w 0x4D80 refl, limit w 0x4E00 refl, limit w 0x4D88 refl, limit w 0x4DA0 refl, limit w 0x4DC0 refl)
      (rw (e, quotient w 2, quotient w 4, quotient w 8, quotient w 16, quotient w 32, quotient w 64, quotient w 128)
      (rw (quotient w 256, quotient w 1024, quotient w 2048))))

-- ---- the test

abbrev same_ends : Ends → Ends → Bool
same_ends a b = eqb a.first b.first && eqb a.last b.last

-- of a word, and of every eighth word of a row that begins at first; a row begins and ends with eight words
test : ℕ → Row → ℕ → Bool
test first row w = same_operation (operation_of w) row.1 && same_ends (bits_ends w) (row_ends first row)

row_test : ℕ → Row → Bool
row_test first row =
    eqb (first % 8) 0 && (eqb (row.0 % 8) 7 && all_below ((suc row.0 - first) / 8) (λ k. test first row (first + k * 8)))

rows_test : ℕ → List Row → Bool
rows_test first [] = true
rows_test first (row ∷ rest) = row_test first row && rows_test (suc row.0) rest

rows-tested : T (rows_test 0 rows)
unfolding rows_test row_test test decode_of operation_in operation_number rows
rows-tested = tt

-- ---- what it says

row_word : (first : ℕ) (row : Row) (w : ℕ) → T (row_test first row) → first ≤ w → w ≤ row.0 → T (test first row w)
unfolding row_test test
row_word first row w t l u =
    let n = (suc row.0 - first) / 8 in
    let f : ℕ → Bool = λ k. test first row (first + k * 8) in
    let begins : first % 8 ≡ 0 = eqb→eq (first % 8) 0 (left (eqb (first % 8) 0) (eqb (row.0 % 8) 7 && all_below n f) t) in
    let rest = right (eqb (first % 8) 0) (eqb (row.0 % 8) 7 && all_below n f) t in
    let ends : row.0 % 8 ≡ 7 = eqb→eq (row.0 % 8) 7 (left (eqb (row.0 % 8) 7) (all_below n f) rest) in
    let o = at n f (right (eqb (row.0 % 8) 7) (all_below n f) rest) ((w - first) / 8) (omega arith) in
    let e : first + (w - first) / 8 * 8 ≡ w / 8 * 8 = omega (arith, begins) in
    rw (operation-alike w, ends-alike w, sym e) o

abbrev Agrees : ℕ → List Row → ℕ → Type 0
Agrees first rs w = T (same_operation (operation_of w) (operation_among rs w) && same_ends (bits_ends w) (ends_in first rs w))

agrees-in : (first : ℕ) (rs : List Row) → T (follows first rs) → T (rows_test first rs) → (w : ℕ) → first ≤ w → w < 65536
    → Agrees first rs w
unfolding test rows_test
agrees-in first [] t s w l h = let e : first ≡ 65536 = eqb→eq first 0x10000 t in absurd (omega arith)
agrees-in first (row ∷ rest) t s w l h =
    bool_cases (leb w row.0)
    (λ q. rw q (row_word first row w (left (row_test first row) (rows_test (suc row.0) rest) s) l (leb-true w row.0 q)))
    (λ q. rw q (agrees-in (suc row.0) rest (follows-rest first row rest t)
    (right (row_test first row) (rows_test (suc row.0) rest) s) w (leb-false w row.0 q) h))

checked : (w : ℕ) → w < 65536 → Agrees 0 rows w
checked w h = agrees-in 0 rows rows-follow rows-tested w (omega arith) h

pub row-operation : RowOperation
row-operation w h =
    same_operation_lem (operation_of w) (operation_among rows w)
    (left (same_operation (operation_of w) (operation_among rows w)) (same_ends (bits_ends w) (ends_in 0 rows w)) (checked w h))

same_ends_lem : (a b : Ends) → T (same_ends a b) → a ≡ b
same_ends_lem a b t =
    let e = eqb→eq a.first b.first (left (eqb a.first b.first) (eqb a.last b.last) t) in
    let f = eqb→eq a.last b.last (right (eqb a.first b.first) (eqb a.last b.last) t) in
    λ i. record { first = e i; last = f i }

pub bits-rows : (w : ℕ) → w < 65536 → bits_ends w ≡ ends_of w
unfolding ends_of
bits-rows w h =
    same_ends_lem (bits_ends w) (ends_in 0 rows w)
    (right (same_operation (operation_of w) (operation_among rows w)) (same_ends (bits_ends w) (ends_in 0 rows w)) (checked w h))

-- The blocks of an operation are its rows: the next word and the number of words go by them. A row of another operation is passed over,
-- for any rows that follow each other up to #FFFF; which blocks an operation then has is computed for all of them. Assumes nothing.
use Prim.Native.Nat.{ℕ, zero, suc, ◌+◌, ◌-◌, ◌<◌, ◌≤◌}
use mathlib.Core.Path.{◌≡◌, refl, sym, ap, ◌∙◌}
use mathlib.Core.Bool.{Bool, true, false, cond, ◌&&◌}
use mathlib.Core.List.{List, [], ◌∷◌}
use native.Mathlib.Omega.{arith}
use borrow.Author.Tests.{leb-true, leb-false, le-leb, lt-leb, lt-ltb, le-ltb, ne_eqb, ltb-false}
use lib.Dec.{T, eqb, leb, ltb, eqb→eq, ltb→lt}
use Rattle.word.proofs.Laws.{bool_cases}
use Rattle.isa_ranges.specs.declared.Operation.{Operation}
use Rattle.isa_ranges.specs.Operation.{operation_number}
use Rattle.isa_ranges.specs.Ranges.{Row, rows, operation_among}
use Rattle.isa_ranges.proofs.All.{all_below, at, left, right}
use Rattle.isa_ranges.proofs.Rows.{follows, begins-le, follows-rest, follows-le, rows-follow, row-operation}
use Rattle.isa_ranges.proofs.Count.{count_rows, count-rows}
use Rattle.isa_card.specs.declared.Block.{Block}
use Rattle.std.specs.Prelude.{Some}
use Rattle.isa_card.specs.Words.{means, count_of, next_of}
use Rattle.isa_card.specs.Blocks.{block_of, is_twice, blocks_of, at_least, first_among}
use Rattle.isa_card.specs.Theorems.{NoOperation, sum_below, CountsAddUp}
use Rattle.isa_card.proofs.Lists.{count-words, next_here, next-skip, next-end}

-- ---- the blocks that the rows give an operation

abbrev is_of : ℕ → Operation → Bool
is_of o x = eqb (operation_number x) o

abbrev row_block : ℕ → Row → Block
row_block first row = record { first = first; size = suc row.0 - first }

abbrev blocks_in : ℕ → List Row → ℕ → List Block
blocks_in first [] o = []
blocks_in first (row ∷ rest) o =
    cond (is_of o row.1) (row_block first row ∷ blocks_in (suc row.0) rest o) (blocks_in (suc row.0) rest o)

at-least-le : (w first : ℕ) → w ≤ first → at_least w first ≡ first
at-least-le w first l =
    bool_cases (ltb w first) (λ q. rw q refl) (λ q. let g : first ≤ w = ltb-false w first q in rw q (omega arith))

-- below the first block, the next is the first block's first word
raise : (o first : ℕ) (rs : List Row) → T (follows first rs) → (w v : ℕ) → w ≤ first → v ≤ first
    → first_among (blocks_in first rs o) w ≡ first_among (blocks_in first rs o) v
raise o first [] t w v a b = refl
raise o first (row ∷ rest) t w v a b =
    let l : first ≤ row.0 = begins-le first row rest t in
    bool_cases (is_of o row.1)
    (λ q. rw (q, lt-ltb w (first + (suc row.0 - first)) (omega arith), lt-ltb v (first + (suc row.0 - first)) (omega arith))
    (ap Some (at-least-le w first a ∙ sym (at-least-le v first b))))
    (λ q. rw q (raise o (suc row.0) rest (follows-rest first row rest t) w v (omega arith) (omega arith)))

skip-to : (o n w : ℕ) → 0 < o → n + w ≤ 65536 → ((u : ℕ) → w ≤ u → u < n + w → means o u ≡ false) → next_of o w ≡ next_of o (n + w)
skip-to o zero w h l f = ap (next_of o) (omega arith)
skip-to o (suc n) w h l f =
    let e : n + suc w ≡ suc n + w = omega arith in
    next-skip o w h (omega arith) (f w (omega arith) (omega arith))
    ∙ skip-to o n (suc w) h (omega arith) (λ u a b. f u (omega arith) (omega arith)) ∙ ap (next_of o) e

next-in : (o : ℕ) → 0 < o → (first : ℕ) (rs : List Row) → T (follows first rs) → (w : ℕ) → first ≤ w
    → ((u : ℕ) → w ≤ u → u < 65536 → means o u ≡ is_of o (operation_among rs u)) → next_of o w ≡ first_among (blocks_in first rs o) w
next-in o h first [] t w l f = let e : first ≡ 65536 = eqb→eq first 0x10000 t in next-end o w h (omega arith)
next-in o h first (row ∷ rest) t w l f =
    let r = follows-rest first row rest t in
    let b : first ≤ row.0 = begins-le first row rest t in
    let i : suc row.0 ≤ 65536 = follows-le (suc row.0) rest r in
    let among : ℕ → Bool → Bool = λ u x. is_of o (cond x row.1 (operation_among rest u)) in
    let inside : (u : ℕ) → w ≤ u → u ≤ row.0 → means o u ≡ is_of o row.1 =
    λ u a c. f u a (omega arith) ∙ ap (among u) (le-leb u row.0 c) in
    let above : (v : ℕ) → w ≤ v → suc row.0 ≤ v → next_of o v ≡ first_among (blocks_in (suc row.0) rest o) v =
    λ v a c. next-in o h (suc row.0) rest r v c (λ u d g. f u (omega arith) g ∙ ap (among u) (lt-leb u row.0 (omega arith))) in
    bool_cases (leb w row.0)
    (λ q.
    let k : w ≤ row.0 = leb-true w row.0 q in
    bool_cases (is_of o row.1)
    (λ p. rw (p, lt-ltb w (first + (suc row.0 - first)) (omega arith), le-ltb w first l)
    (next_here o w h (omega arith) (inside w (omega arith) k ∙ p))) (λ p.
    let e : suc row.0 - w + w ≡ suc row.0 = omega arith in
    let s : next_of o w ≡ next_of o (suc row.0) =
    skip-to o (suc row.0 - w) w h (omega arith) (λ u a c. inside u a (omega arith) ∙ p) ∙ ap (next_of o) e in
    rw p
    (s ∙ above (suc row.0) (omega arith) (omega arith)
    ∙ raise o (suc row.0) rest r (suc row.0) w (omega arith) (omega arith))))
    (λ q.
    let k : suc row.0 ≤ w = leb-false w row.0 q in
    bool_cases (is_of o row.1)
    (λ p. rw (p, le-ltb w (first + (suc row.0 - first)) (omega arith)) (above w (omega arith) k)) (λ p. rw p (above w (omega arith) k)))

next-rows : (o w : ℕ) → 0 < o → next_of o w ≡ first_among (blocks_in 0 rows o) w
next-rows o w h = next-in o h 0 rows rows-follow w (omega arith) (λ u a b. ap (is_of o) (row-operation u b))

count-of-rows : (o : ℕ) → count_of o ≡ count_rows 0 rows (is_of o)
count-of-rows o = count-words o ∙ count-rows (is_of o)

-- ---- the blocks by the operation's number, computed for each

abbrev same_blocks : List Block → List Block → Bool
same_blocks [] [] = true
same_blocks [] (b ∷ ys) = false
same_blocks (a ∷ xs) [] = false
same_blocks (a ∷ xs) (b ∷ ys) = eqb a.first b.first && (eqb a.size b.size && same_blocks xs ys)

abbrev pub total : ℕ → ℕ
total o = cond (is_twice o) ((block_of o).size + (block_of o).size) (block_of o).size

test : ℕ → Bool
test o = same_blocks (blocks_in 0 rows (suc o)) (blocks_of (suc o)) && eqb (count_rows 0 rows (is_of (suc o))) (total (suc o))

tested : T (all_below 41 test)
unfolding test rows operation_number
tested = tt

same_blocks_lem : (xs ys : List Block) → T (same_blocks xs ys) → xs ≡ ys
same_blocks_lem [] [] t = refl
same_blocks_lem [] (b ∷ ys) t = absurd t
same_blocks_lem (a ∷ xs) [] t = absurd t
same_blocks_lem (a ∷ xs) (b ∷ ys) t =
    let e = eqb→eq a.first b.first (left (eqb a.first b.first) (eqb a.size b.size && same_blocks xs ys) t) in
    let r = right (eqb a.first b.first) (eqb a.size b.size && same_blocks xs ys) t in
    let f = eqb→eq a.size b.size (left (eqb a.size b.size) (same_blocks xs ys) r) in
    let i = same_blocks_lem xs ys (right (eqb a.size b.size) (same_blocks xs ys) r) in
    let h : a ≡ b = λ k. record { first = e k; size = f k } in
    λ k. h k ∷ i k

-- an operation's next word and number of words
pub next-blocks : (o w : ℕ) → 0 < o → o < 42 → next_of o w ≡ first_among (blocks_of o) w
unfolding test
next-blocks zero w h l = absurd (omega arith)
next-blocks (suc o) w h l =
    let t = at 41 test tested o (omega arith) in
    next-rows (suc o) w h
    ∙ ap (λ (bs : List Block). first_among bs w)
    (same_blocks_lem (blocks_in 0 rows (suc o)) (blocks_of (suc o))
    (left (same_blocks (blocks_in 0 rows (suc o)) (blocks_of (suc o))) (eqb (count_rows 0 rows (is_of (suc o))) (total (suc o))) t))

pub count-total : (o : ℕ) → 0 < o → o < 42 → count_of o ≡ total o
unfolding test
count-total zero h l = absurd (omega arith)
count-total (suc o) h l =
    let t = at 41 test tested o (omega arith) in
    count-of-rows (suc o)
    ∙ eqb→eq (count_rows 0 rows (is_of (suc o))) (total (suc o))
    (right (same_blocks (blocks_in 0 rows (suc o)) (blocks_of (suc o))) (eqb (count_rows 0 rows (is_of (suc o))) (total (suc o))) t)

pub count-illegal : count_of 0 ≡ 1624
unfolding rows operation_number
count-illegal = count-of-rows 0

-- ---- the sum

sum_same : (n : ℕ) (f g : ℕ → ℕ) → ((k : ℕ) → k < n → f k ≡ g k) → sum_below n f ≡ sum_below n g
sum_same zero f g h = refl
sum_same (suc n) f g h =
    let e : f n ≡ g n = h n (omega arith) in
    let r : sum_below n f ≡ sum_below n g = sum_same n f g (λ k l. h k (omega arith)) in
    rw (e, r)

counted : ℕ → ℕ
counted zero = 1624
counted (suc o) = total (suc o)

count-counted : (o : ℕ) → o < 42 → count_of o ≡ counted o
unfolding counted
count-counted zero l = count-illegal
count-counted (suc o) l = count-total (suc o) (omega arith) l

sum-counted : sum_below 42 counted ≡ 65536
unfolding counted
sum-counted = refl

pub counts-add-up : CountsAddUp
counts-add-up = sum_same 42 count_of counted count-counted ∙ sum-counted

-- ---- numbers that are no operation's

abbrev known : List Row → Bool
known [] = true
known (row ∷ rest) = ltb (operation_number row.1) 42 && known rest

rows-known : T (known rows)
unfolding rows operation_number
rows-known = tt

other : (o : ℕ) (x : Operation) → 42 ≤ o → T (ltb (operation_number x) 42) → is_of o x ≡ false
other o x h t = let l : operation_number x < 42 = ltb→lt (operation_number x) 42 t in ne_eqb (operation_number x) o (λ e. omega arith)

unknown-in : (o first : ℕ) (rs : List Row) → 42 ≤ o → T (known rs) → (count_rows first rs (is_of o) ≡ 0) × (blocks_in first rs o ≡ [])
unknown-in o first [] h t = (refl, refl)
unknown-in o first (row ∷ rest) h t =
    let e : is_of o row.1 ≡ false = other o row.1 h (left (ltb (operation_number row.1) 42) (known rest) t) in
    let i = unknown-in o (suc row.0) rest h (right (ltb (operation_number row.1) 42) (known rest) t) in
    (rw e (omega (arith, i.0)), rw e i.1)

pub no-operation : NoOperation
no-operation o w h =
    let u = unknown-in o 0 rows h rows-known in
    (count-of-rows o ∙ u.0, next-rows o w (omega arith) ∙ ap (λ (bs : List Block). first_among bs w) u.1)

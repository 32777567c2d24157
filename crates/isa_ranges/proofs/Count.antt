-- How many words pass a test that goes by the operation: the lengths of the rows whose operation passes, added up.
-- Assumes nothing.
use Prim.Native.Nat.{ℕ, zero, suc, ◌+◌, ◌-◌, ◌<◌, ◌≤◌}
use mathlib.Core.Path.{◌≡◌, refl, sym, ap, ◌∙◌}
use mathlib.Core.Bool.{Bool, true, false, cond}
use mathlib.Core.List.{List, [], ◌∷◌}
use native.Mathlib.Omega.{arith}
use borrow.Author.Tests.{le-leb, lt-leb}
use lib.Dec.{T, eqb→eq}
use Rattle.isa_ranges.specs.declared.Operation.{Operation}
use Rattle.isa_ranges.specs.Operation.{operation_of}
use Rattle.isa_ranges.specs.Ranges.{Row, rows, operation_among}
use Rattle.isa_ranges.specs.Count.{count_below}
use Rattle.isa_ranges.proofs.Rows.{follows, begins-le, follows-rest, follows-le, rows-follow, row-operation}

-- tests that agree count alike
pub count_same : (n : ℕ) (f g : ℕ → Bool) → ((k : ℕ) → k < n → f k ≡ g k) → count_below n f ≡ count_below n g
unfolding count_below
count_same zero f g h = refl
count_same (suc n) f g h =
    let e : f n ≡ g n = h n (omega arith) in
    let r : count_below n f ≡ count_below n g = count_same n f g (λ k l. h k (omega arith)) in
    rw (e, r)

-- n numbers from first on that all answer b
count-run : (n first : ℕ) (f : ℕ → Bool) (b : Bool) → ((k : ℕ) → first ≤ k → k < n + first → f k ≡ b)
    → count_below (n + first) f ≡ cond b n 0 + count_below first f
unfolding count_below
count-run zero first f b h =
    let e : 0 + first ≡ first = omega arith in
    ap (λ (n : ℕ). count_below n f) e ∙ none b (count_below first f)
  where
    none : (b : Bool) (c : ℕ) → c ≡ cond b 0 0 + c
    none true c = omega arith
    none false c = omega arith
count-run (suc n) first f b h =
    let e : f (n + first) ≡ b = h (n + first) (omega arith) (omega arith) in
    let r : count_below (n + first) f ≡ cond b n 0 + count_below first f = count-run n first f b (λ k l u. h k l (omega arith)) in
    let m : suc n + first ≡ suc (n + first) = omega arith in
    let k : cond (f (n + first)) 1 0 + count_below (n + first) f ≡ cond b (suc n) 0 + count_below first f =
    rw (e, r) (one b n (count_below first f)) in
    ap (λ (j : ℕ). count_below j f) m ∙ k
  where
    one : (b : Bool) (n c : ℕ) → cond b 1 0 + (cond b n 0 + c) ≡ cond b (suc n) 0 + c
    one true n c = omega arith
    one false n c = omega arith

-- the words of the rows that begin at first whose operation passes
abbrev pub count_rows : ℕ → List Row → (Operation → Bool) → ℕ
count_rows first [] p = 0
count_rows first (row ∷ rest) p = cond (p row.1) (suc row.0 - first) 0 + count_rows (suc row.0) rest p

count-in : (first : ℕ) (rs : List Row) (p : Operation → Bool) (f : ℕ → Bool) → T (follows first rs)
    → ((w : ℕ) → first ≤ w → w < 65536 → f w ≡ p (operation_among rs w))
    → count_below 65536 f ≡ count_rows first rs p + count_below first f
count-in first [] p f t h = let e : first ≡ 65536 = eqb→eq first 0x10000 t in rw e (omega arith)
count-in first (row ∷ rest) p f t h =
    let l : first ≤ row.0 = begins-le first row rest t in
    let r = follows-rest first row rest t in
    let u : suc row.0 ≤ 65536 = follows-le (suc row.0) rest r in
    let e : suc row.0 - first + first ≡ suc row.0 = omega arith in
    let here : count_below (suc row.0) f ≡ cond (p row.1) (suc row.0 - first) 0 + count_below first f =
    ap (λ (n : ℕ). count_below n f) (sym e)
    ∙ count-run (suc row.0 - first) first f (p row.1)
    (λ k a b. h k a (omega arith) ∙ ap (λ (x : Bool). p (cond x row.1 (operation_among rest k))) (le-leb k row.0 (omega arith))) in
    let above : count_below 65536 f ≡ count_rows (suc row.0) rest p + count_below (suc row.0) f =
    count-in (suc row.0) rest p f r
    (λ w a b. h w (omega arith) b
    ∙ ap (λ (x : Bool). p (cond x row.1 (operation_among rest w))) (lt-leb w row.0 (omega arith))) in
    above ∙ omega arith

count_none : (n : ℕ) (f : ℕ → Bool) → n + count_below 0 f ≡ n
unfolding count_below
count_none n f = omega arith

pub count-rows : (p : Operation → Bool) → count_below 65536 (λ w. p (operation_of w)) ≡ count_rows 0 rows p
count-rows p =
    count-in 0 rows p (λ w. p (operation_of w)) rows-follow (λ w l h. ap p (row-operation w h))
    ∙ count_none (count_rows 0 rows p) (λ w. p (operation_of w))

-- The lists of words that mean an operation: how long they are, what they hold, and that stepping gives them.
-- Assumes nothing.
use Prim.Native.Nat.{ℕ, zero, suc, ◌+◌, ◌-◌, ◌<◌, ◌≤◌}
use mathlib.Core.Path.{◌≡◌, refl, sym, ap, ◌∙◌}
use mathlib.Core.Bool.{Bool, true, false, cond, ◌||◌}
use mathlib.Core.Logic.{⊎_elim}
use mathlib.Core.List.{List, [], ◌∷◌}
use native.Mathlib.Nat.{eq-or-lt_of_le}
use native.Mathlib.Omega.{arith}
use borrow.Author.Tests.{le-leb, lt-ltb, eq-eqb, ne_eqb, ltb-true, ltb-false}
use lib.Dec.{T, ltb}
use lib.ListN.{length}
use Rattle.word.proofs.Laws.{bool_cases}
use Rattle.isa_ranges.specs.Count.{count_below}
use Rattle.std.specs.Prelude.{Option, Some, None}
use Rattle.std.proofs.lemmas.Option.{none-some, same_Some}
use Rattle.isa_card.specs.Words.{means, words_from, head_of, next_of}
use Rattle.isa_card.specs.Theorems.{CountWords, NextLeast, NextNone, step_on, steps_from, StepsList}
use Rattle.isa_card.specs.Theorems.{among, rising, ListExact, ListRises}

-- ---- one word more

pub words-yes : (o w n : ℕ) → means o w ≡ true → words_from o w (suc n) ≡ w ∷ words_from o (suc w) n
unfolding words_from
words-yes o w n e = ap (λ (b : Bool). cond b (w ∷ words_from o (suc w) n) (words_from o (suc w) n)) e

pub words-no : (o w n : ℕ) → means o w ≡ false → words_from o w (suc n) ≡ words_from o (suc w) n
unfolding words_from
words-no o w n e = ap (λ (b : Bool). cond b (w ∷ words_from o (suc w) n) (words_from o (suc w) n)) e

pub words-end : (o w : ℕ) → words_from o w 0 ≡ []
unfolding words_from
words-end o w = refl

-- ---- length

count-suc : (w : ℕ) (f : ℕ → Bool) (b : Bool) → f w ≡ b → count_below (suc w) f ≡ cond b 1 0 + count_below w f
unfolding count_below
count-suc w f b e = ap (λ (x : Bool). cond x 1 0 + count_below w f) e

length-words : (o w n : ℕ) → length (words_from o w n) + count_below w (means o) ≡ count_below (n + w) (means o)
length-words o w zero =
    let z : count_below w (means o) ≡ count_below (0 + w) (means o) = ap (λ (k : ℕ). count_below k (means o)) (omega arith) in
    rw (words-end o w) (omega (arith, z))
length-words o w (suc n) =
    let i : length (words_from o (suc w) n) + count_below (suc w) (means o)
    ≡ count_below (n + suc w) (means o) = length-words o (suc w) n in
    let e : n + suc w ≡ suc n + w = omega arith in
    let j : length (words_from o (suc w) n) + count_below (suc w) (means o) ≡ count_below (suc n + w) (means o) =
    i ∙ ap (λ (k : ℕ). count_below k (means o)) e in
    bool_cases (means o w)
    (λ q. let s = count-suc w (means o) true q in rw (words-yes o w n q) (omega (arith, s, j)))
    (λ q. let s = count-suc w (means o) false q in rw (words-no o w n q) (omega (arith, s, j)))

count-zero : (f : ℕ → Bool) → count_below 0 f ≡ 0
unfolding count_below
count-zero f = refl

pub count-words : CountWords
count-words o =
    let l : length (words_from o 0 65536) + count_below 0 (means o) ≡ count_below 65536 (means o) = length-words o 0 65536 in
    omega (arith, l, count-zero (means o))

-- ---- the next, word by word

next-words : (o w : ℕ) → 0 < o → next_of o w ≡ head_of (words_from o w (65536 - w))
unfolding next_of
next-words o w h = ap (λ (b : Bool). head_of (cond b [] (words_from o w (65536 - w)))) (ne_eqb o 0 (λ e. omega arith))

pub next-illegal : (w : ℕ) → next_of 0 w ≡ None
unfolding next_of
next-illegal w = refl

pub next_here : (o w : ℕ) → 0 < o → w < 65536 → means o w ≡ true → next_of o w ≡ Some w
next_here o w h l q =
    let e : 65536 - w ≡ suc (65535 - w) = omega arith in
    next-words o w h ∙ ap (λ (n : ℕ). head_of (words_from o w n)) e ∙ ap head_of (words-yes o w (65535 - w) q)

pub next-skip : (o w : ℕ) → 0 < o → w < 65536 → means o w ≡ false → next_of o w ≡ next_of o (suc w)
next-skip o w h l q =
    let e : 65536 - w ≡ suc (65536 - suc w) = omega arith in
    next-words o w h ∙ ap (λ (n : ℕ). head_of (words_from o w n)) e ∙ ap head_of (words-no o w (65536 - suc w) q)
    ∙ sym (next-words o (suc w) h)

pub next-end : (o w : ℕ) → 0 < o → 65536 ≤ w → next_of o w ≡ None
next-end o w h l =
    let e : 65536 - w ≡ 0 = omega arith in
    next-words o w h ∙ ap (λ (n : ℕ). head_of (words_from o w n)) e ∙ ap head_of (words-end o w)

-- ---- the next is the least

abbrev Least : ℕ → ℕ → ℕ → Type 0
Least o w v = (means o v ≡ true) × (w ≤ v) × (v < 65536) × ((u : ℕ) → w ≤ u → u < v → means o u ≡ false)

least-in : (n o w v : ℕ) → 0 < o → n + w ≡ 65536 → next_of o w ≡ Some v → Least o w v
least-in zero o w v h s e = absurd (none-some v (sym (next-end o w h (omega arith)) ∙ e))
least-in (suc n) o w v h s e =
    bool_cases (means o w)
    (λ q.
    let d : w ≡ v = same_Some w v (sym (next_here o w h (omega arith) q) ∙ e) in
    (ap (means o) (sym d) ∙ q, omega arith, omega arith, λ u a b. absurd (omega arith))) (λ q.
    let i : Least o (suc w) v = least-in n o (suc w) v h (omega arith) (sym (next-skip o w h (omega arith) q) ∙ e) in
    let l : suc w ≤ v = i.1 in (
      i.0,
      omega arith,
      i.2,
      λ u a b.
          ⊎_elim (λ (z : w ≡ u). ap (means o) (sym z) ∙ q) (λ (z : w < u). i.3 u z b) (eq-or-lt_of_le a),
    ))

pub next-least : NextLeast
next-least zero w v e = absurd (none-some v (sym (next-illegal w) ∙ e))
next-least (suc o) w v e =
    let h : 0 < suc o = omega arith in
    bool_cases (ltb w 65536)
    (λ q.
    let l : w < 65536 = ltb-true w 65536 q in
    let i : Least (suc o) w v = least-in (65536 - w) (suc o) w v h (omega arith) e in
    (h, i.0, i.1, i.2, i.3)) (λ q. absurd (none-some v (sym (next-end (suc o) w h (ltb-false w 65536 q)) ∙ e)))

none_in : (n o w : ℕ) → 0 < o → n + w ≡ 65536 → next_of o w ≡ None → (u : ℕ) → w ≤ u → u < 65536 → means o u ≡ false
none_in zero o w h s e u a b = absurd (omega arith)
none_in (suc n) o w h s e u a b =
    bool_cases (means o w) (λ q. absurd (none-some w (sym e ∙ next_here o w h (omega arith) q)))
    (λ q.
    ⊎_elim (λ (z : w ≡ u). ap (means o) (sym z) ∙ q)
    (λ (z : w < u). none_in n o (suc w) h (omega arith) (sym (next-skip o w h (omega arith) q) ∙ e) u z b) (eq-or-lt_of_le a))

pub next-none : NextNone
next-none o w h e u a b = none_in (65536 - w) o w h (omega arith) e u a b

-- ---- the list

among_below : (n o w v : ℕ) → v < w → among v (words_from o w n) ≡ false
among_below zero o w v l = ap (among v) (words-end o w)
among_below (suc n) o w v l =
    bool_cases (means o w)
    (λ q. ap (among v) (words-yes o w n q)
    ∙ ap (λ (b : Bool). b || among v (words_from o (suc w) n)) (ne_eqb v w (λ e. omega arith))
    ∙ among_below n o (suc w) v (omega arith))
    (λ q. ap (among v) (words-no o w n q) ∙ among_below n o (suc w) v (omega arith))

among_in : (n o w v : ℕ) → w ≤ v → v < n + w → among v (words_from o w n) ≡ means o v
among_in zero o w v l u = absurd (omega arith)
among_in (suc n) o w v l u =
    ⊎_elim
    (λ (z : w ≡ v).
    bool_cases (means o w)
    (λ q. ap (among v) (words-yes o w n q)
    ∙ ap (λ (b : Bool). b || among v (words_from o (suc w) n)) (eq-eqb v w (sym z)) ∙ sym q ∙ ap (means o) z)
    (λ q. ap (among v) (words-no o w n q) ∙ among_below n o (suc w) v (omega arith) ∙ sym q ∙ ap (means o) z)) (λ (z : w < v).
    bool_cases (means o w)
    (λ q. ap (among v) (words-yes o w n q)
    ∙ ap (λ (b : Bool). b || among v (words_from o (suc w) n)) (ne_eqb v w (λ e. omega arith))
    ∙ among_in n o (suc w) v z (omega arith))
    (λ q. ap (among v) (words-no o w n q) ∙ among_in n o (suc w) v z (omega arith))) (eq-or-lt_of_le l)

pub list-exact : ListExact
list-exact o w h = among_in 65536 o 0 w (omega arith) (omega arith)

rises-in : (n o w first : ℕ) → first ≤ w → n + w ≡ 65536 → T (rising first (words_from o w n))
rises-in zero o w first l s = rw (words-end o w) tt
rises-in (suc n) o w first l s =
    bool_cases (means o w)
    (λ q. rw (words-yes o w n q, le-leb first w l, lt-ltb w 65536 (omega arith)) (rises-in n o (suc w) (suc w) (omega arith) (omega arith)))
    (λ q. rw (words-no o w n q) (rises-in n o (suc w) first (omega arith) (omega arith)))

pub list-rises : ListRises
list-rises o = rises-in 65536 o 0 0 (omega arith) (omega arith)

-- ---- stepping

steps-suc : (o w n : ℕ) (x : Option ℕ) → next_of o w ≡ x → steps_from o w (suc n) ≡ step_on x (λ v. steps_from o v n)
unfolding steps_from
steps-suc o w n x e = ap (λ (y : Option ℕ). step_on y (λ v. steps_from o v n)) e

steps-zero : (o w : ℕ) → steps_from o w 0 ≡ []
unfolding steps_from
steps-zero o w = refl

steps-in : (n o w k : ℕ) → 0 < o → n + w ≡ 65536 → n ≤ k → steps_from o w k ≡ words_from o w n
steps-in zero o w zero h s l = steps-zero o w ∙ sym (words-end o w)
steps-in zero o w (suc k) h s l = steps-suc o w k None (next-end o w h (omega arith)) ∙ sym (words-end o w)
steps-in (suc n) o w zero h s l = absurd (omega arith)
steps-in (suc n) o w (suc k) h s l =
    bool_cases (means o w)
    (λ q. steps-suc o w k (Some w) (next_here o w h (omega arith) q)
    ∙ ap (λ (vs : List ℕ). w ∷ vs) (steps-in n o (suc w) k h (omega arith) (omega arith)) ∙ sym (words-yes o w n q))
    (λ q. steps-suc o w k (next_of o (suc w)) (next-skip o w h (omega arith) q)
    ∙ sym (steps-suc o (suc w) k (next_of o (suc w)) refl)
    ∙ steps-in n o (suc w) (suc k) h (omega arith) (omega arith) ∙ sym (words-no o w n q))

pub steps-list : StepsList
steps-list zero = steps-suc 0 0 65535 None (next-illegal 0)
steps-list (suc o) =
    steps-in 65536 (suc o) 0 65536 (omega arith) (omega arith) (omega arith)
    ∙ ap (λ (b : Bool). cond b [] (words_from (suc o) 0 65536)) (sym (ne_eqb (suc o) 0 (λ e. omega arith)))

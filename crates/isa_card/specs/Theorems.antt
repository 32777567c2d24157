-- What holds of the counts and the lists, as statements; the proofs folder has a proof of each. Assumes nothing.
use Rattle.std.specs.Prelude.{ℕ, zero, suc, ◌+◌, ◌<◌, ◌≤◌, ◌≡◌, Bool, true, false, ◌&&◌, ◌||◌, List, [], ◌∷◌, T, eqb, leb, ltb}
use Rattle.std.specs.Prelude.{Option, Some, None}
use Rattle.isa_ranges.specs.Count.{count_below}
use Rattle.isa_card.specs.Words.{means, words_of, count_of, legal_from, next_of}

-- The count is the number of words below 65,536 that decode so. [02 §11]
abbrev pub CountWords : Type 0
CountWords = (o : ℕ) → count_of o ≡ count_below 65536 (means o)

abbrev pub sum_below : ℕ → (ℕ → ℕ) → ℕ
sum_below zero f = 0
sum_below (suc n) f = f n + sum_below n f

-- The counts of the illegal words and of the 41 operations add up to 65,536. [02 §11]
abbrev pub CountsAddUp : Type 0
CountsAddUp = sum_below 42 count_of ≡ 65536

-- A number that is no operation's counts no word, and there is no next. [02 §11]
abbrev pub NoOperation : Type 0
NoOperation = (o w : ℕ) → 42 ≤ o → (count_of o ≡ 0) × (next_of o w ≡ None)

-- A word that is found is legal and means the operation, lies at or above the given one, and is the least. [02 §11]
abbrev pub NextLeast : Type 0
NextLeast =
    (o w v : ℕ) → next_of o w ≡ Some v
    → (0 < o) × (means o v ≡ true) × (w ≤ v) × (v < 65536) × ((u : ℕ) → w ≤ u → u < v → means o u ≡ false)

-- Where none is found there is none. [02 §11]
abbrev pub NextNone : Type 0
NextNone = (o w : ℕ) → 0 < o → next_of o w ≡ None → (u : ℕ) → w ≤ u → u < 65536 → means o u ≡ false

-- The words that stepping finds from w on, with at most n calls: the next, then the next above it, until there is none.
-- [02 §11]
abbrev pub step_on : Option ℕ → (ℕ → List ℕ) → List ℕ
step_on (Some v) above = v ∷ above (suc v)
step_on None above = []

unfoldable pub steps_from : ℕ → ℕ → ℕ → List ℕ
steps_from o w zero = []
steps_from o w (suc n) = step_on (next_of o w) (λ v. steps_from o v n)

-- Stepping from 0 gives the list of the operation's legal words. [02 §11; 02 §14]
abbrev pub StepsList : Type 0
StepsList = (o : ℕ) → steps_from o 0 65536 ≡ legal_from o 0

-- A word is in the list.
abbrev pub among : ℕ → List ℕ → Bool
among w [] = false
among w (v ∷ rest) = eqb w v || among w rest

-- The list rises from a word on, each word once, up to #FFFF.
abbrev pub rising : ℕ → List ℕ → Bool
rising first [] = true
rising first (v ∷ rest) = leb first v && ltb v 65536 && rising (suc v) rest

-- The list of an operation holds exactly its words. [02 §11]
abbrev pub ListExact : Type 0
ListExact = (o w : ℕ) → w < 65536 → among w (words_of o) ≡ means o w

-- It is "by rising encoded word, each once". [02 §11]
abbrev pub ListRises : Type 0
ListRises = (o : ℕ) → T (rising 0 (words_of o))

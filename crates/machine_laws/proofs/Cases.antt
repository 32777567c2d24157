-- A test's value as a fact about its numbers, a fact as the test's value, and proofs by cases. Each is the library's law of that test,
-- with the numbers left to be inferred, so that a proof by cases names the fact alone. Assumes nothing.
pub use Rattle.word.proofs.Laws.{bool_cases}
use Prim.Native.Nat.{ℕ, ◌<◌, ◌≤◌}
use mathlib.Core.Bool.{Bool, true, false, ◌&&◌, false≢true}
use mathlib.Core.List.{List, [], ◌∷◌}
use mathlib.Core.Logic.{◌≢◌}
use mathlib.Core.Path.{◌≡◌, refl}
use lib.Dec.{eqb, ltb, leb}
use borrow.Author.Tests.{ltb-true, ltb-false, leb-true, leb-false, eqb-true, eqb-false, lt-ltb, le-ltb, le-leb, lt-leb, eq-eqb, ne_eqb}

-- a fact by the two shapes of a list, as `bool_cases` has it by the two values of a test
pub list_cases {ℓ ℓ'} : {A : Type ℓ} {R : Type ℓ'} (l : List A) → (l ≡ [] → R) → ((x : A) (xs : List A) → l ≡ x ∷ xs → R) → R
list_cases [] f g = f refl
list_cases (x ∷ xs) f g = g x xs refl

-- tests of numbers
pub eq_of : {m n : ℕ} → eqb m n ≡ true → m ≡ n
eq_of {m} {n} e = eqb-true m n e

pub neq-of : {m n : ℕ} → eqb m n ≡ false → m ≢ n
neq-of {m} {n} e = eqb-false m n e

pub lt_of : {m n : ℕ} → ltb m n ≡ true → m < n
lt_of {m} {n} e = ltb-true m n e

pub ge-of : {m n : ℕ} → ltb m n ≡ false → n ≤ m
ge-of {m} {n} e = ltb-false m n e

pub le_of : {m n : ℕ} → leb m n ≡ true → m ≤ n
le_of {m} {n} e = leb-true m n e

pub gt-of : {m n : ℕ} → leb m n ≡ false → n < m
gt-of {m} {n} e = leb-false m n e

pub eq_self : (n : ℕ) → eqb n n ≡ true
eq_self n = eq-eqb n n refl

pub is_eq : {m n : ℕ} → m ≡ n → eqb m n ≡ true
is_eq {m} {n} h = eq-eqb m n h

pub not-eq : {m n : ℕ} → m ≢ n → eqb m n ≡ false
not-eq {m} {n} h = ne_eqb m n h

pub is_lt : {m n : ℕ} → m < n → ltb m n ≡ true
is_lt {m} {n} h = lt-ltb m n h

pub not-lt : {m n : ℕ} → n ≤ m → ltb m n ≡ false
not-lt {m} {n} h = le-ltb m n h

pub is_le : {m n : ℕ} → m ≤ n → leb m n ≡ true
is_le {m} {n} h = le-leb m n h

pub not-le : {m n : ℕ} → n < m → leb m n ≡ false
not-le {m} {n} h = lt-leb m n h

-- both of two tests
pub and_left : (a b : Bool) → a && b ≡ true → a ≡ true
and_left true b e = refl
and_left false b e = absurd (false≢true e)

pub and_right : (a b : Bool) → a && b ≡ true → b ≡ true
and_right true b e = e
and_right false b e = absurd (false≢true e)

pub and_both : {a b : Bool} → a ≡ true → b ≡ true → a && b ≡ true
and_both {a} {b} p q = rw (p, q) refl

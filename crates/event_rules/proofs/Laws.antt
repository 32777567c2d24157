-- The first broken rule, test by test; rules 6 and 7 over the whole list: one record that breaks the rule breaks it for the
-- list. Assumes nothing.
use Prim.Native.Nat.{ℕ, zero, suc, ◌<◌, ◌≤◌}
use mathlib.Core.Bool.{Bool, true, false, cond, ◌&&◌, and-false, false≢true}
use mathlib.Core.List.{List, [], ◌∷◌}
use mathlib.Core.Path.{◌≡◌, refl, sym, ap, subst, ◌∙◌}
use native.Mathlib.Omega.{arith}
use lib.Dec.{eqb}
use lib.ListN.{drop}
use lib.Seq.{drop-nil}
use borrow.Author.Tests.{eqb-true, eqb-false}
use Rattle.std.specs.Prelude.{Result, Ok, Err}
use Rattle.machine.specs.declared.Refusal.{Refusal}
use Rattle.machine.specs.Refusal.{event_fits, events_fit_below, in_order, in_order_below, Rule, first_broken}
use Rattle.machine_laws.proofs.Cases.{bool_cases, and_left, and_both}

-- ---- the first broken rule

-- whether rule k is broken, and its refusal
abbrev pub broken? : ℕ → List Rule → Bool
broken? k [] = false
broken? zero (x ∷ xs) = x.broken
broken? (suc k) (x ∷ xs) = broken? k xs

abbrev pub verdict? : ℕ → List Rule → Result (Unit {0}) Refusal
verdict? k [] = Ok tt
verdict? zero (x ∷ xs) = Err x.refusal
verdict? (suc k) (x ∷ xs) = verdict? k xs

-- rule k holds, so the first that is broken comes after it; rule k is broken, and none before it
pub holds : (k : ℕ) (xs : List Rule) {v : Result (Unit {0}) Refusal} → v ≡ first_broken (drop k xs) → broken? k xs ≡ false
    → v ≡ first_broken (drop (suc k) xs)
holds k [] e h = e ∙ ap first_broken (drop-nil k)
holds zero (x ∷ xs) e h = e ∙ ap (λ t. cond t (Err x.refusal) (first_broken xs)) h
holds (suc k) (x ∷ xs) e h = holds k xs e h

pub breaks : (k : ℕ) (xs : List Rule) {v : Result (Unit {0}) Refusal} → v ≡ first_broken (drop k xs) → broken? k xs ≡ true
    → verdict? k xs ≡ v
breaks k [] e h = absurd (false≢true h)
breaks zero (x ∷ xs) e h = sym (e ∙ ap (λ t. cond t (Err x.refusal) (first_broken xs)) h)
breaks (suc k) (x ∷ xs) e h = breaks k xs e h

-- ---- rules 6 and 7

module _ (b : List ℕ) where
  pub fits-none : events_fit_below b 0 ≡ true
  unfolding events_fit_below
  fits-none = refl

  pub fits_next : (k : ℕ) → events_fit_below b k ≡ true → event_fits b k ≡ true → events_fit_below b (suc k) ≡ true
  unfolding events_fit_below
  fits_next k h e = and_both h e

  pub unfit-below : (k n : ℕ) → k < n → event_fits b k ≡ false → events_fit_below b n ≡ false
  unfolding events_fit_below
  unfit-below k zero h e = let z : ⊥ = omega arith in elim z [ ]
  unfit-below k (suc n) h e =
      bool_cases (eqb k n)
      (λ q. ap (λ x. events_fit_below b n && x) (subst (λ i. event_fits b i ≡ false) (eqb-true k n q) e) ∙ and-false (events_fit_below b n))
      (λ q. ap (λ x. x && event_fits b n) (unfit-below k n (omega (arith, eqb-false k n q)) e))

  pub order-one : in_order_below b 1 ≡ true
  unfolding in_order_below
  order-one = refl

  pub order-next : (k : ℕ) → in_order_below b (suc k) ≡ true → in_order b k ≡ true → in_order_below b (suc (suc k)) ≡ true
  unfolding in_order_below
  order-next k h e = and_both h e

  order-shorter : (k : ℕ) → in_order_below b (suc k) ≡ true → in_order_below b k ≡ true
  unfolding in_order_below
  order-shorter zero h = refl
  order-shorter (suc k) h = and_left (in_order_below b (suc k)) (in_order b k) h

  pub order-all : (k n : ℕ) → k ≤ n → n ≤ suc k → in_order_below b (suc k) ≡ true → in_order_below b n ≡ true
  order-all k n h l e =
      bool_cases (eqb n k)
      (λ q. subst (λ i. in_order_below b i ≡ true) (sym (eqb-true n k q)) (order-shorter k e))
      (λ q. let p : suc k ≡ n = omega (arith, eqb-false n k q) in subst (λ i. in_order_below b i ≡ true) p e)

  pub order-end : (k n : ℕ) → k ≤ n → n ≤ k → in_order_below b k ≡ true → in_order_below b n ≡ true
  order-end k n h l e = let p : k ≡ n = omega arith in subst (λ i. in_order_below b i ≡ true) p e

  -- record k + 1 breaks the rule, and then every longer list does
  pub disorder-at : (k : ℕ) → in_order b k ≡ false → in_order_below b (suc (suc k)) ≡ false
  unfolding in_order_below
  disorder-at k e = ap (λ x. in_order_below b (suc k) && x) e ∙ and-false (in_order_below b (suc k))

  disorder-next : (k : ℕ) → in_order_below b k ≡ false → in_order_below b (suc k) ≡ false
  unfolding in_order_below
  disorder-next zero e = e
  disorder-next (suc k) e = ap (λ x. x && in_order b k) e

  pub disorder-longer : (k n : ℕ) → k ≤ n → in_order_below b k ≡ false → in_order_below b n ≡ false
  disorder-longer k zero h e = let p : k ≡ 0 = omega arith in subst (λ i. in_order_below b i ≡ false) p e
  disorder-longer k (suc n) h e =
      bool_cases (eqb k (suc n))
      (λ q. subst (λ i. in_order_below b i ≡ false) (eqb-true k (suc n) q) e)
      (λ q. disorder-next n (disorder-longer k n (omega (arith, eqb-false k (suc n) q)) e))

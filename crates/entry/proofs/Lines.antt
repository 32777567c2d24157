-- The line above a priority: each law takes what the code's calls give, in their order. Assumes nothing.
use Rattle.std.proofs.Common.{
  ◌≡◌,
  ℕ,
  ◌<◌,
  ◌≤◌,
  Bool,
  true,
  false,
  cond,
  ◌&&◌,
  ltb,
  List,
  Option,
  None,
  Some,
  is_some,
  true≢false,
  sym,
  refl,
  ap,
  ◌∙◌,
  subst,
  arith,
  ltb-true,
  le-ltb,
  lt-ltb,
}
use mathlib.Core.Bool.{and-false}
use Rattle.machine.specs.Entry.{priority, best_from, best, above}
use Rattle.machine_laws.proofs.Cases.{bool_cases, and_left, and_both}
use Rattle.entry.specs.Lines.{line_above, Line}

best-no-lines : (m : List ℕ) → best 0 m ≡ 8
unfolding best_from
best-no-lines m = refl

module _ (m : List ℕ) (l p : ℕ) where
  pub line-none : best l m ≡ 8 → 8 ≡ line_above m l p
  line-none e = ap (λ (d : ℕ). cond (above m d p) d 8) (sym e)

  pub line-no-lines : l ≡ 0 → 8 ≡ line_above m l p
  line-no-lines e = line-none (ap (λ (x : ℕ). best x m) e ∙ best-no-lines m)

  pub line-found : (d q : ℕ) → d ≡ best l m → d < 8 → q ≡ priority m d → p < q → d ≡ line_above m l p
  line-found d q e h f g =
      let a : above m d p ≡ true = and_both (lt-ltb d 8 h) (lt-ltb p (priority m d) (subst (λ (x : ℕ). p < x) f g)) in
      ap (λ (b : Bool). cond b d 8) (sym a) ∙ ap (λ (x : ℕ). cond (above m x p) x 8) e

  pub line_low : (d q : ℕ) → d ≡ best l m → q ≡ priority m d → q ≤ p → 8 ≡ line_above m l p
  line_low d q e f g =
      let z = le-ltb p (priority m d) (subst (λ (x : ℕ). x ≤ p) f g) in
      let a : above m d p ≡ false = ap (λ (b : Bool). ltb d 8 && b) z ∙ and-false (ltb d 8) in
      ap (λ (b : Bool). cond b d 8) (sym a) ∙ ap (λ (x : ℕ). cond (above m x p) x 8) e

  -- what the answer says of the best line
  pub line-is : (d : ℕ) → d ≡ line_above m l p → d < 8 → (above m (best l m) p ≡ true) × (best l m ≡ d)
  line-is d e h =
      bool_cases (above m (best l m) p)
      (λ t. (t, sym (e ∙ ap (λ (b : Bool). cond b (best l m) 8) t)))
      (λ f. let z : d ≡ 8 = e ∙ ap (λ (b : Bool). cond b (best l m) 8) f in let w : ⊥ = omega arith in absurd w)

  pub line-isnt : (d : ℕ) → d ≡ line_above m l p → 8 ≤ d → above m (best l m) p ≡ false
  line-isnt d e h =
      bool_cases (above m (best l m) p)
      (λ t. let z : d ≡ best l m = e ∙ ap (λ (b : Bool). cond b (best l m) 8) t in
      let k = ltb-true (best l m) 8 (and_left _ _ t) in let w : ⊥ = omega arith in absurd w)
      (λ f. f)

  -- no answer, no line above
  pub line-none-above : (o : Option ℕ) → Line o (line_above m l p) → is_some o ≡ false → above m (best l m) p ≡ false
  line-none-above None h e = line-isnt 8 (sym h) (omega arith)
  line-none-above (Some d) h e = absurd (true≢false e)

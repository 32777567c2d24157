-- What code looks at of a step is what the step shows: each of its tests is the definition's, over the frames, marks and machine that code
-- holds, and a byte read amiss is looked for only in a step of the application. Assumes nothing.
use Prim.Native.Nat.{ℕ, ◌+◌}
use native.Mathlib.Omega.{arith}
use mathlib.Core.Bool.{Bool, true, false, cond, not, ◌&&◌}
use mathlib.Core.List.{List}
use mathlib.Core.Path.{◌≡◌, refl, sym, ap, ◌∙◌}
use lib.Dec.{eqb}
use Rattle.std.proofs.Common.{Option, Some, None}
use Rattle.std.specs.Bool.{then_some}
use Rattle.std.specs.Option.{is_some}
use Rattle.machine_laws.proofs.Cases.{bool_cases, not-eq, eq_of, neq-of}
use Rattle.soundness.specs.Findings.{some?, first_of}
use Rattle.writers.specs.First.{first_in}
use Rattle.writers.proofs.Found.{first_is, is_found}
use Rattle.findings.specs.declared.Breach.{Breach}
use Rattle.judge_step.specs.Look.{read_amiss}

-- ---- whether there is a breach

pub not-found : {a b : Bool} → not a ≡ b → a ≡ not b
not-found {a} {b} e = sym (twice a) ∙ ap not e
  where
    twice : (x : Bool) → not (not x) ≡ x
    twice true = refl
    twice false = refl

pub changed-any : (p : Bool) (x : ℕ) → not (eqb (cond p x 0) 0) ≡ (p && not (eqb x 0))
changed-any true x = refl
changed-any false x = refl

pub read-any : (q : ℕ → Bool) (l : List ℕ) (m : Bool) → is_some (cond m (first_in q l) None) ≡ (m && some? q l)
read-any q l true = is_found q l
read-any q l false = refl

-- ---- what is shown

pub none-sum : (a b : ℕ) → (eqb a 0 && eqb b 0) ≡ eqb (a + b) 0
none-sum a b =
    bool_cases (eqb a 0)
    (λ p. rw p (ap (λ (n : ℕ). eqb n 0) (by_zero p)))
    (λ p. rw p (sym (not-eq {m = a + b} {n = 0} (λ e. absurd (neq p (omega (arith, e)))))))
  where
    by_zero : eqb a 0 ≡ true → b ≡ a + b
    by_zero p = let q : a ≡ 0 = eq_of p in omega (arith, q)

    neq : eqb a 0 ≡ false → a ≡ 0 → ⊥
    neq p = neq-of p

-- a test that is made of two
pub and-then : {r a : Bool} (b : Bool) → a ≡ true → r ≡ b → r ≡ (a && b)
and-then b e p = p ∙ sym (ap (λ x. x && b) e)

pub and-else : {r a : Bool} (b : Bool) → a ≡ false → r ≡ a → r ≡ (a && b)
and-else b e p = p ∙ e ∙ sym (ap (λ x. x && b) e)

-- a breach told where it is made
pub told-law : {b c : Bool} {x y a d : ℕ} {r : Option Breach} → b ≡ c → x ≡ y → a ≡ d
    → r ≡ then_some {T = Breach} b (record { detail = x; address = a })
    → r ≡ cond c (Some (record { detail = y; address = d })) None
told-law {c = c} {y = y} {d = d} e f g h = h ∙ (λ i. then_some {T = Breach} (e i) (record { detail = f i; address = g i })) ∙ same c
  where
    same : (b : Bool) → then_some {T = Breach} b (record { detail = y; address = d })
        ≡ cond b (Some (record { detail = y; address = d })) None
    same true = refl
    same false = refl

-- of what a pull finds changed
pub changed-shown : (p : Bool) (x a : ℕ) → let b : ℕ → Breach = λ n. record { detail = n; address = a } in
    cond (not (eqb (cond p x 0) 0)) (Some (b (cond p x 0))) None ≡ cond (p && not (eqb x 0)) (Some (b x)) None
changed-shown true x a = refl
changed-shown false x a = refl

-- of a byte read, if the step is the application's
pub read-shown : (q : ℕ → Bool) (l : List ℕ) (m : Bool)
    → read_amiss (cond m (first_in q l) None) ≡ cond (m && some? q l) (Some (record { detail = 0; address = first_of q l })) None
read-shown q l true = ap read_amiss (first_is q l) ∙ told (some? q l)
  where
    told : (b : Bool) → read_amiss (cond b (Some (first_of q l)) None) ≡ cond b (Some (record { detail = 0; address = first_of q l })) None
    told true = refl
    told false = refl
read-shown q l false = refl

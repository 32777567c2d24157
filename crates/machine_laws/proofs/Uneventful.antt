-- Uneventful steps one after the other. Assumes nothing.
use Prim.Native.Nat.{ℕ, ◌+◌, ◌-◌, ◌≤◌}
use native.Mathlib.Omega.{arith}
use mathlib.Core.Bool.{true}
use mathlib.Core.List.{List}
use mathlib.Core.Path.{◌≡◌, sym, ap, subst, ◌∙◌}
use lib.Dec.{ltb}
use Rattle.machine.specs.State.{State}
use Rattle.machine.specs.Events.{Event}
use Rattle.machine.specs.Run.{run_of}
use Rattle.machine.specs.Uneventful.{uneventful?, next_act, Uneventful}
use Rattle.machine_laws.proofs.Cases.{bool_cases, lt_of, ge-of}
use Rattle.machine_laws.proofs.Runs.{run-zero, run-append}

module _ (ev : List Event) (s : State) where
  pub uneventful-none : Uneventful ev s 0
  uneventful-none i h = absurd (omega arith)

  pub uneventful-one : uneventful? (next_act ev s) ≡ true → Uneventful ev s 1
  uneventful-one h i l =
      let e : i ≡ 0 = omega arith in
      subst (λ j. uneventful? (next_act ev (run_of ev s j).state) ≡ true) (sym e)
      (ap (λ r. uneventful? (next_act ev r.state)) (run-zero ev s) ∙ h)

  pub uneventful-append : (m n : ℕ) → Uneventful ev s m → Uneventful ev (run_of ev s m).state n → Uneventful ev s (m + n)
  uneventful-append m n f g i h =
      bool_cases (ltb i m)
      (λ q. f i (lt_of q)) (λ q.
      let l : m ≤ i = ge-of q in
      let e : m + (i - m) ≡ i = omega arith in
      subst (λ j. uneventful? (next_act ev (run_of ev s j).state) ≡ true) e
      (ap (λ r. uneventful? (next_act ev r.state)) (run-append ev s m (i - m)) ∙ g (i - m) (omega arith)))

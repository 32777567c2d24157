-- The run, one step more and after a halt. A run of one step more is the run and a step, which a halted machine does not take; so a halted
-- machine stays as it is, and a run that is not halted has done all its steps. Assumes nothing.
use Prim.Native.Nat.{ℕ, zero, suc, ◌+◌, ◌≤◌}
use native.Mathlib.Nat.{add-suc, add-zero}
use native.Mathlib.Numerals.{add-one}
use native.Mathlib.Omega.{arith}
use mathlib.Core.Bool.{true, false, cond, true≢false}
use mathlib.Core.List.{List}
use mathlib.Core.Path.{◌≡◌, refl, sym, ap, ◌∙◌}
use Rattle.machine.specs.State.{State}
use Rattle.machine.specs.Events.{Event}
use Rattle.machine.specs.Devices.{deliver}
use Rattle.machine.specs.Step.{step_of, finished}
use Rattle.machine.specs.Run.{Run, ran, further, run_of}
use Rattle.machine_laws.proofs.Cases.{bool_cases}

-- a halted machine takes no step; any other finishes the step that its due events begin
pub step-halted : (ev : List Event) (s : State) → s.halted ≡ true → step_of ev s ≡ s
unfolding step_of
step-halted ev s h = ap (λ b. cond b s (finished (deliver ev s))) h

pub step-live : (ev : List Event) (s : State) → s.halted ≡ false → step_of ev s ≡ finished (deliver ev s)
unfolding step_of
step-live ev s h = ap (λ b. cond b s (finished (deliver ev s))) h

further-halted : (ev : List Event) (r : Run) → r.state.halted ≡ true → further ev r ≡ r
further-halted ev r h = ap (λ b. cond b r (ran (step_of ev r.state) (suc r.steps))) h

further-live : (ev : List Event) (r : Run) → r.state.halted ≡ false → further ev r ≡ ran (step_of ev r.state) (suc r.steps)
further-live ev r h = ap (λ b. cond b r (ran (step_of ev r.state) (suc r.steps))) h

module _ (ev : List Event) (s : State) where
  pub run-zero : run_of ev s 0 ≡ ran s 0
  unfolding run_of
  run-zero = refl

  pub run-next : (k : ℕ) → (run_of ev s k).state.halted ≡ false
      → run_of ev s (suc k) ≡ ran (step_of ev (run_of ev s k).state) (suc (run_of ev s k).steps)
  unfolding run_of
  run-next k h = further-live ev (run_of ev s k) h

  pub run-halted : (k : ℕ) → (run_of ev s k).state.halted ≡ true → run_of ev s (suc k) ≡ run_of ev s k
  unfolding run_of
  run-halted k h = further-halted ev (run_of ev s k) h

  -- the state alone: halted or not, it is the step's
  pub run_step : (k : ℕ) → (run_of ev s (suc k)).state ≡ step_of ev (run_of ev s k).state
  run_step k =
      bool_cases (run_of ev s k).state.halted
      (λ h. ap (λ r. r.state) (run-halted k h) ∙ sym (step-halted ev (run_of ev s k).state h)) (λ h. ap (λ r. r.state) (run-next k h))

  -- a halted machine stays as it is
  pub run-stays : (k j : ℕ) → (run_of ev s k).state.halted ≡ true → run_of ev s (k + j) ≡ run_of ev s k
  run-stays k zero h = ap (run_of ev s) (add-zero k)
  run-stays k (suc j) h =
      ap (run_of ev s) (add-suc k j)
      ∙ run-halted (k + j) (ap (λ r. r.state.halted) (run-stays k j h) ∙ h)
      ∙ run-stays k j h

  pub run-started-halted : (n : ℕ) → s.halted ≡ true → run_of ev s n ≡ ran s 0
  run-started-halted zero h = run-zero
  run-started-halted (suc n) h =
      run-halted n (ap (λ r. r.state.halted) (run-started-halted n h) ∙ h) ∙ run-started-halted n h

  -- a machine that is not halted after n steps was not halted before
  pub live-before : (k : ℕ) → (run_of ev s (suc k)).state.halted ≡ false → (run_of ev s k).state.halted ≡ false
  live-before k h =
      bool_cases (run_of ev s k).state.halted
      (λ q. absurd (true≢false (sym q ∙ sym (ap (λ r. r.state.halted) (run-halted k q)) ∙ h))) (λ q. q)

  -- the steps done: at most n, and n unless halted
  pub steps-le : (n : ℕ) → (run_of ev s n).steps ≤ n
  steps-le zero = rw run-zero (omega arith)
  steps-le (suc n) =
      let p = steps-le n in
      bool_cases (run_of ev s n).state.halted
      (λ h. rw (ap (λ r. r.steps) (run-halted n h)) (omega arith)) (λ h. rw (ap (λ r. r.steps) (run-next n h)) (omega arith))

  pub steps_all : (n : ℕ) → (run_of ev s n).state.halted ≡ false → (run_of ev s n).steps ≡ n
  steps_all zero h = ap (λ r. r.steps) run-zero
  steps_all (suc n) h =
      ap (λ r. r.steps) (run-next n (live-before n h)) ∙ ap suc (steps_all n (live-before n h))

-- a run of k and then of j is a run of k + j
pub run-append : (ev : List Event) (s : State) (k j : ℕ) →
    run_of ev s (k + j) ≡ ran (run_of ev (run_of ev s k).state j).state ((run_of ev s k).steps + (run_of ev (run_of ev s k).state j).steps)
run-append ev s k zero =
    let t = (run_of ev s k).state in
    ap (run_of ev s) (add-zero k)
    ∙ sym (ap (λ r. ran r.state ((run_of ev s k).steps + r.steps)) (run-zero ev t)
    ∙ ap (ran t) (add-zero (run_of ev s k).steps))
run-append ev s k (suc j) =
    let t = (run_of ev s k).state in
    let r = run_of ev t j in
    let prev = run-append ev s k j in
    let halt-is : (run_of ev s (k + j)).state.halted ≡ r.state.halted = ap (λ x. x.state.halted) prev in
    ap (run_of ev s) (add-suc k j)
    ∙ bool_cases r.state.halted
    (λ h. run-halted ev s (k + j) (halt-is ∙ h) ∙ prev
    ∙ sym (ap (λ x. ran x.state ((run_of ev s k).steps + x.steps)) (run-halted ev t j h)))
    (λ h. run-next ev s (k + j) (halt-is ∙ h)
    ∙ ap (λ x. ran (step_of ev x.state) (suc x.steps)) prev
    ∙ ap (λ x. ran (step_of ev r.state) x) (sym (add-suc (run_of ev s k).steps r.steps))
    ∙ sym (ap (λ x. ran x.state ((run_of ev s k).steps + x.steps)) (run-next ev t j h)))

-- one turn of a run: the events of a step, and then the step
pub run-turn :
    (ev : List Event) (s₀ s t u : State) (k : ℕ) → ran s k ≡ run_of ev s₀ k → s.halted ≡ false → t ≡ deliver ev s → u ≡ finished t →
    ran u (k + 1) ≡ run_of ev s₀ (k + 1)
run-turn ev s₀ s t u k e h p q =
    let r = sym (ap (λ x. x.state) e) in
    let f : step_of ev s ≡ u = step-live ev s h ∙ ap finished (sym p) ∙ sym q in
    let g = run-next ev s₀ k (ap (λ x. x.halted) r ∙ h) in
    let w : run_of ev s₀ (suc k) ≡ ran u (suc k) =
    g ∙ ap (λ x. ran (step_of ev x.state) (suc x.steps)) (sym e) ∙ ap (λ x. ran x (suc k)) f in
    rw (add-one k) (sym w)

-- An advance from its parts: turned back, or run from the machine's own state. Assumes nothing.
use Prim.Native.Nat.{ℕ, suc, ◌+◌, ◌*◌, ◌≤◌}
use mathlib.Core.Bool.{Bool, true, false, cond, not}
use mathlib.Core.List.{List}
use mathlib.Core.Path.{◌≡◌, refl, sym, ap, ◌∙◌}
use native.Mathlib.Omega.{arith}
use mir.Val.{bool_byte}
use lib.ListN.{length}
use Rattle.std.specs.Prelude.{Result, Ok, Err}
use Rattle.machine.specs.declared.Depth.{Depth}
use Rattle.machine.specs.declared.Reason.{Reason}
use Rattle.machine.specs.declared.Reason.TheVariants.{Done, Halted}
use Rattle.machine.specs.declared.Refusal.{Refusal}
use Rattle.machine.specs.State.{State}
use Rattle.machine.specs.Record.{record_of}
use Rattle.machine.specs.Events.{events_of}
use Rattle.machine.specs.Step.{step_of}
use Rattle.machine.specs.Refusal.{verdict_of, call_verdict, refusal_number, accepted?}
use Rattle.machine.specs.Run.{Run, ran, run_of, reason_of, reason_number}
use Rattle.machine.specs.Logged.{Logged, run_logged, reason_logged}
use Rattle.machine.specs.Call.{reply_number, room_of, log_after}
use Rattle.machine.specs.Depth.{depth, depth_from, deepest_from}
use Rattle.machine_laws.proofs.Cases.{bool_cases}
use Rattle.machine_laws.proofs.Runs.{step-halted, run-zero, run-next, run-halted}
use Rattle.run_laws.proofs.Room.{logged-le, records-le}
use Rattle.run_answer.proofs.Calls.{call-passed}
use Rattle.open_machine.specs.Advance.{Advance, advance_for, advance_of, advance_deepest}
use Rattle.open_machine.specs.Advance.{Taken, step_for, step_advance}

-- ---- the advance

abbrev reached : ℕ → State → List ℕ → Advance
reached k s log = record { reply = k; state = s; log = log }

module _ (s : State) (events log : List ℕ) (n : ℕ) where
  abbrev verdict : Result (Unit {0}) Refusal
  verdict = call_verdict s.mem (record_of s) events log n

  abbrev gone : Logged
  gone = run_logged (events_of events) s (room_of log) n

  abbrev figure : ℕ → Result (Unit {0}) Refusal → ℕ
  figure number v = cond (accepted? v) (deepest_from (events_of events) s gone.steps) number

  pub advance-refused : (x : Refusal) (k : ℕ) → verdict ≡ Err x → k ≡ refusal_number (Err x) → reached k s log ≡ advance_of s events log n
  unfolding advance_of
  advance-refused x k e f =
      let reply : k ≡ reply_number (refusal_number (Err x)) 0 0 0 = omega (arith, f) in
      ap (λ j. reached j s log) reply ∙ sym (ap (λ v. advance_for v s log gone) e)

  -- the number lent for the figure
  pub figure-kept : (x : Refusal) → verdict ≡ Err x → (number : ℕ) → number ≡ advance_deepest s events log n number
  unfolding advance_deepest
  figure-kept x e number = sym (ap (figure number) e)

  module _ (ok : verdict ≡ Ok tt) where
    pub figure-ran : (d : Depth) (number : ℕ) → d ≡ depth_from (events_of events) s (depth 0 0) gone.steps
        → d.deepest ≡ advance_deepest s events log n number
    unfolding advance_deepest
    figure-ran d number q = ap (λ (x : Depth). x.deepest) q ∙ sym (ap (figure number) ok)

    -- few steps and few records, so that each has its bits
    pub few_steps : (j : ℕ) → j ≡ gone.steps → j ≤ 1000000
    few_steps j q =
        let l = logged-le (events_of events) s (room_of log) n in
        let p = (call-passed s.mem (record_of s) events log n ok).few_steps in
        omega arith

    pub few-records : (j : ℕ) → j ≡ length gone.records → j ≤ 1000000
    few-records j q =
        let l = records-le (events_of events) s (room_of log) n in
        let p = few_steps gone.steps refl in
        omega arith

    pub advance-ran :
        (t : State) (log' : List ℕ) (a : Reason) (steps added reply : ℕ) →
        t ≡ gone.state → a ≡ reason_logged gone → steps ≡ gone.steps → added ≡ length gone.records → log' ≡ log_after log gone →
        reply ≡ reply_number 0 (reason_number a) steps added →
        reached reply t log' ≡ advance_of s events log n
    unfolding advance_of
    advance-ran t log' a steps added reply es ea en ek el sum =
        (λ i. reached ((sum ∙ (λ j. reply_number 0 (reason_number (ea j)) (en j) (ek j))) i) (es i) (el i))
        ∙ sym (ap (λ v. advance_for v s log gone) ok)

-- ---- one step

abbrev took : ℕ → State → Taken
took k s = record { reply = k; state = s }

-- the reason's number is the halted mark
mark : (h : Bool) → bool_byte h ≡ reason_number (cond h Halted Done)
mark true = refl
mark false = refl

module _ (s : State) (events : List ℕ) where
  abbrev one : Run
  one = run_of (events_of events) s 1

  pub step-refused : (x : Refusal) (k : ℕ) → verdict_of s.mem (record_of s) events 1 ≡ Err x → k ≡ refusal_number (Err x)
      → took k s ≡ step_advance s events
  unfolding step_advance
  step-refused x k e f =
      let reply : k ≡ reply_number (refusal_number (Err x)) 0 0 0 = omega (arith, f) in
      ap (λ j. took j s) reply ∙ sym (ap (λ v. step_for v s one) e)

  pub step-ran :
      (t : State) (steps : ℕ) → verdict_of s.mem (record_of s) events 1 ≡ Ok tt → ran t steps ≡ one →
      took (256 * bool_byte t.halted + 65536 * steps) t ≡ step_advance s events
  unfolding step_advance
  step-ran t steps ok went =
      let j = mark t.halted in
      let q : 256 * bool_byte t.halted + 65536 * steps ≡ reply_number 0 (reason_number (reason_of (ran t steps))) steps 0 =
      rw (← j) (omega arith) in
      ap (λ i. took i t) q
      ∙ ap (λ z. took (reply_number 0 (reason_number (reason_of z)) z.steps 0) z.state) went
      ∙ sym (ap (λ v. step_for v s one) ok)

-- a run of 1 is the step, counted where it is taken
pub run-one : (s : State) (b : List ℕ) (t : State) → t ≡ step_of (events_of b) s
    → ran t (bool_byte (not s.halted)) ≡ run_of (events_of b) s 1
run-one s b t e =
    let ev = events_of b in
    let z = run-zero ev s in
    bool_cases s.halted
    (λ h.
    let live : (run_of ev s 0).state.halted ≡ true = ap (λ r. r.state.halted) z ∙ h in
    (λ i. ran ((e ∙ step-halted ev s h) i) (bool_byte (not (h i)))) ∙ sym z ∙ sym (run-halted ev s 0 live)) (λ h.
    let live : (run_of ev s 0).state.halted ≡ false = ap (λ r. r.state.halted) z ∙ h in
    (λ i. ran (e i) (bool_byte (not (h i))))
    ∙ sym (run-next ev s 0 live ∙ ap (λ r. ran (step_of ev r.state) (suc r.steps)) z))

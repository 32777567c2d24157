-- The run call from its parts: refused, or run. Refused, its reply is the refusal's number; accepted, the run is the definition's, from
-- the state that the record holds. Assumes nothing.
use Prim.Native.Nat.{ℕ, ◌≤◌}
use mathlib.Core.List.{List}
use mathlib.Core.Path.{◌≡◌, sym, ap, ◌∙◌}
use native.Mathlib.Omega.{arith}
use lib.ListN.{length}
use Rattle.std.specs.Prelude.{Ok, Err}
use Rattle.machine.specs.declared.Depth.{Depth}
use Rattle.machine.specs.declared.Machine.{Machine}
use Rattle.machine.specs.declared.Reason.{Reason}
use Rattle.machine.specs.declared.Refusal.{Refusal}
use Rattle.machine.specs.State.{state_of}
use Rattle.machine.specs.Record.{state_in, record_of}
use Rattle.machine.specs.Events.{events_of}
use Rattle.machine.specs.Refusal.{call_verdict, refusal_number, accepted?}
use Rattle.machine.specs.Run.{reason_number}
use Rattle.machine.specs.Logged.{Logged, run_logged, reason_logged}
use Rattle.machine.specs.Call.{Closing, reply_number, room_of, log_after, closing, closing_of, run_on, run_call_of}
use Rattle.machine.specs.Depth.{depth, depth_from, deepest_from, call_deepest}
use Rattle.machine_laws.specs.Passed.{Passed}
use Rattle.machine_laws.proofs.Records.{passed}
use Rattle.run_laws.proofs.Room.{logged-le, records-le}
use Rattle.run_laws.proofs.Verdicts.{call-start}
use Rattle.run_laws.proofs.Calls.{accepted-call}
use Rattle.run_laws.proofs.Depth.{accepted-deepest, refused-deepest}

-- ---- the call

abbrev pub closed : ℕ → (memory r log : List ℕ) → Closing
closed k memory r log = record { reply = k; memory = memory; state = r; log = log }

module _ (memory r events log : List ℕ) (n : ℕ) where
  pub call-refused : (x : Refusal) (k : ℕ) → call_verdict memory r events log n ≡ Err x → k ≡ refusal_number (Err x)
      → closed k memory r log ≡ run_call_of memory r events log n
  unfolding run_call_of
  call-refused x k e f =
      let reply : k ≡ reply_number (refusal_number (Err x)) 0 0 0 = omega (arith, f) in
      ap (λ j. closed j memory r log) reply ∙ sym (ap (λ v. closing_of v memory r log (run_on memory r events log n)) e)

  -- the number lent for the figure
  pub figure-kept : (x : Refusal) → call_verdict memory r events log n ≡ Err x → (number : ℕ)
      → number ≡ call_deepest memory r events log n number
  figure-kept x e number = sym (refused-deepest memory r events log n number (ap accepted? e))

  pub call-passed : call_verdict memory r events log n ≡ Ok tt → Passed memory r events n
  call-passed ok = passed memory r events n (call-start memory r events log n ok)

  -- the run from the machine that the record holds
  module _ (ok : call_verdict memory r events log n ≡ Ok tt) (m : Machine) (read : (mem : List ℕ) → state_of m mem ≡ state_in r mem) where
    abbrev ran : Logged
    ran = run_logged (events_of events) (state_of m memory) (room_of log) n

    run_is : ran ≡ run_on memory r events log n
    run_is = ap (λ t. run_logged (events_of events) t (room_of log) n) (read memory)

    -- few steps and few records, so that each has its bits
    pub few_steps : ran.steps ≤ 1000000
    few_steps =
        let l = logged-le (events_of events) (state_of m memory) (room_of log) n in
        let p = (call-passed ok).few_steps in
        omega arith

    pub few-records : length ran.records ≤ 1000000
    few-records = let l = records-le (events_of events) (state_of m memory) (room_of log) n in let p = few_steps in omega arith

    pub figure-ran : (d : Depth) (number : ℕ) → d ≡ depth_from (events_of events) (state_of m memory) (depth 0 0) ran.steps
        → d.deepest ≡ call_deepest memory r events log n number
    figure-ran d number q =
        ap (λ (x : Depth). x.deepest) q
        ∙ (λ i. deepest_from (events_of events) (read memory i) (run_is i).steps)
        ∙ sym (accepted-deepest memory r events log n number ok)

    pub call-ran :
        (l : Machine) (memory' r' log' : List ℕ) (a : Reason) (steps added reply : ℕ) →
        state_of l memory' ≡ ran.state → a ≡ reason_logged ran → steps ≡ ran.steps → added ≡ length ran.records →
        log' ≡ log_after log ran → ((mem : List ℕ) → r' ≡ record_of (state_of l mem)) →
        reply ≡ reply_number 0 (reason_number a) steps added →
        closed reply memory' r' log' ≡ run_call_of memory r events log n
    call-ran l memory' r' log' a steps added reply es ea en ek el write sum =
        (λ i. closed
        ((sum ∙ (λ j. reply_number 0 (reason_number (ea j)) (en j) (ek j))) i) (es i).mem ((write memory' ∙ ap record_of es) i) (el i))
        ∙ ap (closing log) run_is
        ∙ sym (accepted-call memory r events log n ok)

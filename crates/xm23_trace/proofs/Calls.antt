-- The trace call from its parts: refused, or run. Its tests are made in the definition's order, and few steps and few events mean few
-- records, so that each part of the reply has its bits. Assumes nothing.
use Prim.Native.Nat.{ℕ, zero, suc, ◌%◌, ◌<◌, ◌≤◌}
use mathlib.Core.Bool.{true, false, cond, not, ◌||◌}
use mathlib.Core.List.{List}
use mathlib.Core.Logic.{◌≢◌}
use mathlib.Core.Path.{◌≡◌, refl, sym, ap, ◌∙◌}
use native.Mathlib.Omega.{arith}
use lib.Dec.{ltb}
use lib.ListN.{length}
use Rattle.machine.specs.declared.Machine.{Machine}
use Rattle.machine.specs.declared.Reason.{Reason}
use Rattle.machine.specs.State.{state_of}
use Rattle.machine.specs.Record.{state_in, record_of}
use Rattle.machine.specs.Events.{events_from, events_of, event_count}
use Rattle.machine.specs.Refusal.{verdict_of, refusal_number}
use Rattle.machine.specs.Run.{reason_number}
use Rattle.machine.specs.Call.{reply_number}
use Rattle.machine_laws.specs.Passed.{Passed}
use Rattle.machine_laws.proofs.Cases.{is_eq, is_lt, not-eq, not-lt}
use Rattle.trace.specs.Trace.{traced_of}
use Rattle.trace.specs.Traced.{Traced, run_traced, reason_traced}
use Rattle.trace.specs.Before.{Apart}
use Rattle.trace.specs.Call.{Closing, misfits, refusal_of, room_of, trace_after, closing, run_on, trace_call_of}
use Rattle.run_laws.proofs.Roomed.{room-le}
use Rattle.trace.proofs.Before.{events-apart}
use Rattle.trace.proofs.Enough.{records-few}
use Rattle.trace.proofs.Calls.{refused-call, accepted-call, refusal-first, refusal-then, accepted-passed}

abbrev closed : ℕ → (memory r trace : List ℕ) → Closing
closed k memory r trace = record { reply = k; memory = memory; state = r; trace = trace }

-- the events of a list, counted
from-length : (b : List ℕ) (n k : ℕ) → length (events_from b k n) ≡ n
unfolding events_from
from-length b zero k = refl
from-length b (suc n) k = ap suc (from-length b n (suc k))

-- ---- the refusal by its tests

-- a trace that is no whole number of records, or a kind that there is not; neither
module _ (trace : List ℕ) (ks : ℕ) where
  pub misfit-length : length trace % 16 ≢ 0 → misfits trace ks ≡ true
  unfolding misfits
  misfit-length h = ap (λ b. not b || ltb 4095 ks) (not-eq h)

  pub misfit-kinds : length trace % 16 ≡ 0 → 4095 < ks → misfits trace ks ≡ true
  unfolding misfits
  misfit-kinds h l = ap (λ b. not b || ltb 4095 ks) (is_eq h) ∙ is_lt l

  pub fitting : length trace % 16 ≡ 0 → ks ≤ 4095 → misfits trace ks ≡ false
  unfolding misfits
  fitting h l = ap (λ b. not b || ltb 4095 ks) (is_eq h) ∙ not-lt l

module _ (memory r events trace : List ℕ) (ks n v : ℕ) (e : v ≡ refusal_number (verdict_of memory r events n)) where
  pub start-refused : v ≢ 0 → v ≡ refusal_of memory r events trace ks n
  start-refused h = e ∙ sym (refusal-first memory r events trace ks n (λ q. h (e ∙ q)))

  pub then-refused : v ≡ 0 → misfits trace ks ≡ true → 21 ≡ refusal_of memory r events trace ks n
  then-refused h m = sym (refusal-then memory r events trace ks n (sym e ∙ h) ∙ ap (λ b. cond b 21 0) m)

  pub none-refused : v ≡ 0 → misfits trace ks ≡ false → 0 ≡ refusal_of memory r events trace ks n
  none-refused h m = sym (refusal-then memory r events trace ks n (sym e ∙ h) ∙ ap (λ b. cond b 21 0) m)

-- ---- refused, or run

module _ (memory r events trace : List ℕ) (ks n f : ℕ) (e : f ≡ refusal_of memory r events trace ks n) where
  pub call-passed : f ≡ 0 → Passed memory r events n
  call-passed h = accepted-passed memory r events trace ks n (sym e ∙ h)

  pub call-apart : f ≡ 0 → Apart (events_of events)
  call-apart h = events-apart events (call-passed h).no_twins

  pub call-refused : f ≢ 0 → closed f memory r trace ≡ trace_call_of memory r events trace ks n
  call-refused h =
      let reply : f ≡ reply_number (refusal_of memory r events trace ks n) 0 0 0 = omega (arith, e) in
      ap (λ k. closed k memory r trace) reply ∙ sym (refused-call memory r events trace ks n (λ q. h (e ∙ q)))

  -- the run from the machine that the record holds
  module _ (h : f ≡ 0) (m : Machine) (read : (mem : List ℕ) → state_of m mem ≡ state_in r mem) where
    abbrev ran : Traced
    ran = run_traced ks (events_of events) (state_of m memory) (room_of trace) n

    run_is : ran ≡ run_on memory r events trace ks n
    run_is = ap (λ t. run_traced ks (events_of events) t (room_of trace) n) (read memory)

    -- few steps and few records, so that each has its bits
    pub few_steps : ran.steps ≤ 1000000
    few_steps =
        let l = room-le (traced_of ks (events_of events)) (events_of events) (state_of m memory) (room_of trace) n in
        let p = (call-passed h).few_steps in
        omega arith

    pub few-records : length ran.records ≤ 1004096
    few-records =
        let l = records-few ks (events_of events) (state_of m memory) (room_of trace) n in
        let c : length (events_of events) ≡ event_count events = from-length events (event_count events) 0 in
        let p = (call-passed h).few_events in
        let q = few_steps in
        omega arith

    pub call-ran :
        (l : Machine) (memory' r' trace' : List ℕ) (a : Reason) (steps added reply : ℕ) →
        state_of l memory' ≡ ran.state → a ≡ reason_traced ran → steps ≡ ran.steps → added ≡ length ran.records →
        trace' ≡ trace_after trace ran → ((mem : List ℕ) → r' ≡ record_of (state_of l mem)) →
        reply ≡ reply_number 0 (reason_number a) steps added →
        closed reply memory' r' trace' ≡ trace_call_of memory r events trace ks n
    call-ran l memory' r' trace' a steps added reply es ea en ek et write sum =
        (λ i. closed
        ((sum ∙ (λ j. reply_number 0 (reason_number (ea j)) (en j) (ek j))) i)
        (es i).mem
        ((write memory' ∙ ap record_of es) i)
        (et i))
        ∙ ap (closing trace) run_is
        ∙ sym (accepted-call memory r events trace ks n (sym e ∙ h))

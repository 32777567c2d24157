-- The run call with a journal from its parts: refused, or run. Assumes nothing.
use Prim.Native.Nat.{ℕ, ◌≤◌}
use native.Mathlib.Omega.{arith}
use mathlib.Core.Bool.{cond}
use mathlib.Core.List.{List}
use mathlib.Core.Logic.{◌≢◌}
use mathlib.Core.Path.{◌≡◌, sym, ap, subst, ◌∙◌}
use lib.ListN.{length}
use Rattle.std.specs.Prelude.{Result, Ok, Err}
use Rattle.machine.specs.declared.Depth.{Depth}
use Rattle.machine.specs.declared.Machine.{Machine}
use Rattle.machine.specs.declared.Reason.{Reason}
use Rattle.machine.specs.declared.Refusal.{Refusal}
use Rattle.machine.specs.State.{state_of}
use Rattle.machine.specs.Record.{state_in, record_of}
use Rattle.machine.specs.Events.{events_of}
use Rattle.machine.specs.Refusal.{call_verdict, refusal_number, accepted?}
use Rattle.machine.specs.Run.{reason_number}
use Rattle.machine.specs.Logged.{Logged, run_logged, reason_logged}
use Rattle.machine.specs.Call.{Closing, reply_number, room_of, log_after, turned_back, run_on}
use Rattle.machine.specs.Depth.{depth, depth_from, deepest_from}
use Rattle.machine_laws.specs.Passed.{Passed}
use Rattle.machine_laws.proofs.Cases.{not-eq}
use Rattle.run_laws.proofs.Calls.{accepted-call}
use Rattle.journal.specs.Ring.{Journal, journal_after}
use Rattle.journal.specs.Call.{journal_verdict, JournalClosing, run_journal_of, journal_deepest}
use Rattle.journal.proofs.Ring.{RingFits}
use Rattle.journal.proofs.Calls.{journal-call, journal-ring}
use Rattle.journal.proofs.Calls.{journal-answer, journal-refused}
use Rattle.journal_record.specs.declared.Ring.{Ring}
use Rattle.journal_record.specs.Ring.{journal_with}
use Rattle.kept_run.specs.Kept.{kept_over}
use Rattle.run_answer.proofs.Calls.{call-passed, call-ran, few_steps, few-records}

-- ---- the call

abbrev pub closed : ℕ → (memory r log : List ℕ) → Closing
closed k memory r log = record { reply = k; memory = memory; state = r; log = log }

module _ (memory r events log : List ℕ) (j : Journal) (n : ℕ) where
  abbrev verdict : Result (Unit {0}) Refusal
  verdict = journal_verdict memory r events log j n

  -- refused: nothing moves
  pub refused-closing : (x : Refusal) (k : ℕ) → verdict ≡ Err x → k ≡ refusal_number (Err x)
      → closed k memory r log ≡ (run_journal_of memory r events log j n).closing
  refused-closing x k e f =
      let reply : k ≡ reply_number (refusal_number (Err x)) 0 0 0 = omega (arith, f) in
      ap (λ i. closed i memory r log) reply
      ∙ sym (ap (λ v. turned_back v memory r log) e)
      ∙ sym (ap (λ (y : JournalClosing). y.closing) (journal-refused memory r events log j n (ap accepted? e)))

  pub refused-journal : (x : Refusal) → verdict ≡ Err x → j ≡ (run_journal_of memory r events log j n).journal
  refused-journal x e = sym (ap (λ (y : JournalClosing). y.journal) (journal-refused memory r events log j n (ap accepted? e)))

  abbrev figure : ℕ → Result (Unit {0}) Refusal → ℕ
  figure number v = cond (accepted? v) (deepest_from (events_of events) (state_in r memory) (run_on memory r events log n).steps) number

  pub figure-kept : (x : Refusal) → verdict ≡ Err x → (number : ℕ) → number ≡ journal_deepest memory r events log j n number
  unfolding journal_deepest
  figure-kept x e number = sym (ap (figure number) e)

  taken : verdict ≡ Ok tt → call_verdict memory r events log n ≡ Ok tt
  taken ok = journal-call memory r events log j n ok

  pub passed-all : verdict ≡ Ok tt → Passed memory r events n
  passed-all ok = call-passed memory r events log n (taken ok)

  pub ring-passed : verdict ≡ Ok tt → RingFits j
  ring-passed ok = journal-ring memory r events log j n ok

  -- accepted: the run from the machine that the record holds
  module _ (h : verdict ≡ Ok tt) (m : Machine) (read : (mem : List ℕ) → state_of m mem ≡ state_in r mem) where
    abbrev ran : Logged
    ran = run_logged (events_of events) (state_of m memory) (room_of log) n

    run_is : ran ≡ run_on memory r events log n
    run_is = ap (λ t. run_logged (events_of events) t (room_of log) n) (read memory)

    pub steps-few : ran.steps ≤ 1000000
    steps-few = few_steps memory r events log n (taken h) m read

    pub records-few : length ran.records ≤ 1000000
    records-few = few-records memory r events log n (taken h) m read

    pub figure-ran : (d : Depth) (number : ℕ) → d ≡ depth_from (events_of events) (state_of m memory) (depth 0 0) ran.steps
        → d.deepest ≡ journal_deepest memory r events log j n number
    unfolding journal_deepest
    figure-ran d number q =
        ap (λ (x : Depth). x.deepest) q
        ∙ (λ i. deepest_from (events_of events) (read memory i) (run_is i).steps)
        ∙ sym (ap (figure number) h)

    pub closing-ran :
        (l : Machine) (memory' r' log' : List ℕ) (a : Reason) (steps added reply : ℕ) →
        state_of l memory' ≡ ran.state → a ≡ reason_logged ran → steps ≡ ran.steps → added ≡ length ran.records →
        log' ≡ log_after log ran → ((mem : List ℕ) → r' ≡ record_of (state_of l mem)) →
        reply ≡ reply_number 0 (reason_number a) steps added →
        closed reply memory' r' log' ≡ (run_journal_of memory r events log j n).closing
    closing-ran l memory' r' log' a steps added reply es ea en ek el write sum =
        call-ran memory r events log n (taken h) m read l memory' r' log' a steps added reply es ea en ek el write
        sum
        ∙ accepted-call memory r events log n (taken h)
        ∙ sym (ap (λ (x : JournalClosing). x.closing) (journal-answer memory r events log j n h))

    -- a journal that was lent
    pub journal-ran : (b b' : List ℕ) (x y : Ring) → j ≡ journal_with b x → length b ≢ 0
        → journal_with b' y ≡ kept_over b x (events_of events) (state_of m memory) ran.steps
        → journal_with b' y ≡ (run_journal_of memory r events log j n).journal
    journal-ran b b' x y lent some q =
        q
        ∙ ap (λ c. cond c (journal_with b x) (journal_after (events_of events) (state_of m memory) (journal_with b x) ran.steps))
        (not-eq some)
        ∙ (λ i. journal_after (events_of events) (read memory i) (sym lent i) (run_is i).steps)
        ∙ sym (ap (λ (z : JournalClosing). z.journal) (journal-answer memory r events log j n h))

  pub some-length : (b : List ℕ) (x : Ring) → j ≡ journal_with b x → verdict ≡ Ok tt → length b ≢ 0
  some-length b x lent h =
      let f = subst RingFits lent (ring-passed h) in
      let p = f.place in
      omega arith

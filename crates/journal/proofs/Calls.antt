-- Going back by steps, and what the two calls have settled and leave, accepted or refused. A verdict is a row of tests, each of which
-- refuses; so an accepted call has met none of them, and a refused one leaves all as it was. Assumes nothing.
use Prim.Native.Nat.{ℕ, suc, ◌≤◌}
use mathlib.Core.Bool.{true, false, cond, not}
use mathlib.Core.List.{List, [], ◌∷◌}
use mathlib.Core.Logic.{◌≢◌}
use mathlib.Core.Path.{◌≡◌, refl, sym, ap, ◌∙◌}
use borrow.Author.Tests.{not-false}
use lib.Dec.{eqb, ltb}
use lib.ListN.{length}
use Rattle.std.specs.Prelude.{Ok, Err}
use Rattle.machine.specs.declared.Refusal.{Refusal}
use Rattle.machine.specs.declared.Refusal.TheVariants.{MemoryLength, RecordLength, JournalFit, StepsKept}
use Rattle.machine.specs.State.{State}
use Rattle.machine.specs.Record.{state_in}
use Rattle.machine.specs.Events.{Event, events_of}
use Rattle.machine.specs.Run.{run_of}
use Rattle.machine.specs.Refusal.{rule, call_rules, call_verdict, refusal_number, accepted?}
use Rattle.machine.specs.Call.{closing, closing_of, turned_back, run_on}
use Rattle.machine_laws.proofs.Cases.{bool_cases, eq_of, ge-of}
use Rattle.machine_laws.proofs.Records.{not-met, is-refused, accepted-is}
use Rattle.run_laws.proofs.Verdicts.{first_then}
use Rattle.journal.specs.Record.{journal_record}
use Rattle.journal.specs.Ring.{Journal, keep, journal_after, journal_fits}
use Rattle.journal.specs.Back.{Lent, one_back, back_of}
use Rattle.journal.specs.Call.{journal_verdict, run_journal_of, back_verdict, back_call_of}
use Rattle.journal.proofs.Ring.{RingFits, ring-fits}

-- ---- one step more, one step back

pub after-zero : (ev : List Event) (s : State) (j : Journal) → journal_after ev s j 0 ≡ j
unfolding journal_after
after-zero ev s j = refl

pub after_next : (ev : List Event) (s : State) (j : Journal) (n : ℕ)
    → journal_after ev s j (suc n) ≡ keep (journal_record ev (run_of ev s n).state) (journal_after ev s j n)
unfolding journal_after
after_next ev s j n = refl

pub back-zero : (x : Lent) → back_of 0 x ≡ x
unfolding back_of
back-zero x = refl

pub back-suc : (k : ℕ) (x : Lent) → back_of (suc k) x ≡ back_of k (one_back x)
unfolding back_of
back-suc k x = refl

-- ---- the run with a journal

module _ (memory r events log : List ℕ) (j : Journal) (n : ℕ) where
  -- the journal is looked at once the run call has passed
  pub journal-verdict : journal_verdict memory r events log j n
      ≡ cond (accepted? (call_verdict memory r events log n)) (cond (not (journal_fits j)) (Err JournalFit) (Ok tt))
      (call_verdict memory r events log n)
  unfolding journal_verdict call_verdict
  journal-verdict =
      first_then (call_rules memory r events log n) (rule (not (journal_fits j)) JournalFit ∷ [])

  pub call-refused : (x : Refusal) → call_verdict memory r events log n ≡ Err x → journal_verdict memory r events log j n ≡ Err x
  call-refused x e = journal-verdict ∙ ap (λ v. cond (accepted? v) (cond (not (journal_fits j)) (Err JournalFit) (Ok tt)) v) e

  passed_then : call_verdict memory r events log n ≡ Ok tt
      → journal_verdict memory r events log j n ≡ cond (not (journal_fits j)) (Err JournalFit) (Ok tt)
  passed_then a = journal-verdict ∙ ap (λ v. cond (accepted? v) (cond (not (journal_fits j)) (Err JournalFit) (Ok tt)) v) a

  -- refused as the run call is, whatever the journal; else 14; else accepted
  pub verdict-before : refusal_number (call_verdict memory r events log n) ≢ 0
      → journal_verdict memory r events log j n ≡ call_verdict memory r events log n
  verdict-before h =
      journal-verdict
      ∙ ap (λ b. cond b (cond (not (journal_fits j)) (Err JournalFit) (Ok tt)) (call_verdict memory r events log n))
      (is-refused (call_verdict memory r events log n) h)

  pub verdict-fourteen : call_verdict memory r events log n ≡ Ok tt → journal_fits j ≡ false
      → journal_verdict memory r events log j n ≡ Err JournalFit
  verdict-fourteen a h = passed_then a ∙ ap (λ b. cond (not b) (Err JournalFit) (Ok tt)) h

  pub journal-accepts : call_verdict memory r events log n ≡ Ok tt → journal_fits j ≡ true
      → journal_verdict memory r events log j n ≡ Ok tt
  journal-accepts a h = passed_then a ∙ ap (λ b. cond (not b) (Err JournalFit) (Ok tt)) h

  -- what an accepted call has settled
  pub journal-call : journal_verdict memory r events log j n ≡ Ok tt → call_verdict memory r events log n ≡ Ok tt
  journal-call e =
      bool_cases (accepted? (call_verdict memory r events log n))
      (accepted-is (call_verdict memory r events log n))
      (λ q. sym (journal-verdict ∙ ap (λ b. cond b (cond (not (journal_fits j)) (Err JournalFit) (Ok tt))
      (call_verdict memory r events log n)) q) ∙ e)

  pub journal-ring : journal_verdict memory r events log j n ≡ Ok tt → RingFits j
  journal-ring e =
      let p = not-met (not (journal_fits j)) JournalFit (Ok tt) (sym (passed_then (journal-call e)) ∙ e) in
      ring-fits j (not-false (journal_fits j) p.0)

  abbrev kept : Journal
  kept = journal_after (events_of events) (state_in r memory) j (run_on memory r events log n).steps

  -- what it gives
  pub journal-answer : journal_verdict memory r events log j n ≡ Ok tt
      → run_journal_of memory r events log j n ≡ record { closing = closing log (run_on memory r events log n); journal = kept }
  unfolding run_journal_of
  journal-answer e =
      ap (λ v. record { closing = closing_of v memory r log (run_on memory r events log n); journal = cond (accepted? v) kept j }) e

  pub journal-refused : accepted? (journal_verdict memory r events log j n) ≡ false
      → run_journal_of memory r events log j n
      ≡ record { closing = turned_back (journal_verdict memory r events log j n) memory r log; journal = j }
  unfolding run_journal_of
  journal-refused h =
      ap (λ b. record {
        closing = cond b (closing log (run_on memory r events log n)) (turned_back (journal_verdict memory r events log j n) memory r log);
        journal = cond b kept j;
      }) h

-- ---- going back

-- what it has settled once it refuses nothing
pub record BackPassed (k : ℕ) (x : Lent) : Type 0 where
  pub memory_size : length x.memory ≡ 65536
  pub state-size : length x.state ≡ 32
  pub ring : RingFits x.journal
  pub few : k ≤ x.journal.kept

module _ (k : ℕ) (x : Lent) where
  pub back-passed : back_verdict k x ≡ Ok tt → BackPassed k x
  unfolding back_verdict
  back-passed e =
      let p1 = not-met (not (eqb (length x.memory) 65536)) MemoryLength _ e in
      let p2 = not-met (not (eqb (length x.state) 32)) RecordLength _ p1.1 in
      let p3 = not-met (not (journal_fits x.journal)) JournalFit _ p2.1 in
      let p4 = not-met (ltb x.journal.kept k) StepsKept _ p3.1 in
      record {
        memory_size = eq_of (not-false (eqb (length x.memory) 65536) p1.0);
        state-size = eq_of (not-false (eqb (length x.state) 32) p2.0);
        ring = ring-fits x.journal (not-false (journal_fits x.journal) p3.0);
        few = ge-of p4.0;
      }

  pub back-answer : back_verdict k x ≡ Ok tt → back_call_of k x ≡ record { reply = 0; lent = back_of k x }
  unfolding back_call_of
  back-answer e = ap (λ v. record { reply = refusal_number v; lent = cond (accepted? v) (back_of k x) x }) e

  pub back-refused : accepted? (back_verdict k x) ≡ false → back_call_of k x ≡ record {
    reply = refusal_number (back_verdict k x);
    lent = x;
  }
  unfolding back_call_of
  back-refused h = ap (λ b. record { reply = refusal_number (back_verdict k x); lent = cond b (back_of k x) x }) h

-- The run with a journal keeps what the run call promises. Assumes nothing.
use Prim.Native.Nat.{ℕ}
use mathlib.Core.Bool.{cond}
use mathlib.Core.List.{List}
use mathlib.Core.Path.{◌≡◌, sym, ap, ◌∙◌}
use Rattle.std.specs.Prelude.{Ok}
use Rattle.machine.specs.declared.Depth.{Depth}
use Rattle.machine.specs.Record.{state_in}
use Rattle.machine.specs.Events.{events_of}
use Rattle.machine.specs.Refusal.{accepted?}
use Rattle.machine.specs.Call.{Closing, run_on, run_call_of}
use Rattle.run_laws.proofs.Calls.{accepted-call}
use Rattle.resume.proofs.Deepest.{carried}
use Rattle.resume.proofs.Resumption.{call-resumes}
use Rattle.journal.specs.Ring.{Journal}
use Rattle.journal.specs.Call.{journal_verdict, JournalClosing, run_journal_of, journal_deepest}
use Rattle.journal.proofs.Calls.{journal-call, journal-answer}
use Rattle.xm23_run_journal.specs.Journal.{journal_deepest_left, JournalResumption}

module _ (memory r events log : List ℕ) (j : Journal) (n : ℕ) where
  -- the figure that the run carries is the greatest number of open frames
  pub journal-carried : (number : ℕ) → journal_deepest memory r events log j n number ≡ journal_deepest_left memory r events log j n number
  unfolding journal_deepest journal_deepest_left
  journal-carried number =
      ap (λ (p : Depth). cond (accepted? (journal_verdict memory r events log j n)) p.deepest number)
      (carried (events_of events) (state_in r memory) (run_on memory r events log n).steps)

  -- accepted, it leaves what the run call leaves
  same-closing : journal_verdict memory r events log j n ≡ Ok tt
      → (run_journal_of memory r events log j n).closing ≡ run_call_of memory r events log n
  same-closing ok =
      ap (λ (x : JournalClosing). x.closing) (journal-answer memory r events log j n ok)
      ∙ sym (accepted-call memory r events log n (journal-call memory r events log j n ok))

  pub journal-resumes : (memory' r' : List ℕ) → memory' ≡ (run_journal_of memory r events log j n).closing.memory
      → r' ≡ (run_journal_of memory r events log j n).closing.state → JournalResumption memory r events log j n memory' r'
  journal-resumes memory' r' em er ok =
      call-resumes memory r events log n memory' r' (em ∙ ap (λ (x : Closing). x.memory) (same-closing ok))
      (er ∙ ap (λ (x : Closing). x.state) (same-closing ok)) (journal-call memory r events log j n ok)

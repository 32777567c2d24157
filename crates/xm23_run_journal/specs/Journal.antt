-- What the run with a journal promises as the run call does: the figure of its depth, and resumption (document 02, §8,
-- §10, §13). Assumes nothing.
use Rattle.std.specs.Prelude.{ℕ, cond, List, ◌≡◌, Ok}
use Rattle.machine.specs.Record.{state_in}
use Rattle.machine.specs.Events.{events_of}
use Rattle.machine.specs.Refusal.{accepted?}
use Rattle.machine.specs.Call.{run_on}
use Rattle.resume.specs.Deepest.{deepest_of}
use Rattle.resume.specs.Resume.{Premises}
use Rattle.resume.specs.Resumption.{CallResumes}
use Rattle.journal.specs.Ring.{Journal}
use Rattle.journal.specs.Call.{journal_verdict}

-- The most frames open together, where the call is accepted, else the number as handed over. [02 §10; 02 §8]
unfoldable pub journal_deepest_left : (memory r events log : List ℕ) → Journal → (n number : ℕ) → ℕ
journal_deepest_left memory r events log j n number =
    cond (accepted? (journal_verdict memory r events log j n))
    (deepest_of (events_of events) (state_in r memory) (run_on memory r events log n).steps)
    number

-- Demand 3, whole, of an accepted call. [01 Resumption; 02 §1; 02 §8; 02 §13]
abbrev pub JournalResumption : (memory r events log : List ℕ) → Journal → (n : ℕ) (memory' r' : List ℕ) → Type 0
JournalResumption memory r events log j n memory' r' =
    journal_verdict memory r events log j n ≡ Ok tt →
    Premises memory r events (run_on memory r events log n).steps →
    CallResumes memory r events (run_on memory r events log n).steps memory' r'

-- The two calls on a journal, on their raw buffers and numbers: reply and all that they leave (document 02, §8).
-- Assumes nothing.
use Rattle.std.specs.Prelude.{ℕ, cond, not, List, [], ◌∷◌, ◌++◌, eqb, ltb, length, Result}
use Rattle.machine.specs.declared.Refusal.{Refusal}
use Rattle.machine.specs.declared.Refusal.TheVariants.{MemoryLength, RecordLength, JournalFit, StepsKept}
use Rattle.machine.specs.Events.{events_of}
use Rattle.machine.specs.Record.{state_in}
use Rattle.machine.specs.Refusal.{Rule, rule, call_rules, first_broken, refusal_number, accepted?}
use Rattle.machine.specs.Call.{Closing, closing_of, run_on}
use Rattle.machine.specs.Depth.{deepest_from}
use Rattle.journal.specs.Ring.{Journal, journal_after, journal_fits}
use Rattle.journal.specs.Back.{Lent, back_of}

-- The rules of a run with a journal: those of the run call, and then 14, "which follows 9". [02 §8]
abbrev pub journal_rules : (memory r events log : List ℕ) → Journal → (n : ℕ) → List Rule
journal_rules memory r events log j n =
    call_rules memory r events log n ++ (rule (not (journal_fits j)) JournalFit ∷ [])

unfoldable pub journal_verdict : (memory r events log : List ℕ) → Journal → (n : ℕ) → Result (Unit {0}) Refusal
journal_verdict memory r events log j n = first_broken (journal_rules memory r events log j n)

-- what a run with a journal gives: all that the run call gives, and the journal
pub record JournalClosing : Type 0 where
  pub closing : Closing
  pub journal : Journal

-- A run whose steps are kept. It is the run of the run call; its journal has a record of each step done. Turned back,
-- the journal and its two numbers are "as given" too. [02 §8]
unfoldable pub run_journal_of : (memory r events log : List ℕ) → Journal → (n : ℕ) → JournalClosing
run_journal_of memory r events log j n =
    let v = journal_verdict memory r events log j n in
    let x = run_on memory r events log n in
    record {
      closing = closing_of v memory r log x;
      journal = cond (accepted? v) (journal_after (events_of events) (state_in r memory) j x.steps) j;
    }

-- the figure of its depth, where it is accepted, else the number as handed over. [02 §8; 02 §10]
unfoldable pub journal_deepest : (memory r events log : List ℕ) → Journal → (n number : ℕ) → ℕ
journal_deepest memory r events log j n number =
    cond (accepted? (journal_verdict memory r events log j n))
    (deepest_from (events_of events) (state_in r memory) (run_on memory r events log n).steps)
    number

-- "going back tests 1, 3, 14 and 15": "15 when k exceeds the steps kept". [02 §8]
abbrev pub back_rules : (k : ℕ) → Lent → List Rule
back_rules k x =
    rule (not (eqb (length x.memory) 65536)) MemoryLength
    ∷ rule (not (eqb (length x.state) 32)) RecordLength
    ∷ rule (not (journal_fits x.journal)) JournalFit
    ∷ rule (ltb x.journal.kept k) StepsKept
    ∷ []

unfoldable pub back_verdict : (k : ℕ) → Lent → Result (Unit {0}) Refusal
back_verdict k x = first_broken (back_rules k x)

-- the reply of going back, its refusal alone, and what it leaves. [02 §8]
pub record BackClosing : Type 0 where
  pub reply : ℕ
  pub lent : Lent

unfoldable pub back_call_of : (k : ℕ) → Lent → BackClosing
back_call_of k x =
    let v = back_verdict k x in
    record { reply = refusal_number v; lent = cond (accepted? v) (back_of k x) x }

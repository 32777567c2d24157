-- A session: calls on one journal, one after the other, nothing touched in between; and its course, which is what its
-- caller knows of it, the journal's bytes left out (document 02, §8). The promise of going back is stated here, of the
-- raw buffers and numbers, and that of running on in On.antt; the proofs are proofs/Session.antt and proofs/On.antt.
-- Assumes nothing.
use Rattle.std.specs.Prelude.{ℕ, zero, suc, ◌≤◌, Bool, cond, List, [], ◌∷◌, ◌≡◌, length, Ok}
use Rattle.machine.specs.Events.{events_of}
use Rattle.machine.specs.Record.{state_in, record_of}
use Rattle.machine.specs.Refusal.{accepted?}
use Rattle.machine.specs.Call.{run_on}
use Rattle.machine_laws.specs.Bounds.{Each, Bytes}
use Rattle.journal.specs.Back.{Lent, lent_of}
use Rattle.journal.specs.Call.{journal_verdict, JournalClosing, run_journal_of, back_verdict, back_call_of}
use Rattle.journal_laws.specs.Past.{Past, pasts_of}

-- one call: a run whose steps are kept, with its event list, log and n, or going back k. [02 §8]
pub data Call : Type 0 where
  runs : (events log : List ℕ) (n : ℕ) → Call
  backs : (k : ℕ) → Call

-- the run with a journal on what is lent, and what it leaves of that. [02 §8]
abbrev pub ran_with : (events log : List ℕ) (n : ℕ) → Lent → JournalClosing
ran_with events log n x = run_journal_of x.memory x.state events log x.journal n

abbrev pub left : Call → Lent → Lent
left (runs events log n) x =
    let y = ran_with events log n x in
    lent_of y.closing.memory y.closing.state y.journal
left (backs k) x = (back_call_of k x).lent

-- whether a call is accepted, which its reply tells. [02 §8]
abbrev pub taken? : Call → Lent → Bool
taken? (runs events log n) x = accepted? (journal_verdict x.memory x.state events log x.journal n)
taken? (backs k) x = accepted? (back_verdict k x)

-- a session, first call first. [02 §8]
unfoldable pub lent_after : List Call → Lent → Lent
lent_after [] x = x
lent_after (c ∷ cs) x = lent_after cs (left c x)

-- ---- its course

-- Memory and state record as they are, and the steps taken and not taken back, newest first. [02 §8]
pub record Course : Type 0 where
  pub memory : List ℕ
  pub state : List ℕ
  pub steps : List Past

abbrev pub course_of : (memory state : List ℕ) → List Past → Course
course_of memory state h = record { memory = memory; state = state; steps = h }

-- "as they were k steps earlier": without the newest k steps. Each step has the state that it found. [02 §8]
abbrev pub without : ℕ → (memory state : List ℕ) → List Past → Course
without zero memory state h = course_of memory state h
without (suc k) memory state [] = course_of memory state []
without (suc k) memory state (t ∷ h) = without k t.state.mem (record_of t.state) h

abbrev pub earlier_by : ℕ → Course → Course
earlier_by k c = without k c.memory c.state c.steps

-- What an accepted call makes of it: a run adds the steps that it did, halted or short of room or not, and ends where
-- they lead; going back k is k steps earlier. [02 §8]
abbrev pub course_after : Call → Course → Course
course_after (runs events log n) c =
    let y = run_on c.memory c.state events log n in
    course_of y.state.mem (record_of y.state)
    (pasts_of (events_of events) (state_in c.state c.memory) y.steps c.steps)
course_after (backs k) c = earlier_by k c

-- The course of a session: a call that is refused does nothing to it. Of what is lent it is told memory and record at
-- the start, and from then on which calls were accepted. [02 §8]
unfoldable pub course_in : List Call → Lent → Course → Course
course_in [] x c = c
course_in (a ∷ cs) x c = course_in cs (left a x) (cond (taken? a x) (course_after a c) c)

abbrev pub course_from : List Call → Lent → Course
course_from cs x = course_in cs x (course_of x.memory x.state [])

-- ---- the promise

-- C's buffers are bytes. [01 State and memory]
abbrev pub CallBytes : Call → Type 0
CallBytes (runs events log n) = Bytes events
CallBytes (backs k) = Unit {0}

-- A session that began with nothing kept, whatever the next place, the memory and the state record then were. [02 §8]
pub record Began (x : Lent) (cs : List Call) : Type 0 where
  pub nothing_kept : x.journal.kept ≡ 0
  pub memory_bytes : Bytes x.memory
  pub state_bytes : Bytes x.state
  pub calls_bytes : Each CallBytes cs

-- memory and state record lent are those of a course. [02 §8]
pub record Found (z : Lent) (c : Course) : Type 0 where
  pub memory : z.memory ≡ c.memory
  pub state : z.state ≡ c.state

-- At every moment of a session memory and state record are those of its course. [02 §8]
abbrev pub KeepsCourse : Type 0
KeepsCourse = (x : Lent) (cs : List Call) → Began x cs → Found (lent_after cs x) (course_from cs x)

-- going back k: there are k steps to take back, and what is lent is what the session had k steps earlier. [02 §8]
pub record WentBack (k : ℕ) (c : Course) (z : Lent) : Type 0 where
  pub enough : k ≤ length c.steps
  pub found : Found z (earlier_by k c)

-- "going back k steps gives the state and all memory bytes as they were k steps earlier": wherever it is accepted.
-- [02 §8]
abbrev pub GoesBack : Type 0
GoesBack =
    (x : Lent) (cs : List Call) → Began x cs →
    (k : ℕ) → back_verdict k (lent_after cs x) ≡ Ok tt →
    WentBack k (course_from cs x) (back_call_of k (lent_after cs x)).lent

-- Running on again after going back (document 02, §8): by any runs, each with its own event list, log and number of
-- steps, from what the one before it left, by the run call or by the run with a journal. "Each step's due events the
-- same" compares them with the session's course, step by step. The proofs are proofs/On.antt. Assumes nothing.
use Rattle.std.specs.Prelude.{ℕ, ◌+◌, ◌-◌, ◌%◌, ◌<◌, ◌≤◌, true, false, cond, List, [], ◌∷◌, ◌≡◌, length, drop, Result, Ok}
use Rattle.machine.specs.declared.Refusal.{Refusal}
use Rattle.machine.specs.Events.{Event, events_of, event_count}
use Rattle.machine.specs.Record.{state_in}
use Rattle.machine.specs.Refusal.{events_fit, events_fit_below, in_order_below, twins_below, call_verdict, accepted?}
use Rattle.machine.specs.Logged.{records_of}
use Rattle.machine.specs.Call.{room_of, run_on, run_call_of}
use Rattle.machine_laws.specs.Bounds.{Each, Bytes}
use Rattle.journal.specs.Back.{Lent, lent_of}
use Rattle.journal.specs.Call.{journal_verdict, back_verdict, back_call_of}
use Rattle.journal_laws.specs.Past.{Past, SameDue}
use Rattle.journal_laws.specs.Session.{Call, runs, left, lent_after, Course, earlier_by, course_from, Began, Found}

-- which call a run is: the run call, or the run with a journal. [02 §8]
pub data Way : Type 0 where
  plain : Way
  keeping : Way

-- one run of a running on. [02 §8]
pub record Leg : Type 0 where
  pub way : Way
  pub events : List ℕ
  pub log : List ℕ
  pub n : ℕ

abbrev pub leg : Way → (events log : List ℕ) (n : ℕ) → Leg
leg w events log n = record { way = w; events = events; log = log; n = n }

-- its verdict on what is lent, and what it leaves; the run call leaves the journal alone. [01 Who can be turned back]
abbrev pub verdict_by : Way → (events log : List ℕ) (n : ℕ) → Lent → Result (Unit {0}) Refusal
verdict_by plain events log n z = call_verdict z.memory z.state events log n
verdict_by keeping events log n z = journal_verdict z.memory z.state events log z.journal n

abbrev pub left_by : Way → (events log : List ℕ) (n : ℕ) → Lent → Lent
left_by plain events log n z =
    let y = run_call_of z.memory z.state events log n in
    lent_of y.memory y.state z.journal
left_by keeping events log n z = left (runs events log n) z

abbrev pub leg_verdict : Leg → Lent → Result (Unit {0}) Refusal
leg_verdict a z = verdict_by a.way a.events a.log a.n z

abbrev pub leg_left : Leg → Lent → Lent
leg_left a z = left_by a.way a.events a.log a.n z

-- the steps that it does, as its reply says: none where it is refused. [01 One step, in order]
abbrev pub leg_steps : Leg → Lent → ℕ
leg_steps a z = cond (accepted? (leg_verdict a z)) (run_on z.memory z.state a.events a.log a.n).steps 0

-- the runs one after the other, first run first. [02 §8]
unfoldable pub ran_on : List Leg → Lent → Lent
ran_on [] z = z
ran_on (a ∷ legs) z = ran_on legs (leg_left a z)

-- ---- each step's due events the same

-- some steps with one event list. [02 §8]
pub record Part : Type 0 where
  pub events : List Event
  pub steps : ℕ

abbrev pub part : List Event → ℕ → Part
part ev n = record { events = ev; steps = n }

-- what each of the runs did, and what it was asked for; how many steps that is together. [02 §8]
unfoldable pub did : List Leg → Lent → List Part
did [] z = []
did (a ∷ legs) z = part (events_of a.events) (leg_steps a z) ∷ did legs (leg_left a z)

abbrev pub asked : List Leg → List Part
asked [] = []
asked (a ∷ legs) = part (events_of a.events) a.n ∷ asked legs

abbrev pub total : List Part → ℕ
total [] = 0
total (p ∷ ps) = p.steps + total ps

-- The parts do the newest k of the steps h again, the oldest of these first, each step's due events the same: the first
-- part does its steps, and k less as many, the newer ones, are left to the others. [02 §8]
abbrev pub DueAgain : List Part → List Past → (k : ℕ) → Type 0
DueAgain [] h k = Unit {0}
DueAgain (p ∷ ps) h k = SameDue p.events (drop (k - p.steps) h) p.steps × DueAgain ps h (k - p.steps)

-- ---- the promise

-- z is what running on leaves, j of the k steps done again: memory and state record are those of k - j steps earlier,
-- and, once all k are done, those of y, before going back. [02 §8]
pub record Again (k j : ℕ) (c : Course) (y z : Lent) : Type 0 where
  pub found : Found z (earlier_by (k - j) c)
  pub memory : j ≡ k → z.memory ≡ y.memory
  pub state : j ≡ k → z.state ≡ y.state

-- "running k on, each step's due events the same, .. gives the same state and memory again", of any runs that together
-- did k steps or fewer, whatever their lists and logs: a run that is refused or has no room for a step does fewer, and
-- the next goes on from there. [02 §8]
abbrev pub RunsOn : Type 0
RunsOn =
    (x : Lent) (cs : List Call) → Began x cs →
    (k : ℕ) → back_verdict k (lent_after cs x) ≡ Ok tt →
    (legs : List Leg) →
    let z = (back_call_of k (lent_after cs x)).lent in
    total (did legs z) ≤ k →
    DueAgain (did legs z) (course_from cs x).steps k →
    Again k (total (did legs z)) (course_from cs x) (lent_after cs x) (ran_on legs z)

-- An event list that rules 5, 6, 7 and 13 accept. [01 Who can be turned back; 02 §3]
pub record LawfulEvents (events : List ℕ) : Type 0 where
  pub bytes : Bytes events
  pub whole : events_fit (length events) ≡ true
  pub fields : events_fit_below events (event_count events) ≡ true
  pub order : in_order_below events (event_count events) ≡ true
  pub twins : twins_below events (event_count events) ≡ false

abbrev pub LawfulLeg : Leg → Type 0
LawfulLeg a = LawfulEvents a.events

-- A new log that n steps from what is lent do not fill; "new logs long enough", each for its own run. [02 §8; 02 §1]
pub record LongEnough (log events : List ℕ) (n : ℕ) (z : Lent) : Type 0 where
  pub whole : length log % 8 ≡ 0
  pub enough : length (records_of (events_of events) (state_in z.state z.memory) n) ≤ room_of log

abbrev pub LogsEnough : List Leg → Lent → Type 0
LogsEnough [] z = Unit {0}
LogsEnough (a ∷ legs) z = LongEnough a.log a.events a.n z × LogsEnough legs (leg_left a z)

abbrev pub AllAccepted : List Leg → Lent → Type 0
AllAccepted [] z = Unit {0}
AllAccepted (a ∷ legs) z = (leg_verdict a z ≡ Ok tt) × AllAccepted legs (leg_left a z)

-- Runs that are accepted and do what they are asked for. (Runs of no steps after going back 0 may be refused, as at a
-- state record that no run has accepted yet; they leave the same state and memory all the same.) [02 §8]
pub record RanOn (k : ℕ) (legs : List Leg) (c : Course) (y z : Lent) : Type 0 where
  pub accepted : 0 < k → AllAccepted legs z
  pub steps : did legs z ≡ asked legs
  pub again : Again k (total (asked legs)) c y (ran_on legs z)

-- "running k on, each step's due events the same and new logs long enough, gives the same state and memory again", of
-- any runs with lawful lists that are asked for k steps together, or for fewer. That each is accepted and does its
-- steps follows. [02 §8]
abbrev pub RunsOnAgain : Type 0
RunsOnAgain =
    (x : Lent) (cs : List Call) → Began x cs →
    (k : ℕ) → back_verdict k (lent_after cs x) ≡ Ok tt →
    (legs : List Leg) → Each LawfulLeg legs → total (asked legs) ≤ k →
    DueAgain (asked legs) (course_from cs x).steps k →
    LogsEnough legs (back_call_of k (lent_after cs x)).lent →
    RanOn k legs (course_from cs x) (lent_after cs x) (back_call_of k (lent_after cs x)).lent

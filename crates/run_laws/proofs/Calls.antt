-- The run call: what it gives, accepted or refused; the state that it leaves; and calls in slices, their logs joined.
-- Assumes nothing.
use Prim.Native.Nat.{ℕ, ◌+◌, ◌-◌, ◌*◌, ◌/◌, ◌%◌, ◌<◌, ◌≤◌}
use native.Mathlib.Nat.{min-eq_left}
use native.Mathlib.Omega.{arith}
use mathlib.Core.Bool.{true, false, cond}
use mathlib.Core.List.{List, ◌++◌}
use mathlib.Core.Logic.{◌≢◌}
use mathlib.Core.Path.{◌≡◌, sym, ap, ◌∙◌}
use lib.ListN.{length, take, drop, length-append, length-take, take-append-drop}
use lib.Seq.{sets, length-sets, take_all, take-append_seam}
use Rattle.std.specs.Prelude.{Ok}
use Rattle.machine.specs.State.{State}
use Rattle.machine.specs.Memory.{byte_at}
use Rattle.machine.specs.Record.{state_in, record_of}
use Rattle.machine.specs.Events.{Event, events_of}
use Rattle.machine.specs.Run.{run_of, reason_number}
use Rattle.machine.specs.Log.{log_bytes}
use Rattle.machine.specs.Logged.{Logged, joined, run_logged, reason_logged}
use Rattle.machine.specs.Refusal.{verdict_of, call_verdict, refusal_number}
use Rattle.machine.specs.Call.{reply_number, run_reply, room_of, turned_back, closing, closing_of, run_on, run_call_of}
use Rattle.machine_laws.specs.Bounds.{Bytes}
use Rattle.machine_laws.proofs.Cases.{bool_cases}
use Rattle.machine_laws.proofs.Records.{passed, closing-read, is-refused}
use Rattle.run_laws.proofs.Room.{logged-run, records-fit, records-le, logged-le, short-fills, room-enough, logged-slices}
use Rattle.stores.proofs.Laws.{sets-before, sets-joined}
use Rattle.run_laws.proofs.LogBytes.{log-length, log-append, log-tail}
use Rattle.run_laws.proofs.Verdicts.{call-start, call-whole, call-accepts, verdict-fewer}

-- an accepted call's answer is its run's; a refused one leaves memory, record and log as handed over
pub accepted-call : (memory r events log : List ℕ) (n : ℕ) → call_verdict memory r events log n ≡ Ok tt
    → run_call_of memory r events log n ≡ closing log (run_on memory r events log n)
unfolding run_call_of
accepted-call memory r events log n e = ap (λ v. closing_of v memory r log (run_on memory r events log n)) e

pub refused-call : (memory r events log : List ℕ) (n : ℕ) → refusal_number (call_verdict memory r events log n) ≢ 0
    → run_call_of memory r events log n ≡ turned_back (call_verdict memory r events log n) memory r log
unfolding run_call_of
refused-call memory r events log n h =
    ap (λ b. cond b (closing log (run_on memory r events log n)) (turned_back (call_verdict memory r events log n) memory r log))
    (is-refused (call_verdict memory r events log n) h)

-- the parts of a reply
pub record Parts (reply refusal reason steps added : ℕ) : Type 0 where
  pub fits : reply < 18446744073709551616
  pub low : reply % 256 ≡ refusal
  pub second : reply / 256 % 256 ≡ reason
  pub middle : reply / 65536 % 16777216 ≡ steps
  pub high : reply / 1099511627776 ≡ added

pub reply-parts : (refusal reason steps added : ℕ) → refusal < 256 → reason < 256 → steps < 16777216 → added < 16777216
    → Parts (reply_number refusal reason steps added) refusal reason steps added
reply-parts a b c d ha hb hc hd =
    record { fits = omega arith; low = omega arith; second = omega arith; middle = omega arith; high = omega arith }

reason-small : (x : Logged) → reason_number (reason_logged x) < 256
reason-small x =
    bool_cases x.short
    (λ q. rw q (omega arith)) (λ q. bool_cases x.state.halted (λ p. rw (q, p) (omega arith)) (λ p. rw (q, p) (omega arith)))

module _ (memory r events log : List ℕ) (n : ℕ) (ok : call_verdict memory r events log n ≡ Ok tt) where
  abbrev ev : List Event
  ev = events_of events

  abbrev s : State
  s = state_in r memory

  abbrev x : Logged
  x = run_on memory r events log n

  abbrev room : ℕ
  room = room_of log

  pub accepted-parts : Parts (run_call_of memory r events log n).reply 0 (reason_number (reason_logged x)) x.steps (length x.records)
  accepted-parts =
      let few = (passed memory r events n (call-start memory r events log n ok)).few_steps in
      let l = logged-le ev s room n in
      let q = records-le ev s room n in
      rw (ap (λ c. c.reply) (accepted-call memory r events log n ok))
      (reply-parts 0 _ x.steps (length x.records) (omega arith) (reason-small x) (omega arith) (omega arith))

  -- the records fit the log
  log-holds : 8 * length x.records ≤ length log
  log-holds = let f = records-fit ev s room n in omega arith

  -- bytes past the last record keep what they held
  pub accepted-tail : (i : ℕ) → 8 * length x.records ≤ i → byte_at (run_call_of memory r events log n).log i ≡ byte_at log i
  accepted-tail i h =
      ap (λ c. byte_at c.log i) (accepted-call memory r events log n ok) ∙ log-tail log x.records log-holds i h

  pub accepted-length : length (run_call_of memory r events log n).log ≡ length log
  accepted-length =
      ap (λ c. length c.log) (accepted-call memory r events log n ok) ∙ length-sets log 0 (log_bytes x.records)

  -- a log of 8 × n bytes is always long enough
  pub eight-enough : 8 * n ≤ length log → x.short ≡ false
  eight-enough h = room-enough ev s room n (omega arith)

  -- the steps done are those of a start that is accepted too
  pub done-accepted : verdict_of memory r events x.steps ≡ Ok tt
  done-accepted = verdict-fewer memory r events n x.steps (logged-le ev s room n) (call-start memory r events log n ok)

  -- memory and record are those of the run's state at the steps done
  pub done-state : x.state ≡ (run_of ev s x.steps).state
  done-state = ap (λ y. y.state) (logged-run ev s room n)

  -- the record and the memory left hold the state reached
  pub left-state : Bytes memory → Bytes r → Bytes events
      → state_in (run_call_of memory r events log n).state (run_call_of memory r events log n).memory ≡ x.state
  left-state bm br be =
      let e = accepted-call memory r events log n ok in
      (λ i. state_in (e i).state (e i).memory)
      ∙ (λ i. state_in (record_of (done-state i)) (done-state i).mem)
      ∙ closing-read memory r events x.steps (passed memory r events x.steps done-accepted) bm br be
      ∙ sym done-state

-- ---- slices

-- the first k bytes of a log into which as many are written
written-part : (log vs : List ℕ) (k : ℕ) → length vs ≡ k → k ≤ length log → take k (sets log 0 vs) ≡ sets (take k log) 0 vs
written-part log vs k e h =
    let a = take k log in
    let l : length a ≡ k = length-take k log ∙ min-eq_left h in
    let q = length-sets a 0 vs in
    let l' : k ≡ length (sets a 0 vs) = omega arith in
    ap (λ m. take k (sets m 0 vs)) (sym (take-append-drop k log))
    ∙ ap (take k) (sets-before a (drop k log) 0 vs (omega arith))
    ∙ ap (λ j. take j (sets a 0 vs ++ drop k log)) l'
    ∙ take-append_seam (sets a 0 vs) (drop k log)

-- Slices: a call of n steps, and then one from what it left, with another log, for the steps left of N, leave together what the
-- one call of N leaves whose log is what the first one filled of its own, and then the second's: an untaken step is taken by the
-- second call, its events still due.
module _
    (memory r events log log' : List ℕ) (n N : ℕ) (bm : Bytes memory) (br : Bytes r) (be : Bytes events)
    (first : call_verdict memory r events log n ≡ Ok tt) (within : (run_on memory r events log n).steps ≤ N)
    (second : call_verdict (run_call_of memory r events log n).memory (run_call_of memory r events log n).state events log'
    (N - (run_on memory r events log n).steps) ≡ Ok tt) (start : verdict_of memory r events N ≡ Ok tt) where
  abbrev run : Logged
  run = run_on memory r events log n

  abbrev memory' : List ℕ
  memory' = (run_call_of memory r events log n).memory

  abbrev r' : List ℕ
  r' = (run_call_of memory r events log n).state

  abbrev more : ℕ
  more = N - run.steps

  abbrev used : ℕ
  used = 8 * length run.records

  abbrev whole : List ℕ
  whole = take used log ++ log'

  used-fits : used ≤ length log
  used-fits = log-holds memory r events log n first

  part_length : length (take used log) ≡ used
  part_length = length-take used log ∙ min-eq_left used-fits

  -- the one call refuses nothing
  pub whole-accepted : call_verdict memory r events whole N ≡ Ok tt
  whole-accepted =
      let b = call-whole memory' r' events log' more second in
      let l = length-append (take used log) log' in
      let p = part_length in
      call-accepts memory r events whole N start (omega arith)

  -- its run is the two runs
  pub slices-run : run_on memory r events whole N ≡ joined run (run_on memory' r' events log' more)
  slices-run =
      let b = call-whole memory' r' events log' more second in
      let l = length-append (take used log) log' in
      let p = part_length in
      let k = length run.records + room_of log' in
      let room-is : room_of whole ≡ k = omega arith in
      let left_is : k - length run.records ≡ room_of log' = omega arith in
      ap (λ j. run_logged (events_of events) (state_in r memory) j N) room-is
      ∙ logged-slices (events_of events) (state_in r memory) (room_of log) k n N (omega arith) within
      ∙ ap (λ j. joined run (run_logged (events_of events) run.state j more)) left_is
      ∙ ap (λ t. joined run (run_logged (events_of events) t (room_of log') more)) (sym (left-state memory r events log n first bm br be))

  pub slices-memory : (run_call_of memory' r' events log' more).memory ≡ (run_call_of memory r events whole N).memory
  slices-memory =
      ap (λ c. c.memory) (accepted-call memory' r' events log' more second)
      ∙ sym (ap (λ c. c.memory) (accepted-call memory r events whole N whole-accepted) ∙ ap (λ y. y.state.mem) slices-run)

  pub slices-state : (run_call_of memory' r' events log' more).state ≡ (run_call_of memory r events whole N).state
  slices-state =
      ap (λ c. c.state) (accepted-call memory' r' events log' more second)
      ∙ sym (ap (λ c. c.state) (accepted-call memory r events whole N whole-accepted) ∙ ap (λ y. record_of y.state) slices-run)

  pub slices-log : take used (run_call_of memory r events log n).log ++ (run_call_of memory' r' events log' more).log
      ≡ (run_call_of memory r events whole N).log
  slices-log =
      let y = run_on memory' r' events log' more in
      let xs = log_bytes run.records in
      let l = log-length run.records in
      let p = part_length in
      (λ i. take used (accepted-call memory r events log n first i).log ++ (accepted-call memory' r' events log' more second i).log)
      ∙ ap (λ a. a ++ sets log' 0 (log_bytes y.records)) (written-part log xs used l used-fits)
      ∙ sym (ap (λ c. c.log) (accepted-call memory r events whole N whole-accepted)
      ∙ ap (λ z. sets whole 0 (log_bytes z.records)) slices-run
      ∙ ap (sets whole 0) (log-append run.records y.records)
      ∙ sets-joined (take used log) log' xs (log_bytes y.records) (omega arith))

  -- the reply is that of steps and records added up, and of the second call's reason
  pub slices-reply : (run_call_of memory r events whole N).reply
      ≡ run_reply (joined run (run_on memory' r' events log' more))
  slices-reply = ap (λ c. c.reply) (accepted-call memory r events whole N whole-accepted) ∙ ap run_reply slices-run

  -- stopped for room, the first call has filled its log: the one call's log is both
  pub stopped-fills : run.short ≡ true → take used log ≡ log
  stopped-fills q =
      let f = short-fills (events_of events) (state_in r memory) (room_of log) n q in
      let w = call-whole memory r events log n first in
      take_all used log (omega arith)

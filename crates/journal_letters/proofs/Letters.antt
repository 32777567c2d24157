-- The session of two letters meets every premise of the promises, by computation; what they say of it, and some of the bytes
-- themselves. Assumes nothing.
use Prim.Native.Nat.{◌-◌, ◌≤◌}
use native.Mathlib.Omega.{arith}
use mathlib.Core.List.{[]}
use mathlib.Core.Path.{◌≡◌, refl, subst}
use lib.Dec.{lit<, lit≤}
use lib.ListN.{replicate}
use Rattle.std.specs.Prelude.{Ok}
use Rattle.isa.specs.Decode.{decode_of}
use Rattle.machine.specs.Memory.{byte_at, commit}
use Rattle.machine.specs.Record.{two_at, state_in, record_of}
use Rattle.machine.specs.Events.{event_at, events_from}
use Rattle.machine.specs.Devices.{event_on, deliver_at}
use Rattle.machine.specs.Entry.{best_from}
use Rattle.machine.specs.Effect.{effect_of}
use Rattle.machine.specs.Step.{interrupt_of, instruction_of, plan_of, perform, step_of, advanced, granted}
use Rattle.machine.specs.Run.{run_of}
use Rattle.machine.specs.Log.{logged_next, shown_on, log_bytes}
use Rattle.machine.specs.Logged.{run_logged, records_of}
use Rattle.machine.specs.Refusal.{
  record_fits,
  event_fits,
  events_fit_below,
  in_order,
  in_order_below,
  twins_below,
  event_below,
  call_verdict,
}
use Rattle.machine.specs.Call.{run_call_of}
use Rattle.journal.specs.Record.{address_of, bytes_from, fields_of, journal_record, placed, memory_out}
use Rattle.journal.specs.Ring.{keep, journal_after, journal_fits}
use Rattle.journal.specs.Back.{one_back, back_of}
use Rattle.journal.specs.Call.{journal_verdict, run_journal_of, back_verdict, back_call_of}
use Rattle.machine_laws.proofs.Memory.{commit-bytes}
use Rattle.journal_laws.specs.Past.{due_at, pasts_of}
use Rattle.journal_laws.specs.Session.{lent_after, earlier_by, course_in, course_from, Began, Found, WentBack}
use Rattle.journal_laws.specs.On.{LawfulEvents, LogsEnough, did, asked, total, DueAgain, ran_on, RanOn}
use Rattle.journal_laws.proofs.Bytes.{low?, zeros-bytes, bytes_of}
use Rattle.journal_laws.proofs.Session.{goes_back}
use Rattle.journal_laws.proofs.On.{runs_on, runs-on-again}
use Rattle.journal_letters.specs.Letters.{program, r, first, second, x, session, y, z, later, legs, tight}

-- ---- the session, and going back

pub began : Began x session
unfolding low?
began =
    record {
      nothing_kept = refl;
      memory_bytes = commit-bytes program (replicate 65536 0)
          (lit< tt, (lit< tt, (lit< tt, (lit< tt, (lit< tt, (lit< tt, (lit< tt, (lit< tt, (lit< tt, (lit< tt, tt))))))))))
          (zeros-bytes 65536);
      state_bytes = bytes_of r refl;
      calls_bytes = (bytes_of first refl, (bytes_of second refl, tt));
    }

-- the ring of three is full after four steps; R2 holds B, which the screen has shown
pub numbers : (y.journal.kept ≡ 3) × (y.journal.place ≡ 0) × (two_at y.state 4 ≡ 66) × (byte_at y.memory 3 ≡ 66)
unfolding lent_after run_journal_of journal_verdict record_fits event_fits events_fit_below in_order in_order_below twins_below
    event_below event_at
    events_from journal_fits run_logged logged_next shown_on log_bytes run_of step_of event_on deliver_at plan_of interrupt_of best_from
    instruction_of
    advanced granted decode_of effect_of perform commit state_in record_of journal_after keep journal_record address_of fields_of bytes_from
numbers = (refl, refl, refl, refl)

pub accepted : back_verdict 3 y ≡ Ok tt
unfolding lent_after run_journal_of journal_verdict record_fits event_fits events_fit_below in_order in_order_below twins_below
    event_below event_at
    events_from journal_fits run_logged logged_next shown_on log_bytes run_of step_of event_on deliver_at plan_of interrupt_of best_from
    instruction_of
    advanced granted decode_of effect_of perform commit state_in record_of journal_after keep journal_record address_of fields_of bytes_from
    back_verdict
accepted = refl

-- three steps earlier R2 held A, which the screen had not shown yet
pub earlier : (two_at z.state 4 ≡ 65) × (byte_at z.memory 3 ≡ 0) × (two_at z.state 22 ≡ 1)
unfolding lent_after run_journal_of journal_verdict record_fits event_fits events_fit_below in_order in_order_below twins_below
    event_below event_at
    events_from journal_fits run_logged logged_next shown_on log_bytes run_of step_of event_on deliver_at plan_of interrupt_of best_from
    instruction_of
    advanced granted decode_of effect_of perform commit state_in record_of journal_after keep journal_record address_of fields_of bytes_from
    back_verdict back_call_of back_of one_back memory_out placed
earlier = (refl, refl, refl)

-- what the promise says of it
pub went_back : WentBack 3 (course_from session x) z
went_back = goes_back x session began 3 accepted

-- ---- running on

pub lawful : LawfulEvents []
unfolding low? events_fit_below in_order_below twins_below
lawful = record { bytes = bytes_of [] refl; whole = refl; fields = refl; order = refl; twins = refl }

pub lawful-later : LawfulEvents later
unfolding low? event_fits events_fit_below in_order in_order_below twins_below event_below event_at
lawful-later = record { bytes = bytes_of later refl; whole = refl; fields = refl; order = refl; twins = refl }

-- each step's due events are the same: none at step 1, B at step 2, none at step 3
pub due-again : DueAgain (asked legs) (course_from session x).steps 3
unfolding lent_after run_journal_of journal_verdict record_fits event_fits events_fit_below in_order in_order_below twins_below
    event_below event_at
    events_from journal_fits run_logged logged_next shown_on log_bytes run_of step_of event_on deliver_at plan_of interrupt_of best_from
    instruction_of
    advanced granted decode_of effect_of perform commit state_in record_of journal_after keep journal_record address_of fields_of bytes_from
    course_in pasts_of due_at
due-again = ((refl, tt), ((refl, (refl, tt)), tt))

-- one record fits each log
pub logs-enough : LogsEnough legs z
unfolding lent_after run_journal_of journal_verdict record_fits event_fits events_fit_below in_order in_order_below twins_below
    event_below event_at
    events_from journal_fits run_logged logged_next shown_on log_bytes run_of step_of event_on deliver_at plan_of interrupt_of best_from
    instruction_of
    advanced granted decode_of effect_of perform commit state_in record_of journal_after keep journal_record address_of fields_of bytes_from
    back_verdict back_call_of back_of one_back memory_out placed run_call_of call_verdict records_of
logs-enough = (record { whole = refl; enough = lit≤ tt }, (record { whole = refl; enough = lit≤ tt }, tt))

-- so both runs are accepted, do their steps, and give the state and memory of before going back
pub ran_on_lem : RanOn 3 legs (course_from session x) y z
ran_on_lem = runs-on-again x session began 3 accepted legs (lawful, (lawful-later, tt)) (lit≤ tt) due-again logs-enough

pub same_memory : (ran_on legs z).memory ≡ y.memory
same_memory = ran_on_lem.again.memory refl

pub same-state : (ran_on legs z).state ≡ y.state
same-state = ran_on_lem.again.state refl

-- ---- running on with too little room

-- the first run does no step and the second two of its three
pub tight-did : total (did tight z) ≡ 2
unfolding lent_after run_journal_of journal_verdict record_fits event_fits events_fit_below in_order in_order_below twins_below
    event_below event_at
    events_from journal_fits run_logged logged_next shown_on log_bytes run_of step_of event_on deliver_at plan_of interrupt_of best_from
    instruction_of
    advanced granted decode_of effect_of perform commit state_in record_of journal_after keep journal_record address_of fields_of bytes_from
    back_verdict back_call_of back_of one_back memory_out placed run_call_of call_verdict did
tight-did = refl

tight-few : total (did tight z) ≤ 3
tight-few = let e = tight-did in omega arith

tight-due : DueAgain (did tight z) (course_from session x).steps 3
unfolding lent_after run_journal_of journal_verdict record_fits event_fits events_fit_below in_order in_order_below twins_below
    event_below event_at
    events_from journal_fits run_logged logged_next shown_on log_bytes run_of step_of event_on deliver_at plan_of interrupt_of best_from
    instruction_of
    advanced granted decode_of effect_of perform commit state_in record_of journal_after keep journal_record address_of fields_of bytes_from
    back_verdict back_call_of back_of one_back memory_out placed run_call_of call_verdict did course_in pasts_of due_at
tight-due = (tt, ((refl, (refl, tt)), tt))

-- so memory and record are those of one step earlier
pub tight-found : Found (ran_on tight z) (earlier_by 1 (course_from session x))
tight-found =
    subst (λ j. Found (ran_on tight z) (earlier_by (3 - j) (course_from session x))) tight-did
    (runs_on x session began 3 accepted tight tight-few tight-due).found

-- when R2 held B already and the screen showed A
pub one_earlier : (two_at (earlier_by 1 (course_from session x)).state 4 ≡ 66) ×
    (byte_at (earlier_by 1 (course_from session x)).memory 3 ≡ 65)
unfolding lent_after run_journal_of journal_verdict record_fits event_fits events_fit_below in_order in_order_below twins_below
    event_below event_at
    events_from journal_fits run_logged logged_next shown_on log_bytes run_of step_of event_on deliver_at plan_of interrupt_of best_from
    instruction_of
    advanced granted decode_of effect_of perform commit state_in record_of journal_after keep journal_record address_of fields_of bytes_from
    course_in pasts_of
one_earlier = (refl, refl)

-- The session, computed: what is in the journal after the run, and what going back leaves. Each fact is the definitions worked
-- out on these bytes. Assumes nothing.
use Prim.Native.Nat.{ℕ}
use mathlib.Core.List.{List, [], ◌∷◌}
use mathlib.Core.Path.{◌≡◌, refl, ap}
use lib.Dec.{lit<}
use lib.ListN.{take, drop, get_or, replicate}
use Rattle.std.specs.Prelude.{Result, Ok}
use Rattle.machine.specs.declared.Refusal.{Refusal}
use Rattle.machine.specs.Memory.{byte_at, write, commit}
use Rattle.machine.specs.Record.{two_at, state_in, record_of}
use Rattle.machine.specs.Events.{events_from}
use Rattle.machine.specs.Devices.{deliver_at}
use Rattle.machine.specs.Entry.{best_from, pushes, vectored, entered_psw}
use Rattle.machine.specs.Step.{interrupt_of, instruction_of, plan_of, perform, step_of}
use Rattle.machine.specs.Run.{run_of}
use Rattle.machine.specs.Log.{logged_next}
use Rattle.machine.specs.Logged.{run_logged}
use Rattle.machine.specs.Refusal.{record_fits, events_fit_below, in_order_below, twins_below}
use Rattle.journal.specs.Record.{address_of, bytes_from, fields_of, journal_record, placed, memory_out}
use Rattle.journal.specs.Ring.{record_at, keep, journal_after, journal_fits}
use Rattle.journal.specs.Back.{Lent, one_back, back_of}
use Rattle.journal.specs.Call.{journal_verdict, run_journal_of, back_verdict, back_call_of}
use Rattle.machine_laws.proofs.Memory.{commit-bytes}
use Rattle.journal_laws.specs.Past.{pasts_of}
use Rattle.journal_laws.specs.Session.{lent_after, course_in, course_from, Began, WentBack}
use Rattle.journal_laws.proofs.Bytes.{low?, zeros-bytes, bytes_of}
use Rattle.journal_laws.proofs.Session.{goes_back}
use Rattle.journal_example.specs.Example.{memory, r, x, run, session}

-- what is lent after the run, and after going back too
abbrev y : Lent
y = lent_after run x

abbrev z : Lent
z = lent_after session x

-- What the run leaves, worked out once for all of it.
pub record Left : Type 0 where
  -- it halts after two steps; both are kept and the place has gone from 1 to 0 and to 1
  pub kept : y.journal.kept ≡ 2
  pub place : y.journal.place ≡ 1
  pub halted : byte_at y.state 21 ≡ 1
  pub count : two_at y.state 22 ≡ 2
  -- the first step's record is at place 1: its address is that of the last word pushed, and its eight bytes, as they were before
  -- the step, are #FFFC to #FFFF and then 0 to 3
  pub first-address : two_at (record_at y.journal.bytes 1) 48 ≡ 0xFFFC
  pub first-bytes : take 8 (drop 50 (record_at y.journal.bytes 1)) ≡ 0 ∷ 7 ∷ 0 ∷ 0 ∷ 0 ∷ 9 ∷ 0 ∷ 0 ∷ []
  -- the frame stands there now: CEX state and PSW, LR, PC, all zero but the PC, 1
  pub frame : take 4 (drop 0xFFFC y.memory) ≡ 0 ∷ 0 ∷ 0 ∷ 0 ∷ []
  pub frame-wrapped : take 4 y.memory ≡ 0 ∷ 0 ∷ 1 ∷ 0 ∷ []
  -- the second step's record is at place 0; the state before it has PC 1, SP #FFFC and count 1
  pub second-address : two_at (record_at y.journal.bytes 0) 48 ≡ 0
  pub second-sp : two_at (record_at y.journal.bytes 0) 12 ≡ 0xFFFC
  pub second-count : two_at (record_at y.journal.bytes 0) 22 ≡ 1
  -- going back 2 is accepted; then nothing is kept and the place is 1 again
  pub accepted : back_verdict 2 y ≡ Ok tt
  pub back-kept : z.journal.kept ≡ 0
  pub back-place : z.journal.place ≡ 1

-- all of it at once, so that the run is worked out once: numbers, bytes, and the verdict of going back
abbrev Told : Type 0
Told = List ℕ × List (List ℕ) × Result (Unit {0}) Refusal

abbrev told : Lent → Told
told v =
    let j = v.journal in
    let a = record_at j.bytes 1 in
    let b = record_at j.bytes 0 in
    let l = (back_call_of 2 v).lent.journal in (
      j.kept ∷ j.place ∷ byte_at v.state 21 ∷ two_at v.state 22 ∷ two_at a 48 ∷ two_at b 48 ∷ two_at b 12 ∷ two_at b 22 ∷ l.kept
          ∷ l.place ∷ [],
      take 8 (drop 50 a) ∷ take 4 (drop 0xFFFC v.memory) ∷ take 4 v.memory ∷ [],
      back_verdict 2 v,
    )

worked : told y ≡ (
  2 ∷ 1 ∷ 1 ∷ 2 ∷ 0xFFFC ∷ 0 ∷ 0xFFFC ∷ 1 ∷ 0 ∷ 1 ∷ [],
  (0 ∷ 7 ∷ 0 ∷ 0 ∷ 0 ∷ 9 ∷ 0 ∷ 0 ∷ []) ∷ (0 ∷ 0 ∷ 0 ∷ 0 ∷ []) ∷ (0 ∷ 0 ∷ 1 ∷ 0 ∷ []) ∷ [],
  Ok tt,
)
unfolding lent_after run_journal_of journal_verdict record_fits events_fit_below in_order_below twins_below events_from journal_fits
    run_logged
    logged_next run_of step_of deliver_at plan_of interrupt_of best_from instruction_of perform pushes vectored entered_psw commit
    state_in record_of
    journal_after keep journal_record address_of fields_of bytes_from back_verdict back_call_of
    back_of one_back memory_out placed
worked = refl

pub left : Left
unfolding lent_after
left =
    record {
      kept = ap (λ (t : Told). get_or t.0 0 0) worked;
      place = ap (λ (t : Told). get_or t.0 1 0) worked;
      halted = ap (λ (t : Told). get_or t.0 2 0) worked;
      count = ap (λ (t : Told). get_or t.0 3 0) worked;
      first-address = ap (λ (t : Told). get_or t.0 4 0) worked;
      first-bytes = ap (λ (t : Told). get_or t.1 0 []) worked;
      frame = ap (λ (t : Told). get_or t.1 1 []) worked;
      frame-wrapped = ap (λ (t : Told). get_or t.1 2 []) worked;
      second-address = ap (λ (t : Told). get_or t.0 5 0) worked;
      second-sp = ap (λ (t : Told). get_or t.0 6 0) worked;
      second-count = ap (λ (t : Told). get_or t.0 7 0) worked;
      accepted = ap (λ (t : Told). t.2) worked;
      back-kept = ap (λ (t : Told). get_or t.0 8 0) worked;
      back-place = ap (λ (t : Told). get_or t.0 9 0) worked;
    }

-- ---- the premises of the promises

pub began : Began x run
unfolding low?
began =
    record {
      nothing_kept = refl;
      memory_bytes = commit-bytes (write 0xFFE6 1 ∷ write 0xFFFD 7 ∷ write 1 9 ∷ []) (replicate 65536 0)
          (lit< tt, (lit< tt, (lit< tt, tt))) (zeros-bytes 65536);
      state_bytes = bytes_of r refl;
      calls_bytes = ((λ i. lit< tt), tt);
    }

-- ---- going back

-- what the promise says of this session
went_back : WentBack 2 (course_from run x) z
unfolding lent_after
went_back = goes_back x run began 2 left.accepted

-- so that going back 2 gives every byte of memory and of the record as it was
pub back : (z.memory ≡ memory) × (z.state ≡ r)
unfolding lent_after run_journal_of journal_verdict record_fits events_fit_below in_order_below twins_below events_from journal_fits
    run_logged
    logged_next run_of step_of deliver_at plan_of interrupt_of best_from instruction_of perform pushes vectored entered_psw commit
    state_in record_of
    journal_after keep journal_record address_of fields_of bytes_from course_in pasts_of
back = (went_back.found.memory, went_back.found.state)

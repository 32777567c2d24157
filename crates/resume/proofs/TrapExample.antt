-- The run with traps meets the premises of resumption, and both runs end in the same core, computed. The premises are read off the rows; a
-- trap's frame is the application's own, of which nothing is asked, until a device is chained onto it. Assumes nothing.
use mathlib.Core.Bool.{false}
use mathlib.Core.List.{[], ◌∷◌}
use mathlib.Core.Path.{◌≡◌, refl, sym, ap, ◌∙◌}
use lib.Dec.{lit<}
use lib.ListN.{length}
use Rattle.word.specs.Psw.{asleep?}
use Rattle.word.specs.Width.{width_of}
use Rattle.isa.specs.Decode.{decode_of}
use Rattle.machine.specs.State.{reg}
use Rattle.machine.specs.Memory.{commit, writes?}
use Rattle.machine.specs.Record.{state_in}
use Rattle.machine.specs.Events.{event_at}
use Rattle.machine.specs.Devices.{deliver, deliver_at}
use Rattle.machine.specs.Entry.{best_from, entered_psw, pushes}
use Rattle.machine.specs.Effect.{effect_of}
use Rattle.machine.specs.declared.Act.TheVariants as acts
use Rattle.machine.specs.Step.{outcome, pulls, advanced, granted, interrupt_of, perform}
use Rattle.machine.specs.Run.{run_of}
use Rattle.machine.specs.Refusal.{verdict_of, record_fits, event_fits, events_fit_below, in_order, in_order_below, event_below, twins_below}
use Rattle.machine_laws.proofs.Memory.{over, commit-length, commit-bytes}
use Rattle.machine_laws.proofs.Runs.{run-zero}
use Rattle.resume.specs.Frames.{Start, Calm, after, act, frames, application_steps, foreign?}
use Rattle.resume.specs.Resume.{Found, Premises, Resumes}
use Rattle.resume.specs.Example.{zeros}
use Rattle.resume.specs.TrapExample.{program, memory, r, events}
use Rattle.resume.proofs.Resume.{resumes}
use Rattle.resume.proofs.Trace.{zeros-length, word-is, fetch-plan, interrupt-plan, vectored-is, pulled-is, known, Row, next_row}
use Rattle.resume.proofs.Trace.{next-state, next-frames, next-steps, act-is}
use Rattle.resume.proofs.RowFacts.{◌▸◌, below, zeros-bytes, bytes_of, small, small-writes, frame_found, OwnTrap, Restored, Awake}
use Rattle.resume.proofs.RowFacts.{ReadsOwn, calm-at, no-trap, own-trap, no-pull, others-read, reads_at, awake-before, found_at}
use Rattle.resume.proofs.RowFacts.{own_at}
use Rattle.resume.proofs.TrapRows.{ev, s, row0, row1, row2, row3, row4, row5, row6, row7, row8, row9, row10, row11, row12, row13}
use Rattle.resume.proofs.TrapRows.{trap-plan, nested-plan, loaded-is, c0, c0', c1, c2, c2', c3, c4, c5, c6, c7, c8, c9, c10, c11}
use Rattle.resume.proofs.TrapRows.{c12, c13, c14, c15, trap_push, nested_push, word, trapped, stored, nested, entered, waiting}
use Rattle.resume.proofs.TrapRows.{trap_frame, nested_frame, entry_frame, chained_frame, both, g1, g2, g3}

-- ---- an accepted start

memory-length : length memory ≡ 65536
memory-length = commit-length program zeros ∙ zeros-length

start : Start memory r events 14
unfolding verdict_of record_fits event_fits events_fit_below in_order in_order_below event_below twins_below event_at
start =
    record {
      memory_bytes = commit-bytes program zeros (small-writes program refl) zeros-bytes;
      record_bytes = bytes_of r (small r refl);
      event_bytes = bytes_of events (small events refl);
      accepted = rw memory-length refl;
    }

start-awake : asleep? s.core.psw ≡ false
unfolding state_in
start-awake = refl

start-live : s.halted ≡ false
unfolding state_in
start-live = refl

start-lines : s.lines ≡ 0
unfolding state_in
start-lines = refl

-- ---- what the steps do, in order, and whose frames are open

pub acts-are : (act ev s 0 ≡ acts.Trap 10) × (act ev s 1 ≡ acts.Stores false (record { 0 = 512 }) 7) × (act ev s 2 ≡ acts.Trap 11)
    × (act ev s 3 ≡ acts.Accept 1) × (act ev s 4 ≡ acts.Plain) × (act ev s 5 ≡ acts.Pull)
    × (act ev s 6 ≡ acts.Loads false (record { 0 = 512 }) 2) × (act ev s 7 ≡ acts.Plain) × (act ev s 8 ≡ acts.Chain 2)
    × (act ev s 9 ≡ acts.Plain) × (act ev s 10 ≡ acts.Pull) × (act ev s 11 ≡ acts.Plain) × (act ev s 12 ≡ acts.Pull)
    × (act ev s 13 ≡ acts.Loads false (record { 0 = 512 }) 3)
acts-are = (
  act-is ev s row0,
  act-is ev s row1,
  act-is ev s row2,
  act-is ev s row3,
  act-is ev s row4,
  act-is ev s row5,
  act-is ev s row6,
  act-is ev s row7,
  act-is ev s row8,
  act-is ev s row9,
  act-is ev s row10,
  act-is ev s row11,
  act-is ev s row12,
  act-is ev s row13,
)

-- device 1 inside the handler of a trap inside the handler of a trap
pub interrupted-inside : frames ev s 4 ≡ entry_frame ∷ nested_frame ∷ trap_frame ∷ []
interrupted-inside = row4.frames-are

-- device 2 on the inner trap's return: the frame is then a device's, to be found as the chained handler found it
pub chained-onto : (frames ev s 8 ≡ nested_frame ∷ trap_frame ∷ []) × (frames ev s 9 ≡ chained_frame ∷ trap_frame ∷ [])
chained-onto = (row8.frames-are, row9.frames-are)

-- ---- the devices' frames are found as they are held

entry_found : Found entry_frame.held (known c5 0 6 entered)
unfolding over
entry_found =
    record {
      registers = below (λ i. reg c5 i ≡ reg c4 i) 5 (refl ▸ refl ▸ refl ▸ refl ▸ refl ▸ tt);
      frame = record {
        stack = refl;
        bytes = frame_found entered entered 1000 (lit< tt) (refl ▸ refl ▸ refl ▸ refl ▸ refl ▸ refl ▸ refl ▸ refl ▸ tt);
      };
    }

-- the chained handler leaves R2 as it found it, which is not as the trap's entry left it
chained-found : Found chained_frame.held (known c10 0 11 waiting)
unfolding over
chained-found =
    record {
      registers = below (λ i. reg c10 i ≡ reg c9 i) 5 (refl ▸ refl ▸ refl ▸ refl ▸ refl ▸ tt);
      frame = record {
        stack = refl;
        bytes = frame_found waiting waiting 1008 (lit< tt) (refl ▸ refl ▸ refl ▸ refl ▸ refl ▸ refl ▸ refl ▸ refl ▸ tt);
      };
    }

-- ---- the close

pub close-is : after ev s 14 ≡ known c15 0 15 waiting
unfolding over
close-is = next-state ev s waiting row13 refl (outcome c15 0 []) (loaded-is waiting c14 3 refl) refl

pub close-frames : frames ev s 14 ≡ []
unfolding over
close-frames = next-frames ev s waiting row13 refl (outcome c15 0 []) (loaded-is waiting c14 3 refl) refl

pub close-steps : application_steps ev s 14 ≡ 9
unfolding over
close-steps = next-steps ev s waiting row13 refl (outcome c15 0 []) (loaded-is waiting c14 3 refl) refl

-- ---- the premises

-- a byte that is no device register and not last written by a handler or an entry
own : {A : Type 0} {x y : A} → (x ≡ x) × (y ≡ y)
own = (refl, refl)

pub premises : Premises memory r events 14
unfolding writes?
premises =
    record {
      accepted = start;
      awake = start-awake;
      not_halted = start-live;
      no_line = start-lines;
      calm = below (λ k. Calm (act ev s k) (frames ev s k)) 14
          (calm-at row0 tt ▸ calm-at row1 tt ▸ calm-at row2 tt ▸ calm-at row3 tt ▸ calm-at row4 tt ▸ calm-at row5 refl
          ▸ calm-at row6 tt ▸ calm-at row7 tt ▸ calm-at row8 refl ▸ calm-at row9 tt ▸ calm-at row10 refl ▸ calm-at row11 tt
          ▸ calm-at row12 refl ▸ calm-at row13 tt ▸ tt);
      own_traps = below (OwnTrap ev s) 14
          (own-trap row0 refl ▸ no-trap row1 refl ▸ own-trap row2 refl ▸ no-trap row3 refl ▸ no-trap row4 refl
          ▸ no-trap row5 refl ▸ no-trap row6 refl ▸ no-trap row7 refl ▸ no-trap row8 refl ▸ no-trap row9 refl
          ▸ no-trap row10 refl ▸ no-trap row11 refl ▸ no-trap row12 refl ▸ no-trap row13 refl ▸ tt);
      closed = close-frames;
      restored = λ k f fs h. below (Restored ev s) 14
          (no-pull row0 refl ▸ no-pull row1 refl ▸ no-pull row2 refl ▸ no-pull row3 refl ▸ no-pull row4 refl
          ▸ found_at row5 entry_found ▸ no-pull row6 refl ▸ no-pull row7 refl ▸ no-pull row8 refl ▸ no-pull row9 refl
          ▸ found_at row10 chained-found ▸ no-pull row11 refl ▸ own_at row12 refl ▸ no-pull row13 refl ▸ tt)
          k h f fs;
      never_sleeps = below (Awake ev s) 14
          (awake-before row1 refl ▸ awake-before row2 refl ▸ awake-before row3 refl ▸ awake-before row4 refl
          ▸ awake-before row5 refl ▸ awake-before row6 refl ▸ awake-before row7 refl ▸ awake-before row8 refl
          ▸ awake-before row9 refl ▸ awake-before row10 refl ▸ awake-before row11 refl ▸ awake-before row12 refl
          ▸ awake-before row13 refl ▸ (λ mine. ap (λ x. asleep? x.core.psw) close-is) ▸ tt);
      reads_own = below (ReadsOwn ev s) 14
          (reads_at row0 (own ▸ own ▸ own ▸ own ▸ own ▸ own ▸ tt) ▸ reads_at row1 (own ▸ own ▸ tt)
          ▸ reads_at row2 (own ▸ own ▸ own ▸ own ▸ own ▸ own ▸ tt) ▸ others-read row3 refl ▸ others-read row4 refl
          ▸ others-read row5 refl ▸ reads_at row6 (own ▸ own ▸ own ▸ own ▸ tt) ▸ reads_at row7 (own ▸ own ▸ tt)
          ▸ reads_at row8 (own ▸ own ▸ own ▸ own ▸ own ▸ own ▸ own ▸ own ▸ tt) ▸ others-read row9 refl ▸ others-read row10 refl
          ▸ reads_at row11 (own ▸ own ▸ tt) ▸ reads_at row12 (own ▸ own ▸ own ▸ own ▸ own ▸ own ▸ own ▸ own ▸ tt)
          ▸ reads_at row13 (own ▸ own ▸ own ▸ own ▸ tt) ▸ tt);
    }

-- so the run resumes
pub resumed : Resumes memory r events 14
resumed = resumes memory r events 14 premises

-- ---- the run with no events, computed too: it takes the same traps and ends in the same core after nine steps

free-start : after [] s 0 ≡ known c0 0 1 program
unfolding state_in
free-start = ap (λ x. x.state) (run-zero [] s)

free0 : Row [] s 0 (known c0 0 1 program) (known c0 0 1 program) c0' (acts.Trap 10) [] 0 (λ x. false)
unfolding frames application_steps foreign? deliver_at over
free0 =
    record {
      state_is = free-start;
      due-is = ap (deliver []) free-start;
      plan-is = trap-plan program refl refl;
      frames-are = refl;
      steps-are = refl;
      foreign-is = λ x. refl;
    }

free1 : Row [] s 1 (known c1 0 2 trapped) (known c1 0 2 trapped) c2 (acts.Stores false (record { 0 = 512 }) 7) (trap_frame ∷ []) 1 g1
unfolding perform writes? deliver_at best_from interrupt_of over effect_of advanced decode_of granted entered_psw pushes
free1 =
    next_row [] s program free0 refl (outcome c1 0 trap_push)
    (ap (λ x. outcome x 0 (pushes c0'))
    (vectored-is c0' (commit program zeros) 10 0 false 1016 32 320 (word-is program 65512 (lit< tt)) (word-is program 65514 (lit< tt))))
    refl (known c1 0 2 trapped) c2 (acts.Stores false (record { 0 = 512 }) 7)
    refl
    (fetch-plan (known c1 0 2 trapped) 0x5C01 refl refl refl refl refl (word-is trapped 320 (lit< tt)))

free2 : Row [] s 2 (known c2 0 3 stored) (known c2 0 3 stored) c2' (acts.Trap 11) (trap_frame ∷ []) 2 g2
unfolding perform writes? deliver_at best_from interrupt_of over
free2 =
    next_row [] s trapped free1 refl (outcome c2 0 word)
    refl
    refl (known c2 0 3 stored) c2' (acts.Trap 11)
    refl
    (nested-plan stored refl refl)

free3 : Row [] s 3 (known c3 0 4 nested) (known c3 0 4 nested) c6 (acts.Loads false (record { 0 = 512 }) 2) both 3 g3
unfolding perform writes? deliver_at best_from interrupt_of over effect_of advanced decode_of granted entered_psw pushes
free3 =
    next_row [] s stored free2 refl (outcome c3 0 nested_push)
    (ap (λ x. outcome x 0 (pushes c2'))
    (vectored-is c2' (commit stored zeros) 11 1 false 1008 64 336 (word-is stored 65516 (lit< tt)) (word-is stored 65518 (lit< tt))))
    refl (known c3 0 4 nested) c6 (acts.Loads false (record { 0 = 512 }) 2)
    refl
    (fetch-plan (known c3 0 4 nested) 0x580A refl refl refl refl refl (word-is nested 336 (lit< tt)))

free4 : Row [] s 4 (known c7 0 5 nested) (known c7 0 5 nested) c8 acts.Plain both 4 g3
unfolding perform writes? deliver_at best_from interrupt_of over effect_of advanced decode_of granted width_of
free4 =
    next_row [] s nested free3 refl (outcome c7 0 [])
    (loaded-is nested c6 2 refl)
    refl (known c7 0 5 nested) c8 acts.Plain
    refl
    (fetch-plan (known c7 0 5 nested) 0x4C2F refl refl refl refl refl (word-is nested 338 (lit< tt)))

free5 : Row [] s 5 (known c8 0 6 nested) (known c8 0 6 nested) c8 acts.Pull both 5 g3
unfolding perform writes? deliver_at best_from interrupt_of over
free5 =
    next_row [] s nested free4 refl (outcome c8 0 [])
    refl
    refl (known c8 0 6 nested) c8 acts.Pull
    refl
    (interrupt-plan (known c8 0 6 nested) pulls refl refl)

free6 : Row [] s 6 (known c11 0 7 nested) (known c11 0 7 nested) c12 acts.Plain (trap_frame ∷ []) 6 g3
unfolding perform writes? deliver_at best_from interrupt_of over effect_of advanced decode_of granted width_of
free6 =
    next_row [] s nested free5 refl (outcome c11 0 [])
    (ap (λ x. outcome x 0 [])
    (pulled-is c8 (commit nested zeros) 0 32 65535 324 (word-is nested 1008 (lit< tt)) (word-is nested 1010 (lit< tt))
    (word-is nested 1012 (lit< tt)) (word-is nested 1014 (lit< tt))))
    refl (known c11 0 7 nested) c12 acts.Plain
    refl
    (fetch-plan (known c11 0 7 nested) 0x4C2F refl refl refl refl refl (word-is nested 324 (lit< tt)))

free7 : Row [] s 7 (known c12 0 8 nested) (known c12 0 8 nested) c12 acts.Pull (trap_frame ∷ []) 7 g3
unfolding perform writes? deliver_at best_from interrupt_of over
free7 =
    next_row [] s nested free6 refl (outcome c12 0 [])
    refl
    refl (known c12 0 8 nested) c12 acts.Pull
    refl
    (interrupt-plan (known c12 0 8 nested) pulls refl refl)

free8 : Row [] s 8 (known c13 0 9 nested) (known c13 0 9 nested) c14 (acts.Loads false (record { 0 = 512 }) 3) [] 8 g3
unfolding perform writes? deliver_at best_from interrupt_of over effect_of advanced decode_of granted
free8 =
    next_row [] s nested free7 refl (outcome c13 0 [])
    (ap (λ x. outcome x 0 []) (pulled-is c12 (commit nested zeros) 0 0 5 258 (word-is nested 1016 (lit< tt)) (word-is nested 1018 (lit< tt))
    (word-is nested 1020 (lit< tt)) (word-is nested 1022 (lit< tt))))
    refl (known c13 0 9 nested) c14 (acts.Loads false (record { 0 = 512 }) 3)
    refl
    (fetch-plan (known c13 0 9 nested) 0x580B refl refl refl refl refl (word-is nested 258 (lit< tt)))

pub free-acts-are : (act [] s 0 ≡ acts.Trap 10) × (act [] s 1 ≡ acts.Stores false (record { 0 = 512 }) 7) × (act [] s 2 ≡ acts.Trap 11)
    × (act [] s 3 ≡ acts.Loads false (record { 0 = 512 }) 2) × (act [] s 4 ≡ acts.Plain) × (act [] s 5 ≡ acts.Pull)
    × (act [] s 6 ≡ acts.Plain) × (act [] s 7 ≡ acts.Pull) × (act [] s 8 ≡ acts.Loads false (record { 0 = 512 }) 3)
free-acts-are = (
  act-is [] s free0,
  act-is [] s free1,
  act-is [] s free2,
  act-is [] s free3,
  act-is [] s free4,
  act-is [] s free5,
  act-is [] s free6,
  act-is [] s free7,
  act-is [] s free8,
)

pub free-close : (run_of [] s 9).state ≡ known c15 0 10 nested
unfolding over
free-close = next-state [] s nested free8 refl (outcome c15 0 []) (loaded-is nested c14 3 refl) refl

-- what the theorem says of the close, computed
pub same-close : (after ev s 14).core ≡ (run_of [] s (application_steps ev s 14)).state.core
same-close = ap (λ x. x.core) close-is ∙ sym (ap (λ x. x.core) free-close) ∙ ap (λ k. (run_of [] s k).state.core) (sym close-steps)

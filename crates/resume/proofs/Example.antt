-- The run meets the premises of resumption and of the bound on depth, and both runs end in the same core. Each premise is read off the rows
-- of the run, which are computed from the bytes that each step reads. Assumes nothing.
use Prim.Native.Nat.{ℕ, ◌+◌, ◌*◌, ◌<◌}
use mathlib.Core.Bool.{Bool, false, ◌&&◌, true≢false}
use mathlib.Core.List.{List, [], ◌∷◌}
use mathlib.Core.Path.{◌≡◌, refl, sym, ap, ◌∙◌}
use lib.Dec.{lit<}
use lib.ListN.{length}
use Rattle.word.specs.Psw.{asleep?}
use Rattle.isa.specs.Decode.{decode_of}
use Rattle.machine.specs.State.{Core, State, reg, pc}
use Rattle.machine.specs.Memory.{Write, write, commit, writes?, word_at, even}
use Rattle.machine.specs.Record.{state_in}
use Rattle.machine.specs.Events.{event_at}
use Rattle.machine.specs.Devices.{deliver, deliver_at}
use Rattle.machine.specs.Entry.{best_from}
use Rattle.machine.specs.Effect.{effect_of, loaded}
use Rattle.machine.specs.declared.Act.{Act}
use Rattle.machine.specs.declared.Act.TheVariants as acts
use Rattle.machine.specs.Step.{outcome, advanced, granted, interrupt_of, perform}
use Rattle.machine.specs.Run.{run_of}
use Rattle.machine.specs.Refusal.{verdict_of, record_fits, event_fits, events_fit_below, in_order, in_order_below, event_below, twins_below}
use Rattle.machine_laws.proofs.Memory.{over, commit-length, commit-bytes}
use Rattle.machine_laws.proofs.Runs.{run-zero}
use Rattle.resume.specs.Frames.{Start, Frame, Calm, svc?, none?, after, due, act, frames, application_steps, foreign?}
use Rattle.resume.specs.Resume.{Found, Premises, Resumes}
use Rattle.resume.specs.Untrapped.{UntrappedPremises, UntrappedResumes}
use Rattle.resume.specs.Depth.{executes?, set_pri?, sets_priority?, DepthPremises, Shallow}
use Rattle.resume.specs.Example.{zeros, program, memory, r, events}
use Rattle.resume.proofs.Resume.{resumes}
use Rattle.resume.proofs.Untrapped.{premises-untrapped, resumes-untrapped}
use Rattle.resume.proofs.Depth.{depth}
use Rattle.resume.proofs.Trace.{zeros-length, word-is, fetch-plan, known, Row, next_row, next-state, next-frames, next-steps, act-is}
use Rattle.resume.proofs.RowFacts.{◌▸◌, below, zeros-bytes, bytes_of, small, small-writes, frame_found, Restored, Awake}
use Rattle.resume.proofs.RowFacts.{ReadsOwn, calm-at, no_svc, no-pull, others-read, reads_at, awake-before, found_at}
use Rattle.resume.proofs.Rows.{ev, s, row0, row1, row2, row3, row4, row5, row6, row7, row8, row9, row10, c0, c1, c2, c4, c7}
use Rattle.resume.proofs.Rows.{own, c9, ca, cb, stored, waiting, entered, deeper, outer_frame, inner_frame}

-- ---- an accepted start

memory-length : length memory ≡ 65536
memory-length = commit-length program zeros ∙ zeros-length

start : Start memory r events 11
unfolding verdict_of record_fits event_fits events_fit_below in_order in_order_below event_below twins_below event_at
start =
    record {
      memory_bytes = commit-bytes program zeros (small-writes program refl) zeros-bytes;
      record_bytes = bytes_of r (small r refl);
      event_bytes = bytes_of events (small events refl);
      accepted = rw memory-length refl;
    }

start-awake : asleep? s.core.psw ≡ false
unfolding state_in
start-awake = refl

start-live : s.halted ≡ false
unfolding state_in
start-live = refl

start-lines : s.lines ≡ 0
unfolding state_in
start-lines = refl

-- ---- the frames are found as their entries left them

inner-found : Found inner_frame.held (known c7 0 8 waiting)
unfolding over
inner-found =
    record {
      registers = below (λ i. reg c7 i ≡ reg c4 i) 5 (refl ▸ refl ▸ refl ▸ refl ▸ refl ▸ tt);
      frame = record {
        stack = refl;
        bytes = frame_found deeper waiting 1008 (lit< tt) (refl ▸ refl ▸ refl ▸ refl ▸ refl ▸ refl ▸ refl ▸ refl ▸ tt);
      };
    }

outer-found : Found outer_frame.held (known c9 0 10 waiting)
unfolding over
outer-found =
    record {
      registers = below (λ i. reg c9 i ≡ reg c2 i) 5 (refl ▸ refl ▸ refl ▸ refl ▸ refl ▸ tt);
      frame = record {
        stack = refl;
        bytes = frame_found entered waiting 1016 (lit< tt) (refl ▸ refl ▸ refl ▸ refl ▸ refl ▸ refl ▸ refl ▸ refl ▸ tt);
      };
    }

-- ---- what the steps do, in order

pub acts-are : (act ev s 0 ≡ acts.Stores false (record { 0 = 512 }) 7) × (act ev s 1 ≡ acts.Accept 1) × (act ev s 2 ≡ acts.Plain)
    × (act ev s 3 ≡ acts.Accept 2) × (act ev s 4 ≡ acts.Plain) × (act ev s 5 ≡ acts.Chain 3) × (act ev s 6 ≡ acts.Plain)
    × (act ev s 7 ≡ acts.Pull) × (act ev s 8 ≡ acts.Plain) × (act ev s 9 ≡ acts.Pull)
    × (act ev s 10 ≡ acts.Loads false (record { 0 = 512 }) 2)
acts-are = (
  act-is ev s row0,
  act-is ev s row1,
  act-is ev s row2,
  act-is ev s row3,
  act-is ev s row4,
  act-is ev s row5,
  act-is ev s row6,
  act-is ev s row7,
  act-is ev s row8,
  act-is ev s row9,
  act-is ev s row10,
)

-- ---- the close

loaded-is : (ws : List Write) → over ws 512 0 + 256 * over ws 513 0 ≡ 7
    → perform (acts.Loads false (record { 0 = 512 }) 2) ca 0 (commit ws zeros) ≡ outcome cb 0 []
unfolding perform
loaded-is ws h = ap (λ v. outcome (loaded ca false 2 v) 0 []) (word-is ws 512 (lit< tt) ∙ h)

pub close-is : after ev s 11 ≡ known cb 0 12 waiting
unfolding over
close-is = next-state ev s waiting row10 refl (outcome cb 0 []) (loaded-is waiting refl) refl

pub close-frames : frames ev s 11 ≡ []
unfolding over
close-frames = next-frames ev s waiting row10 refl (outcome cb 0 []) (loaded-is waiting refl) refl

pub close-steps : application_steps ev s 11 ≡ 2
unfolding over
close-steps = next-steps ev s waiting row10 refl (outcome cb 0 []) (loaded-is waiting refl) refl

-- ---- the premises

untrapped : (k : ℕ) → k < 11 → svc? (act ev s k) ≡ false
untrapped =
    below (λ k. svc? (act ev s k) ≡ false) 11
    (no_svc row0 refl ▸ no_svc row1 refl ▸ no_svc row2 refl ▸ no_svc row3 refl ▸ no_svc row4 refl ▸ no_svc row5 refl
    ▸ no_svc row6 refl ▸ no_svc row7 refl ▸ no_svc row8 refl ▸ no_svc row9 refl ▸ no_svc row10 refl ▸ tt)

pub premises : Premises memory r events 11
unfolding writes?
premises =
    record {
      accepted = start;
      awake = start-awake;
      not_halted = start-live;
      no_line = start-lines;
      calm = below (λ k. Calm (act ev s k) (frames ev s k)) 11
          (calm-at row0 tt ▸ calm-at row1 tt ▸ calm-at row2 tt ▸ calm-at row3 tt ▸ calm-at row4 tt ▸ calm-at row5 refl
          ▸ calm-at row6 tt ▸ calm-at row7 refl ▸ calm-at row8 tt ▸ calm-at row9 refl ▸ calm-at row10 tt ▸ tt);
      own_traps = λ k h e. absurd (true≢false (sym e ∙ untrapped k h));
      closed = close-frames;
      restored = λ k f fs h. below (Restored ev s) 11
          (no-pull row0 refl ▸ no-pull row1 refl ▸ no-pull row2 refl ▸ no-pull row3 refl ▸ no-pull row4 refl ▸ no-pull row5 refl
          ▸ no-pull row6 refl ▸ found_at row7 inner-found ▸ no-pull row8 refl ▸ found_at row9 outer-found ▸ no-pull row10 refl ▸ tt)
          k h f fs;
      never_sleeps = below (Awake ev s) 11
          (awake-before row1 refl ▸ awake-before row2 refl ▸ awake-before row3 refl ▸ awake-before row4 refl ▸ awake-before row5 refl
          ▸ awake-before row6 refl ▸ awake-before row7 refl ▸ awake-before row8 refl ▸ awake-before row9 refl ▸ awake-before row10 refl
          ▸ (λ mine. ap (λ x. asleep? x.core.psw) close-is) ▸ tt);
      reads_own = below (ReadsOwn ev s) 11
          (reads_at row0 ((refl, refl) ▸ (refl, refl) ▸ tt) ▸ others-read row1 refl ▸ others-read row2 refl ▸ others-read row3 refl
          ▸ others-read row4 refl ▸ others-read row5 refl ▸ others-read row6 refl ▸ others-read row7 refl ▸ others-read row8 refl
          ▸ others-read row9 refl ▸ reads_at row10 ((refl, refl) ▸ (refl, refl) ▸ (refl, refl) ▸ (refl, refl) ▸ tt) ▸ tt);
    }

-- so the run resumes
pub resumed : Resumes memory r events 11
resumed = resumes memory r events 11 premises

-- and meets the demand as document 01 has it
pub untrapped-premises : UntrappedPremises memory r events 11
untrapped-premises = premises-untrapped memory r events 11 premises untrapped

pub untrapped-resumed : UntrappedResumes memory r events 11
untrapped-resumed = resumes-untrapped memory r events 11 untrapped-premises

-- ---- the run with no events, computed too: it ends in the same core after the application's two steps

free-start : after [] s 0 ≡ known c0 0 1 program
unfolding state_in
free-start = ap (λ x. x.state) (run-zero [] s)

free0 : Row [] s 0 (known c0 0 1 program) (known c0 0 1 program) c1 (acts.Stores false (record { 0 = 512 }) 7) [] 0 (λ x. false)
unfolding frames application_steps foreign? deliver_at best_from interrupt_of over effect_of advanced decode_of granted
free0 =
    record {
      state_is = free-start;
      due-is = ap (deliver []) free-start;
      plan-is = fetch-plan (known c0 0 1 program) 0x5C01 refl refl refl refl refl (word-is program 256 (lit< tt));
      frames-are = refl;
      steps-are = refl;
      foreign-is = λ x. refl;
    }

free1 : Row [] s 1 (known c1 0 2 stored) (known c1 0 2 stored) ca (acts.Loads false (record { 0 = 512 }) 2) [] 1 own
unfolding perform deliver_at best_from interrupt_of over effect_of advanced decode_of granted
free1 =
    next_row [] s program free0 refl (outcome c1 0 (write 512 7 ∷ write 513 0 ∷ []))
    refl
    refl (known c1 0 2 stored) ca (acts.Loads false (record { 0 = 512 }) 2)
    refl
    (fetch-plan (known c1 0 2 stored) 0x580A refl refl refl refl refl (word-is stored 258 (lit< tt)))

pub free-close : (run_of [] s 2).state ≡ known cb 0 3 stored
unfolding over
free-close = next-state [] s stored free1 refl (outcome cb 0 []) (loaded-is stored refl) refl

-- what the theorem says of the close, computed
pub same-close : (after ev s 11).core ≡ (run_of [] s (application_steps ev s 11)).state.core
same-close = ap (λ x. x.core) close-is ∙ sym (ap (λ x. x.core) free-close) ∙ ap (λ k. (run_of [] s k).state.core) (sym close-steps)

-- ---- the premises of the bound on depth

abbrev SetsNone : ℕ → Type 0
SetsNone k = none? (frames ev s k) ≡ false → sets_priority? (due ev s k) ≡ false

sets-none : {k : ℕ} {t d : State} {c : Core} {a : Act} {fs : List Frame} {n : ℕ} {g : ℕ → Bool} → Row ev s k t d c a fs n g
    → executes? a && set_pri? (decode_of (word_at d.mem (pc d.core))) ≡ false → SetsNone k
sets-none {d = d} R h o =
    ap sets_priority? R.due-is
    ∙ ap (λ p. executes? p.act && set_pri? (decode_of (word_at d.mem (pc d.core)))) R.plan-is
    ∙ h

pub fetched : (ws : List Write) (a : ℕ) → a < 65536 → set_pri? (decode_of (over ws (even a) 0 + 256 * over ws (even a + 1) 0)) ≡ false
    → set_pri? (decode_of (word_at (commit ws zeros) a)) ≡ false
fetched ws a h e = ap (λ w. set_pri? (decode_of w)) (word-is ws a h) ∙ e

pub depth-premises : DepthPremises memory r events 11
unfolding over decode_of
depth-premises =
    record {
      accepted = start;
      calm = premises.calm;
      no_svc = untrapped;
      no_setpri = below SetsNone 11
          (sets-none row0 (fetched program 256 (lit< tt) refl) ▸ sets-none row1 refl ▸ sets-none row2 (fetched entered 320 (lit< tt) refl)
          ▸ sets-none row3 refl ▸ sets-none row4 (fetched deeper 352 (lit< tt) refl) ▸ sets-none row5 refl
          ▸ sets-none row6 (fetched waiting 384 (lit< tt) refl) ▸ sets-none row7 refl ▸ sets-none row8 (fetched waiting 322 (lit< tt) refl)
          ▸ sets-none row9 refl ▸ sets-none row10 (fetched waiting 258 (lit< tt) refl) ▸ tt);
      found = λ k f fs h e o. (untrapped-premises.restored k f fs h e o).frame;
    }

-- two frames are open together, and no more than seven could be
pub two-open : frames ev s 4 ≡ inner_frame ∷ outer_frame ∷ []
two-open = row4.frames-are

pub bounded : Shallow memory r events 11
bounded = depth memory r events 11 depth-premises

-- The four edited runs, judged by computing: each kind, step and detail is found. The rows of the entry are the same with any handler and
-- are given once, over its first word; those after it are computed for each edit. Assumes nothing.
use Prim.Native.Nat.{ℕ}
use mathlib.Core.Bool.{Bool, true, false, cond}
use mathlib.Core.List.{List, [], ◌∷◌, ◌++◌}
use mathlib.Core.Path.{◌≡◌, refl, ap, ◌∙◌}
use lib.Dec.{lit<}
use Rattle.word.specs.Psw.{current}
use Rattle.word.specs.Width.{width_of}
use Rattle.isa.specs.Decode.{decode_of}
use Rattle.machine.specs.State.{Core, State, core_of}
use Rattle.machine.specs.Memory.{Write, write, commit, writes?}
use Rattle.machine.specs.Record.{state_in}
use Rattle.machine.specs.Events.{Event, event_at, events_from, events_of}
use Rattle.machine.specs.Devices.{deliver, deliver_at, fallen}
use Rattle.machine.specs.Entry.{best_from, entered_psw, pushes}
use Rattle.machine.specs.Effect.{effect_of, loaded}
use Rattle.machine.specs.Step.{Outcome, planned, plan_of, outcome, interrupt_of, pulls, accepts, advanced, granted, perform}
use Rattle.machine.specs.declared.Act.TheVariants as acts
use Rattle.machine_laws.proofs.Memory.{over}
use Rattle.machine_laws.proofs.Runs.{run-zero}
use Rattle.resume.specs.Frames.{Frame, frame, none?, frames_after, after, frames, application_steps, foreign?}
use Rattle.resume.specs.Example.{zeros}
use Rattle.resume.proofs.Trace.{word-is, fetch-plan, interrupt-is, interrupt-plan, vectored-is, pulled-is, known, event-known}
use Rattle.resume.proofs.Trace.{Row, next_row, next-state, next-frames, act-is}
use Rattle.soundness.specs.Findings.{Kind, unclosed, changed, device, foreign, handler, application_runs, Finding, finding, nothing}
use Rattle.soundness.specs.Findings.{find_after, start_finding, open_finding, oldest, changes, handlers, first_breach, found_of}
use Rattle.soundness.specs.Soundness.{kinds_in}
use Rattle.soundness_example.specs.Edited.{program, memory, changes_r3, moves_sp, stores, r, events}
use Rattle.soundness_example.proofs.Shows.{Shows, shows, next-handlers, changes-over, kinds-are}

abbrev ev : List Event
ev = events_of events

-- ---- the entry, which is the same with any handler

module _ (w : ℕ) where
  abbrev s : State
  s = state_in (r 0 2) (memory w)

  abbrev c0 : Core
  c0 = core_of (7 ∷ 512 ∷ 2 ∷ 3 ∷ 4 ∷ 5 ∷ 1024 ∷ 256 ∷ []) 0 0

  abbrev c1 : Core
  c1 = core_of (7 ∷ 512 ∷ 2 ∷ 3 ∷ 4 ∷ 65535 ∷ 1016 ∷ 320 ∷ []) 64 0

  abbrev risen : List Write
  risen = program w ++ (write 3 9 ∷ write 2 23 ∷ [])

  abbrev push : List Write
  push =
      write 1022 0 ∷ write 1023 1 ∷ write 1020 5 ∷ write 1021 0 ∷ write 1018 0 ∷ write 1019 0 ∷ write 1016 0 ∷ write 1017 0 ∷ []

  abbrev entered : List Write
  entered = risen ++ push

  abbrev frame_open : Frame
  frame_open = frame (known c1 0 2 entered) false

  abbrev entry_bytes : ℕ → Bool
  entry_bytes x = cond (writes? push x) true false

  start_is : after ev s 0 ≡ known c0 0 1 (program w)
  unfolding state_in
  start_is = ap (λ x. x.state) (run-zero ev s)

  start_fine : start_finding s ≡ nothing
  unfolding state_in
  start_fine = refl

  row0 : Row ev s 0 (known c0 0 1 (program w)) (known c0 0x10 1 risen) c0 (acts.Accept 1) [] 0 (λ x. false)
  unfolding frames application_steps foreign? deliver_at events_from event_at best_from interrupt_of over
  row0 =
      record {
        state_is = start_is;
        due-is = ap (deliver ev) start_is
            ∙ event-known (record { step = 1; device = 1; byte = 9 }) c0 0 1 (program w) 19 (lit< tt) refl refl;
        plan-is = interrupt-plan (known c0 0x10 1 risen) (accepts 1) refl
            (interrupt-is c0 0x10 1 2 (commit risen zeros) refl (ap current (word-is risen 65476 (lit< tt))));
        frames-are = refl;
        steps-are = refl;
        foreign-is = λ x. refl;
      }

  handlers0 : handlers ev s 0 ≡ []
  unfolding handlers
  handlers0 = refl

  handlers1 : handlers ev s 1 ≡ handler 0 1 1 ∷ []
  handlers1 = next-handlers row0 [] handlers0

-- ---- the handler's instruction leaves x in R3 and y in SP: MOV LR,PC and the pull follow

module _ (w x y : ℕ) where
  abbrev c2 : Core
  c2 = core_of (7 ∷ 512 ∷ 2 ∷ x ∷ 4 ∷ 65535 ∷ y ∷ 322 ∷ []) 64 0

  abbrev c3 : Core
  c3 = core_of (7 ∷ 512 ∷ 2 ∷ x ∷ 4 ∷ 65535 ∷ y ∷ 65535 ∷ []) 64 0

  module _ (does : plan_of (known (c1 w) 0 2 (entered w)) ≡ planned c2 acts.Plain) where
    row1 : Row ev (s w) 1 (known (c1 w) 0 2 (entered w)) (known (c1 w) 0 2 (entered w)) c2 acts.Plain (frame_open w ∷ []) 0 (entry_bytes w)
    unfolding perform writes? deliver_at events_from event_at entered_psw pushes over
    row1 =
        next_row ev (s w) (risen w) (row0 w) refl (outcome (c1 w) 0 (push w))
        (ap (λ z. outcome z (fallen 0x10 1) (pushes (c0 w)))
        (vectored-is (c0 w) (commit (risen w) zeros) 1 0 false 1016 64 320 (word-is (risen w) 65476 (lit< tt))
        (word-is (risen w) 65478 (lit< tt))))
        refl (known (c1 w) 0 2 (entered w)) c2 acts.Plain
        refl
        does

    row2 : Row ev (s w) 2 (known c2 0 3 (entered w)) (known c2 0 3 (entered w)) c3 acts.Plain (frame_open w ∷ []) 0 (entry_bytes w)
    unfolding perform writes? deliver_at events_from event_at best_from interrupt_of over effect_of advanced decode_of granted width_of
    row2 =
        next_row ev (s w) (entered w) row1 refl (outcome c2 0 [])
        refl
        refl (known c2 0 3 (entered w)) c3 acts.Plain
        refl
        (fetch-plan (known c2 0 3 (entered w)) 0x4C2F refl refl refl refl refl (word-is (entered w) 322 (lit< tt)))

    row3 : Row ev (s w) 3 (known c3 0 4 (entered w)) (known c3 0 4 (entered w)) c3 acts.Pull (frame_open w ∷ []) 0 (entry_bytes w)
    unfolding perform writes? deliver_at events_from event_at best_from interrupt_of over
    row3 =
        next_row ev (s w) (entered w) row2 refl (outcome c3 0 [])
        refl
        refl (known c3 0 4 (entered w)) c3 acts.Pull
        refl
        (interrupt-plan (known c3 0 4 (entered w)) pulls refl refl)

    handlers2 : handlers ev (s w) 2 ≡ handler 0 1 1 ∷ []
    handlers2 = next-handlers row1 (handler 0 1 1 ∷ []) (handlers1 w)

    handlers3 : handlers ev (s w) 3 ≡ handler 0 1 1 ∷ []
    handlers3 = next-handlers row2 (handler 0 1 1 ∷ []) handlers2

    handlers4 : handlers ev (s w) 4 ≡ []
    handlers4 = next-handlers row3 (handler 0 1 1 ∷ []) handlers3

    frames4 : frames ev (s w) 4 ≡ []
    unfolding frames
    frames4 = λ i. frames_after (act-is ev (s w) row3 i) (after ev (s w) 4) (row3.frames-are i)

    -- what the four steps show, where the pull finds m changed
    module _ (m : ℕ) (finds : changes (frame_open w ∷ []) (known c3 0 4 (entered w)) ≡ m) where
      abbrev breaches : Kind → Finding
      breaches κ =
          find_after κ 3 (Shows row3 (after ev (s w) 4) m (handler 0 1 1 ∷ []))
          (find_after κ 2
          (Shows row2 (known c3 0 4 (entered w)) (changes (frame_open w ∷ []) (known c2 0 3 (entered w))) (handler 0 1 1 ∷ []))
          (find_after κ 1
          (Shows row1 (known c2 0 3 (entered w)) (changes (frame_open w ∷ []) (known (c1 w) 0 2 (entered w))) (handler 0 1 1 ∷ []))
          (find_after κ 0 (Shows (row0 w) (known (c1 w) 0 2 (entered w)) 0 []) nothing)))

      breaches-are : (κ : Kind) → first_breach ev (s w) κ 4 ≡ breaches κ
      unfolding first_breach
      breaches-are κ =
          λ i. find_after κ 3 (shows row3 (after ev (s w) 4) m (handler 0 1 1 ∷ []) refl finds handlers3 i)
          (find_after κ 2
          (shows row2 (known c3 0 4 (entered w)) (changes (frame_open w ∷ []) (known c2 0 3 (entered w))) (handler 0 1 1 ∷ [])
          row3.state_is refl handlers2 i)
          (find_after κ 1
          (shows row1 (known c2 0 3 (entered w)) (changes (frame_open w ∷ []) (known (c1 w) 0 2 (entered w))) (handler 0 1 1 ∷ [])
          row2.state_is refl (handlers1 w) i)
          (find_after κ 0 (shows (row0 w) (known (c1 w) 0 2 (entered w)) 0 [] row1.state_is refl (handlers0 w) i) nothing)))

-- MOV R0,R3: R3 is 7 where the entry left 3
plan-r3 : plan_of (known (c1 changes_r3) 0 2 (entered changes_r3)) ≡ planned (c2 changes_r3 7 1016) acts.Plain
unfolding best_from interrupt_of over effect_of advanced decode_of granted width_of
plan-r3 =
    fetch-plan (known (c1 changes_r3) 0 2 (entered changes_r3)) 0x4C03 refl refl refl refl refl (word-is (entered changes_r3) 320 (lit< tt))

r3-finds : changes (frame_open changes_r3 ∷ []) (known (c3 changes_r3 7 1016) 0 4 (entered changes_r3)) ≡ 8
unfolding over
r3-finds = changes-over (c1 changes_r3) 0 2 (entered changes_r3) (c3 changes_r3 7 1016) 0 4 (entered changes_r3)

pub r3-found : found_of ev (s changes_r3) changed 4 ≡ finding 3 8 65535 (handler 0 1 1)
r3-found = breaches-are changes_r3 7 1016 plan-r3 8 r3-finds changed

pub r3-kinds : kinds_in (memory changes_r3) (r 0 2) events 4 ≡ 32
r3-kinds =
    kinds-are ev (s changes_r3) 4 (start_fine changes_r3) (frames4 changes_r3 7 1016 plan-r3) (handlers4 changes_r3 7 1016 plan-r3)
    (breaches-are changes_r3 7 1016 plan-r3 8 r3-finds)

-- one step earlier the frame is not closed, and nothing else is found
pub r3-unclosed : found_of ev (s changes_r3) unclosed 3 ≡ finding 0 0 0 (handler 0 1 1)
r3-unclosed = λ i. open_finding (none? ((row3 changes_r3 7 1016 plan-r3).frames-are i)) (oldest (handlers3 changes_r3 7 1016 plan-r3 i))

-- MOV R1,SP: SP is 512 where the entry left 1016
plan-sp : plan_of (known (c1 moves_sp) 0 2 (entered moves_sp)) ≡ planned (c2 moves_sp 3 512) acts.Plain
unfolding best_from interrupt_of over effect_of advanced decode_of granted width_of
plan-sp =
    fetch-plan (known (c1 moves_sp) 0 2 (entered moves_sp)) 0x4C0E refl refl refl refl refl (word-is (entered moves_sp) 320 (lit< tt))

sp-finds : changes (frame_open moves_sp ∷ []) (known (c3 moves_sp 3 512) 0 4 (entered moves_sp)) ≡ 32
unfolding over
sp-finds = changes-over (c1 moves_sp) 0 2 (entered moves_sp) (c3 moves_sp 3 512) 0 4 (entered moves_sp)

pub sp-found : found_of ev (s moves_sp) changed 4 ≡ finding 3 32 65535 (handler 0 1 1)
sp-found = breaches-are moves_sp 3 512 plan-sp 32 sp-finds changed

pub sp-kinds : kinds_in (memory moves_sp) (r 0 2) events 4 ≡ 32
sp-kinds =
    kinds-are ev (s moves_sp) 4 (start_fine moves_sp) (frames4 moves_sp 3 512 plan-sp) (handlers4 moves_sp 3 512 plan-sp)
    (breaches-are moves_sp 3 512 plan-sp 32 sp-finds)

-- ---- the handler stores the word that the application then reads

abbrev t0 : State
t0 = s stores

abbrev d2 : Core
d2 = core_of (7 ∷ 512 ∷ 2 ∷ 3 ∷ 4 ∷ 65535 ∷ 1016 ∷ 322 ∷ []) 64 0

abbrev d3 : Core
d3 = core_of (7 ∷ 512 ∷ 2 ∷ 3 ∷ 4 ∷ 65535 ∷ 1016 ∷ 65535 ∷ []) 64 0

abbrev d5 : Core
d5 = core_of (7 ∷ 512 ∷ 2 ∷ 3 ∷ 4 ∷ 5 ∷ 1024 ∷ 258 ∷ []) 0 0

abbrev d6 : Core
d6 = core_of (7 ∷ 512 ∷ 7 ∷ 3 ∷ 4 ∷ 5 ∷ 1024 ∷ 258 ∷ []) 0 0

abbrev word : List Write
word = write 512 7 ∷ write 513 0 ∷ []

abbrev stored : List Write
stored = entered stores ++ word

abbrev handler_bytes : ℕ → Bool
handler_bytes x = cond (writes? word x) true (entry_bytes stores x)

store1 : Row ev t0 1 (known (c1 stores) 0 2 (entered stores)) (known (c1 stores) 0 2 (entered stores)) d2
    (acts.Stores false (record { 0 = 512 }) 7) (frame_open stores ∷ []) 0 (entry_bytes stores)
unfolding perform writes? deliver_at events_from event_at best_from interrupt_of over effect_of advanced decode_of granted entered_psw
    pushes
store1 =
    next_row ev t0 (risen stores) (row0 stores) refl (outcome (c1 stores) 0 (push stores))
    (ap (λ z. outcome z (fallen 0x10 1) (pushes (c0 stores)))
    (vectored-is (c0 stores) (commit (risen stores) zeros) 1 0 false 1016 64 320 (word-is (risen stores) 65476 (lit< tt))
    (word-is (risen stores) 65478 (lit< tt))))
    refl (known (c1 stores) 0 2 (entered stores)) d2 (acts.Stores false (record { 0 = 512 }) 7)
    refl
    (fetch-plan (known (c1 stores) 0 2 (entered stores)) 0x5C01 refl refl refl refl refl (word-is (entered stores) 320 (lit< tt)))

store2 : Row ev t0 2 (known d2 0 3 stored) (known d2 0 3 stored) d3 acts.Plain (frame_open stores ∷ []) 0 handler_bytes
unfolding perform writes? deliver_at events_from event_at best_from interrupt_of over effect_of advanced decode_of granted width_of
store2 =
    next_row ev t0 (entered stores) store1 refl (outcome d2 0 word)
    refl
    refl (known d2 0 3 stored) d3 acts.Plain
    refl
    (fetch-plan (known d2 0 3 stored) 0x4C2F refl refl refl refl refl (word-is stored 322 (lit< tt)))

store3 : Row ev t0 3 (known d3 0 4 stored) (known d3 0 4 stored) d3 acts.Pull (frame_open stores ∷ []) 0 handler_bytes
unfolding perform writes? deliver_at events_from event_at best_from interrupt_of over
store3 =
    next_row ev t0 stored store2 refl (outcome d3 0 [])
    refl
    refl (known d3 0 4 stored) d3 acts.Pull
    refl
    (interrupt-plan (known d3 0 4 stored) pulls refl refl)

store4 : Row ev t0 4 (known (c0 stores) 0 5 stored) (known (c0 stores) 0 5 stored) d5 (acts.Loads false (record { 0 = 512 }) 2) [] 0
    handler_bytes
unfolding perform writes? deliver_at events_from event_at best_from interrupt_of over effect_of advanced decode_of granted
store4 =
    next_row ev t0 stored store3 refl (outcome (c0 stores) 0 [])
    (ap (λ x. outcome x 0 [])
    (pulled-is d3 (commit stored zeros) 0 0 5 256 (word-is stored 1016 (lit< tt)) (word-is stored 1018 (lit< tt))
    (word-is stored 1020 (lit< tt)) (word-is stored 1022 (lit< tt))))
    refl (known (c0 stores) 0 5 stored) d5 (acts.Loads false (record { 0 = 512 }) 2)
    refl
    (fetch-plan (known (c0 stores) 0 5 stored) 0x580A refl refl refl refl refl (word-is stored 256 (lit< tt)))

store-loads : perform (acts.Loads false (record { 0 = 512 }) 2) d5 0 (commit stored zeros) ≡ outcome d6 0 []
unfolding perform over
store-loads = ap (λ v. outcome (loaded d5 false 2 v) 0 []) (word-is stored 512 (lit< tt))

store-close : after ev t0 5 ≡ known d6 0 6 stored
store-close = next-state ev t0 stored store4 refl (outcome d6 0 []) store-loads refl

store-frames : frames ev t0 5 ≡ []
store-frames = next-frames ev t0 stored store4 refl (outcome d6 0 []) store-loads refl

stored2 : handlers ev t0 2 ≡ handler 0 1 1 ∷ []
stored2 = next-handlers store1 (handler 0 1 1 ∷ []) (handlers1 stores)

stored3 : handlers ev t0 3 ≡ handler 0 1 1 ∷ []
stored3 = next-handlers store2 (handler 0 1 1 ∷ []) stored2

stored4 : handlers ev t0 4 ≡ []
stored4 = next-handlers store3 (handler 0 1 1 ∷ []) stored3

stored5 : handlers ev t0 5 ≡ []
stored5 = next-handlers store4 [] stored4

store-finds : changes (frame_open stores ∷ []) (known d3 0 4 stored) ≡ 0
unfolding over
store-finds = changes-over (c1 stores) 0 2 (entered stores) d3 0 4 stored

abbrev store_breaches : Kind → Finding
store_breaches κ =
    find_after κ 4 (Shows store4 (known d6 0 6 stored) 0 [])
    (find_after κ 3 (Shows store3 (known (c0 stores) 0 5 stored) 0 (handler 0 1 1 ∷ []))
    (find_after κ 2 (Shows store2 (known d3 0 4 stored) (changes (frame_open stores ∷ []) (known d2 0 3 stored)) (handler 0 1 1 ∷ []))
    (find_after κ 1
    (Shows store1 (known d2 0 3 stored) (changes (frame_open stores ∷ []) (known (c1 stores) 0 2 (entered stores))) (handler 0 1 1 ∷ []))
    (find_after κ 0 (Shows (row0 stores) (known (c1 stores) 0 2 (entered stores)) 0 []) nothing))))

store-breaches : (κ : Kind) → first_breach ev t0 κ 5 ≡ store_breaches κ
unfolding first_breach
store-breaches κ =
    λ i. find_after κ 4 (shows store4 (known d6 0 6 stored) 0 [] store-close refl stored4 i)
    (find_after κ 3 (shows store3 (known (c0 stores) 0 5 stored) 0 (handler 0 1 1 ∷ []) store4.state_is store-finds stored3 i)
    (find_after κ 2
    (shows store2 (known d3 0 4 stored) (changes (frame_open stores ∷ []) (known d2 0 3 stored)) (handler 0 1 1 ∷ [])
    store3.state_is refl stored2 i)
    (find_after κ 1
    (shows store1 (known d2 0 3 stored) (changes (frame_open stores ∷ []) (known (c1 stores) 0 2 (entered stores))) (handler 0 1 1 ∷ [])
    store2.state_is refl (handlers1 stores) i)
    (find_after κ 0 (shows (row0 stores) (known (c1 stores) 0 2 (entered stores)) 0 [] store1.state_is refl (handlers0 stores) i)
    nothing))))

pub store_found : found_of ev t0 foreign 5 ≡ finding 4 0 512 application_runs
unfolding writes?
store_found = store-breaches foreign

pub store-kinds : kinds_in (memory stores) (r 0 2) events 5 ≡ 256
unfolding writes?
store-kinds = kinds-are ev t0 5 (start_fine stores) store-frames stored5 store-breaches

-- ---- the application reads the status of device 1

abbrev u0 : State
u0 = state_in (r 2 0) (memory stores)

abbrev e0 : Core
e0 = core_of (7 ∷ 2 ∷ 2 ∷ 3 ∷ 4 ∷ 5 ∷ 1024 ∷ 256 ∷ []) 0 0

abbrev e1 : Core
e1 = core_of (7 ∷ 2 ∷ 2 ∷ 3 ∷ 4 ∷ 5 ∷ 1024 ∷ 258 ∷ []) 0 0

abbrev none : List Event
none = events_of []

read-start : after none u0 0 ≡ known e0 0 1 (program stores)
unfolding state_in
read-start = ap (λ x. x.state) (run-zero none u0)

read-fine : start_finding u0 ≡ nothing
unfolding state_in
read-fine = refl

read0 : Row none u0 0 (known e0 0 1 (program stores)) (known e0 0 1 (program stores)) e1 (acts.Loads false (record { 0 = 2 }) 2) [] 0
    (λ x. false)
unfolding frames application_steps foreign? deliver_at events_from best_from interrupt_of over effect_of advanced decode_of granted
read0 =
    record {
      state_is = read-start;
      due-is = ap (deliver none) read-start;
      plan-is = fetch-plan (known e0 0 1 (program stores)) 0x580A refl refl refl refl refl (word-is (program stores) 256 (lit< tt));
      frames-are = refl;
      steps-are = refl;
      foreign-is = λ x. refl;
    }

abbrev reading : Outcome
reading = perform (acts.Loads false (record { 0 = 2 }) 2) e1 0 (commit (program stores) zeros)

reading-live : reading.halted ≡ false
unfolding perform
reading-live = refl

read-close : after none u0 1 ≡ known reading.core reading.lines 2 (program stores ++ reading.writes)
read-close = next-state none u0 (program stores) read0 refl reading refl reading-live

read-frames : frames none u0 1 ≡ []
read-frames = next-frames none u0 (program stores) read0 refl reading refl reading-live

read-handlers0 : handlers none u0 0 ≡ []
unfolding handlers
read-handlers0 = refl

read-handlers : handlers none u0 1 ≡ []
read-handlers = next-handlers read0 [] read-handlers0

abbrev read_breaches : Kind → Finding
read_breaches κ =
    find_after κ 0 (Shows read0 (known reading.core reading.lines 2 (program stores ++ reading.writes)) 0 []) nothing

read-breaches : (κ : Kind) → first_breach none u0 κ 1 ≡ read_breaches κ
unfolding first_breach
read-breaches κ =
    λ i. find_after κ 0
    (shows read0 (known reading.core reading.lines 2 (program stores ++ reading.writes)) 0 [] read-close refl read-handlers0 i)
    nothing

pub read_found : found_of none u0 device 1 ≡ finding 0 0 2 application_runs
read_found = read-breaches device

pub read-kinds : kinds_in (memory stores) (r 2 0) [] 1 ≡ 128
unfolding perform
read-kinds = kinds-are none u0 1 read-fine read-frames read-handlers read-breaches

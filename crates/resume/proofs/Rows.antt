-- The rows of the run, one for each step: state, act, open frames, the application's steps and the bytes last written by a
-- handler or an entry. Each equation is computed by the checker from the bytes that the step reads. Assumes nothing.
use Prim.Native.Nat.{ℕ}
use mathlib.Core.Bool.{Bool, true, false, cond}
use mathlib.Core.List.{List, [], ◌∷◌, ◌++◌}
use mathlib.Core.Path.{◌≡◌, refl, ap}
use lib.Dec.{lit<}
use Rattle.word.specs.Psw.{current}
use Rattle.isa.specs.Decode.{decode_of}
use Rattle.alu.specs.Alu.{alu_of}
use Rattle.alu.specs.Sums.{add_with_carry, overflow_of}
use Rattle.word.specs.Width.{width_of}
use Rattle.machine.specs.State.{Core, State, core_of}
use Rattle.machine.specs.Memory.{Write, write, commit, writes?}
use Rattle.machine.specs.Record.{state_in}
use Rattle.machine.specs.Events.{Event, event_at, events_from, events_of}
use Rattle.machine.specs.Devices.{deliver, deliver_at, fallen}
use Rattle.machine.specs.Entry.{best_from, entered_psw, pushes}
use Rattle.machine.specs.Effect.{effect_of, binary_op}
use Rattle.machine.specs.Step.{planned, plan_of, outcome, interrupt_of, pulls, chains, accepts, advanced, granted, perform}
use Rattle.machine.specs.declared.Act.TheVariants as acts
use Rattle.machine_laws.proofs.Memory.{over}
use Rattle.machine_laws.proofs.Runs.{run-zero}
use Rattle.resume.specs.Frames.{Frame, frame, after, frames, application_steps, foreign?}
use Rattle.resume.specs.Example.{zeros, program, memory, r, events}
use Rattle.resume.proofs.Trace.{word-is, fetch-plan, interrupt-is, interrupt-plan, vectored-is, pulled-is, known}
use Rattle.resume.proofs.Trace.{event-known, Row, next_row}

abbrev pub ev : List Event
ev = events_of events

abbrev pub s : State
s = state_in r memory

-- what the two entries push
abbrev first_push : List Write
first_push =
    write 1022 2 ∷ write 1023 1 ∷ write 1020 5 ∷ write 1021 0 ∷ write 1018 0 ∷ write 1019 0 ∷ write 1016 0 ∷ write 1017 0 ∷ []

abbrev second_push : List Write
second_push =
    write 1014 66 ∷ write 1015 1 ∷ write 1012 255 ∷ write 1013 255 ∷ write 1010 67 ∷ write 1011 0 ∷ write 1008 0 ∷ write 1009 0 ∷ []

-- the writes so far, before each step, its due events applied
abbrev pub stored : List Write
stored = program ++ (write 512 7 ∷ write 513 0 ∷ [])

abbrev pub risen : List Write
risen = stored ++ (write 3 9 ∷ write 2 23 ∷ [])

abbrev pub entered : List Write
entered = risen ++ first_push

abbrev pub nested : List Write
nested = entered ++ (write 4 21 ∷ [])

abbrev pub deeper : List Write
deeper = nested ++ second_push

abbrev pub waiting : List Write
waiting = deeper ++ (write 6 21 ∷ [])

-- the cores before and after each step
abbrev pub c0 : Core
c0 = core_of (7 ∷ 512 ∷ 2 ∷ 3 ∷ 4 ∷ 5 ∷ 1024 ∷ 256 ∷ []) 0 0

abbrev pub c1 : Core
c1 = core_of (7 ∷ 512 ∷ 2 ∷ 3 ∷ 4 ∷ 5 ∷ 1024 ∷ 258 ∷ []) 0 0

abbrev pub c2 : Core
c2 = core_of (7 ∷ 512 ∷ 2 ∷ 3 ∷ 4 ∷ 65535 ∷ 1016 ∷ 320 ∷ []) 64 0

abbrev pub c3 : Core
c3 = core_of (7 ∷ 512 ∷ 2 ∷ 3 ∷ 4 ∷ 65535 ∷ 1016 ∷ 322 ∷ []) 67 0

abbrev pub c4 : Core
c4 = core_of (7 ∷ 512 ∷ 2 ∷ 3 ∷ 4 ∷ 65535 ∷ 1008 ∷ 352 ∷ []) 16544 0

abbrev pub c5 : Core
c5 = core_of (7 ∷ 512 ∷ 2 ∷ 3 ∷ 4 ∷ 65535 ∷ 1008 ∷ 65535 ∷ []) 16544 0

abbrev pub c6 : Core
c6 = core_of (7 ∷ 512 ∷ 2 ∷ 3 ∷ 4 ∷ 65535 ∷ 1008 ∷ 384 ∷ []) 16512 0

abbrev pub c7 : Core
c7 = core_of (7 ∷ 512 ∷ 2 ∷ 3 ∷ 4 ∷ 65535 ∷ 1008 ∷ 65535 ∷ []) 16512 0

abbrev pub c9 : Core
c9 = core_of (7 ∷ 512 ∷ 2 ∷ 3 ∷ 4 ∷ 65535 ∷ 1016 ∷ 65535 ∷ []) 67 0

abbrev pub ca : Core
ca = core_of (7 ∷ 512 ∷ 2 ∷ 3 ∷ 4 ∷ 5 ∷ 1024 ∷ 260 ∷ []) 0 0

abbrev pub cb : Core
cb = core_of (7 ∷ 512 ∷ 7 ∷ 3 ∷ 4 ∷ 5 ∷ 1024 ∷ 260 ∷ []) 0 0

-- the two frames: what the entry from the application left, and the nested one
abbrev pub outer_frame : Frame
outer_frame = frame (known c2 0 3 entered) false

abbrev pub inner_frame : Frame
inner_frame = frame (known c4 0 5 deeper) false

-- the bytes last written by a handler or an entry, after the entry and after the nested one
abbrev pub own : ℕ → Bool
own x = cond (writes? (write 512 7 ∷ write 513 0 ∷ []) x) false false

abbrev pub entry_bytes : ℕ → Bool
entry_bytes x = cond (writes? first_push x) true (own x)

abbrev pub nested_bytes : ℕ → Bool
nested_bytes x = cond (writes? second_push x) true (entry_bytes x)

start_is : after ev s 0 ≡ known c0 0 1 program
unfolding state_in
start_is = ap (λ x. x.state) (run-zero ev s)

pub row0 : Row ev s 0 (known c0 0 1 program) (known c0 0 1 program) c1 (acts.Stores false (record { 0 = 512 }) 7) [] 0 (λ x. false)
unfolding frames application_steps foreign? deliver_at events_from event_at best_from interrupt_of over effect_of advanced decode_of granted
row0 =
    record {
      state_is = start_is;
      due-is = ap (deliver ev) start_is;
      plan-is = fetch-plan (known c0 0 1 program) 0x5C01 refl refl refl refl refl (word-is program 256 (lit< tt));
      frames-are = refl;
      steps-are = refl;
      foreign-is = λ x. refl;
    }

pub row1 : Row ev s 1 (known c1 0 2 stored) (known c1 0x10 2 risen) c1 (acts.Accept 1) [] 1 own
unfolding perform writes? deliver_at events_from event_at best_from interrupt_of over
row1 =
    next_row ev s program row0 refl (outcome c1 0 (write 512 7 ∷ write 513 0 ∷ []))
    refl
    refl (known c1 0x10 2 risen) c1 (acts.Accept 1)
    (event-known (record { step = 2; device = 1; byte = 9 }) c1 0 2 stored 19 (lit< tt) refl refl)
    (interrupt-plan (known c1 0x10 2 risen) (accepts 1) refl
    (interrupt-is c1 0x10 1 2 (commit risen zeros) refl (ap current (word-is risen 65476 (lit< tt)))))

-- CMP R0,R0 in the first handler
compare-plan : plan_of (known c2 0 3 entered) ≡ planned c3 acts.Plain
unfolding best_from interrupt_of over effect_of advanced decode_of granted alu_of add_with_carry overflow_of width_of binary_op
compare-plan = fetch-plan (known c2 0 3 entered) 0x4500 refl refl refl refl refl (word-is entered 320 (lit< tt))

pub row2 : Row ev s 2 (known c2 0 3 entered) (known c2 0 3 entered) c3 acts.Plain (outer_frame ∷ []) 1 entry_bytes
unfolding perform writes? deliver_at events_from event_at best_from interrupt_of over entered_psw pushes
row2 =
    next_row ev s risen row1 refl (outcome c2 0 first_push)
    (ap (λ x. outcome x (fallen 0x10 1) (pushes c1))
    (vectored-is c1 (commit risen zeros) 1 0 false 1016 64 320 (word-is risen 65476 (lit< tt)) (word-is risen 65478 (lit< tt))))
    refl (known c2 0 3 entered) c3 acts.Plain
    refl
    compare-plan

pub row3 : Row ev s 3 (known c3 0 4 entered) (known c3 0x100 4 nested) c3 (acts.Accept 2) (outer_frame ∷ []) 1 entry_bytes
unfolding perform writes? deliver_at events_from event_at best_from interrupt_of over
row3 =
    next_row ev s entered row2 refl (outcome c3 0 [])
    refl
    refl (known c3 0x100 4 nested) c3 (acts.Accept 2)
    (event-known (record { step = 4; device = 2; byte = 0 }) c3 0 4 entered 17 (lit< tt) refl refl)
    (interrupt-plan (known c3 0x100 4 nested) (accepts 2) refl
    (interrupt-is c3 0x100 2 5 (commit nested zeros) refl (ap current (word-is nested 65480 (lit< tt)))))

pub row4 : Row ev s 4 (known c4 0 5 deeper) (known c4 0 5 deeper) c5 acts.Plain (inner_frame ∷ outer_frame ∷ []) 1 nested_bytes
unfolding perform deliver_at events_from event_at best_from interrupt_of over effect_of advanced decode_of granted entered_psw pushes
    width_of
row4 =
    next_row ev s nested row3 refl (outcome c4 0 second_push)
    (ap (λ x. outcome x (fallen 0x100 2) (pushes c3))
    (vectored-is c3 (commit nested zeros) 2 2 false 1008 160 352 (word-is nested 65480 (lit< tt)) (word-is nested 65482 (lit< tt))))
    refl (known c4 0 5 deeper) c5 acts.Plain
    refl
    (fetch-plan (known c4 0 5 deeper) 0x4C2F refl refl refl refl refl (word-is deeper 352 (lit< tt)))

pub row5 : Row ev s 5 (known c5 0 6 deeper) (known c5 0x1000 6 waiting) c5 (acts.Chain 3) (inner_frame ∷ outer_frame ∷ []) 1 nested_bytes
unfolding perform writes? deliver_at events_from event_at best_from interrupt_of over
row5 =
    next_row ev s deeper row4 refl (outcome c5 0 [])
    refl
    refl (known c5 0x1000 6 waiting) c5 (acts.Chain 3)
    (event-known (record { step = 6; device = 3; byte = 0 }) c5 0 6 deeper 17 (lit< tt) refl refl)
    (interrupt-plan (known c5 0x1000 6 waiting) (chains 3) refl
    (interrupt-is c5 0x1000 3 4 (commit waiting zeros) refl (ap current (word-is waiting 65484 (lit< tt)))))

pub row6 : Row ev s 6 (known c6 0 7 waiting) (known c6 0 7 waiting) c7 acts.Plain (inner_frame ∷ outer_frame ∷ []) 1 nested_bytes
unfolding perform writes? deliver_at events_from event_at best_from interrupt_of over effect_of advanced decode_of granted entered_psw
    width_of
row6 =
    next_row ev s waiting row5 refl (outcome c6 0 [])
    (ap (λ x. outcome x (fallen 0x1000 3) [])
    (vectored-is c5 (commit waiting zeros) 3 2 false 1008 128 384 (word-is waiting 65484 (lit< tt)) (word-is waiting 65486 (lit< tt))))
    refl (known c6 0 7 waiting) c7 acts.Plain
    refl
    (fetch-plan (known c6 0 7 waiting) 0x4C2F refl refl refl refl refl (word-is waiting 384 (lit< tt)))

pub row7 : Row ev s 7 (known c7 0 8 waiting) (known c7 0 8 waiting) c7 acts.Pull (inner_frame ∷ outer_frame ∷ []) 1 nested_bytes
unfolding perform writes? deliver_at events_from event_at best_from interrupt_of over
row7 =
    next_row ev s waiting row6 refl (outcome c7 0 [])
    refl
    refl (known c7 0 8 waiting) c7 acts.Pull
    refl
    (interrupt-plan (known c7 0 8 waiting) pulls refl refl)

pub row8 : Row ev s 8 (known c3 0 9 waiting) (known c3 0 9 waiting) c9 acts.Plain (outer_frame ∷ []) 1 nested_bytes
unfolding perform writes? deliver_at events_from event_at best_from interrupt_of over effect_of advanced decode_of granted width_of
row8 =
    next_row ev s waiting row7 refl (outcome c3 0 [])
    (ap (λ x. outcome x 0 [])
    (pulled-is c7 (commit waiting zeros) 0 67 65535 322 (word-is waiting 1008 (lit< tt)) (word-is waiting 1010 (lit< tt))
    (word-is waiting 1012 (lit< tt)) (word-is waiting 1014 (lit< tt))))
    refl (known c3 0 9 waiting) c9 acts.Plain
    refl
    (fetch-plan (known c3 0 9 waiting) 0x4C2F refl refl refl refl refl (word-is waiting 322 (lit< tt)))

pub row9 : Row ev s 9 (known c9 0 10 waiting) (known c9 0 10 waiting) c9 acts.Pull (outer_frame ∷ []) 1 nested_bytes
unfolding perform writes? deliver_at events_from event_at best_from interrupt_of over
row9 =
    next_row ev s waiting row8 refl (outcome c9 0 [])
    refl
    refl (known c9 0 10 waiting) c9 acts.Pull
    refl
    (interrupt-plan (known c9 0 10 waiting) pulls refl refl)

pub row10 : Row ev s 10 (known c1 0 11 waiting) (known c1 0 11 waiting) ca (acts.Loads false (record { 0 = 512 }) 2) [] 1 nested_bytes
unfolding perform writes? deliver_at events_from event_at best_from interrupt_of over effect_of advanced decode_of granted
row10 =
    next_row ev s waiting row9 refl (outcome c1 0 [])
    (ap (λ x. outcome x 0 [])
    (pulled-is c9 (commit waiting zeros) 0 0 5 258 (word-is waiting 1016 (lit< tt)) (word-is waiting 1018 (lit< tt))
    (word-is waiting 1020 (lit< tt)) (word-is waiting 1022 (lit< tt))))
    refl (known c1 0 11 waiting) ca (acts.Loads false (record { 0 = 512 }) 2)
    refl
    (fetch-plan (known c1 0 11 waiting) 0x580A refl refl refl refl refl (word-is waiting 258 (lit< tt)))

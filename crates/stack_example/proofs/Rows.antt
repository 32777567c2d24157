-- The rows of the run. Each equation is computed by the checker from the bytes that the step reads: memory is a list of writes over zeros,
-- so that a byte is the last one written there. Assumes nothing.
use mathlib.Core.Bool.{false}
use mathlib.Core.List.{List, [], ◌∷◌, ◌++◌}
use mathlib.Core.Path.{◌≡◌, refl, ap, ◌∙◌}
use lib.Dec.{lit<}
use Rattle.word.specs.Psw.{current}
use Rattle.word.specs.Width.{width_of}
use Rattle.isa.specs.Decode.{decode_of}
use Rattle.alu.specs.Alu.{alu_of}
use Rattle.alu.specs.Sums.{add_with_carry, overflow_of}
use Rattle.machine.specs.State.{Core, State, core_of}
use Rattle.machine.specs.Memory.{Write, write, commit}
use Rattle.machine.specs.Record.{state_in}
use Rattle.machine.specs.Events.{Event, event_at, events_from, events_of}
use Rattle.machine.specs.Devices.{deliver, deliver_at, fallen}
use Rattle.machine.specs.Entry.{best_from, entered_psw, pushes}
use Rattle.machine.specs.Effect.{effect_of, binary_op}
use Rattle.machine.specs.Step.{planned, plan_of, outcome, interrupt_of, pulls, chains, accepts, advanced, granted, perform}
use Rattle.machine.specs.declared.Act.TheVariants as acts
use Rattle.machine_laws.proofs.Memory.{over}
use Rattle.machine_laws.proofs.Runs.{run-zero}
use Rattle.resume.specs.Frames.{Frame, frame, after, frames}
use Rattle.resume.specs.Example.{zeros, r}
use Rattle.resume.proofs.Trace.{word-is, fetch-plan, interrupt-is, interrupt-plan, vectored-is, pulled-is, known, event-known}
use Rattle.stack_need.specs.Stack.{Handler, handlers, opened}
use Rattle.stack_example.specs.Example.{program, memory, events}
use Rattle.stack_example.proofs.Trace.{Row, next_row}

abbrev pub ev : List Event
ev = events_of events

abbrev pub s : State
s = state_in r memory

-- what the two entries push
abbrev pub first_push : List Write
first_push =
    write 1022 0 ∷ write 1023 1 ∷ write 1020 5 ∷ write 1021 0 ∷ write 1018 0 ∷ write 1019 0 ∷ write 1016 0 ∷ write 1017 0 ∷ []

abbrev second_push : List Write
second_push =
    write 1012 66 ∷ write 1013 1 ∷ write 1010 255 ∷ write 1011 255 ∷ write 1008 65 ∷ write 1009 0 ∷ write 1006 0 ∷ write 1007 0 ∷ []

-- the writes so far
abbrev pub w1 : List Write
w1 = program ++ (write 2 21 ∷ [])

abbrev pub w2 : List Write
w2 = w1 ++ first_push

abbrev pub w3 : List Write
w3 = w2 ++ (write 4 21 ∷ [])

abbrev pub w4 : List Write
w4 = w3 ++ second_push

abbrev pub w5 : List Write
w5 = w4 ++ (write 6 21 ∷ [])

-- the cores
abbrev pub c0 : Core
c0 = core_of (7 ∷ 512 ∷ 2 ∷ 3 ∷ 4 ∷ 5 ∷ 1024 ∷ 256 ∷ []) 0 0

abbrev pub c1 : Core
c1 = core_of (7 ∷ 512 ∷ 2 ∷ 3 ∷ 4 ∷ 65535 ∷ 1016 ∷ 320 ∷ []) 64 0

abbrev pub c2 : Core
c2 = core_of (7 ∷ 512 ∷ 2 ∷ 3 ∷ 4 ∷ 65535 ∷ 1014 ∷ 322 ∷ []) 65 0

abbrev pub c3 : Core
c3 = core_of (7 ∷ 512 ∷ 2 ∷ 3 ∷ 4 ∷ 65535 ∷ 1006 ∷ 352 ∷ []) 16544 0

abbrev pub c4 : Core
c4 = core_of (7 ∷ 512 ∷ 2 ∷ 3 ∷ 4 ∷ 65535 ∷ 1006 ∷ 65535 ∷ []) 16544 0

abbrev pub c5 : Core
c5 = core_of (7 ∷ 512 ∷ 2 ∷ 3 ∷ 4 ∷ 65535 ∷ 1006 ∷ 384 ∷ []) 16544 0

abbrev pub c6 : Core
c6 = core_of (7 ∷ 512 ∷ 2 ∷ 3 ∷ 4 ∷ 65535 ∷ 1004 ∷ 386 ∷ []) 16545 0

abbrev pub c7 : Core
c7 = core_of (7 ∷ 512 ∷ 2 ∷ 3 ∷ 4 ∷ 65535 ∷ 1006 ∷ 388 ∷ []) 16544 0

abbrev pub c8 : Core
c8 = core_of (7 ∷ 512 ∷ 2 ∷ 3 ∷ 4 ∷ 65535 ∷ 1006 ∷ 65535 ∷ []) 16544 0

abbrev pub c10 : Core
c10 = core_of (7 ∷ 512 ∷ 2 ∷ 3 ∷ 4 ∷ 65535 ∷ 1016 ∷ 324 ∷ []) 64 0

abbrev pub c11 : Core
c11 = core_of (7 ∷ 512 ∷ 2 ∷ 3 ∷ 4 ∷ 65535 ∷ 1016 ∷ 65535 ∷ []) 64 0

-- the frames and the handlers
abbrev pub outer_frame : Frame
outer_frame = frame (known c1 0 2 w2) false

abbrev pub inner_frame : Frame
inner_frame = frame (known c3 0 4 w4) false

abbrev pub h1 : Handler
h1 = record { vector = 1; left = 1016 }

abbrev pub h2 : Handler
h2 = record { vector = 2; left = 1006 }

abbrev pub h3 : Handler
h3 = record { vector = 3; left = 1006 }

start_is : after ev s 0 ≡ known c0 0 1 program
unfolding state_in
start_is = ap (λ x. x.state) (run-zero ev s)

pub row0 : Row ev s 0 (known c0 0 1 program) (known c0 0x10 1 w1) c0 (acts.Accept 1) [] [] 1024
unfolding frames handlers opened state_in deliver_at events_from event_at best_from interrupt_of over
row0 =
    record {
      state_is = start_is;
      due-is = ap (deliver ev) start_is
          ∙ event-known (record { step = 1; device = 1; byte = 0 }) c0 0 1 program 17 (lit< tt) refl refl;
      plan-is = interrupt-plan (known c0 0x10 1 w1) (accepts 1) refl
          (interrupt-is c0 0x10 1 2 (commit w1 zeros) refl (ap current (word-is w1 65476 (lit< tt))));
      frames-are = refl;
      handlers-are = refl;
      opened-is = refl;
    }

-- SUB $2,SP in the first handler
take-first : plan_of (known c1 0 2 w2) ≡ planned c2 acts.Plain
unfolding best_from interrupt_of over effect_of advanced decode_of granted alu_of add_with_carry overflow_of width_of binary_op
take-first = fetch-plan (known c1 0 2 w2) 0x4296 refl refl refl refl refl (word-is w2 320 (lit< tt))

pub row1 : Row ev s 1 (known c1 0 2 w2) (known c1 0 2 w2) c2 acts.Plain (outer_frame ∷ []) (h1 ∷ []) 1024
unfolding perform deliver_at events_from event_at best_from interrupt_of over entered_psw pushes
row1 =
    next_row ev s w1 row0 refl (outcome c1 0 first_push)
    (ap (λ x. outcome x (fallen 0x10 1) (pushes c0))
    (vectored-is c0 (commit w1 zeros) 1 0 false 1016 64 320 (word-is w1 65476 (lit< tt)) (word-is w1 65478 (lit< tt))))
    refl (known c1 0 2 w2) c2 acts.Plain
    refl
    take-first

pub row2 : Row ev s 2 (known c2 0 3 w2) (known c2 0x100 3 w3) c2 (acts.Accept 2) (outer_frame ∷ []) (h1 ∷ []) 1024
unfolding perform deliver_at events_from event_at best_from interrupt_of over
row2 =
    next_row ev s w2 row1 refl (outcome c2 0 [])
    refl
    refl (known c2 0x100 3 w3) c2 (acts.Accept 2)
    (event-known (record { step = 3; device = 2; byte = 0 }) c2 0 3 w2 17 (lit< tt) refl refl)
    (interrupt-plan (known c2 0x100 3 w3) (accepts 2) refl
    (interrupt-is c2 0x100 2 5 (commit w3 zeros) refl (ap current (word-is w3 65480 (lit< tt)))))

pub row3 : Row ev s 3 (known c3 0 4 w4) (known c3 0 4 w4) c4 acts.Plain (inner_frame ∷ outer_frame ∷ []) (h2 ∷ h1 ∷ []) 1024
unfolding perform deliver_at events_from event_at best_from interrupt_of over effect_of advanced decode_of granted width_of entered_psw
    pushes
row3 =
    next_row ev s w3 row2 refl (outcome c3 0 second_push)
    (ap (λ x. outcome x (fallen 0x100 2) (pushes c2))
    (vectored-is c2 (commit w3 zeros) 2 2 false 1006 160 352 (word-is w3 65480 (lit< tt)) (word-is w3 65482 (lit< tt))))
    refl (known c3 0 4 w4) c4 acts.Plain
    refl
    (fetch-plan (known c3 0 4 w4) 0x4C2F refl refl refl refl refl (word-is w4 352 (lit< tt)))

pub row4 : Row ev s 4 (known c4 0 5 w4) (known c4 0x1000 5 w5) c4 (acts.Chain 3) (inner_frame ∷ outer_frame ∷ []) (h2 ∷ h1 ∷ []) 1024
unfolding perform deliver_at events_from event_at best_from interrupt_of over
row4 =
    next_row ev s w4 row3 refl (outcome c4 0 [])
    refl
    refl (known c4 0x1000 5 w5) c4 (acts.Chain 3)
    (event-known (record { step = 5; device = 3; byte = 0 }) c4 0 5 w4 17 (lit< tt) refl refl)
    (interrupt-plan (known c4 0x1000 5 w5) (chains 3) refl
    (interrupt-is c4 0x1000 3 5 (commit w5 zeros) refl (ap current (word-is w5 65484 (lit< tt)))))

-- SUB $2,SP in the third handler
take-third : plan_of (known c5 0 6 w5) ≡ planned c6 acts.Plain
unfolding best_from interrupt_of over effect_of advanced decode_of granted alu_of add_with_carry overflow_of width_of binary_op
take-third = fetch-plan (known c5 0 6 w5) 0x4296 refl refl refl refl refl (word-is w5 384 (lit< tt))

pub row5 : Row ev s 5 (known c5 0 6 w5) (known c5 0 6 w5) c6 acts.Plain (inner_frame ∷ outer_frame ∷ []) (h3 ∷ h1 ∷ []) 1024
unfolding perform deliver_at events_from event_at best_from interrupt_of over entered_psw
row5 =
    next_row ev s w5 row4 refl (outcome c5 0 [])
    (ap (λ x. outcome x (fallen 0x1000 3) [])
    (vectored-is c4 (commit w5 zeros) 3 2 false 1006 160 384 (word-is w5 65484 (lit< tt)) (word-is w5 65486 (lit< tt))))
    refl (known c5 0 6 w5) c6 acts.Plain
    refl
    take-third

-- ADD $2,SP in the third handler
give-third : plan_of (known c6 0 7 w5) ≡ planned c7 acts.Plain
unfolding best_from interrupt_of over effect_of advanced decode_of granted alu_of add_with_carry overflow_of width_of binary_op
give-third = fetch-plan (known c6 0 7 w5) 0x4096 refl refl refl refl refl (word-is w5 386 (lit< tt))

pub row6 : Row ev s 6 (known c6 0 7 w5) (known c6 0 7 w5) c7 acts.Plain (inner_frame ∷ outer_frame ∷ []) (h3 ∷ h1 ∷ []) 1024
unfolding perform deliver_at events_from event_at best_from interrupt_of over
row6 =
    next_row ev s w5 row5 refl (outcome c6 0 [])
    refl
    refl (known c6 0 7 w5) c7 acts.Plain
    refl
    give-third

pub row7 : Row ev s 7 (known c7 0 8 w5) (known c7 0 8 w5) c8 acts.Plain (inner_frame ∷ outer_frame ∷ []) (h3 ∷ h1 ∷ []) 1024
unfolding perform deliver_at events_from event_at best_from interrupt_of over effect_of advanced decode_of granted width_of
row7 =
    next_row ev s w5 row6 refl (outcome c7 0 [])
    refl
    refl (known c7 0 8 w5) c8 acts.Plain
    refl
    (fetch-plan (known c7 0 8 w5) 0x4C2F refl refl refl refl refl (word-is w5 388 (lit< tt)))

pub row8 : Row ev s 8 (known c8 0 9 w5) (known c8 0 9 w5) c8 acts.Pull (inner_frame ∷ outer_frame ∷ []) (h3 ∷ h1 ∷ []) 1024
unfolding perform deliver_at events_from event_at best_from interrupt_of over
row8 =
    next_row ev s w5 row7 refl (outcome c8 0 [])
    refl
    refl (known c8 0 9 w5) c8 acts.Pull
    refl
    (interrupt-plan (known c8 0 9 w5) pulls refl refl)

-- ADD $2,SP in the first handler
give-first : plan_of (known c2 0 10 w5) ≡ planned c10 acts.Plain
unfolding best_from interrupt_of over effect_of advanced decode_of granted alu_of add_with_carry overflow_of width_of binary_op
give-first = fetch-plan (known c2 0 10 w5) 0x4096 refl refl refl refl refl (word-is w5 322 (lit< tt))

pub row9 : Row ev s 9 (known c2 0 10 w5) (known c2 0 10 w5) c10 acts.Plain (outer_frame ∷ []) (h1 ∷ []) 1024
unfolding perform deliver_at events_from event_at best_from interrupt_of over
row9 =
    next_row ev s w5 row8 refl (outcome c2 0 [])
    (ap (λ x. outcome x 0 []) (pulled-is c8 (commit w5 zeros) 0 65 65535 322 (word-is w5 1006 (lit< tt)) (word-is w5 1008 (lit< tt))
    (word-is w5 1010 (lit< tt)) (word-is w5 1012 (lit< tt))))
    refl (known c2 0 10 w5) c10 acts.Plain
    refl
    give-first

pub row10 : Row ev s 10 (known c10 0 11 w5) (known c10 0 11 w5) c11 acts.Plain (outer_frame ∷ []) (h1 ∷ []) 1024
unfolding perform deliver_at events_from event_at best_from interrupt_of over effect_of advanced decode_of granted width_of
row10 =
    next_row ev s w5 row9 refl (outcome c10 0 [])
    refl
    refl (known c10 0 11 w5) c11 acts.Plain
    refl
    (fetch-plan (known c10 0 11 w5) 0x4C2F refl refl refl refl refl (word-is w5 324 (lit< tt)))

pub row11 : Row ev s 11 (known c11 0 12 w5) (known c11 0 12 w5) c11 acts.Pull (outer_frame ∷ []) (h1 ∷ []) 1024
unfolding perform deliver_at events_from event_at best_from interrupt_of over
row11 =
    next_row ev s w5 row10 refl (outcome c11 0 [])
    refl
    refl (known c11 0 12 w5) c11 acts.Pull
    refl
    (interrupt-plan (known c11 0 12 w5) pulls refl refl)

-- what the last step leaves
pub last-leaves : perform acts.Pull c11 0 (commit w5 zeros) ≡ outcome c0 0 []
unfolding perform over
last-leaves =
    ap (λ x. outcome x 0 [])
    (pulled-is c11 (commit w5 zeros) 0 0 5 256 (word-is w5 1016 (lit< tt)) (word-is w5 1018 (lit< tt))
    (word-is w5 1020 (lit< tt)) (word-is w5 1022 (lit< tt)))

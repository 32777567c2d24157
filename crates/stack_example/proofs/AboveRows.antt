-- The rows of the run whose handler holds SP above where entry left it. Each equation is computed by the checker from the
-- bytes that the step reads. Assumes nothing.
use mathlib.Core.Bool.{false}
use mathlib.Core.List.{List, [], ◌∷◌, ◌++◌}
use mathlib.Core.Path.{◌≡◌, refl, ap, ◌∙◌}
use lib.Dec.{lit<}
use Rattle.word.specs.Psw.{current}
use Rattle.word.specs.Width.{width_of}
use Rattle.isa.specs.Decode.{decode_of}
use Rattle.alu.specs.Alu.{alu_of}
use Rattle.alu.specs.Sums.{add_with_carry, overflow_of}
use Rattle.machine.specs.State.{Core, State, core_of}
use Rattle.machine.specs.Memory.{Write, write, commit}
use Rattle.machine.specs.Record.{state_in}
use Rattle.machine.specs.Events.{Event, event_at, events_from, events_of}
use Rattle.machine.specs.Devices.{deliver, deliver_at, fallen}
use Rattle.machine.specs.Entry.{best_from, entered_psw, pushes}
use Rattle.machine.specs.Effect.{effect_of, binary_op, loaded}
use Rattle.machine.specs.Step.{planned, plan_of, outcome, interrupt_of, pulls, accepts, advanced, granted, perform}
use Rattle.machine.specs.declared.Act.TheVariants as acts
use Rattle.machine_laws.proofs.Memory.{over}
use Rattle.machine_laws.proofs.Runs.{run-zero}
use Rattle.resume.specs.Frames.{Frame, frame, after, frames}
use Rattle.resume.specs.Example.{zeros, r}
use Rattle.resume.proofs.Trace.{word-is, fetch-plan, interrupt-is, interrupt-plan, vectored-is, pulled-is, known, event-known}
use Rattle.stack_need.specs.Stack.{handlers, opened}
use Rattle.stack_example.specs.Above.{program, memory, events}
use Rattle.stack_example.proofs.Trace.{Row, next_row}
use Rattle.stack_example.proofs.Rows.{first_push, c0, c1, h1}

abbrev pub ev : List Event
ev = events_of events

abbrev pub s : State
s = state_in r memory

-- the writes so far
abbrev pub w1 : List Write
w1 = program ++ (write 2 21 ∷ [])

abbrev pub w2 : List Write
w2 = w1 ++ first_push

-- the cores: SP beside the load, SP above, SP put back, the return
abbrev pub c1' : Core
c1' = core_of (7 ∷ 512 ∷ 2 ∷ 3 ∷ 4 ∷ 65535 ∷ 1018 ∷ 322 ∷ []) 64 0

abbrev pub c2 : Core
c2 = core_of (0 ∷ 512 ∷ 2 ∷ 3 ∷ 4 ∷ 65535 ∷ 1018 ∷ 322 ∷ []) 64 0

abbrev pub c3 : Core
c3 = core_of (0 ∷ 512 ∷ 2 ∷ 3 ∷ 4 ∷ 65535 ∷ 1016 ∷ 324 ∷ []) 65 0

abbrev pub c4 : Core
c4 = core_of (0 ∷ 512 ∷ 2 ∷ 3 ∷ 4 ∷ 65535 ∷ 1016 ∷ 65535 ∷ []) 65 0

abbrev pub c5 : Core
c5 = core_of (0 ∷ 512 ∷ 2 ∷ 3 ∷ 4 ∷ 5 ∷ 1024 ∷ 256 ∷ []) 0 0

abbrev pub entry_frame : Frame
entry_frame = frame (known c1 0 2 w2) false

start_is : after ev s 0 ≡ known c0 0 1 program
unfolding state_in
start_is = ap (λ x. x.state) (run-zero ev s)

pub row0 : Row ev s 0 (known c0 0 1 program) (known c0 0x10 1 w1) c0 (acts.Accept 1) [] [] 1024
unfolding frames handlers opened state_in deliver_at events_from event_at best_from interrupt_of over
row0 =
    record {
      state_is = start_is;
      due-is = ap (deliver ev) start_is
          ∙ event-known (record { step = 1; device = 1; byte = 0 }) c0 0 1 program 17 (lit< tt) refl refl;
      plan-is = interrupt-plan (known c0 0x10 1 w1) (accepts 1) refl
          (interrupt-is c0 0x10 1 2 (commit w1 zeros) refl (ap current (word-is w1 65476 (lit< tt))));
      frames-are = refl;
      handlers-are = refl;
      opened-is = refl;
    }

-- LD SP+,R0: the first word of the frame, CEX
pub row1 : Row ev s 1 (known c1 0 2 w2) (known c1 0 2 w2) c1' (acts.Loads false (record { 0 = 1016 }) 0) (entry_frame ∷ []) (h1 ∷ []) 1024
unfolding perform deliver_at events_from event_at best_from interrupt_of over effect_of advanced decode_of granted entered_psw pushes
row1 =
    next_row ev s w1 row0 refl (outcome c1 0 first_push)
    (ap (λ x. outcome x (fallen 0x10 1) (pushes c0))
    (vectored-is c0 (commit w1 zeros) 1 0 false 1016 64 320 (word-is w1 65476 (lit< tt)) (word-is w1 65478 (lit< tt))))
    refl (known c1 0 2 w2) c1' (acts.Loads false (record { 0 = 1016 }) 0)
    refl
    (fetch-plan (known c1 0 2 w2) 0x58B0 refl refl refl refl refl (word-is w2 320 (lit< tt)))

-- SUB #2,SP
give-back : plan_of (known c2 0 3 w2) ≡ planned c3 acts.Plain
unfolding best_from interrupt_of over effect_of advanced decode_of granted alu_of add_with_carry overflow_of width_of binary_op
give-back = fetch-plan (known c2 0 3 w2) 0x4296 refl refl refl refl refl (word-is w2 322 (lit< tt))

pub row2 : Row ev s 2 (known c2 0 3 w2) (known c2 0 3 w2) c3 acts.Plain (entry_frame ∷ []) (h1 ∷ []) 1024
unfolding perform deliver_at events_from event_at best_from interrupt_of over
row2 =
    next_row ev s w2 row1 refl (outcome c2 0 [])
    (ap (λ v. outcome (loaded c1' false 0 v) 0 []) (word-is w2 1016 (lit< tt)))
    refl (known c2 0 3 w2) c3 acts.Plain
    refl
    give-back

pub row3 : Row ev s 3 (known c3 0 4 w2) (known c3 0 4 w2) c4 acts.Plain (entry_frame ∷ []) (h1 ∷ []) 1024
unfolding perform deliver_at events_from event_at best_from interrupt_of over effect_of advanced decode_of granted width_of
row3 =
    next_row ev s w2 row2 refl (outcome c3 0 [])
    refl
    refl (known c3 0 4 w2) c4 acts.Plain
    refl
    (fetch-plan (known c3 0 4 w2) 0x4C2F refl refl refl refl refl (word-is w2 324 (lit< tt)))

pub row4 : Row ev s 4 (known c4 0 5 w2) (known c4 0 5 w2) c4 acts.Pull (entry_frame ∷ []) (h1 ∷ []) 1024
unfolding perform deliver_at events_from event_at best_from interrupt_of over
row4 =
    next_row ev s w2 row3 refl (outcome c4 0 [])
    refl
    refl (known c4 0 5 w2) c4 acts.Pull
    refl
    (interrupt-plan (known c4 0 5 w2) pulls refl refl)

-- what the last step leaves
pub last-leaves : perform acts.Pull c4 0 (commit w2 zeros) ≡ outcome c5 0 []
unfolding perform over
last-leaves =
    ap (λ x. outcome x 0 [])
    (pulled-is c4 (commit w2 zeros) 0 0 5 256 (word-is w2 1016 (lit< tt)) (word-is w2 1018 (lit< tt))
    (word-is w2 1020 (lit< tt)) (word-is w2 1022 (lit< tt)))

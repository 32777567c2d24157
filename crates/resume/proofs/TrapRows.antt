-- The rows of the run with traps, one for each step: state, act, open frames, the application's steps and the bytes last
-- written by a handler or an entry. Each equation is computed by the checker from the bytes that the step reads.
-- Assumes nothing.
use Prim.Native.Nat.{ℕ, ◌+◌, ◌*◌}
use mathlib.Core.Bool.{Bool, true, false, cond, not}
use mathlib.Core.List.{List, [], ◌∷◌, ◌++◌}
use mathlib.Core.Path.{◌≡◌, refl, ap, ◌∙◌}
use lib.Dec.{ltb, lit<}
use Rattle.word.specs.Psw.{current}
use Rattle.word.specs.Width.{width_of}
use Rattle.isa.specs.Decode.{decode_of}
use Rattle.machine.specs.State.{Core, State, core_of}
use Rattle.machine.specs.Memory.{Write, write, commit, writes?}
use Rattle.machine.specs.Record.{state_in}
use Rattle.machine.specs.Events.{Event, event_at, events_from, events_of}
use Rattle.machine.specs.Devices.{deliver, deliver_at, fallen}
use Rattle.machine.specs.Entry.{best_from, entered_psw, pushes}
use Rattle.machine.specs.Effect.{effect_of, loaded}
use Rattle.machine.specs.Step.{planned, plan_of, outcome, interrupt_of, pulls, chains, accepts, advanced, faulting, granted, perform}
use Rattle.machine.specs.declared.Act.TheVariants as acts
use Rattle.machine_laws.proofs.Memory.{over}
use Rattle.machine_laws.proofs.Runs.{run-zero}
use Rattle.resume.specs.Frames.{Frame, frame, own_writes?, after, frames, application_steps, foreign?}
use Rattle.resume.specs.Example.{zeros}
use Rattle.resume.specs.TrapExample.{program, memory, r, events}
use Rattle.resume.proofs.Trace.{word-is, fetch-plan, interrupt-is, interrupt-plan, vectored-is, pulled-is, known, event-known}
use Rattle.resume.proofs.Trace.{Row, next_row}

abbrev pub ev : List Event
ev = events_of events

abbrev pub s : State
s = state_in r memory

-- what the two traps and the entry of device 1 push
abbrev pub trap_push : List Write
trap_push =
    write 1022 2 ∷ write 1023 1 ∷ write 1020 5 ∷ write 1021 0 ∷ write 1018 0 ∷ write 1019 0 ∷ write 1016 0 ∷ write 1017 0 ∷ []

abbrev pub nested_push : List Write
nested_push =
    write 1014 68 ∷ write 1015 1 ∷ write 1012 255 ∷ write 1013 255 ∷ write 1010 32 ∷ write 1011 0 ∷ write 1008 0 ∷ write 1009 0 ∷ []

abbrev pub entry_push : List Write
entry_push =
    write 1006 80 ∷ write 1007 1 ∷ write 1004 255 ∷ write 1005 255 ∷ write 1002 64 ∷ write 1003 32 ∷ write 1000 0 ∷ write 1001 0 ∷ []

abbrev pub word : List Write
word = write 512 7 ∷ write 513 0 ∷ []

-- the writes so far, before each step, its due events applied
abbrev pub trapped : List Write
trapped = program ++ trap_push

abbrev pub stored : List Write
stored = trapped ++ word

abbrev pub nested : List Write
nested = stored ++ nested_push

abbrev pub risen : List Write
risen = nested ++ (write 3 9 ∷ write 2 23 ∷ [])

abbrev pub entered : List Write
entered = risen ++ entry_push

abbrev pub waiting : List Write
waiting = entered ++ (write 4 21 ∷ [])

-- the cores before and after each step
abbrev pub c0 : Core
c0 = core_of (7 ∷ 512 ∷ 2 ∷ 3 ∷ 4 ∷ 5 ∷ 1024 ∷ 256 ∷ []) 0 0

abbrev pub c0' : Core
c0' = core_of (7 ∷ 512 ∷ 2 ∷ 3 ∷ 4 ∷ 5 ∷ 1024 ∷ 258 ∷ []) 0 0

abbrev pub c1 : Core
c1 = core_of (7 ∷ 512 ∷ 2 ∷ 3 ∷ 4 ∷ 65535 ∷ 1016 ∷ 320 ∷ []) 32 0

abbrev pub c2 : Core
c2 = core_of (7 ∷ 512 ∷ 2 ∷ 3 ∷ 4 ∷ 65535 ∷ 1016 ∷ 322 ∷ []) 32 0

abbrev pub c2' : Core
c2' = core_of (7 ∷ 512 ∷ 2 ∷ 3 ∷ 4 ∷ 65535 ∷ 1016 ∷ 324 ∷ []) 32 0

abbrev pub c3 : Core
c3 = core_of (7 ∷ 512 ∷ 2 ∷ 3 ∷ 4 ∷ 65535 ∷ 1008 ∷ 336 ∷ []) 8256 0

abbrev pub c4 : Core
c4 = core_of (7 ∷ 512 ∷ 2 ∷ 3 ∷ 4 ∷ 65535 ∷ 1000 ∷ 352 ∷ []) 16480 0

abbrev pub c5 : Core
c5 = core_of (7 ∷ 512 ∷ 2 ∷ 3 ∷ 4 ∷ 65535 ∷ 1000 ∷ 65535 ∷ []) 16480 0

abbrev pub c6 : Core
c6 = core_of (7 ∷ 512 ∷ 2 ∷ 3 ∷ 4 ∷ 65535 ∷ 1008 ∷ 338 ∷ []) 8256 0

abbrev pub c7 : Core
c7 = core_of (7 ∷ 512 ∷ 7 ∷ 3 ∷ 4 ∷ 65535 ∷ 1008 ∷ 338 ∷ []) 8256 0

abbrev pub c8 : Core
c8 = core_of (7 ∷ 512 ∷ 7 ∷ 3 ∷ 4 ∷ 65535 ∷ 1008 ∷ 65535 ∷ []) 8256 0

abbrev pub c9 : Core
c9 = core_of (7 ∷ 512 ∷ 7 ∷ 3 ∷ 4 ∷ 65535 ∷ 1008 ∷ 384 ∷ []) 8352 0

abbrev pub c10 : Core
c10 = core_of (7 ∷ 512 ∷ 7 ∷ 3 ∷ 4 ∷ 65535 ∷ 1008 ∷ 65535 ∷ []) 8352 0

abbrev pub c11 : Core
c11 = core_of (7 ∷ 512 ∷ 7 ∷ 3 ∷ 4 ∷ 65535 ∷ 1016 ∷ 324 ∷ []) 32 0

abbrev pub c12 : Core
c12 = core_of (7 ∷ 512 ∷ 7 ∷ 3 ∷ 4 ∷ 65535 ∷ 1016 ∷ 65535 ∷ []) 32 0

abbrev pub c13 : Core
c13 = core_of (7 ∷ 512 ∷ 7 ∷ 3 ∷ 4 ∷ 5 ∷ 1024 ∷ 258 ∷ []) 0 0

abbrev pub c14 : Core
c14 = core_of (7 ∷ 512 ∷ 7 ∷ 3 ∷ 4 ∷ 5 ∷ 1024 ∷ 260 ∷ []) 0 0

abbrev pub c15 : Core
c15 = core_of (7 ∷ 512 ∷ 7 ∷ 7 ∷ 4 ∷ 5 ∷ 1024 ∷ 260 ∷ []) 0 0

-- the frames: those of the two traps, that of device 1, and that of the inner trap once device 2 is chained onto it
abbrev pub trap_frame : Frame
trap_frame = frame (known c1 0 2 trapped) true

abbrev pub nested_frame : Frame
nested_frame = frame (known c3 0 4 nested) true

abbrev pub entry_frame : Frame
entry_frame = frame (known c4 0 5 entered) false

abbrev pub chained_frame : Frame
chained_frame = frame (known c9 0 10 waiting) false

abbrev pub both : List Frame
both = nested_frame ∷ trap_frame ∷ []

-- the bytes last written by a handler or an entry: nothing that the outer handler stored, and of what the traps pushed
-- what `own_writes?` says (nothing: it is the application's); then what the entry of device 1 pushed
abbrev pub g1 : ℕ → Bool
g1 x = cond (writes? trap_push x) (not (own_writes? (acts.Trap 10) [])) false

abbrev pub g2 : ℕ → Bool
g2 x = cond (writes? word x) false (g1 x)

abbrev pub g3 : ℕ → Bool
g3 x = cond (writes? nested_push x) (not (own_writes? (acts.Trap 11) (trap_frame ∷ []))) (g2 x)

abbrev pub g4 : ℕ → Bool
g4 x = cond (writes? entry_push x) true (g3 x)

-- SVC, its priority read from the vector: of the application, and of the outer handler
pub trap-plan : (ws : List Write) → over ws 256 0 + 256 * over ws 257 0 ≡ 0x4DAA → over ws 65512 0 + 256 * over ws 65513 0 ≡ 0x20
    → plan_of (known c0 0 1 ws) ≡ planned c0' (acts.Trap 10)
unfolding best_from interrupt_of effect_of advanced decode_of granted
trap-plan ws h v =
    fetch-plan (known c0 0 1 ws) 0x4DAA refl refl refl refl refl (word-is ws 256 (lit< tt) ∙ h)
    ∙ ap (λ p. cond (ltb 0 (current p)) (planned c0' (acts.Trap 10)) (faulting c0 (advanced c0) 10)) (word-is ws 65512 (lit< tt) ∙ v)

pub nested-plan : (ws : List Write) → over ws 322 0 + 256 * over ws 323 0 ≡ 0x4DAB → over ws 65516 0 + 256 * over ws 65517 0 ≡ 0x40
    → plan_of (known c2 0 3 ws) ≡ planned c2' (acts.Trap 11)
unfolding best_from interrupt_of effect_of advanced decode_of granted
nested-plan ws h v =
    fetch-plan (known c2 0 3 ws) 0x4DAB refl refl refl refl refl (word-is ws 322 (lit< tt) ∙ h)
    ∙ ap (λ p. cond (ltb 1 (current p)) (planned c2' (acts.Trap 11)) (faulting c2 (advanced c2) 10)) (word-is ws 65516 (lit< tt) ∙ v)

-- the word that the outer handler stored, loaded
pub loaded-is : (ws : List Write) (c : Core) (d : ℕ) → over ws 512 0 + 256 * over ws 513 0 ≡ 7
    → perform (acts.Loads false (record { 0 = 512 }) d) c 0 (commit ws zeros) ≡ outcome (loaded c false d 7) 0 []
unfolding perform
loaded-is ws c d h = ap (λ v. outcome (loaded c false d v) 0 []) (word-is ws 512 (lit< tt) ∙ h)

start_is : after ev s 0 ≡ known c0 0 1 program
unfolding state_in
start_is = ap (λ x. x.state) (run-zero ev s)

pub row0 : Row ev s 0 (known c0 0 1 program) (known c0 0 1 program) c0' (acts.Trap 10) [] 0 (λ x. false)
unfolding frames application_steps foreign? deliver_at events_from event_at over
row0 =
    record {
      state_is = start_is;
      due-is = ap (deliver ev) start_is;
      plan-is = trap-plan program refl refl;
      frames-are = refl;
      steps-are = refl;
      foreign-is = λ x. refl;
    }

pub row1 : Row ev s 1 (known c1 0 2 trapped) (known c1 0 2 trapped) c2 (acts.Stores false (record { 0 = 512 }) 7) (trap_frame ∷ []) 1 g1
unfolding perform writes? deliver_at events_from event_at best_from interrupt_of over effect_of advanced decode_of granted entered_psw
    pushes
row1 =
    next_row ev s program row0 refl (outcome c1 0 trap_push)
    (ap (λ x. outcome x 0 (pushes c0'))
    (vectored-is c0' (commit program zeros) 10 0 false 1016 32 320 (word-is program 65512 (lit< tt)) (word-is program 65514 (lit< tt))))
    refl (known c1 0 2 trapped) c2 (acts.Stores false (record { 0 = 512 }) 7)
    refl
    (fetch-plan (known c1 0 2 trapped) 0x5C01 refl refl refl refl refl (word-is trapped 320 (lit< tt)))

pub row2 : Row ev s 2 (known c2 0 3 stored) (known c2 0 3 stored) c2' (acts.Trap 11) (trap_frame ∷ []) 2 g2
unfolding perform writes? deliver_at events_from event_at best_from interrupt_of over
row2 =
    next_row ev s trapped row1 refl (outcome c2 0 word)
    refl
    refl (known c2 0 3 stored) c2' (acts.Trap 11)
    refl
    (nested-plan stored refl refl)

pub row3 : Row ev s 3 (known c3 0 4 nested) (known c3 0x10 4 risen) c3 (acts.Accept 1) both 3 g3
unfolding perform writes? deliver_at events_from event_at best_from interrupt_of over entered_psw pushes
row3 =
    next_row ev s stored row2 refl (outcome c3 0 nested_push)
    (ap (λ x. outcome x 0 (pushes c2'))
    (vectored-is c2' (commit stored zeros) 11 1 false 1008 64 336 (word-is stored 65516 (lit< tt)) (word-is stored 65518 (lit< tt))))
    refl (known c3 0x10 4 risen) c3 (acts.Accept 1)
    (event-known (record { step = 4; device = 1; byte = 9 }) c3 0 4 nested 19 (lit< tt) refl refl)
    (interrupt-plan (known c3 0x10 4 risen) (accepts 1) refl
    (interrupt-is c3 0x10 1 3 (commit risen zeros) refl (ap current (word-is risen 65476 (lit< tt)))))

pub row4 : Row ev s 4 (known c4 0 5 entered) (known c4 0 5 entered) c5 acts.Plain (entry_frame ∷ both) 3 g4
unfolding perform deliver_at events_from event_at best_from interrupt_of over effect_of advanced decode_of granted entered_psw pushes
    width_of
row4 =
    next_row ev s risen row3 refl (outcome c4 0 entry_push)
    (ap (λ x. outcome x (fallen 0x10 1) (pushes c3))
    (vectored-is c3 (commit risen zeros) 1 2 false 1000 96 352 (word-is risen 65476 (lit< tt)) (word-is risen 65478 (lit< tt))))
    refl (known c4 0 5 entered) c5 acts.Plain
    refl
    (fetch-plan (known c4 0 5 entered) 0x4C2F refl refl refl refl refl (word-is entered 352 (lit< tt)))

pub row5 : Row ev s 5 (known c5 0 6 entered) (known c5 0 6 entered) c5 acts.Pull (entry_frame ∷ both) 3 g4
unfolding perform writes? deliver_at events_from event_at best_from interrupt_of over
row5 =
    next_row ev s entered row4 refl (outcome c5 0 [])
    refl
    refl (known c5 0 6 entered) c5 acts.Pull
    refl
    (interrupt-plan (known c5 0 6 entered) pulls refl refl)

pub row6 : Row ev s 6 (known c3 0 7 entered) (known c3 0 7 entered) c6 (acts.Loads false (record { 0 = 512 }) 2) both 3 g4
unfolding perform writes? deliver_at events_from event_at best_from interrupt_of over effect_of advanced decode_of granted
row6 =
    next_row ev s entered row5 refl (outcome c3 0 [])
    (ap (λ x. outcome x 0 [])
    (pulled-is c5 (commit entered zeros) 0 8256 65535 336 (word-is entered 1000 (lit< tt)) (word-is entered 1002 (lit< tt))
    (word-is entered 1004 (lit< tt)) (word-is entered 1006 (lit< tt))))
    refl (known c3 0 7 entered) c6 (acts.Loads false (record { 0 = 512 }) 2)
    refl
    (fetch-plan (known c3 0 7 entered) 0x580A refl refl refl refl refl (word-is entered 336 (lit< tt)))

pub row7 : Row ev s 7 (known c7 0 8 entered) (known c7 0 8 entered) c8 acts.Plain both 4 g4
unfolding perform writes? deliver_at events_from event_at best_from interrupt_of over effect_of advanced decode_of granted width_of
row7 =
    next_row ev s entered row6 refl (outcome c7 0 [])
    (loaded-is entered c6 2 refl)
    refl (known c7 0 8 entered) c8 acts.Plain
    refl
    (fetch-plan (known c7 0 8 entered) 0x4C2F refl refl refl refl refl (word-is entered 338 (lit< tt)))

pub row8 : Row ev s 8 (known c8 0 9 entered) (known c8 0x100 9 waiting) c8 (acts.Chain 2) both 5 g4
unfolding perform writes? deliver_at events_from event_at best_from interrupt_of over
row8 =
    next_row ev s entered row7 refl (outcome c8 0 [])
    refl
    refl (known c8 0x100 9 waiting) c8 (acts.Chain 2)
    (event-known (record { step = 9; device = 2; byte = 0 }) c8 0 9 entered 17 (lit< tt) refl refl)
    (interrupt-plan (known c8 0x100 9 waiting) (chains 2) refl
    (interrupt-is c8 0x100 2 5 (commit waiting zeros) refl (ap current (word-is waiting 65480 (lit< tt)))))

pub row9 : Row ev s 9 (known c9 0 10 waiting) (known c9 0 10 waiting) c10 acts.Plain (chained_frame ∷ trap_frame ∷ []) 6 g4
unfolding perform writes? deliver_at events_from event_at best_from interrupt_of over effect_of advanced decode_of granted entered_psw
    width_of
row9 =
    next_row ev s waiting row8 refl (outcome c9 0 [])
    (ap (λ x. outcome x (fallen 0x100 2) [])
    (vectored-is c8 (commit waiting zeros) 2 1 false 1008 160 384 (word-is waiting 65480 (lit< tt)) (word-is waiting 65482 (lit< tt))))
    refl (known c9 0 10 waiting) c10 acts.Plain
    refl
    (fetch-plan (known c9 0 10 waiting) 0x4C2F refl refl refl refl refl (word-is waiting 384 (lit< tt)))

pub row10 : Row ev s 10 (known c10 0 11 waiting) (known c10 0 11 waiting) c10 acts.Pull (chained_frame ∷ trap_frame ∷ []) 6 g4
unfolding perform writes? deliver_at events_from event_at best_from interrupt_of over
row10 =
    next_row ev s waiting row9 refl (outcome c10 0 [])
    refl
    refl (known c10 0 11 waiting) c10 acts.Pull
    refl
    (interrupt-plan (known c10 0 11 waiting) pulls refl refl)

pub row11 : Row ev s 11 (known c11 0 12 waiting) (known c11 0 12 waiting) c12 acts.Plain (trap_frame ∷ []) 6 g4
unfolding perform writes? deliver_at events_from event_at best_from interrupt_of over effect_of advanced decode_of granted width_of
row11 =
    next_row ev s waiting row10 refl (outcome c11 0 [])
    (ap (λ x. outcome x 0 [])
    (pulled-is c10 (commit waiting zeros) 0 32 65535 324 (word-is waiting 1008 (lit< tt)) (word-is waiting 1010 (lit< tt))
    (word-is waiting 1012 (lit< tt)) (word-is waiting 1014 (lit< tt))))
    refl (known c11 0 12 waiting) c12 acts.Plain
    refl
    (fetch-plan (known c11 0 12 waiting) 0x4C2F refl refl refl refl refl (word-is waiting 324 (lit< tt)))

pub row12 : Row ev s 12 (known c12 0 13 waiting) (known c12 0 13 waiting) c12 acts.Pull (trap_frame ∷ []) 7 g4
unfolding perform writes? deliver_at events_from event_at best_from interrupt_of over
row12 =
    next_row ev s waiting row11 refl (outcome c12 0 [])
    refl
    refl (known c12 0 13 waiting) c12 acts.Pull
    refl
    (interrupt-plan (known c12 0 13 waiting) pulls refl refl)

pub row13 : Row ev s 13 (known c13 0 14 waiting) (known c13 0 14 waiting) c14 (acts.Loads false (record { 0 = 512 }) 3) [] 8 g4
unfolding perform writes? deliver_at events_from event_at best_from interrupt_of over effect_of advanced decode_of granted
row13 =
    next_row ev s waiting row12 refl (outcome c13 0 [])
    (ap (λ x. outcome x 0 [])
    (pulled-is c12 (commit waiting zeros) 0 0 5 258 (word-is waiting 1016 (lit< tt)) (word-is waiting 1018 (lit< tt))
    (word-is waiting 1020 (lit< tt)) (word-is waiting 1022 (lit< tt))))
    refl (known c13 0 14 waiting) c14 (acts.Loads false (record { 0 = 512 }) 3)
    refl
    (fetch-plan (known c13 0 14 waiting) 0x580B refl refl refl refl refl (word-is waiting 258 (lit< tt)))

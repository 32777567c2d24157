-- The log of 02 §1 on stores and runs that antt computes, over memories of a few bytes: a byte past the end of the list
-- reads as zero. Assumes nothing.
use Prim.Native.Nat.{ℕ}
use mathlib.Core.Bool.{true, false}
use mathlib.Core.List.{List, [], ◌∷◌}
use mathlib.Core.Path.{◌≡◌, refl}
use lib.ListN.{length}
use lib.Seq.{sets}
use Rattle.isa.specs.Decode.{decode_of}
use Rattle.machine.specs.declared.Act.TheVariants as acts
use Rattle.machine.specs.State.{State, core_of}
use Rattle.machine.specs.Memory.{byte_at, commit}
use Rattle.machine.specs.Events.{Event}
use Rattle.machine.specs.Devices.{deliver_at, event_on}
use Rattle.machine.specs.Entry.{best_from}
use Rattle.machine.specs.Effect.{byte_addr, effect_of}
use Rattle.machine.specs.Step.{advanced, granted, interrupt_of, instruction_of, plan_of, perform, step_of}
use Rattle.machine.specs.Log.{shown, shown_on, logged_of, logged_next, log_bytes}
use Rattle.machine.specs.Logged.{Logged, run_logged}

-- ---- one store: device 0 with the status byte t, step count 7

abbrev at : ℕ → State
at t = record { core = core_of [] 0 0; lines = 0; halted = false; count = 7; mem = t ∷ 0 ∷ [] }

-- the low byte of the value, stored at the data byte; and a word, whose high byte goes there
pub byte-store : logged_of (acts.Stores true (byte_addr 1) 0x141) (at 0x10) ≡ shown 7 0 0x41 ∷ []
unfolding shown_on
byte-store = refl

pub word-store : logged_of (acts.Stores false (byte_addr 0) 0x4110) (at 0x10) ≡ shown 7 0 0x41 ∷ []
unfolding shown_on
word-store = refl

-- ENA counts as it was before the store: a word that clears it is shown, one that sets it is not
pub clears-ena : logged_of (acts.Stores false (byte_addr 0) 0x4100) (at 0x10) ≡ shown 7 0 0x41 ∷ []
unfolding shown_on
clears-ena = refl

pub sets-ena : logged_of (acts.Stores false (byte_addr 0) 0x4110) (at 0) ≡ []
unfolding shown_on
sets-ena = refl

-- not shown: on a disabled device, on an input device, a store to status
pub disabled : logged_of (acts.Stores true (byte_addr 1) 0x41) (at 0x0D) ≡ []
unfolding shown_on
disabled = refl

pub input : logged_of (acts.Stores true (byte_addr 1) 0x41) (at 0x12) ≡ []
unfolding shown_on
input = refl

pub status : logged_of (acts.Stores true (byte_addr 0) 0x41) (at 0x10) ≡ []
unfolding shown_on
status = refl

-- ---- runs: device 0 an output device with ENA and IE, R0 = #58, R1 its data byte, R2 = #1E; PC #0010, step count 5

abbrev from : (words : List ℕ) → State
from words =
    record {
      core = core_of (0x58 ∷ 1 ∷ 0x1E ∷ 0 ∷ 0 ∷ 0 ∷ 0 ∷ 0x10 ∷ []) 0 0;
      lines = 0;
      halted = false;
      count = 5;
      mem = 0x11 ∷ 0 ∷ 0 ∷ 0 ∷ 0 ∷ 0 ∷ 0 ∷ 0 ∷ 0 ∷ 0 ∷ 0 ∷ 0 ∷ 0 ∷ 0 ∷ 0 ∷ 0 ∷ words;
    }

-- ST.B R0,R1 three times, and an event of device 0 on the third step
abbrev s : State
s = from (0x41 ∷ 0x5C ∷ 0x41 ∷ 0x5C ∷ 0x41 ∷ 0x5C ∷ [])

abbrev ev : List Event
ev = record { step = 7; device = 0; byte = 0 } ∷ []

-- room for two records: the third step is not taken, its event not applied
abbrev x : Logged
x = run_logged ev s 2 3

pub two-taken : (x.steps ≡ 2) × (x.short ≡ true) × (x.records ≡ shown 5 0 0x58 ∷ shown 6 0 0x58 ∷ [])
    × (x.state.lines ≡ 0) × (byte_at x.state.mem 0 ≡ 0x11) × (x.state.count ≡ 7)
unfolding run_logged logged_next shown_on step_of deliver_at event_on commit plan_of interrupt_of best_from instruction_of advanced
    decode_of effect_of granted perform
two-taken = (refl, refl, refl, refl, refl, refl)

-- the next run takes it, its event still due
abbrev y : Logged
y = run_logged ev x.state 1 1

pub third-taken : (y.steps ≡ 1) × (y.short ≡ false) × (y.records ≡ shown 7 0 0x58 ∷ [])
    × (y.state.lines ≡ 1) × (y.state.count ≡ 8)
unfolding run_logged logged_next shown_on step_of deliver_at event_on commit plan_of interrupt_of best_from instruction_of advanced
    decode_of effect_of granted perform
third-taken = (refl, refl, refl, refl, refl)

-- full after the last step asked for: the run is done, not short
pub full-is-done : ((run_logged ev s 2 2).short ≡ false) × ((run_logged ev s 2 2).steps ≡ 2)
unfolding run_logged logged_next shown_on step_of deliver_at event_on commit plan_of interrupt_of best_from instruction_of advanced
    decode_of effect_of granted perform
full-is-done = (refl, refl)

-- full, and the next step, ST.B R0,R2, needs no record: the run goes on
abbrev z : Logged
z = run_logged [] (from (0x41 ∷ 0x5C ∷ 0x41 ∷ 0x5C ∷ 0x42 ∷ 0x5C ∷ [])) 2 3

pub full-goes-on : (z.steps ≡ 3) × (z.short ≡ false) × (length z.records ≡ 2)
unfolding run_logged logged_next shown_on step_of deliver_at event_on commit plan_of interrupt_of best_from instruction_of advanced
    decode_of effect_of granted perform
full-goes-on = (refl, refl, refl)

-- ---- a record's eight bytes in a longer log, whose tail stays
pub tail-stays : sets (9 ∷ 9 ∷ 9 ∷ 9 ∷ 9 ∷ 9 ∷ 9 ∷ 9 ∷ 9 ∷ []) 0 (log_bytes (shown 0x04030201 5 0x41 ∷ []))
    ≡ 1 ∷ 2 ∷ 3 ∷ 4 ∷ 5 ∷ 0x41 ∷ 0 ∷ 0 ∷ 9 ∷ []
unfolding log_bytes
tail-stays = refl

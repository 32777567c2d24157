-- A run of n steps that is lent a trace with room for k records of the kinds asked for.
-- Assumes nothing.
use Rattle.std.specs.Prelude.{ℕ, Bool, cond, List}
use Rattle.machine.specs.declared.Reason.{Reason}
use Rattle.machine.specs.declared.Reason.TheVariants.{NoRoom}
use Rattle.machine.specs.State.{State}
use Rattle.machine.specs.Events.{Event}
use Rattle.machine.specs.Run.{reason_of}
use Rattle.run_laws.specs.Roomed.{Roomed, roomed, run_roomed, records_of}
pub use Rattle.run_laws.specs.Roomed.{ran_of, fresh, over?, joined}
use Rattle.trace.specs.Trace.{Entry, traced_of}

-- The state reached, the steps done, the records added, newest last, and whether a step was not taken for want of room.
-- [call trace]
abbrev pub Traced : Type 0
Traced = Roomed Entry

abbrev pub traced : State → (steps : ℕ) → List Entry → (short : Bool) → Traced
traced s n xs b = roomed s n xs b

-- A run of n with room for k records, each step adding those of the kinds asked for. "A step that would need a record
-- past the end is not taken: .. memory and state those before that step, due events not applied". [call trace]
abbrev pub run_traced : (kinds : ℕ) → List Event → State → (k n : ℕ) → Traced
run_traced ks ev s k n = run_roomed (traced_of ks ev) ev s k n

-- reason 2 for want of room, else the reason of 01. [call trace]
abbrev pub reason_traced : Traced → Reason
reason_traced x = cond x.short NoRoom (reason_of (ran_of x))

-- the records of the first n steps of the run with no limit. [call trace]
abbrev pub traces_of : (kinds : ℕ) → List Event → State → ℕ → List Entry
traces_of ks ev s n = records_of (traced_of ks ev) ev s n

-- The records of a step from the numbers that the code holds: what stood before the step, the device bytes and lines
-- before its events, and what its act's record has.
-- Assumes nothing.
use Rattle.std.specs.Prelude.{ℕ, Bool, false, cond, List, [], ◌∷◌, ◌++◌}
use Rattle.word.specs.Psw.{bit_of}
use Rattle.machine.specs.declared.Act.{Act}
use Rattle.machine.specs.State.{State, core_of}
use Rattle.machine.specs.Events.{Event}
use Rattle.trace.specs.Trace.{Entry}
use Rattle.trace.specs.Before.{events_before}
use Rattle.trace_record.specs.declared.Before.{Before}
use Rattle.trace_record.specs.Written.{act_written}

-- a state of which events and records see what the code holds: the device bytes m, the lines. [call trace]
abbrev pub as_seen : Before → (m : List ℕ) → (lines : ℕ) → State
as_seen b m l =
    record {
      core = core_of (0 ∷ 0 ∷ 0 ∷ 0 ∷ 0 ∷ 0 ∷ b.sp ∷ b.pc ∷ []) b.psw 0;
      lines = l;
      halted = false;
      count = b.step;
      mem = m;
    }

-- the records of a step's events where they are asked for. [call trace]
abbrev pub events_written : Before → (kinds : ℕ) → (devices : List ℕ) → (lines : ℕ) → List Event → List Entry
events_written b ks m l ev = cond (bit_of 0 ks) (events_before (as_seen b m l) b.step ev) []

-- the records of a step, in this order; `wanted` where an event may be due. [call trace]
abbrev pub step_written : Before → (kinds : ℕ) → (wanted : Bool) → (devices : List ℕ) → (lines : ℕ) → List Event
    → Act → (seen pc psw : ℕ) → List Entry
step_written b ks wanted m l ev a x p w =
    cond wanted (events_written b ks m l ev) [] ++ act_written b ks a x p w

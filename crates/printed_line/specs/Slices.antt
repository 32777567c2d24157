-- Slices of a run over a short log (document 02, §1): "the sheet's line is as if its run were" lent a log long enough.
-- Assumes nothing.
use Rattle.std.specs.Prelude.{Bool, true, false}
use Rattle.machine.specs.declared.Reason.{Reason}
use Rattle.machine.specs.declared.Reason.TheVariants.{Done, Halted, NoRoom}

-- a run that ended for want of room has steps to do. [02 §1]
abbrev pub out_of_room : Reason → Bool
out_of_room Done = false
out_of_room Halted = false
out_of_room NoRoom = true

use Prim.Native.Nat.{◌+◌}
use mathlib.Core.Path.{◌≡◌}
use mathlib.Core.Bool.{Bool}
use lib.ListN.{length}
use Rattle.machine.specs.State.{Core}
use Rattle.machine.specs.Events.{events_of}
use Rattle.machine.specs.Devices.{deliver_at}
use Rattle.devices.specs.Cursor.{Behind, state_from}
use Rattle.devices.proofs.Laws.{rest_from}
use Rattle.devices.proofs.deliver.Given as goal

abbrev pub invariant-loop-at : goal.invariant-loop-at
invariant-loop-at l = record {
  past : Behind l.events l.at (l.count + 1);
  delivered : (core : Core) (h : Bool) → deliver_at l.count (rest_from l.events l.at) (state_from core l.l h l.count l.mem)
      ≡ deliver_at l.count (events_of l.events) (state_from core l.initial.l h l.count l.initial.mem);
}

-- `devices::waits` meets its contract. Assumes nothing.
use mathlib.Core.Path.{ap}
use lib.Dec.{ltb}
use Rattle.devices.proofs.waits.Goals as goal

pub returns : goal.returns
returns c = ap (ltb 0) c.events_waiting.ensures

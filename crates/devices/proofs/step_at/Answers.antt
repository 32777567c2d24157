-- `devices::step_at` meets its contract. Assumes nothing.
use Rattle.machine.specs.Events.{event_at}
use Rattle.devices.proofs.step_at.Goals as goal

pub returns : goal.returns
unfolding event_at
returns c = c.four_at.ensures

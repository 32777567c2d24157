-- `devices::event_status` meets its contract. Assumes nothing.
use Rattle.devices.proofs.Bits.{event-again, event-first}
use Rattle.devices.proofs.event_status.Goals as goal

pub returns-then-t-eq1 : goal.returns-then-t-eq1
returns-then-t-eq1 c = event-again c.args.t c.if-t-eq1.true

pub returns : goal.returns
returns c = event-first c.args.t c.if-t-eq1.false

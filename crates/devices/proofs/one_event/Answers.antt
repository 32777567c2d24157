-- `devices::one_event` meets its contract. Assumes nothing.
use Rattle.devices.proofs.Bits.{one_shifted}
use Rattle.devices.proofs.one_event.Goals as goal

pub returns : goal.returns
returns c = one_shifted c.args.d c.requires

-- `devices::event_at` meets its contract. Assumes nothing.
use Rattle.std.proofs.Common.{ℕ, ◌+◌, ◌*◌, ap}
use Rattle.machine.specs.Memory.{byte_at}
use Rattle.machine.specs.Events.{event_at}
use Rattle.devices.proofs.Events.{event_of}
use Rattle.devices.proofs.event_at.Goals as goal

pub returns : goal.returns
unfolding event_at
returns c =
    let b = c.args.events.now in
    let k = c.args.k in
    ap (λ (n : ℕ). event_of n (byte_at b (8 * k + 4)) (byte_at b (8 * k + 5))) c.step_at.ensures

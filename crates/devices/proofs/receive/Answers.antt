-- `devices::receive` meets its contract. Assumes nothing.
use Rattle.devices.proofs.Events.{receive-input, receive-output}
use Rattle.devices.proofs.receive.Goals as goal
use Rattle.devices.proofs.receive.Goals.{then-t-eq1, else-t-eq1}

pub returns : goal.returns
returns c =
    let m = c.args.mem.now in
    let e = c.event_status.ensures in
    elim c.if-t-eq1.branch [
      | then-t-eq1 w ↦ receive-input m c.args.e.device c.args.e.byte c.args.t e c.args.e.step w.if-t-eq1.true w.mem-is
      | else-t-eq1 w ↦ receive-output m c.args.e.device c.args.e.byte c.args.t e c.args.e.step w.if-t-eq1.false w.mem-is
    ]

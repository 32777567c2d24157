use Rattle.std.proofs.Common.{◌+◌, sym, eqb, arith}
use Rattle.open_frames.specs.Open.{handler_of, devices_of}
use Rattle.open_frames.proofs.watch_after.Goals as goal

pub returns-then-not-turns-clause-owns : goal.returns-then-not-turns-clause-owns
returns-then-not-turns-clause-owns c =
    let o = c.args.f.now.open in
    let stays = c.turns.ensures c.if-not-turns.true 0 0 o.owns (eqb o.held 0) (handler_of o.oldest) (devices_of c.args.f.now) in
    (sym stays.0, omega arith)

pub returns-then-not-turns-clause-devices : goal.returns-then-not-turns-clause-devices
returns-then-not-turns-clause-devices c =
    let o = c.args.f.now.open in
    let stays = c.turns.ensures c.if-not-turns.true c.args.k 0 o.owns (eqb o.held 0) (handler_of o.oldest) (devices_of c.args.f.now) in
    (c.requires.0, (λ t p q. sym (stays.1 t)))

pub returns-then-not-turns-clause-oldest : goal.returns-then-not-turns-clause-oldest
returns-then-not-turns-clause-oldest c =
    let o = c.args.f.now.open in
    let stays =
    c.turns.ensures c.if-not-turns.true c.args.k (o.owns + o.held) o.owns (eqb o.held 0) (handler_of o.oldest) (devices_of c.args.f.now) in
    sym stays.2

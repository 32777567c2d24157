-- `devices::event_on` meets its contract. Assumes nothing.
use Rattle.devices.proofs.Events.{event-off, event-raises, event-keeps}
use Rattle.devices.proofs.event_on.Goals as goal
use Rattle.devices.proofs.event_on.Goals.{Start}

pub returns-then-t-ne1 : goal.returns-then-t-ne1
returns-then-t-ne1 c =
    λ core h n.
    let s = c in
    event-off s.args.mem.now s.args.e.device s.args.e.byte s.args.lines core h s.args.e.step n c.if-t-ne1.true

pub returns-then-t-eq1 : goal.returns-then-t-eq1
returns-then-t-eq1 c =
    let at-if1 = c in
    let at-start : Start = search in
    λ core h n.
    let s = at-start in
    let ena = at-if1.if-t-ne1.false in
    let wrote = c.receive.ensures in
    event-raises s.args.mem.now s.args.e.device s.args.e.byte s.args.lines core h s.args.e.step n
    ena wrote c.if-t-eq1.true c.raise.ensures

pub returns : goal.returns
returns c =
    let at-if1 = c in
    let at-start : Start = search in
    λ core h n.
    let s = at-start in
    let ena = at-if1.if-t-ne1.false in
    let wrote = c.receive.ensures in
    event-keeps s.args.mem.now s.args.e.device s.args.e.byte s.args.lines core h s.args.e.step n ena wrote c.if-t-eq1.false

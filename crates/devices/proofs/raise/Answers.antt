-- `devices::raise` meets its contract. Assumes nothing.
use Rattle.devices.proofs.Bits.{rise-fits, rises, rises-full}
use native.Mathlib.Omega.{arith}
use Rattle.devices.proofs.raise.Goals as goal

pub overflow_add-result : goal.overflow_add-result
overflow_add-result c =
    let s = c in
    let w = c.events_waiting in
    let h =
    rise-fits s.args.lines s.args.d _ _ w.ensures s.requires (omega arith) c.if-events_waiting-lt15.true c.one_event.ensures in
    omega (arith, h)

pub returns-then-events_waiting-lt15 : goal.returns-then-events_waiting-lt15
returns-then-events_waiting-lt15 c =
    let a = c.args in
    rises a.lines a.d _ _ c.events_waiting.ensures c.if-events_waiting-lt15.true c.one_event.ensures

pub returns : goal.returns
returns c =
    let a = c.args in
    rises-full a.lines a.d _ 0 c.events_waiting.ensures c.if-events_waiting-lt15.false

-- `devices::fall` meets its contract. Assumes nothing.
use Rattle.devices.proofs.Bits.{fall-fits, falls, falls-none}
use Rattle.devices.proofs.fall.Goals as goal

pub overflow_sub-result : goal.overflow_sub-result
overflow_sub-result c =
    let a = c.args in
    fall-fits a.lines a.d _ c.waits.ensures c.if-waits.true c.one_event.ensures

pub returns-then-waits : goal.returns-then-waits
returns-then-waits c =
    let a = c.args in
    falls a.lines a.d _ c.waits.ensures c.if-waits.true c.one_event.ensures

pub returns : goal.returns
returns c = falls-none c.args.lines c.args.d 0 c.waits.ensures c.if-waits.false

use Rattle.trace_step.proofs.Laws.{bits-off, bits-on}
use Rattle.trace_step.proofs.event_bits.Goals as goal

pub returns-then-t-ne1 : goal.returns-then-t-ne1
returns-then-t-ne1 c = bits-off c.args.t c.args.waiting c.if-t-ne1.true

pub returns : goal.returns
returns c = bits-on c.args.t c.args.waiting c.if-t-ne1.false

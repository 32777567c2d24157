use native.Mathlib.Numerals.{add-one}
use Rattle.machine.specs.Events.{event_at}
use Rattle.machine.specs.Refusal.{in_order}
use Rattle.event_rules.proofs.in_order.Goals as goal

pub returns : goal.returns
unfolding in_order event_at
returns c = rw (← add-one c.args.k, c.four_at.ensures, c.four_at-2.ensures)

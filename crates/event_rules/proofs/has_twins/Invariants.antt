use Rattle.devices.specs.Cursor.{Ordered}
use Rattle.event_rules.proofs.Twins.{Swept}
use Rattle.event_rules.proofs.has_twins.Given as goal

abbrev pub invariant-loop-k : goal.invariant-loop-k
invariant-loop-k l = Ordered l.events → Swept l.events l.k l.before l.marks

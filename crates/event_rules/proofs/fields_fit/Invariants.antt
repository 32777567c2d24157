use mathlib.Core.Bool.{true}
use mathlib.Core.Path.{◌≡◌}
use Rattle.machine.specs.Refusal.{events_fit_below}
use Rattle.event_rules.proofs.fields_fit.Given as goal

abbrev pub invariant-loop-k : goal.invariant-loop-k
invariant-loop-k l = events_fit_below l.events l.k ≡ true

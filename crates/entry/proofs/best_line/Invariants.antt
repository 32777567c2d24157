use Rattle.std.proofs.Common.{◌≡◌, ◌-◌, ◌≤◌}
use Rattle.machine.specs.Entry.{best_from}
use Rattle.entry.proofs.best_line.Given as goal

abbrev pub invariant-loop-d : goal.invariant-loop-d
invariant-loop-d l = (l.e ≤ 8) × (l.e ≡ best_from (8 - l.d) l.d l.lines l.mem)

use mathlib.Core.Path.{◌≡◌}
use Rattle.stack_need.specs.Need.{dearest}
use Rattle.stack_bytes.proofs.dearest_of.Given as goal

abbrev pub invariant-loop-d : goal.invariant-loop-d
invariant-loop-d l = l.most ≡ dearest l.h.vectors.now l.h.devices l.h.uses.now l.d l.level

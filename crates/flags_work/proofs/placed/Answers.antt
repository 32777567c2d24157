-- `flags_work::placed` meets its contract. Assumes nothing.
use mathlib.Core.Path.{refl}
use Rattle.word.specs.Width.{width_of}
use native.Mathlib.Omega.{arith}
use Rattle.flags_work.proofs.placed.Goals as goal

pub returns-then-byte : goal.returns-then-byte
unfolding width_of
returns-then-byte c = rw c.if-byte.true refl

pub returns-else-byte : goal.returns-else-byte
unfolding width_of
returns-else-byte c = rw c.if-byte.false (omega arith)

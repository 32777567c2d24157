use mathlib.Core.Path.{refl}
use Rattle.trace_record.proofs.operand.Goals as goal

pub returns-then-byte : goal.returns-then-byte
returns-then-byte c = rw c.if-byte.true refl

-- `memory::stored_status` meets its contract. Assumes nothing.
use native.Mathlib.Omega.{arith}
use Rattle.memory.proofs.Laws.{stored-law}
use Rattle.memory.proofs.stored_status.Goals as goal

pub returns : goal.returns
returns c = stored-law c.args.t c.args.v (omega arith)

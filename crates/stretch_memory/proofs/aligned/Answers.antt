-- `stretch_memory::aligned` meets its contract. Assumes nothing.
use Rattle.std.proofs.Common.{refl}
use Rattle.stretch_memory.proofs.aligned.Goals as goal

pub returns : goal.returns
returns c = refl

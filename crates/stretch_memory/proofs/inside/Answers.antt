-- `stretch_memory::inside` meets its contract. Assumes nothing.
use Rattle.std.proofs.Common.{refl}
use Rattle.stretch_memory.proofs.inside.Goals as goal

pub returns : goal.returns
returns c = refl

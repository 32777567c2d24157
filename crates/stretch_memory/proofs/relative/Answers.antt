use Rattle.std.proofs.Common.{◌/◌, ◌%◌, arith}
use Rattle.stretch_memory.proofs.Laws.{relative-address}
use Rattle.stretch_memory.proofs.relative.Goals as goal

pub returns : goal.returns
returns c = let a = c.args in relative-address a.base (a.w / 128 % 128) (omega arith)

-- `entry::enter` meets its contract, in whatever order its calls stand. Assumes nothing.
use Rattle.std.proofs.Common.{rules}
use Rattle.entry.proofs.Laws.{entered-law}
use Rattle.entry.proofs.enter.Goals as goal

pub returns : goal.returns
returns c = record { core = search (rules, entered-law); memory = search rules }

-- `memory::cleared_status` meets its contract. Assumes nothing.
use Rattle.memory.proofs.Laws.{cleared-law}
use mathlib.Core.Path.{◌∙◌}
use Rattle.memory.proofs.cleared_status.Goals as goal

pub returns : goal.returns
returns c = c.without_dba.ensures ∙ cleared-law c.args.t

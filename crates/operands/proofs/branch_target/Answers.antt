-- `operands::branch_target` meets its contract. Assumes nothing.
use Rattle.operands.proofs.Laws.{twice-fits, twice-moved}
use Rattle.operands.proofs.branch_target.Goals as goal

pub overflow_mul-off : goal.overflow_mul-off
overflow_mul-off c = twice-fits c.args.off c.ranges.off c.requires

pub returns : goal.returns
returns c = twice-moved _ _ c.args.off c.ranges.off c.requires c.offset_from.ensures

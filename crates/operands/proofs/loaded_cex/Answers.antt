-- `operands::loaded_cex` meets its contract. Assumes nothing.
use Rattle.operands.proofs.loaded_cex.Goals as goal

pub returns : goal.returns
returns c = rw (c.flag-held.ensures.0, c.condition.ensures)

-- `operands::constant` meets its contract. Assumes nothing.
use Rattle.std.proofs.Common.{[], ◌∷◌}
use Rattle.operands.proofs.Laws.{last_entry}
use Rattle.operands.proofs.constant.Goals as goal

pub returns : goal.returns
returns c = last_entry (0 ∷ 1 ∷ 2 ∷ 4 ∷ 8 ∷ 16 ∷ 32 ∷ []) 0xFFFF 0 c.args.k c.requires

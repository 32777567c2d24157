-- `flags::Kept::below` meets its contract. Assumes nothing.
use Rattle.flags.proofs.Conditions.{at-least-kept}
use Rattle.flags.proofs.Kept.below.Goals as goal

pub returns : goal.returns
returns c p = let s = c in at-least-kept p s.args.self.now.last s.args.self.now.sum s.args.self.now.over

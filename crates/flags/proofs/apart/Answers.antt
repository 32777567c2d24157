-- `flags::apart` meets its contract. Assumes nothing.
use Rattle.flags.proofs.Laws.{held-apart}
use Rattle.flags.proofs.apart.Goals as goal

pub returns : goal.returns
returns c = held-apart c.args.psw

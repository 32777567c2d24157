-- `execute::load_cex` meets its contract. Assumes nothing.
use Rattle.machine.specs.Effect.{effect_of}
use Rattle.execute.proofs.load_cex.Goals as goal

pub returns : goal.returns
unfolding effect_of
returns c regs = let n = c.asks_nothing.ensures in simp (n.0, n.1, n.2, c.loaded_cex.ensures)

-- `free_run::between` meets its contract. Assumes nothing.
use Rattle.std.proofs.Common.{◌/◌, length, sym, ◌∙◌, arith}
use Rattle.free_run.proofs.Free.{took-lines, quiet}
use Rattle.free_run.proofs.between.Goals as goal

-- past the first test no line waits, no block is open, the machine is awake
pub returns-then-regs-eq65535 : goal.returns-then-regs-eq65535
returns-then-regs-eq65535 c =
    let a = c.args in
    let k = quiet a.lines a.cex _ c.if-lines-cex.false in
    took-lines a.lines k.0 _ _ _ _ _ _ _ _ _ _ _ _ _ _ _ _
    (c.leave-f.ensures.step a.psw a.cex a.count (length a.log.now / 8) a.added a.log.now (sym c.asleep.ensures ∙ k.2)
    c.if-regs-eq65535.true c.requires.1)

use Rattle.std.proofs.Common.{sym}
use Rattle.entry.proofs.Lines.{line-no-lines}
use Rattle.entry.proofs.line_above.Goals as goal

pub returns-then-lines-eq0 : goal.returns-then-lines-eq0
returns-then-lines-eq0 c =
    let a = c.args in
    sym (line-no-lines a.mem.now a.lines a.level c.if-lines-eq0.true)

use Rattle.std.proofs.Common.{sym, ◌∙◌}
use Rattle.findings.proofs.Laws.{all_stay}
use Rattle.judge.proofs.tell.Goals as goal

pub returns-then-tells : goal.returns-then-tells
returns-then-tells c regs mem w z b p q l x e =
    c.tell_step.ensures x z e (c.shown-x.ensures regs mem w z b p q l) (b.by ∙ sym c.runs-h.ensures)

pub returns-else-tells : goal.returns-else-tells
returns-else-tells c regs mem w z b p q l x e =
    e ∙ all_stay c.args.start c.args.done z x (sym (c.tells.ensures regs mem w z b q l c.args.start x e) ∙ c.if-tells.false)

use Rattle.xm23_judge.proofs.Laws.{close-none, close-some}
use Rattle.open_frames.specs.Open.{handler_of}
use mathlib.Core.Path.{sym, ◌∙◌}
use Rattle.xm23_judge.proofs.tell_close.Goals as goal

pub returns-then-none : goal.returns-then-none
returns-then-none c s x e n h = close-none c.args.start s x _ e (sym n ∙ sym c.none.ensures ∙ c.if-none.true)

pub returns : goal.returns
returns c s x e n h =
    let a = c.args in
    close-some a.start s x (handler_of a.o.oldest) _ _ e (sym n ∙ sym c.none.ensures ∙ c.if-none.false) h
    c.note.ensures

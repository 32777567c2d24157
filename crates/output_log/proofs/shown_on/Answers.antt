use Rattle.output_log.proofs.Laws.{shown-far, shown-hidden, shown-seen}
use Rattle.output_log.proofs.shown_on.Goals as goal

pub returns-then-d-ge8 : goal.returns-then-d-ge8
returns-then-d-ge8 c n = shown-far _ _ _ _ c.if-d-ge8.true

pub returns-then-t : goal.returns-then-t
returns-then-t c n = shown-hidden _ _ _ _ c.if-t.true

pub returns : goal.returns
returns c n = shown-seen _ _ _ _ c.if-d-ge8.false c.if-t.false

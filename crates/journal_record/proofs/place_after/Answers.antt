use Rattle.journal_record.proofs.Laws.{following-last, following-next}
use Rattle.journal_record.proofs.place_after.Goals as goal

pub returns-then-p-places : goal.returns-then-p-places
returns-then-p-places c = following-last _ _ c.if-p-places.true

pub returns : goal.returns
returns c = following-next _ _ c.if-p-places.false

use Rattle.journal_record.proofs.Laws.{one-more-below, one-more-full}
use Rattle.journal_record.proofs.one_more.Goals as goal

pub returns-then-kept-places : goal.returns-then-kept-places
returns-then-kept-places c = one-more-below _ _ c.if-kept-places.true

pub returns : goal.returns
returns c = one-more-full _ _ c.if-kept-places.false

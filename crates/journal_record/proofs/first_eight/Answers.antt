use Rattle.journal_record.proofs.Laws.{eight-first}
use Rattle.journal_record.proofs.first_eight.Goals as goal

pub returns : goal.returns
returns c b m w = eight-first b _ m w

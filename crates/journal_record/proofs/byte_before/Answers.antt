use Rattle.std.proofs.Common.{arith}
use Rattle.journal_record.proofs.Laws.{device-byte}
use Rattle.journal_record.proofs.byte_before.Goals as goal

pub returns-then-i-lt16 : goal.returns-then-i-lt16
returns-then-i-lt16 c b w = device-byte b _ _ w _ c.if-i-lt16.true

pub returns : goal.returns
returns c b w = w.others _ (omega arith) (omega arith)

use Rattle.std.proofs.Common.{◌∙◌, arith}
use Rattle.journal_record.proofs.Laws.{stored-device, stored-byte, stored-word}
use Rattle.journal_record.proofs.stored_at.Goals as goal

pub returns-then-at-lt16 : goal.returns-then-at-lt16
returns-then-at-lt16 c = let a = c.args in stored-device a.byte a.at.0 c.if-at-lt16.true

pub returns-then-byte : goal.returns-then-byte
returns-then-byte c =
    let a = c.args in stored-byte a.byte a.at.0 (omega (arith, c.if-at-lt16.false)) c.if-byte.true

pub returns : goal.returns
returns c =
    let a = c.args in
    c.word_at.ensures ∙ stored-word a.byte a.at.0 (omega (arith, c.if-at-lt16.false)) c.if-byte.false

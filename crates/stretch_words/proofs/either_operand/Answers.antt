-- Each of the two rows is the one of the word, and says what its operand is. Assumes nothing.
use Rattle.stretch_words.proofs.Laws.{first-row, second-row}
use Rattle.stretch_words.proofs.either_operand.Goals as goal

pub operation-requires : goal.operation-requires
operation-requires c =
    let (past, k, _, low, high, even) = c.requires in
    let (above, below, register) = first-row c.args.row low high even in
    (past, k, c.if-w-row.true, above, below, register)

pub operation-requires-2 : goal.operation-requires-2
operation-requires-2 c =
    let (past, k, e, low, high, even) = c.requires in
    let (same, above, below, constant) = second-row c.args.row low high even _ e c.if-w-row.false in
    (past, k, same, above, below, constant)

pub returns-then-w-row : goal.returns-then-w-row
returns-then-w-row c = c.operation.ensures

pub returns : goal.returns
returns c = c.operation-2.ensures

use borrow.Author.Tests.{lt-ltb, le-ltb}
use Rattle.printed_line.specs.Sheet.{input_verdict}
use Rattle.printed_line.proofs.Inputs.{verdict-of-parts}
use Rattle.printed_line.proofs.cut.verdict.Goals as goal

pub returns-then-input-lt36 : goal.returns-then-input-lt36
unfolding input_verdict
returns-then-input-lt36 c = simp (lt-ltb _ _ c.if-input-lt36.true)

pub returns-then-input-lt65572 : goal.returns-then-input-lt65572
unfolding input_verdict
returns-then-input-lt65572 c =
    simp (le-ltb _ _ c.if-input-lt36.false, lt-ltb _ _ c.if-input-lt65572.true)

pub returns : goal.returns
returns c =
    verdict-of-parts c.args.input.now c.if-input-lt65572.false c.four_at-n.ensures
    c.part-state.ensures c.part-memory.ensures c.part-events.ensures c.verdict.ensures

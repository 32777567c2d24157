use native.Mathlib.Omega.{arith}
use mathlib.Core.Path.{◌≡◌, sym, ap, ◌∙◌}
use Rattle.isa_card.specs.Words.{count_of}
use Rattle.isa_card.proofs.Blocks.{count-illegal, no-operation}
use Rattle.isa_card.proofs.Laws.{count_twice, count_once}
use Rattle.isa_card.proofs.count_of.Goals as goal

pub returns-in-0-clause-count : goal.returns-in-0-clause-count
returns-in-0-clause-count c = sym (ap count_of c.in-0.is ∙ count-illegal)

pub returns-then-is_twice-clause-count : goal.returns-then-is_twice-clause-count
returns-then-is_twice-clause-count c =
    sym (count_twice _ _ c.block_of-size.ensures (omega arith) (omega arith) (sym c.is_twice.ensures ∙ c.if-is_twice.true))

pub returns-else-is_twice-clause-count : goal.returns-else-is_twice-clause-count
returns-else-is_twice-clause-count c =
    sym (count_once _ _ c.block_of-size.ensures (omega arith) (omega arith) (sym c.is_twice.ensures ∙ c.if-is_twice.false))

pub returns-in_default-clause-count : goal.returns-in_default-clause-count
returns-in_default-clause-count c = sym (no-operation c.args.operation 0 (omega arith)).0

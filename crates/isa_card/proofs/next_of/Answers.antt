use native.Mathlib.Omega.{arith}
use mathlib.Core.Path.{◌≡◌, sym, ◌∙◌}
use Rattle.isa_card.proofs.Laws.{next_none, next_twice, next_once}
use Rattle.isa_card.proofs.next_of.Goals.{then-operation-lt1-via-then-operation-lt1}
use Rattle.isa_card.proofs.next_of.Goals.{then-operation-lt1-via-else-operation-lt1+then-operation-gt41}
use Rattle.isa_card.proofs.next_of.Goals as goal

pub returns-then-operation-lt1 : goal.returns-then-operation-lt1
returns-then-operation-lt1 c =
    let n = next_none c.args.operation c.args.word in
    elim c.then-operation-lt1.branch [
      | then-operation-lt1-via-then-operation-lt1 w ↦ sym (n.0 (omega arith))
      | then-operation-lt1-via-else-operation-lt1+then-operation-gt41 w ↦ sym (n.1 (omega arith))
    ]

pub returns-then-not-is_twice : goal.returns-then-not-is_twice
returns-then-not-is_twice c =
    c.next_in-found.ensures
    ∙ sym (next_once _ _ c.block_of-words.ensures (omega arith) (omega arith) _ (sym c.is_twice.ensures ∙ c.if-not-is_twice.true))

pub returns : goal.returns
returns c =
    rw (sym c.next_in-found.ensures, sym c.next_in.ensures) c.or.ensures
    ∙ sym (next_twice _ _ c.block_of-words.ensures (omega arith) (omega arith) _ (sym c.is_twice.ensures ∙ c.if-not-is_twice.false))

-- The measure is three times the brackets left: an expression, then its terms, then their factors, and only a bracket leads back, with
-- one bracket less. Each loop keeps that the chain from here on is the whole chain.
use Rattle.std.proofs.Common.{◌+◌, ◌-◌, ◌*◌, length}
use Rattle.asm_text.specs.Text.{values_in}
use Rattle.asm_expr.specs.Grammar.{plus?, times?, parts_of, factor_of, term_of}
use Rattle.asm_expr.specs.Meaning.{answer_of}
use Rattle.asm_expr.proofs.Laws.{Going}
use Rattle.asm_expr.proofs.+expression_factor_term.Given as goal

abbrev pub decreases-expression : goal.decreases-expression
decreases-expression l = l.left * 3 + 2

abbrev pub decreases-factor : goal.decreases-factor
decreases-factor l = l.left * 3

abbrev pub decreases-term : goal.decreases-term
decreases-term l = l.left * 3 + 1

abbrev pub invariant-expression-loop-so_far : goal.invariant-expression-loop-so_far
invariant-expression-loop-so_far l =
    Going (values_in l.names) plus? (term_of l.left l.s) l.s l.so_far.value l.so_far.next
    (answer_of (values_in l.names) (parts_of plus? (term_of l.left l.s) l.s l.at))

abbrev pub decreases-expression-loop-so_far : goal.decreases-expression-loop-so_far
decreases-expression-loop-so_far l = length l.s - l.so_far.next

abbrev pub invariant-term-loop-so_far : goal.invariant-term-loop-so_far
invariant-term-loop-so_far l =
    Going (values_in l.names) times? (factor_of l.left l.s) l.s l.so_far.value l.so_far.next
    (answer_of (values_in l.names) (parts_of times? (factor_of l.left l.s) l.s l.at))

abbrev pub decreases-term-loop-so_far : goal.decreases-term-loop-so_far
decreases-term-loop-so_far l = length l.s - l.so_far.next

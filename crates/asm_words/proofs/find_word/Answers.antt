use mathlib.Core.Path.{ap, sym, ◌∙◌}
use Prim.Native.Nat.{◌+◌, ◌%◌}
use native.Mathlib.Omega.{arith}
use Rattle.asm_words.proofs.Laws.{table, starts, group, start_fits, start-step, start-le, word-is, word_by}
use Rattle.asm_words.proofs.find_word.Goals as goal

pub offset_bounds-rows-from : goal.offset_bounds-rows-from
unfolding starts
offset_bounds-rows-from c = start_fits (c.args.p % 61)

pub slice_bounds-row_number-count : goal.slice_bounds-row_number-count
unfolding starts
slice_bounds-row_number-count c = start-step (c.args.p % 61) (omega arith)

pub slice_bounds-row_number-start : goal.slice_bounds-row_number-start
unfolding starts
slice_bounds-row_number-start c = start-step (c.args.p % 61) (omega arith)

pub slice_bounds-row_number-end : goal.slice_bounds-row_number-end
unfolding starts
slice_bounds-row_number-end c = start-le (c.args.p % 61 + 1)

pub returns-in-Some : goal.returns-in-Some
unfolding group starts table word_by
returns-in-Some c = λ t e.
    c.word_at.ensures ∙ ap word_by (sym c.in-Some.is ∙ c.row_number.ensures) ∙ word-is c.args.p t e

pub returns-in-None : goal.returns-in-None
unfolding group starts table word_by
returns-in-None c = λ t e. ap word_by (sym c.in-None.is ∙ c.row_number.ensures) ∙ word-is c.args.p t e

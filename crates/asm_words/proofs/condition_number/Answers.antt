use mathlib.Core.Path.{◌∙◌}
use Rattle.asm_text.specs.Text.{spelled, spelled_from}
use Rattle.asm_words.specs.Words.{conditions}
use Rattle.asm_words.proofs.Laws.{packed, condition-is}
use Rattle.asm_words.proofs.condition_number.Goals as goal

pub returns : goal.returns
unfolding conditions packed spelled spelled_from
returns c = λ t e. c.row_number.ensures ∙ condition-is c.args.p t e

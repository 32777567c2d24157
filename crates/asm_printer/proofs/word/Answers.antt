use Rattle.asm_printer.specs.Parts.{parts_text}
use Rattle.asm_printer.proofs.Laws.{word-parts}
use Rattle.asm_printer.proofs.word.Goals as goal

pub returns : goal.returns
unfolding parts_text
returns c = word-parts _ c.args.w c.hex_word-first.ensures

use Rattle.asm_text.specs.Text.{blank?}
use Rattle.asm_text.proofs.Laws.{after-is}
use Rattle.asm_text.proofs.skip_blanks.Goals as goal

pub returns : goal.returns
returns c = let e = rw c.rest.ensures at c.blanks.ensures.value in after-is blank? c.args.s.now c.args.at _ e

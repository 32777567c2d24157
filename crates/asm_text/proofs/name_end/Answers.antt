use Rattle.asm_text.specs.Text.{name_byte?}
use Rattle.asm_text.proofs.Laws.{after-is}
use Rattle.asm_text.proofs.name_end.Goals as goal

pub returns : goal.returns
returns c = let e = rw c.rest.ensures at c.name_bytes.ensures.value in after-is name_byte? c.args.s.now c.args.at _ e

use Rattle.asm_spellings.proofs.Laws.{hex-byte}
use borrow.Author.Rules.{rules}
use Rattle.asm_spellings.proofs.hex_byte.Goals as goal

pub returns : goal.returns
returns c = rw c.hex.ensures.0 (hex-byte c.args.n (search rules))

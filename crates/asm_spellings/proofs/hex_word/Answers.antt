use native.Mathlib.Omega.{arith}
use Rattle.asm_spellings.proofs.Laws.{hex-word}
use Rattle.asm_spellings.proofs.hex_word.Goals as goal

pub returns : goal.returns
returns c = rw (c.hex.ensures.0, c.hex-high.ensures.0) (hex-word c.args.n (omega arith))

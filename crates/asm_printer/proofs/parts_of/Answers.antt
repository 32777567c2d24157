-- The ranges of the code are those of the decoder, in its order: each way out rewrites the definition by the tests on the way, and what
-- is left is the callee's equation.
use native.Mathlib.Omega.{arith}
use borrow.Author.Tests.{lt-ltb, le-ltb}
use Rattle.asm_print.specs.Print.{text_for, text_at}
use Rattle.isa.specs.Decode.{decode_of}
use Rattle.asm_printer.proofs.parts_of.Goals as goal

pub returns-in-16384-to-19455 : goal.returns-in-16384-to-19455
unfolding text_at decode_of text_for
returns-in-16384-to-19455 c =
    let w = c.args.w in
    rw (le-ltb w 0x2000 (omega arith), le-ltb w 0x4000 (omega arith), lt-ltb w 0x4C00 (omega arith)) (c.alu.ensures c.args.place)

pub returns-in-24576-to-32767 : goal.returns-in-24576-to-32767
unfolding text_at decode_of text_for
returns-in-24576-to-32767 c =
    let w = c.args.w in
    rw (
      le-ltb w 0x2000 (omega arith),
      le-ltb w 0x4000 (omega arith),
      le-ltb w 0x4C00 (omega arith),
      le-ltb w 0x5000 (omega arith),
      le-ltb w 0x6000 (omega arith),
      lt-ltb w 0x8000 (omega arith),
    ) (c.move_byte.ensures c.args.place)

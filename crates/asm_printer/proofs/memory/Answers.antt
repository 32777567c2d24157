use native.Mathlib.Omega.{arith}
use borrow.Author.Tests.{lt-ltb, le-ltb}
use Rattle.asm_print.specs.Print.{text_for}
use Rattle.asm_printer.proofs.memory.Goals as goal

pub returns-in-22528-to-23551 : goal.returns-in-22528-to-23551
unfolding text_for
returns-in-22528-to-23551 c p =
    let w = c.args.w in
    rw (le-ltb w 0x5400 (omega arith), le-ltb w 0x5800 (omega arith), lt-ltb w 0x5C00 (omega arith)) (c.load.ensures p)

pub returns-in_default : goal.returns-in_default
unfolding text_for
returns-in_default c p =
    let w = c.args.w in
    rw (le-ltb w 0x5400 (omega arith), le-ltb w 0x5800 (omega arith), le-ltb w 0x5C00 (omega arith)) (c.store.ensures p)

use native.Mathlib.Omega.{arith}
use borrow.Author.Tests.{le-leb, lt-leb}
use Rattle.asm_text.proofs.Laws.{digit-low, digit-high, digit-none}
use Rattle.asm_text.proofs.digit.Goals as goal

pub returns-in-48-to-57 : goal.returns-in-48-to-57
returns-in-48-to-57 c = digit-low c.args.b (omega arith) (omega arith)

pub returns-in-65-to-70 : goal.returns-in-65-to-70
returns-in-65-to-70 c = digit-high c.args.b (omega arith) (omega arith)

pub returns-in_default : goal.returns-in_default
returns-in_default c =
    let b = c.args.b in
    digit-none b (simp (lt-leb 48 b (omega arith))) (simp (lt-leb 65 b (omega arith)))

pub returns-in_default-2 : goal.returns-in_default-2
returns-in_default-2 c =
    let b = c.args.b in
    digit-none b (simp (le-leb 48 b (omega arith), lt-leb b 57 (omega arith))) (simp (lt-leb 65 b (omega arith)))

pub returns-in_default-3 : goal.returns-in_default-3
returns-in_default-3 c =
    let b = c.args.b in
    digit-none b (simp (le-leb 48 b (omega arith), lt-leb b 57 (omega arith)))
    (simp (le-leb 65 b (omega arith), lt-leb b 70 (omega arith)))

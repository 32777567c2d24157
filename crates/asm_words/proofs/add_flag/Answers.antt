use native.Mathlib.Omega.{arith}
use Rattle.asm_words.proofs.Laws.{flag-bit}
use Rattle.asm_words.proofs.add_flag.Goals as goal

pub nonzero_div-f : goal.nonzero_div-f
nonzero_div-f c = (flag-bit c.args.f c.args.b c.in_ok-bit.bit c.in_ok-bit.ensures).0

pub overflow_add-result : goal.overflow_add-result
overflow_add-result c =
    let h = (flag-bit c.args.f c.args.b c.in_ok-bit.bit c.in_ok-bit.ensures).1 c.requires c.if-f-bit-eq0.true in omega (arith, h)

pub returns-then-f-bit-eq0-clause-upper_bound : goal.returns-then-f-bit-eq0-clause-upper_bound
returns-then-f-bit-eq0-clause-upper_bound c =
    (flag-bit c.args.f c.args.b c.in_ok-bit.bit c.in_ok-bit.ensures).1 c.requires c.if-f-bit-eq0.true

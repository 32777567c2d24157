use Prim.Native.Nat.{◌≤◌}
use native.Mathlib.Omega.{arith}
use borrow.Author.Tests.{lt-ltb, le-ltb}
use Rattle.asm_printer.specs.Call.{text_call_of}
use lib.ListN.{length}
use Rattle.asm_printer.proofs.text_call.Goals as goal

pub returns-then-text-lt24 : goal.returns-then-text-lt24
unfolding text_call_of
returns-then-text-lt24 c = let e = lt-ltb _ 24 c.if-text-lt24.true in record { reply = rw e; text = rw e }

pub returns : goal.returns
unfolding text_call_of
returns c =
    let at-put = c in
    let at-parts = at-put in
    let at-if1 = at-parts in
    let a = at-if1.args in
    let h : 24 ≤ length a.text.now = omega arith in
    let e = le-ltb _ 24 h in
    let put = at-put.put_parts-n.ensures in
    let is = at-parts.parts_of-x.ensures in
    record { reply = rw (e, put.1, is); text = rw (e, put.0, is) }

-- `flags_work::shift` meets its contract: half a number of the width below a bit is again one of the width. Assumes nothing.
use mathlib.Core.Path.{◌≡◌, ap, ◌∙◌}
use native.Mathlib.Omega.{arith}
use Prim.Native.Nat.{◌+◌, ◌*◌, ◌/◌}
use Rattle.word.specs.Width.{width_of, with_low}
use Rattle.word.proofs.Laws.{fits_word}
use Rattle.alu.specs.Alu.{halved}
use Rattle.flags_work.proofs.Sums.{shift-psw, halved-lt}
use Rattle.flags_work.proofs.shift.Goals as goal

pub overflow_mul-high : goal.overflow_mul-high
overflow_mul-high c =
    let at-start = c in
    let at-low-bits = c in
    let a = at-start.args in
    let m = fits_word a.byte in
    let h = halved-lt a.byte a.high at-low-bits.low_bits.ensures.1 c.top.ensures at-start.requires in
    omega (arith, h, m)

pub overflow_add-low_bits : goal.overflow_add-low_bits
overflow_add-low_bits c =
    let at-start = c in
    let at-low-bits = c in
    let a = at-start.args in
    let m = fits_word a.byte in
    let h = halved-lt a.byte a.high at-low-bits.low_bits.ensures.1 c.top.ensures at-start.requires in
    omega (arith, h, m)

pub logic-requires : goal.logic-requires
logic-requires c =
    let at-start = c in
    let at-low-bits = c in
    let at_top = c in
    let a = at-start.args in
    (halved-lt a.byte a.high at-low-bits.low_bits.ensures.1 at_top.top.ensures at-start.requires).1

pub returns : goal.returns
returns c =
    let at_top = c in
    let at-start = c in
    let at-low-bits = c in
    let a = at-start.args in
    let w = width_of a.byte in
    let v = at-low-bits.low_bits.result / 2 + a.high * at_top.top.result in
    let e : v ≡ halved w a.dst a.high =
    λ i. at-low-bits.low_bits.ensures.0 i / 2 + a.high * at_top.top.ensures i in record {
      value = (λ p. c.logic.ensures.value p ∙ ap (with_low w a.dst) e);
      psw = shift-psw a.byte a.dst a.high e a.kept.now c.logic.ensures.psw;
    }

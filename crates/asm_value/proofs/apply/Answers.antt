-- Sums, differences and products of 32-bit numbers fit 64 bits, so that the code's arithmetic is the definition's on whole numbers; the
-- operator's byte decides which, and a divisor of zero is told before the division.
use Rattle.asm_value.specs.Value.{fitted, applied}
use mathlib.Core.Path.{sym, ap, ◌∙◌}
use borrow.Author.Tests.{eq-eqb, ne_eqb}
use lib.IntN.{◌+ℤ◌, ◌-ℤ◌, ◌*ℤ◌}
use lib.Signed.{quot_z}
use Rattle.asm_value.proofs.Signed.{sfits_wide, sum_fits, difference-fits, product-fits, quotient_fits, fits-on-wide}
use Rattle.asm_value.proofs.Signed.{back-on-wide, bits_pos, zero_bits, no-quotient, some-quotient}
use mir.Syntax.{w32}
use mir.ValLaws.{to_z-of_z}
use Rattle.asm_value.proofs.apply.Goals as goal

pub overflow_cast-x : goal.overflow_cast-x
overflow_cast-x c = rw (to_z-of_z w32 c.args.a c.ranges.a) (sfits_wide c.args.a c.ranges.a)

pub overflow_cast-y : goal.overflow_cast-y
overflow_cast-y c = rw (to_z-of_z w32 c.args.b c.ranges.b) (sfits_wide c.args.b c.ranges.b)

pub overflow_add-x : goal.overflow_add-x
overflow_add-x c = fits-on-wide c.args.a c.args.b c.ranges.a c.ranges.b ◌+ℤ◌
    (sum_fits c.args.a c.args.b c.ranges.a c.ranges.b)

pub returns-then-op-eq43 : goal.returns-then-op-eq43
unfolding applied
returns-then-op-eq43 c =
    let c2 = c in
    c.fit.ensures ∙ ap fitted (back-on-wide c2.args.a c2.args.b c2.ranges.a c2.ranges.b ◌+ℤ◌
    (sum_fits c2.args.a c2.args.b c2.ranges.a c2.ranges.b)) ∙ simp (eq-eqb c2.args.op 43 c.if-op-eq43.true)

pub overflow_sub-x : goal.overflow_sub-x
overflow_sub-x c =
    let c2 = c in
    fits-on-wide c2.args.a c2.args.b c2.ranges.a c2.ranges.b ◌-ℤ◌ (difference-fits c2.args.a c2.args.b c2.ranges.a
    c2.ranges.b)

pub returns-then-op-eq45 : goal.returns-then-op-eq45
unfolding applied
returns-then-op-eq45 c =
    let c2 = c in
    let c3 = c2 in
    c.fit-then-op-eq45.ensures ∙ ap fitted (back-on-wide c3.args.a c3.args.b c3.ranges.a c3.ranges.b ◌-ℤ◌
    (difference-fits c3.args.a c3.args.b c3.ranges.a c3.ranges.b))
    ∙ simp (ne_eqb c3.args.op 43 c2.if-op-eq43.false, eq-eqb c3.args.op 45 c.if-op-eq45.true)

pub overflow_mul-x : goal.overflow_mul-x
overflow_mul-x c =
    let c3 = c in
    fits-on-wide c3.args.a c3.args.b c3.ranges.a c3.ranges.b ◌*ℤ◌ (product-fits c3.args.a c3.args.b c3.ranges.a
    c3.ranges.b)

pub returns-then-op-eq42 : goal.returns-then-op-eq42
unfolding applied
returns-then-op-eq42 c =
    let c2 = c in
    let c3 = c2 in
    let c4 = c3 in
    c.fit-then-op-eq42.ensures ∙ ap fitted (back-on-wide c4.args.a c4.args.b c4.ranges.a c4.ranges.b ◌*ℤ◌
    (product-fits c4.args.a c4.args.b c4.ranges.a c4.ranges.b))
    ∙ simp (
      ne_eqb c4.args.op 43 c3.if-op-eq43.false,
      ne_eqb c4.args.op 45
          c2.if-op-eq45.false,
      eq-eqb c4.args.op 42
          c.if-op-eq42.true,
    )

pub returns-then-b-eq0 : goal.returns-then-b-eq0
unfolding applied
returns-then-b-eq0 c =
    let c2 = c in
    let c3 = c2 in
    let c4 = c3 in
    simp (
      ne_eqb c4.args.op 43 c3.if-op-eq43.false,
      ne_eqb c4.args.op 45
          c2.if-op-eq45.false,
      ne_eqb c4.args.op 42
          c.if-op-eq42.false,
      no-quotient c4.args.a c4.args.b (zero_bits c4.args.b c4.ranges.b c.if-b-eq0.true),
    )

pub nonzero_div-q : goal.nonzero_div-q
nonzero_div-q c =
    let c4 = c in (
      bits_pos c4.args.b c4.ranges.b c.if-b-eq0.false,
      fits-on-wide c4.args.a c4.args.b c4.ranges.a c4.ranges.b quot_z
          (quotient_fits c4.args.a c4.args.b c4.ranges.a c4.ranges.b),
    )

pub returns : goal.returns
unfolding applied
returns c =
    let c2 = c in
    let c3 = c2 in
    let c4 = c3 in
    let c5 = c4 in
    c.fit-2.ensures ∙ ap fitted (back-on-wide c5.args.a c5.args.b c5.ranges.a c5.ranges.b quot_z
    (quotient_fits c5.args.a c5.args.b c5.ranges.a c5.ranges.b))
    ∙ sym (some-quotient c5.args.a c5.args.b c.if-b-eq0.false)
    ∙ simp (ne_eqb c5.args.op 43 c4.if-op-eq43.false, ne_eqb c5.args.op 45 c3.if-op-eq45.false, ne_eqb c5.args.op 42 c2.if-op-eq42.false)

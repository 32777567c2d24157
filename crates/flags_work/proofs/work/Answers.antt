-- An arm for each operation, in the order of `Op`: the call that the arm makes gives the value and the flags that `alu_of` has for that
-- operation, at the operands cut to the width and at C as it is kept. Assumes nothing.
use mathlib.Core.Path.{refl, ap₂, ◌∙◌}
use lib.Dec.{leb}
use lib.Bits.{bit_and, bit_or, bit_xor, and_lt, or_lt, xor_lt}
use Rattle.word.specs.Width.{bit}
use Rattle.alu.specs.Alu.{alu_of}
use Rattle.flags_work.proofs.Arms.{held-carry-of, adds, compares, sums, joins, looks, shifts, clears, raises, swaps, extends}
use Rattle.flags_work.proofs.work.Goals as goal

pub logic-requires : goal.logic-requires
logic-requires c =
    let at-low-bits = c in
    let at-low-bits2 = c in
    and_lt _ _ _ at-low-bits.low_bits-a.ensures.1 at-low-bits2.low_bits-b.ensures.1

pub logic-requires-in-Or : goal.logic-requires-in-Or
logic-requires-in-Or c =
    let at-low-bits = c in
    let at-low-bits2 = c in
    or_lt _ _ _ at-low-bits.low_bits-a.ensures.1 at-low-bits2.low_bits-b.ensures.1

pub logic-requires-in-Xor : goal.logic-requires-in-Xor
logic-requires-in-Xor c =
    let at-low-bits = c in
    let at-low-bits2 = c in
    xor_lt _ _ _ at-low-bits.low_bits-a.ensures.1 at-low-bits2.low_bits-b.ensures.1

pub logic-requires-in-Bit : goal.logic-requires-in-Bit
logic-requires-in-Bit c =
    let at-low-bits = c in
    let at-low-bits2 = c in
    and_lt _ _ _ at-low-bits.low_bits-a.ensures.1 at-low-bits2.low_bits-b.ensures.1

pub returns-in-Add : goal.returns-in-Add
unfolding alu_of
returns-in-Add c =
    let at-start = c in
    let at-enum-told = c in
    let at-low-bits2 = c in
    let a = at-start.args in
    let whole = adds a.byte a.d a.s a.kept.now at-enum-told.in-Add.is
    at-low-bits2.low_bits-b.ensures.0 (λ p. refl) (λ p. refl) c.add.ensures.value c.add.ensures.psw in record {
      value = whole.0;
      psw = whole.1;
    }

pub returns-in-Addc : goal.returns-in-Addc
unfolding alu_of
returns-in-Addc c =
    let at-start = c in
    let at-enum-told2 = c in
    let at-low-bits2 = c in
    let a = at-start.args in
    let whole = adds a.byte a.d a.s a.kept.now at-enum-told2.in-Addc.is
    at-low-bits2.low_bits-b.ensures.0 (held-carry-of a.kept.now) (λ p. refl) c.add-in-Addc.ensures.value
    c.add-in-Addc.ensures.psw in record { value = whole.0; psw = whole.1 }

pub returns-in-Sub : goal.returns-in-Sub
unfolding alu_of
returns-in-Sub c =
    let at-start = c in
    let at-enum-told3 = c in
    let at-turned-bits = c in
    let a = at-start.args in
    let whole = adds a.byte a.d a.s a.kept.now at-enum-told3.in-Sub.is
    at-turned-bits.turned_bits.ensures.0 (λ p. refl) (λ p. refl) c.add-in-Sub.ensures.value c.add-in-Sub.ensures.psw in record
    { value = whole.0; psw = whole.1 }

pub returns-in-Subc : goal.returns-in-Subc
unfolding alu_of
returns-in-Subc c =
    let at-start = c in
    let at-enum-told4 = c in
    let at-turned-bits2 = c in
    let a = at-start.args in
    let whole = adds a.byte a.d a.s a.kept.now at-enum-told4.in-Subc.is
    at-turned-bits2.turned_bits-in-Subc.ensures.0 (held-carry-of a.kept.now) (λ p. refl)
    c.add-in-Subc.ensures.value c.add-in-Subc.ensures.psw in record { value = whole.0; psw = whole.1 }

pub returns-in-Cmp : goal.returns-in-Cmp
unfolding alu_of
returns-in-Cmp c =
    let at-start = c in
    let at-enum-told5 = c in
    let at-turned-bits3 = c in
    let a = at-start.args in
    let whole = compares a.byte a.d a.s a.kept.now at-enum-told5.in-Cmp.is 1
    at-turned-bits3.turned_bits-in-Cmp.ensures.0 (λ p. refl) c.add-in-Cmp.ensures.psw in record { value = whole.0; psw = whole.1 }

pub returns-in-Dadd : goal.returns-in-Dadd
unfolding alu_of
returns-in-Dadd c =
    let at-start = c in
    let at-enum-told6 = c in
    let at-alu = c in
    let at-negative = c in
    let a = at-start.args in
    let whole = sums a.byte a.d a.s a.kept.now c.marks-kept.result
    (c.marks-kept.ensures.1 ∙ at-negative.negative.ensures) at-alu.alu-o.ensures refl at-enum-told6.in-Dadd.is
    c.marks-kept.ensures.0 in record { value = whole.0; psw = whole.1 }

pub returns-in-And : goal.returns-in-And
unfolding alu_of
returns-in-And c =
    let at-start = c in
    let at-enum-told7 = c in
    let at-low-bits = c in
    let at-low-bits2 = c in
    let a = at-start.args in
    let whole = joins a.byte a.d a.s a.kept.now at-enum-told7.in-And.is
    (ap₂ bit_and at-low-bits.low_bits-a.ensures.0 at-low-bits2.low_bits-b.ensures.0) (λ p. refl) c.logic.ensures.value
    c.logic.ensures.psw in record { value = whole.0; psw = whole.1 }

pub returns-in-Or : goal.returns-in-Or
unfolding alu_of
returns-in-Or c =
    let at-start = c in
    let at-enum-told8 = c in
    let at-low-bits = c in
    let at-low-bits2 = c in
    let a = at-start.args in
    let whole = joins a.byte a.d a.s a.kept.now at-enum-told8.in-Or.is
    (ap₂ bit_or at-low-bits.low_bits-a.ensures.0 at-low-bits2.low_bits-b.ensures.0) (λ p. refl) c.logic-in-Or.ensures.value
    c.logic-in-Or.ensures.psw in record { value = whole.0; psw = whole.1 }

pub returns-in-Xor : goal.returns-in-Xor
unfolding alu_of
returns-in-Xor c =
    let at-start = c in
    let at-enum-told9 = c in
    let at-low-bits = c in
    let at-low-bits2 = c in
    let a = at-start.args in
    let whole = joins a.byte a.d a.s a.kept.now at-enum-told9.in-Xor.is
    (ap₂ bit_xor at-low-bits.low_bits-a.ensures.0 at-low-bits2.low_bits-b.ensures.0) (λ p. refl) c.logic-in-Xor.ensures.value
    c.logic-in-Xor.ensures.psw in record { value = whole.0; psw = whole.1 }

pub returns-in-Bit : goal.returns-in-Bit
unfolding alu_of
returns-in-Bit c =
    let at-start = c in
    let at-enum-told10 = c in
    let at-low-bits = c in
    let at-low-bits2 = c in
    let a = at-start.args in
    let whole = looks a.byte a.d a.s a.kept.now at-enum-told10.in-Bit.is
    (ap₂ bit_and at-low-bits.low_bits-a.ensures.0 at-low-bits2.low_bits-b.ensures.0) (λ p. refl) c.logic-in-Bit.ensures.psw in record
    { value = whole.0; psw = whole.1 }

pub returns-in-Bic : goal.returns-in-Bic
unfolding alu_of
returns-in-Bic c =
    let at-start = c in
    let at-enum-told11 = c in
    let at-alu2 = c in
    let at-low-bits3 = c in
    let at-negative2 = c in
    let a = at-start.args in
    let whole = clears a.byte a.d a.s a.kept.now c.marks-kept-in-Bic.result
    (c.marks-kept-in-Bic.ensures.1 ∙ at-negative2.negative-in-Bic.ensures) at-alu2.alu-o-in-Bic.ensures at-enum-told11.in-Bic.is
    at-low-bits3.low_bits.ensures.0 c.marks-kept-in-Bic.ensures.0 in record { value = whole.0; psw = whole.1 }

pub returns-in-Bis : goal.returns-in-Bis
unfolding alu_of
returns-in-Bis c =
    let at-start = c in
    let at-enum-told12 = c in
    let at-alu3 = c in
    let at-negative3 = c in
    let a = at-start.args in
    let whole = raises a.byte a.d a.s a.kept.now c.marks-kept-in-Bis.result
    (c.marks-kept-in-Bis.ensures.1 ∙ at-negative3.negative-in-Bis.ensures) at-alu3.alu-o-in-Bis.ensures at-enum-told12.in-Bis.is
    c.marks-kept-in-Bis.ensures.0 in record { value = whole.0; psw = whole.1 }

pub returns-in-Sra : goal.returns-in-Sra
unfolding alu_of
returns-in-Sra c =
    let at-start = c in
    let at-enum-told13 = c in
    let at_top = c in
    let at_flag = c in
    let at-low-bits = c in
    let a = at-start.args in
    let whole = shifts a.byte a.d a.s a.kept.now at-enum-told13.in-Sra.is
    (λ p. at_flag.flag.ensures.0 ∙ λ i. bit (leb (at_top.top.ensures i) (at-low-bits.low_bits-a.ensures.0 i))) (λ p. refl)
    c.shift.ensures.value c.shift.ensures.psw in record { value = whole.0; psw = whole.1 }

pub returns-in-Rrc : goal.returns-in-Rrc
unfolding alu_of
returns-in-Rrc c =
    let at-start = c in
    let at-enum-told14 = c in
    let a = at-start.args in
    let whole = shifts a.byte a.d a.s a.kept.now at-enum-told14.in-Rrc.is
    (held-carry-of a.kept.now) (λ p. refl) c.shift-in-Rrc.ensures.value c.shift-in-Rrc.ensures.psw in record
    { value = whole.0; psw = whole.1 }

pub returns-in-Comp : goal.returns-in-Comp
unfolding alu_of
returns-in-Comp c =
    let at-start = c in
    let at-enum-told15 = c in
    let at-turned-bits4 = c in
    let a = at-start.args in
    let whole = joins a.byte a.d a.s a.kept.now at-enum-told15.in-Comp.is
    at-turned-bits4.turned_bits-in-Comp.ensures.0 (λ p. refl) c.logic-in-Comp.ensures.value c.logic-in-Comp.ensures.psw in record
    { value = whole.0; psw = whole.1 }

pub returns-in-Swpb : goal.returns-in-Swpb
unfolding alu_of
returns-in-Swpb c =
    let at-start = c in
    let at-enum-told16 = c in
    let a = at-start.args in
    let whole = swaps a.byte a.d a.s a.kept.now c.alu.ensures at-enum-told16.in-Swpb.is in record {
      value = whole.0;
      psw = whole.1;
    }

pub returns-in-Sxt : goal.returns-in-Sxt
unfolding alu_of
returns-in-Sxt c =
    let at-start = c in
    let at-enum-told17 = c in
    let a = at-start.args in
    let whole = extends a.byte a.d a.s a.kept.now c.alu-in-Sxt.ensures
    at-enum-told17.in-Sxt.is in record { value = whole.0; psw = whole.1 }

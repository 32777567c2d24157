-- `flags_work::add` meets its contract. Assumes nothing.
use Rattle.flags_work.proofs.Sums.{sum-value, sum-psw, over-lt}
use Rattle.flags_work.proofs.add.Goals as goal

pub placed-kept-requires : goal.placed-kept-requires
placed-kept-requires c =
    let at-start = c in
    let at-low-bits = c in
    let a = at-start.args in
    over-lt a.byte at-low-bits.low_bits-a.result a.b a.carry at-low-bits.low_bits-a.ensures.1 at-start.requires.0
    at-start.requires.1

pub returns : goal.returns
returns c =
    let at-start = c in
    let at-low-bits = c in
    let at-placed = c in
    let at-placed2 = c in
    let at-low-bits2 = c in
    let a = at-start.args in
    let ea = at-low-bits.low_bits-a.ensures.0 in record {
      value = sum-value a.byte a.dst a.b a.carry ea at-low-bits2.low_bits.ensures.0 c.with_low.ensures;
      psw = sum-psw a.byte a.dst a.b a.carry ea at-start.requires.0 at-start.requires.1 at-placed.placed-k.ensures
          at-placed2.placed-kept.ensures a.kept.now;
    }

-- As many words as the part has, or as are left, are skipped one after the other: the lesser of the two numbers is no more than the
-- part's count, so that each of them is skipped (Skips). Assumes nothing.
use Rattle.std.proofs.Common.{◌≡◌, ◌-◌, ◌/◌, ◌%◌, ◌<◌, ◌≤◌, length, get_or, arith}
use Rattle.stretch.proofs.Skips.{skips-all}
use Rattle.stretch.proofs.skipping.Goals as goal

pub returns : goal.returns
returns c =
    let a = c.args in
    let regs = a.regs.now in
    let u = c.unit-u.result in
    let j = c.min-j.result in
    let some : 0 < j = omega (arith, c.min-j.ensures, c.requires.2, c.unit-u.ensures.fits.1) in
    let within : j ≤ a.cex / u % 8 = omega (arith, c.min-j.ensures) in
    let few : j ≤ a.left = omega (arith, c.min-j.ensures) in
    let e : a.left - (a.left - j) ≡ j = omega (arith, few) in
    let there : 7 < length regs = omega (arith, c.told-regs) in
    let fits : get_or regs 7 0 < 65536 = omega arith in
    rw e (record {
      goes = (λ l p m woken.
          skips-all l regs m p a.cex (a.cex / u % 8) u there fits c.requires.0 woken c.unit-u.ensures.skips j within);
      left = omega (arith, some, few);
    })

-- `flags_work::logic` meets its contract. Assumes nothing.
use mathlib.Core.Path.{refl}
use Rattle.flags_work.proofs.Sums.{logic-psw}
use Rattle.flags_work.proofs.logic.Goals as goal

pub returns : goal.returns
returns c =
    let at-start = c in
    let at-placed = c in
    let a = at-start.args in
    record {
      value = (λ p. c.with_low.ensures);
      psw = logic-psw a.byte a.v at-start.requires at-placed.placed-kept.ensures a.kept.now;
      rest = (refl, refl);
    }

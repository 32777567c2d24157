-- `flags::Kept::clear` meets its contract. Assumes nothing.
use mathlib.Core.Bool.{Bool, ◌&&◌}
use mathlib.Core.Path.{ap, ◌∙◌}
use Prim.Native.Nat.{◌/◌, ◌%◌}
use lib.Dec.{eqb}
use Rattle.flags.proofs.Named.{clear_kept}
use Rattle.flags.proofs.Kept.clear.Goals as goal

pub returns : goal.returns
returns c p =
    let s = c in
    let a = s.args in
    let f = a.f in
    clear_kept f s.requires.0 s.requires.1 a.self.now.last a.self.now.sum a.self.now.over p c.marks-self.result
    (c.marks-self.ensures.0 ∙ ap (λ (z : Bool). z && eqb (f / 2 % 2) 0) c.zero.ensures)
    (c.marks-self.ensures.1 ∙ ap (λ (n : Bool). n && eqb (f / 4 % 2) 0) c.negative.ensures)

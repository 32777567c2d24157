-- `flags::Kept::set` meets its contract. Assumes nothing.
use mathlib.Core.Bool.{Bool, ◌||◌}
use mathlib.Core.Path.{ap, ◌∙◌}
use Rattle.word.specs.Psw.{bit_of}
use Rattle.flags.proofs.Named.{set-kept}
use Rattle.flags.proofs.Kept.set.Goals as goal

pub returns : goal.returns
returns c p =
    let s = c in
    let a = s.args in
    let f = a.f in
    set-kept f s.requires.0 s.requires.1 a.self.now.last a.self.now.sum a.self.now.over p c.marks-self.result
    (c.marks-self.ensures.0 ∙ ap (λ (z : Bool). z || bit_of 1 f) c.zero.ensures)
    (c.marks-self.ensures.1 ∙ ap (λ (n : Bool). n || bit_of 2 f) c.negative.ensures)

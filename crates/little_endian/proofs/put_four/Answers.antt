use Prim.Native.Nat.{ℕ, ◌+◌, ◌/◌}
use mathlib.Core.List.{List}
use mathlib.Core.Path.{ap, ◌∙◌}
use Rattle.little_endian.specs.Bytes.{two_put}
use Rattle.little_endian.proofs.put_four.Goals as goal

pub returns : goal.returns
returns c =
    let at-put-two = c in
    let at-start = c in
    let a = at-start.args in
    let low = at-put-two.put_two.ensures in
    c.put_two-2.ensures ∙ ap (λ (b : List ℕ). two_put b (a.i + 2) (a.v / 65536)) low

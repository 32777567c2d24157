-- `flags::Kept::condition` meets its contract. Assumes nothing.
use mathlib.Core.Bool.{Bool, not, beq}
use mathlib.Core.Path.{ap, ◌∙◌}
use Prim.Native.Nat.{◌%◌}
use lib.Dec.{eqb}
use Rattle.operands.proofs.Conditions.{paired}
use Rattle.flags.proofs.Kept.condition.Goals as goal

pub returns : goal.returns
returns c p =
    let s = c in
    let n = s.args.n in
    ap (λ (b : Bool). not (beq b (eqb (n % 2) 1))) (c.even_condition.ensures p) ∙ paired n _ s.requires

-- `flags::Kept::taken` meets its contract. Assumes nothing.
use native.Mathlib.Omega.{arith}
use mathlib.Core.Path.{◌∙◌}
use Rattle.flags.proofs.Conditions.{Numbered, numbered-ge, numbered-lt, numbered-always, numbered-same}
use Rattle.flags.proofs.Kept.taken.Goals as goal
use Rattle.flags.proofs.Kept.taken.Goals.{Joined-k, in-5, in-6, in-7, in_default}

numbered : (c : Joined-k) → Numbered c.args.k c.match-k.n
numbered c =
    elim c.match-k.branch [
      | in-5 w ↦ numbered-ge w.in-5.is w.n-is
      | in-6 w ↦ numbered-lt w.in-6.is w.n-is
      | in-7 w ↦ numbered-always w.in-7.is w.n-is
      | in_default w ↦ numbered-same c.requires (λ e. omega arith) (λ e. omega arith) (λ e. omega arith) w.n-is
    ]

pub condition-requires : goal.condition-requires
condition-requires c = (numbered c).0

pub returns : goal.returns
returns c p =
    let joined : Joined-k = search in
    c.condition.ensures p ∙ (numbered joined).1 _

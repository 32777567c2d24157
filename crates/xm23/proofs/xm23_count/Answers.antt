use Prim.Native.Nat.{ℕ, ◌*◌}
use mathlib.Core.Path.{ap}
use Rattle.isa_card.specs.Words.{count_reply}
use borrow.Author.Rules.{rules}
use Rattle.xm23.proofs.xm23_count.Goals as goal

pub returns : goal.returns
unfolding count_reply
returns c = record { reply = ap (λ (n : ℕ). n * 0x100) c.count_of.ensures.count }

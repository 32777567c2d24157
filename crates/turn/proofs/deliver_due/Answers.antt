use mathlib.Core.Path.{sym}
use native.Mathlib.Omega.{arith}
use Rattle.turn.proofs.Laws.{awaits-from, undisturbed, awaits-later}
use Rattle.turn.proofs.deliver_due.Goals as goal

pub returns-then-count-at : goal.returns-then-count-at
returns-then-count-at c =
    let a = c.requires.0 in
    let o = c.requires.1 in
    record {
      state = λ k h. sym (undisturbed _ _ _ _ a o _ (omega arith) c.if-count-at.true _);
      awaits = awaits-later _ _ _ _ a _ (omega arith);
    }

pub returns : goal.returns
returns c =
    let d = c.deliver-d.ensures in
    record { state = d.state; awaits = awaits-from _ _ _ _ _ d.behind c.awaiting-next.ensures }

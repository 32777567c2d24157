use borrow.Author.Tests.{lt-ltb, le-ltb}
use Rattle.turn.specs.Due.{due_of}
use Rattle.turn.proofs.due_at.Goals as goal

pub returns-then-k-events : goal.returns-then-k-events
unfolding due_of
returns-then-k-events c = rw (lt-ltb _ _ c.if-k-events.true) c.step_at.ensures

pub returns : goal.returns
unfolding due_of
returns c = rw (le-ltb _ _ c.if-k-events.false)

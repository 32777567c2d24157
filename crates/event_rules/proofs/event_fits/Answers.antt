use borrow.Author.Tests.{lt-ltb, le-ltb}
use Rattle.machine.specs.Refusal.{event_fits}
use Rattle.event_rules.proofs.event_fits.Goals as goal

pub returns-then-events-k-lt8 : goal.returns-then-events-k-lt8
unfolding event_fits
returns-then-events-k-lt8 c = simp (lt-ltb _ _ c.if-events-k-lt8.true, c.two_at.ensures)

pub returns-else-events-k-lt8 : goal.returns-else-events-k-lt8
unfolding event_fits
returns-else-events-k-lt8 c = simp (le-ltb _ _ c.if-events-k-lt8.false)

use Rattle.std.proofs.Common.{◌≡◌, ◌-◌, ◌<◌}
use Rattle.journal.specs.Ring.{journal_of, places_of}
use Rattle.journal.specs.Back.{lent_of, back_of}
use Rattle.going_back.proofs.go_back.Given as goal

abbrev pub invariant-loop : goal.invariant-loop
invariant-loop l = record {
  inside : l.p < places_of l.journal;
  same : back_of (l.k - l.counter) (lent_of l.memory l.state (journal_of l.journal (l.r.kept - l.counter) l.p))
      ≡ back_of l.k (lent_of l.initial.memory l.initial.state (journal_of l.journal l.r.kept l.initial.p));
}

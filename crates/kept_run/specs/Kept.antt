-- The journal that a run leaves, where one is lent (document 02, §8). Assumes nothing.
use Rattle.std.specs.Prelude.{ℕ, cond, List, eqb, length}
use Rattle.machine.specs.State.{State}
use Rattle.machine.specs.Events.{Event}
use Rattle.journal.specs.Ring.{Journal, journal_after}
use Rattle.journal_record.specs.declared.Ring.{Ring}
use Rattle.journal_record.specs.Ring.{journal_with}

-- after n steps from s; a journal of no length is none. [02 §8]
abbrev pub kept_over : List ℕ → Ring → List Event → State → ℕ → Journal
kept_over b r ev s n = cond (eqb (length b) 0) (journal_with b r) (journal_after ev s (journal_with b r) n)

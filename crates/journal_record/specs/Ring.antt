-- The ring as the code holds it: the journal's bytes lent, its two numbers by value (document 02, §8).
-- Assumes nothing.
use Rattle.std.specs.Prelude.{ℕ, ◌<◌, cond, List, length, ◌==◌}
use Rattle.journal.specs.Ring.{Journal, journal_of, keep}
use Rattle.journal.proofs.Ring.{RingFits}
use Rattle.journal_record.specs.declared.Ring.{Ring}

abbrev pub journal_with : List ℕ → Ring → Journal
journal_with b r = journal_of b r.kept r.place

-- a journal that is lent, and not one of no length, is one that a call does not refuse. [02 §8]
abbrev pub Lends : List ℕ → Ring → Type 0
Lends b r = 0 < length b → RingFits (journal_with b r)

-- the journal with one record more, where one is lent
abbrev pub kept_in : List ℕ → Ring → List ℕ → Journal
kept_in b r e = cond (length b == 0) (journal_with b r) (keep e (journal_with b r))

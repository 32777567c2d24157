-- Going back (document 02, §8). Assumes nothing.
use Rattle.std.specs.Prelude.{ℕ, zero, suc, ◌+◌, ◌-◌, cond, List, ltb}
use Rattle.journal.specs.Record.{state_out, memory_out}
use Rattle.journal.specs.Ring.{Journal, journal_of, places_of, record_at, preceding}

-- what is lent: memory, state record, journal with its two numbers. [02 §8]
pub record Lent : Type 0 where
  pub memory : List ℕ
  pub state : List ℕ
  pub journal : Journal

abbrev pub lent_of : (memory state : List ℕ) → Journal → Lent
lent_of memory state j = record { memory = memory; state = state; journal = j }

-- the journal one back: its bytes stay. [02 §8]
abbrev pub lowered : Journal → Journal
lowered j = journal_of j.bytes (j.kept - 1) (preceding (places_of j.bytes) j.place)

-- The newest record copied out, unchecked. [02 §8]
unfoldable pub one_back : Lent → Lent
one_back x =
    let j = lowered x.journal in
    let e = record_at j.bytes j.place in
    lent_of (memory_out e x.memory) (state_out e) j

-- "newest first" [02 §8]
unfoldable pub back_of : ℕ → Lent → Lent
back_of zero x = x
back_of (suc k) x = back_of k (one_back x)

-- "lowers both numbers by k (the place wrapping)": the place k before p, of r places, k at most r. [02 §8]
abbrev pub lowered_place : (r p k : ℕ) → ℕ
lowered_place r p k = cond (ltb p k) (p + r - k) (p - k)

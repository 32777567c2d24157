-- The journal as a ring of 64-byte records, no header (document 02, §8): the number kept and the next place go beside
-- it. Assumes nothing.
use Rattle.std.specs.Prelude.{ℕ, zero, suc, ◌+◌, ◌-◌, ◌*◌, ◌/◌, ◌%◌, Bool, cond, not, ◌&&◌, List, eqb, ltb, leb, length, take, drop}
use Rattle.std.proofs.lemmas.List.Edits.{sets}
use Rattle.machine.specs.State.{State}
use Rattle.machine.specs.Events.{Event}
use Rattle.machine.specs.Run.{run_of}
use Rattle.journal.specs.Record.{journal_record}

-- the journal's bytes, the number kept and the next place. [02 §8]
pub record Journal : Type 0 where
  pub bytes : List ℕ
  pub kept : ℕ
  pub place : ℕ

abbrev pub journal_of : List ℕ → (kept place : ℕ) → Journal
journal_of b kept place = record { bytes = b; kept = kept; place = place }

-- how many records there is room for, and the record at place p. [02 §8]
abbrev pub places_of : List ℕ → ℕ
places_of b = length b / 64

abbrev pub record_at : List ℕ → ℕ → List ℕ
record_at b p = take 64 (drop (64 * p) b)

-- the place after p and the one before it, of r places. [02 §8]
abbrev pub following : (r p : ℕ) → ℕ
following r p = cond (eqb (p + 1) r) 0 (p + 1)

abbrev pub preceding : (r p : ℕ) → ℕ
preceding r p = cond (eqb p 0) (r - 1) (p - 1)

-- one more kept, up to r: "the oldest overwritten when full". [02 §8]
abbrev pub one_more : (r kept : ℕ) → ℕ
one_more r kept = cond (ltb kept r) (suc kept) kept

-- the journal with one record more. [02 §8]
unfoldable pub keep : List ℕ → Journal → Journal
keep e j =
    journal_of
    (sets j.bytes (64 * j.place) e)
    (one_more (places_of j.bytes) j.kept)
    (following (places_of j.bytes) j.place)

-- "one 64-byte record per step": the journal after the first n steps of the run from s. [02 §8]
unfoldable pub journal_after : List Event → State → Journal → (n : ℕ) → Journal
journal_after ev s j zero = j
journal_after ev s j (suc n) = keep (journal_record ev (run_of ev s n).state) (journal_after ev s j n)

-- 14: "the journal's length is zero, above 65,536 or not a multiple of 64, the number kept above its records or the
-- next place not below them". [02 §8]
unfoldable pub journal_fits : Journal → Bool
journal_fits j =
    not (eqb (length j.bytes) 0)
    && leb (length j.bytes) 65536
    && eqb (length j.bytes % 64) 0
    && leb j.kept (places_of j.bytes)
    && ltb j.place (places_of j.bytes)

-- Loading a text of S-records: its verdict, then memory and PC (document 02, §2).
-- Assumes nothing.
use Rattle.std.specs.Prelude.{ℕ, ◌+◌, ⊤, cond, Result, Ok, Err, List, [], ◌∷◌, eqb}
use Rattle.std.proofs.lemmas.List.Edits.{sets}
use Rattle.text_lines.specs.Lines.{lines_of, none}
use Rattle.srec.specs.declared.Refused.{Refused}
use Rattle.srec.specs.declared.Refusal.{Refusal}
use Rattle.srec.specs.declared.Refusal.TheVariants.{Form}
use Rattle.srec.specs.Record.{kind_of, address_of, data_of, fault_of, Loadable}

-- a refusal, and the line at fault
abbrev pub verdict : Refusal → ℕ → Result ⊤ Refused
verdict refusal line = Err (record { refusal = refusal; line = line })

-- the verdict on a line of number k that is found to be `fault`, and on those after it, found to be `rest`
abbrev pub first_fault : ℕ → (fault : Result ⊤ Refusal) (rest : Result ⊤ Refused) → Result ⊤ Refused
first_fault k (Ok x) rest = rest
first_fault k (Err refusal) rest = verdict refusal k

-- The verdict on lines of which the first has number k: "first line first"; 10 where S9 is, "once every line has
-- passed, missing", at the line after the last. [02 §2]
unfoldable pub verdict_from : ℕ → List (List ℕ) → Result ⊤ Refused
verdict_from k [] = verdict Form k
verdict_from k (l ∷ ls) =
    first_fault k (fault_of (none ls) l) (cond (eqb (kind_of l) 57) (Ok tt) (verdict_from (k + 1) ls))

-- the verdict on a text. [02 §2]
abbrev pub verdict_of : List ℕ → Result ⊤ Refused
verdict_of t = verdict_from 1 (lines_of t)

-- "S1 loads bytes at a 16-bit address"; "S0 is passed over". [02 §2]
unfoldable pub stored_of : List ℕ → List ℕ → List ℕ
stored_of l m = cond (eqb (kind_of l) 49) (sets m (address_of l) (data_of l)) m

-- memory after the lines: "a later line wins over an earlier one on the same byte". [02 §2]
unfoldable pub memory_after : List (List ℕ) → List ℕ → List ℕ
memory_after [] m = m
memory_after (l ∷ ls) m = memory_after ls (stored_of l m)

-- "S9 .. sets PC". [02 §2]
unfoldable pub pc_at : List ℕ → ℕ → ℕ
pc_at l pc = cond (eqb (kind_of l) 57) (address_of l) pc

-- PC after the lines, "a number handed in and back". [02 §2]
unfoldable pub pc_after : List (List ℕ) → ℕ → ℕ
pc_after [] pc = pc
pc_after (l ∷ ls) pc = pc_after ls (pc_at l pc)

-- lines that can all be loaded
abbrev pub Sound : List (List ℕ) → Type 0
Sound [] = Unit
Sound (l ∷ ls) = Loadable l × Sound ls

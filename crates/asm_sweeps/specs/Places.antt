-- The second sweep: the names that a source gives, and the places of its statements (document 02, §12).
-- Assumes nothing.
use Rattle.std.specs.Prelude.{ℕ, ◌+◌, Bool, true, false, cond, ◌||◌, List, [], ◌∷◌, ◌++◌, leb, ℤ, pos, length, drop}
use Rattle.std.specs.Prelude.{Option, Some, None, Result, Ok, Err}
use Rattle.text_lines.specs.Lines.{lines_of}
use Rattle.asm_value.specs.declared.Lack.{Lack}
use Rattle.asm_value.specs.declared.Lack.TheVariants.{Unknown, Outside}
use Rattle.asm_text.specs.Text.{word, look_up}
use Rattle.asm_line.specs.declared.Line.{Line}
use Rattle.asm_line.specs.Line.{line_of}
use Rattle.asm_write.specs.Written.{Next, layout_of, next_of, name_value}
use Rattle.asm_sweeps.specs.declared.Tally.{Tally}
use Rattle.asm_sweeps.specs.Form.{end?}

-- A tally (declared in the code): the number of names given, the place, the number of the line, and the first lines
-- that were at fault with 18 and with 19.

-- the first line at fault: f, or else k
unfoldable pub first_of : (f : Option ℕ) (k : ℕ) → Option ℕ
first_of None k = Some k
first_of (Some f) k = Some f

-- this line has an unknown name, or one name too many: 18; or a value outside its range: 19. [02 §12]
abbrev pub note_unknown : Tally → Tally
note_unknown t =
    let u = first_of t.unknown t.line in
    record { count = t.count; place = t.place; line = t.line; unknown = u; outside = t.outside }

abbrev pub note_outside : Tally → Tally
note_outside t =
    let o = first_of t.outside t.line in
    record { count = t.count; place = t.place; line = t.line; unknown = t.unknown; outside = o }

abbrev pub note_lack : Lack → Tally → Tally
note_lack Unknown t = note_unknown t
note_lack Outside t = note_outside t

-- the fault of a value or of a statement's number, where it is at fault
abbrev pub note_fault : {A : Type 0} → Result A Lack → Tally → Tally
note_fault (Ok x) t = t
note_fault (Err e) t = note_lack e t

-- the place after a statement; where ORG's or BSS's value is at fault, it stays. [02 §12]
abbrev pub placed_at : Tally → Next → Tally
placed_at t (Ok n) = record { count = t.count; place = n; line = t.line; unknown = t.unknown; outside = t.outside }
placed_at t (Err e) = note_lack e t

-- the next line
abbrev pub next_line : Tally → Tally
next_line t =
    record { count = t.count; place = t.place; line = t.line + 1; unknown = t.unknown; outside = t.outside }

-- "at first 0". [02 §12]
abbrev pub no_tally : Tally
no_tally = record { count = 0; place = 0; line = 1; unknown = None; outside = None }

-- ---- names

-- names and values, first given first, and the tally
pub record Table : Type 0 where
  pub names : List (List ℕ)
  pub values : List ℤ
  pub tally : Tally

abbrev pub table : List (List ℕ) → List ℤ → Tally → Table
table ns vs t = record { names = ns; values = vs; tally = t }

-- a name is among those given
abbrev pub known? : Result ℤ Lack → Bool
known? (Ok z) = true
known? (Err e) = false

-- the number kept for a name: a value at fault is used nowhere
abbrev pub stored_of : Result ℤ Lack → ℤ
stored_of (Ok z) = z
stored_of (Err e) = pos 0

abbrev pub one_more : Tally → Tally
one_more t =
    record { count = t.count + 1; place = t.place; line = t.line; unknown = t.unknown; outside = t.outside }

-- "18 when a name is .. already given or the 1,025th": it is then not added; else it has its value, which is the place
-- before its statement or that of EQU. [02 §12]
unfoldable pub named_of : (n : List ℕ) → Result ℤ Lack → Table → Table
named_of n v b =
    cond (known? (look_up b.names b.values n) || leb 1024 (length b.names))
    (table b.names b.values (note_unknown b.tally))
    (table (b.names ++ (n ∷ [])) (b.values ++ (stored_of v ∷ [])) (one_more (note_fault v b.tally)))

-- ---- lines

-- the name before a statement, where there is one. [02 §12]
abbrev pub maybe_named : (l : List ℕ) → (name : Option ℕ) → Result ℤ Lack → Table → Table
maybe_named l None v b = b
maybe_named l (Some q) v b = named_of (word (drop q l)) v b

-- what a statement does, and the name before it: the name is given with the place before the statement. [02 §12]
abbrev pub line_after : (l : List ℕ) → Option Line → Table → Table
line_after l None b = b
line_after l (Some y) b =
    let after = table b.names b.values (placed_at b.tally (next_of b.tally.place (layout_of y.statement))) in
    maybe_named l y.name (name_value b.tally.place (layout_of y.statement)) after

-- a line, read with the names given above it: "only ORG, EQU and BSS need it given above". [02 §12]
abbrev pub read_above : (l : List ℕ) → Table → Option Line
read_above l b = line_of (look_up b.names b.values) l

abbrev pub next_on : Table → Table
next_on b = table b.names b.values (next_line b.tally)

-- the table after the lines up to END. [02 §12]
unfoldable pub table_from : List (List ℕ) → Table → Table
table_from [] b = b
table_from (l ∷ ls) b =
    let after = line_after l (read_above l b) b in
    let rest = table_from ls (next_on after) in
    cond (end? (read_above l b)) after rest

abbrev pub table_of : (source : List ℕ) → Table
table_of s = table_from (lines_of s) (table [] [] no_tally)

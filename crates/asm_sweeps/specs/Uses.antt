-- The third sweep: the values of all other statements, with all names; and the verdict (document 02, §12).
-- Assumes nothing.
use Rattle.std.specs.Prelude.{ℕ, min, cond, List, [], ◌∷◌, ℤ, Option, Some, None, Result, Ok, Err}
use Rattle.std.specs.Option.{option_or}
use Rattle.std.specs.Result.{result_and}
use Rattle.text_lines.specs.Lines.{lines_of}
use Rattle.asm_value.specs.declared.Lack.{Lack}
use Rattle.asm_text.specs.Text.{look_up}
use Rattle.asm_line.specs.declared.Line.{Line}
use Rattle.asm_line.specs.Line.{line_of}
use Rattle.asm_write.specs.Written.{Next, layout_of, next_of, used_of}
use Rattle.asm_sweeps.specs.declared.Tally.{Tally}
use Rattle.asm_sweeps.specs.declared.Fault.{Fault}
use Rattle.asm_sweeps.specs.declared.Fault.TheVariants.{Form, Unknown, Outside}
use Rattle.asm_sweeps.specs.declared.Refusal.{Refusal}
use Rattle.asm_sweeps.specs.Form.{end?, form_of}
use Rattle.asm_sweeps.specs.Places.{note_fault, next_line, no_tally, table_of}

-- ---- uses

-- the place after a statement, as in the second sweep, whose faults ORG, EQU and BSS are
unfoldable pub place_after : (p : ℕ) → Next → ℕ
place_after p (Ok n) = n
place_after p (Err e) = p

abbrev pub at_place : Tally → ℕ → Tally
at_place t p = record { count = t.count; place = p; line = t.line; unknown = t.unknown; outside = t.outside }

-- a statement's fault: 18 where it names an unknown name, 19 where its value does not fit or its bytes may not stand
-- at the place. [02 §12]
abbrev pub use_after : Option Line → Tally → Tally
use_after None t = t
use_after (Some y) t =
    at_place (note_fault (used_of t.place y.statement) t) (place_after t.place (next_of t.place (layout_of y.statement)))

-- the tally after the lines up to END, each read with the same names. [02 §12]
unfoldable pub uses_from : (look : List ℕ → Result ℤ Lack) → List (List ℕ) → Tally → Tally
uses_from look [] t = t
uses_from look (l ∷ ls) t =
    let after = use_after (line_of look l) t in
    let rest = uses_from look ls (next_line after) in
    cond (end? (line_of look l)) after rest

abbrev pub uses_of : (look : List ℕ → Result ℤ Lack) → (source : List ℕ) → Tally
uses_of look s = uses_from look (lines_of s) no_tally

-- the values of all names that a source gives
abbrev pub names_of : (source : List ℕ) → List ℕ → Result ℤ Lack
names_of s = look_up (table_of s).names (table_of s).values

-- ---- the verdict

abbrev pub refusal : Fault → (line : ℕ) → Refusal
refusal k n = record { kind = k; line = n }

-- refused with a fault, where a line is at fault with it
abbrev pub refused : Fault → (line : Option ℕ) → Result Unit Refusal
refused k None = Ok tt
refused k (Some n) = Err (refusal k n)

-- the lesser of two lines at fault
unfoldable pub least_of : (a b : Option ℕ) → Option ℕ
least_of None b = b
least_of (Some a) None = Some a
least_of (Some a) (Some b) = Some (min a b)

-- "17 is tried over the whole source, then 18, then 19", each with the first line at fault; but of 19 those of places
-- and names come before those of uses, since a use of a value that is at fault itself has none to fit. [02 §12]
unfoldable pub verdict_for : (form : Option ℕ) (places uses : Tally) → Result Unit Refusal
verdict_for form t u =
    result_and (refused Form form)
    (result_and (refused Unknown (least_of t.unknown u.unknown))
    (refused Outside (option_or t.outside u.outside)))

-- the verdict on a source. [02 §12]
unfoldable pub verdict_of : (source : List ℕ) → Result Unit Refusal
verdict_of s = verdict_for (form_of s) (table_of s).tally (uses_of (names_of s) s)

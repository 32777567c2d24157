-- The program's input and which line is printed for it (document 01, "Sheet for the markers").
-- Assumes nothing.
use Rattle.std.specs.Prelude.{ℕ, cond, List, ltb, length, take, drop, Result, Err}
use Rattle.machine.specs.declared.Refusal.{Refusal}
use Rattle.machine.specs.declared.Refusal.TheVariants.{MemoryLength, RecordLength}
use Rattle.machine.specs.Record.{four_at, state_in}
use Rattle.machine.specs.Events.{events_of}
use Rattle.machine.specs.Run.{Run, run_of}
use Rattle.machine.specs.Refusal.{verdict_of, refusal_number, accepted?}
use Rattle.resume.specs.Deepest.{deepest_of}
use Rattle.line_text.specs.Line.{line_of, refused_line}

-- Standard input: n (4 bytes, little-endian), state record, memory, events. [01 Sheet for the markers]
abbrev pub steps_in : List ℕ → ℕ
steps_in b = four_at b 0

abbrev pub record_in : List ℕ → List ℕ
record_in b = take 32 (drop 4 b)

abbrev pub memory_in : List ℕ → List ℕ
memory_in b = take 65536 (drop 36 b)

abbrev pub events_in : List ℕ → List ℕ
events_in b = drop 65572 b

-- "Under 36 bytes is 3; short memory is 1"; then the run call's own order. [01 Sheet for the markers]
unfoldable pub input_verdict : List ℕ → Result (Unit {0}) Refusal
input_verdict b =
    cond (ltb (length b) 36) (Err RecordLength)
    (cond (ltb (length b) 65572) (Err MemoryLength)
    (verdict_of (memory_in b) (record_in b) (events_in b) (steps_in b)))

-- the run that an accepted input asks for. [01 Sheet for the markers]
abbrev pub run_in : List ℕ → Run
run_in b = run_of (events_of (events_in b)) (state_in (record_in b) (memory_in b)) (steps_in b)

-- the most frames that were open together in its steps. [02 §10]
abbrev pub deepest_in : List ℕ → ℕ
deepest_in b = deepest_of (events_of (events_in b)) (state_in (record_in b) (memory_in b)) (run_in b).steps

abbrev pub answered : Result (Unit {0}) Refusal → Run → (deepest : ℕ) → List ℕ
answered v x deepest = cond (accepted? v) (line_of x deepest) (refused_line (refusal_number v))

-- the line printed for an input. [01 Sheet for the markers]
unfoldable pub sheet_of : List ℕ → List ℕ
sheet_of b = answered (input_verdict b) (run_in b) (deepest_in b)

-- the memory lent for the run: the run's, or as handed over where the input is refused. [01 Who can be turned back]
unfoldable pub memory_after : (b memory : List ℕ) → List ℕ
memory_after b memory = cond (accepted? (input_verdict b)) (run_in b).state.mem memory

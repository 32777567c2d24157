-- An input from its parts, and what an accepted one has settled. The parts lie at fixed places, so the lengths that the verdict has judged
-- say that each part is whole, and the run of the parts is the run of the input. Assumes nothing.
use Prim.Native.Nat.{ℕ, ◌+◌, ◌-◌, ◌≤◌}
use mathlib.Core.Path.{◌≡◌, sym, ap, ◌∙◌}
use mathlib.Core.Bool.{true, cond}
use mathlib.Core.List.{List}
use native.Mathlib.Omega.{arith}
use lib.Dec.{ltb}
use lib.ListN.{length, take, drop, length-drop}
use lib.Seq.{take_all}
use Rattle.std.specs.Prelude.{Result, Ok, Err}
use Rattle.machine.specs.declared.Depth.{Depth}
use Rattle.machine.specs.declared.Machine.{Machine}
use Rattle.machine.specs.declared.Refusal.{Refusal}
use Rattle.machine.specs.declared.Refusal.TheVariants.{MemoryLength, RecordLength}
use Rattle.machine.specs.State.{state_of}
use Rattle.machine.specs.Record.{state_in}
use Rattle.machine.specs.Events.{event_count, events_of}
use Rattle.machine.specs.Run.{Run, ran, run_of}
use Rattle.machine.specs.Refusal.{events_fit_below, in_order_below, verdict_of, refusal_number, accepted?}
use Rattle.machine.specs.Depth.{deepest_from}
use Rattle.machine_laws.specs.Passed.{Passed}
use Rattle.machine_laws.proofs.Cases.{not-lt, ge-of}
use Rattle.machine_laws.proofs.Records.{passed, not-met}
use Rattle.turn.proofs.Laws.{events-fit, events-ordered, count_fits}
use Rattle.resume.specs.Deepest.{deepest_of}
use Rattle.resume.proofs.Deepest.{depth-carried}
use Rattle.line_text.specs.Line.{line_of, refused_line}
use Rattle.printed_line.specs.Sheet.{steps_in, record_in, memory_in, events_in, input_verdict, run_in, deepest_in}
use Rattle.printed_line.specs.Sheet.{answered, sheet_of, memory_after}

-- the last part, cut by the length
rest : (b : List ℕ) (k : ℕ) → take (length b - k) (drop k b) ≡ drop k b
rest b k = take_all (length b - k) (drop k b) (simp length-drop (omega arith))

-- the verdict on an input of at least 65,572 bytes, from its parts
pub verdict-of-parts : (b : List ℕ) {m r e : List ℕ} {n : ℕ} {v : Result (Unit {0}) Refusal} → 65572 ≤ length b
    → n ≡ steps_in b
    → r ≡ record_in b
    → m ≡ memory_in b
    → e ≡ take (length b - 65572) (drop 65572 b)
    → v ≡ verdict_of m r e n
    → v ≡ input_verdict b
unfolding input_verdict
verdict-of-parts b h en er em ee ev =
    let h36 : 36 ≤ length b = omega arith in
    rw (not-lt h36, not-lt h, ev, en, er, em, ee, rest b 65572)

-- a run from an input's parts gives the line of the run that the input asks for, and leaves its memory
pub run-of-parts : (b : List ℕ) (m x : Machine) {mem after r e t : List ℕ} {n k d : ℕ}
    → mem ≡ memory_in b
    → n ≡ steps_in b
    → r ≡ record_in b
    → ((a : List ℕ) → state_of m a ≡ state_in r a)
    → e ≡ take (length b - 65572) (drop 65572 b)
    → ran (state_of x after) k ≡ run_of (events_of e) (state_of m mem) n
    → d ≡ deepest_from (events_of e) (state_of m mem) k
    → ((a : List ℕ) → t ≡ line_of (ran (state_of x a) k) d)
    → (t ≡ line_of (run_in b) (deepest_in b)) × (after ≡ (run_in b).state.mem)
run-of-parts b m x {mem} {after} {k = k} {d = d} em en er es ee ex ed et =
    let whole : ran (state_of x after) k ≡ run_in b = ex ∙ rw (es mem, em, en, er, ee, rest b 65572) in
    let carried : d ≡ deepest_from (events_of (events_in b)) (state_in (record_in b) (memory_in b)) k =
    ed ∙ rw (es mem, em, er, ee, rest b 65572) in
    let steps : k ≡ (run_in b).steps = ap (λ (r : Run). r.steps) whole in
    let figure : d ≡ deepest_in b =
    carried
    ∙ ap (λ (p : Depth). p.deepest) (depth-carried (events_of (events_in b)) (state_in (record_in b) (memory_in b)) k)
    ∙ ap (deepest_of (events_of (events_in b)) (state_in (record_in b) (memory_in b))) steps in
    (et after ∙ (λ i. line_of (whole i) (figure i)), ap (λ (r : Run). r.state.mem) whole)

-- ---- what an accepted input has settled

pub record Ready (b : List ℕ) : Type 0 where
  pub size : 65572 ≤ length b
  pub rules : Passed (memory_in b) (record_in b) (events_in b) (steps_in b)

pub ready : (b : List ℕ) → input_verdict b ≡ Ok tt → Ready b
unfolding input_verdict
ready b e =
    let whole = verdict_of (memory_in b) (record_in b) (events_in b) (steps_in b) in
    let p = not-met (ltb (length b) 36) RecordLength (cond (ltb (length b) 65572) (Err MemoryLength) whole) e in
    let q = not-met (ltb (length b) 65572) MemoryLength whole p.1 in
    record { size = ge-of q.0; rules = passed (memory_in b) (record_in b) (events_in b) (steps_in b) q.1 }

-- ---- the needs of a run

pub run-ready : (b : List ℕ) (m : Machine) {r e : List ℕ} {n : ℕ} → Ready b
    → n ≡ steps_in b
    → r ≡ record_in b
    → ((a : List ℕ) → state_of m a ≡ state_in r a)
    → e ≡ take (length b - 65572) (drop 65572 b)
    → (m.rest.count + n ≤ 4294967295) × (in_order_below e (event_count e) ≡ true) × (events_fit_below e (event_count e) ≡ true)
run-ready b m rb en er es ee =
    let p = rb.rules in
    let state : (a : List ℕ) → state_of m a ≡ state_in (record_in b) a = λ a. es a ∙ ap (λ (l : List ℕ). state_in l a) er in
    let count = count_fits (memory_in b) (record_in b) (events_in b) (steps_in b) p m state in
    let ordered = events-ordered (memory_in b) (record_in b) (events_in b) (steps_in b) p in
    let fit = events-fit (memory_in b) (record_in b) (events_in b) (steps_in b) p in
    rw (en, ee, rest b 65572) (count, ordered, fit)

-- ---- the line of an input, and the memory lent for its run

pub sheet-accepted : (b : List ℕ) → input_verdict b ≡ Ok tt → sheet_of b ≡ line_of (run_in b) (deepest_in b)
unfolding sheet_of
sheet-accepted b e = ap (λ (v : Result (Unit {0}) Refusal). answered v (run_in b) (deepest_in b)) e

pub sheet-refused : (b : List ℕ) (x : Refusal) {k : ℕ} → input_verdict b ≡ Err x → k ≡ refusal_number (Err x)
    → refused_line k ≡ sheet_of b
unfolding sheet_of
sheet-refused b x e ek =
    ap refused_line ek ∙ sym (ap (λ (v : Result (Unit {0}) Refusal). answered v (run_in b) (deepest_in b)) e)

abbrev left : Result (Unit {0}) Refusal → (b memory : List ℕ) → List ℕ
left v b memory = cond (accepted? v) (run_in b).state.mem memory

pub memory-accepted : (b memory : List ℕ) → input_verdict b ≡ Ok tt → memory_after b memory ≡ (run_in b).state.mem
unfolding memory_after
memory-accepted b memory e = ap (λ (v : Result (Unit {0}) Refusal). left v b memory) e

pub memory-refused : (b memory : List ℕ) (x : Refusal) → input_verdict b ≡ Err x → memory ≡ memory_after b memory
unfolding memory_after
memory-refused b memory x e = sym (ap (λ (v : Result (Unit {0}) Refusal). left v b memory) e)

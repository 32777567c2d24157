-- An input longer than any that is accepted gives the same line when it is cut off, so a reader of the input may stop
-- after 98,348 bytes: 36, the memory, 4,096 event records and one record more. Assumes nothing.
use Prim.Native.Nat.{ℕ, zero, suc, ◌+◌, ◌%◌, ◌<◌, ◌≤◌}
use mathlib.Core.Path.{◌≡◌, refl, sym, ap, ◌∙◌}
use mathlib.Core.Bool.{Bool, true, false, cond, not, and-false}
use mathlib.Core.List.{List, [], ◌∷◌}
use native.Mathlib.Omega.{arith}
use lib.Dec.{eqb, ltb}
use lib.ListN.{length, take, drop, length-drop}
use lib.Seq.{take_all, take-nil, get_or-take, take-take, length-take-le}
use Rattle.std.specs.Prelude.{Result, Err}
use Rattle.machine.specs.declared.Refusal.{Refusal}
use Rattle.machine.specs.declared.Refusal.TheVariants.{MemoryLength, StepCount, RecordLength, RecordBits, EventsLength}
use Rattle.machine.specs.Record.{four_at}
use Rattle.machine.specs.Run.{Run}
use Rattle.machine.specs.Refusal.{record_fits, events_fit, verdict_of}
use Rattle.machine_laws.proofs.Cases.{bool_cases, not-lt, not-le, lt_of, ge-of}
use Rattle.printed_line.specs.Sheet.{steps_in, record_in, memory_in, events_in, input_verdict, run_in, deepest_in, answered, sheet_of}

-- a part that lies within the first k elements
part-take : (n m k : ℕ) (b : List ℕ) → m + n ≤ k → take n (drop m (take k b)) ≡ take n (drop m b)
part-take n zero k b h = take-take n k b (omega arith)
part-take n (suc m) k [] h = ap (λ (l : List ℕ). take n (drop (suc m) l)) (take-nil k)
part-take n (suc m) zero (x ∷ b) h = let z : ⊥ = omega arith in absurd z
part-take n (suc m) (suc k) (x ∷ b) h = part-take n m k b (omega arith)

steps-take : (k : ℕ) (b : List ℕ) → 4 ≤ k → steps_in (take k b) ≡ steps_in b
steps-take k b h =
    rw (
      get_or-take k b 0 0 (omega arith),
      get_or-take k b 1 0 (omega arith),
      get_or-take k b 2 0 (omega arith),
      get_or-take k b 3 0 (omega arith),
    )

-- the first of five tests that is met, of those before rule 6
abbrev first_met : (a b c d e : Bool) → Result (Unit {0}) Refusal
first_met a b c d e =
    cond a (Err MemoryLength)
    (cond b (Err StepCount) (cond c (Err RecordLength) (cond d (Err StepCount) (cond e (Err RecordBits) (Err EventsLength)))))

-- the verdict on a list of events that is too long
long_verdict : (memory r : List ℕ) (n : ℕ) → Result (Unit {0}) Refusal
long_verdict memory r n =
    first_met (not (eqb (length memory) 65536)) (ltb 1000000 n) (not (eqb (length r) 32))
    (ltb 4294967295 (four_at r 22 + n)) (not (record_fits r))

verdict-long : (memory r events : List ℕ) (n : ℕ) → 32768 < length events → verdict_of memory r events n ≡ long_verdict memory r n
unfolding verdict_of long_verdict
verdict-long memory r events n h =
    let unfit : events_fit (length events) ≡ false = rw (not-le h) (and-false (eqb (length events % 8) 0)) in
    rw unfit

-- the line of a refusal does not depend on the run
first-fixed : (a b c d e : Bool) (x y : Run) (f g : ℕ) → answered (first_met a b c d e) x f ≡ answered (first_met a b c d e) y g
first-fixed true b c d e x y f g = refl
first-fixed false true c d e x y f g = refl
first-fixed false false true d e x y f g = refl
first-fixed false false false true e x y f g = refl
first-fixed false false false false true x y f g = refl
first-fixed false false false false false x y f g = refl

long-fixed : (memory r : List ℕ) (n : ℕ) (x y : Run) (f g : ℕ)
    → answered (long_verdict memory r n) x f ≡ answered (long_verdict memory r n) y g
unfolding long_verdict
long-fixed memory r n x y f g =
    first-fixed
    (not (eqb (length memory) 65536)) (ltb 1000000 n) (not (eqb (length r) 32)) (ltb 4294967295 (four_at r 22 + n)) (not (record_fits r))
    x y f g

input-long : (b : List ℕ) → 98341 ≤ length b → input_verdict b ≡ long_verdict (memory_in b) (record_in b) (steps_in b)
unfolding input_verdict
input-long b h =
    let e : 32768 < length (events_in b) = simp length-drop (omega arith) in
    let e36 : 36 ≤ length b = omega arith in
    let e65572 : 65572 ≤ length b = omega arith in
    rw (not-lt e36, not-lt e65572) (verdict-long (memory_in b) (record_in b) (events_in b) (steps_in b) e)

-- the parts that the verdict on a long input reads are the same once it is cut off
long-take : (k : ℕ) (b : List ℕ) → 98348 ≤ k
    → long_verdict (memory_in (take k b)) (record_in (take k b)) (steps_in (take k b))
    ≡ long_verdict (memory_in b) (record_in b) (steps_in b)
long-take k b h =
    rw (part-take 65536 36 k b (omega arith), part-take 32 4 k b (omega arith), steps-take k b (omega arith))

pub cut_off : (k : ℕ) (b : List ℕ) → 98348 ≤ k → sheet_of (take k b) ≡ sheet_of b
unfolding sheet_of
cut_off k b h =
    bool_cases (ltb k (length b))
    (λ q.
    let lt : k < length b = lt_of q in
    let l : length (take k b) ≡ k = length-take-le k b (omega arith) in
    let short : input_verdict (take k b) ≡ long_verdict (memory_in b) (record_in b) (steps_in b) =
    input-long (take k b) (omega arith) ∙ long-take k b h in
    let long : input_verdict b ≡ long_verdict (memory_in b) (record_in b) (steps_in b) = input-long b (omega arith) in
    ap (λ (v : Result (Unit {0}) Refusal). answered v (run_in (take k b)) (deepest_in (take k b))) short
    ∙ long-fixed (memory_in b) (record_in b) (steps_in b) (run_in (take k b)) (run_in b) (deepest_in (take k b)) (deepest_in b)
    ∙ sym (ap (λ (v : Result (Unit {0}) Refusal). answered v (run_in b) (deepest_in b)) long))
    (λ q. ap sheet_of (take_all k b (ge-of q)))

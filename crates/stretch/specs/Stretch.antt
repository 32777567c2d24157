-- A stretch of uneventful steps in which no event is due and no line waits above the priority.
-- Assumes nothing.
use Rattle.std.specs.Prelude.{◌≡◌, ℕ, ◌+◌, ◌-◌, ◌*◌, ◌%◌, ◌<◌, ◌≤◌, Bool, true, false, ◌⊎◌, List, length, ◌≢◌, slice_index, slice_set}
use Rattle.word.specs.Psw.{asleep?, current}
use Rattle.machine.specs.State.{State}
use Rattle.machine.specs.Events.{Event}
use Rattle.machine.specs.Devices.{deliver_at}
use Rattle.machine.specs.Cex.{skips?, lowered}
use Rattle.machine.specs.Entry.{best, above}
use Rattle.machine.specs.Step.{plan_of, finished}
use Rattle.machine.specs.Run.{ran, run_of}
use Rattle.machine.specs.Uneventful.{uneventful?, Uneventful}
use Rattle.stretch_registers.specs.Effected.{left_alone, odd}
use Rattle.stretch_memory.specs.Served.{running, Untouched}

-- No event is due in the steps from a up to b. [01 One step, in order, 1]
abbrev pub Undisturbed : List Event → (a b : ℕ) → Type 0
Undisturbed ev a b = (k : ℕ) → a ≤ k → k < b → (s : State) → deliver_at k ev s ≡ s

-- SLP is clear and R7 is there. [01 One step, in order, 4; 01 State and memory]
abbrev pub Awake : List ℕ → (psw : ℕ) → Type 0
Awake regs psw = (asleep? psw ≡ false) × (7 < length regs)

-- PC is even too: no return, no sleep and no fault 9. [01 One step, in order, 2, 4, 5]
abbrev pub Fetching : List ℕ → (psw : ℕ) → Type 0
Fetching regs psw = (slice_index regs 7 % 2 ≡ 0) × Awake regs psw

-- No line waits whose priority is above p. [01 One step, in order, 3]
abbrev pub NoneAbove : List ℕ → (lines p : ℕ) → Type 0
NoneAbove m l p = above m (best l m) p ≡ false

-- j steps from s, all uneventful, lead to v. [01 One step, in order]
abbrev pub Passes : List Event → (s v : State) (j : ℕ) → Type 0
Passes ev s v j = (ran v j ≡ run_of ev s j) × Uneventful ev s j

-- One step, points 2 to 7, of a machine with the lines l, none of them above the priority. [01 One step, in order]
abbrev pub OneStep :
    (l : ℕ) (regs : List ℕ) (psw cex : ℕ) (m regs' : List ℕ) (psw' cex' : ℕ) → List ℕ → Type 0
OneStep l regs psw cex m regs' psw' cex' m' =
    NoneAbove m l (current psw) → NoneAbove m' l (current psw')
    × ((n : ℕ) → running regs' psw' cex' l (n + 1) m' ≡ finished (running regs psw cex l n m))
    × ((n : ℕ) → uneventful? (plan_of (running regs psw cex l n m)).act ≡ true)

-- j such steps one after the other, in which no event is due.
abbrev pub Reaches :
    (l : ℕ) (regs : List ℕ) (psw cex : ℕ) (m regs' : List ℕ) (psw' cex' : ℕ) → List ℕ → ℕ → Type 0
Reaches l regs psw cex m regs' psw' cex' m' j =
    NoneAbove m l (current psw) → NoneAbove m' l (current psw')
    × ((ev : List Event) (k : ℕ) → Undisturbed ev k (k + j) →
    Passes ev (running regs psw cex l k m) (running regs' psw' cex' l (k + j) m') j)

-- What has come to the one machine comes to the other in i more steps.
abbrev pub Goes : (l : ℕ) (regs : List ℕ) (psw cex : ℕ) (m regs' : List ℕ) (psw' cex' : ℕ) → List ℕ → ℕ → Type 0
Goes l regs psw cex m regs' psw' cex' m' i =
    (r : List ℕ) (p x : ℕ) (o : List ℕ) (j : ℕ) → Reaches l r p x o regs psw cex m j →
    Reaches l r p x o regs' psw' cex' m' (j + i)

-- `free` is true only where none of the lines l waits. [01 One step, in order, 3]
abbrev pub FreeOf : (free : Bool) → (l : ℕ) → Type 0
FreeOf free l = free ≡ true → l ≡ 0

-- What the code of a step answers, PC being in pc and x the CEX state with its count lowered: left alone with PC past
-- the word, or one step, whatever the lines and the CEX state before it. [01 One step, in order; 01 CEX]
abbrev pub Stepped :
    (free : Bool) → (pc : ℕ) (regs : List ℕ) (psw x : ℕ) (m regs' : List ℕ) (psw' cex' : ℕ) → List ℕ → (r : ℕ) → Type 0
Stepped free pc regs psw x m regs' psw' cex' m' r =
    ((l c : ℕ) → FreeOf free l → skips? c ≡ false → lowered c ≡ x →
    OneStep l (slice_set regs 7 (pc % 65536)) psw c m (slice_set regs' 7 (r % 65536)) psw' cex' m')
    × (r < left_alone → r % 2 ≡ 0)
    × Awake regs' psw'
    × (r < 2 * odd)
    × (x % 64 ≡ 0 → cex' % 64 ≡ 0)

abbrev pub Stepping :
    (free : Bool) → (pc : ℕ) (regs : List ℕ) (psw x : ℕ) (m regs' : List ℕ) (psw' cex' : ℕ) → List ℕ → (r : ℕ) → Type 0
Stepping free pc regs psw x m regs' psw' cex' m' r =
    ((r ≡ left_alone) × Untouched (slice_set regs 7 ((pc % 65536 + 2) % 65536)) psw x m regs' psw' cex' m')
    ⊎ ((r ≢ left_alone) × Stepped free pc regs psw x m regs' psw' cex' m' r)

-- Some steps, the first from any CEX state that has x for its lowered one, or none.
abbrev pub Walked :
    (free : Bool) → (regs : List ℕ) (psw x : ℕ) (m regs' : List ℕ) (psw' cex' : ℕ) → List ℕ → (j : ℕ) → Type 0
Walked free regs psw x m regs' psw' cex' m' j =
    ((j ≡ 0) × Untouched regs psw x m regs' psw' cex' m')
    ⊎ ((0 < j)
    × ((l c : ℕ) → FreeOf free l → skips? c ≡ false → lowered c ≡ x → Goes l regs psw c m regs' psw' cex' m' j))

-- The next c words are skipped by the block of the CEX state x, and each takes u from it. [01 CEX]
abbrev pub SkippedPart : (x c u : ℕ) → Type 0
SkippedPart x c u = (j : ℕ) → j < c → (skips? (x - j * u) ≡ true) × (lowered (x - j * u) ≡ x - (j + 1) * u)

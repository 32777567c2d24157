-- One instruction, with the memory it reads and writes. Its answer r is as in Effected: left_alone where it was left
-- alone, else the next PC in its low sixteen bits.
-- Assumes nothing.
use Rattle.std.specs.Prelude.{◌≡◌, ℕ, ◌+◌, ◌*◌, ◌%◌, ◌<◌, Bool, true, false, ◌⊎◌, List, ◌≢◌, slice_set}
use Rattle.isa.specs.declared.Instr.{Instr}
use Rattle.machine.specs.State.{Core, State, core_of}
use Rattle.machine.specs.Effect.{effect_of}
use Rattle.machine.specs.Step.{Plan, executed, perform, closed}
use Rattle.stretch_registers.specs.Effected.{left_alone, odd, Calm}
use Rattle.stretch_memory.specs.Ordinary.{ordinary?}

-- a machine that is not halted, with the lines l, the count n and the memory m. [01 State and memory]
abbrev pub running : List ℕ → (psw cex l n : ℕ) → List ℕ → State
running regs psw cex l n m = record { core = core_of regs psw cex; lines = l; halted = false; count = n; mem = m }

-- a plan carried out and counted. [01 One step, in order]
abbrev pub carried_out : Plan → (l n : ℕ) → List ℕ → State
carried_out p l n m = closed (perform p.act p.core l m) n m

-- Point 7 of the step, whatever the core b from before it. `free` says that no line waits. [01 One step, in order, 7]
abbrev pub Served :
    (free : Bool) → Instr → (regs : List ℕ) (psw cex : ℕ) (m regs' : List ℕ) (psw' cex' : ℕ) → List ℕ → (r : ℕ) → Type 0
Served free x regs psw cex m regs' psw' cex' m' r =
    (r ≢ left_alone)
    × ((b : Core) (l n : ℕ) →
    running (slice_set regs' 7 (r % 65536)) psw' cex' l (n + 1) m'
    ≡ carried_out (executed b (effect_of (core_of regs psw cex) x) m) l n m)
    × (r < left_alone → r % 2 ≡ 0)
    × Calm free psw psw'
    × (r < 2 * odd)
    × (cex % 64 ≡ 0 → cex' % 64 ≡ 0)
    × (ordinary? (effect_of (core_of regs psw cex) x).access ≡ true)

abbrev pub Untouched : (regs : List ℕ) (psw cex : ℕ) (m regs' : List ℕ) (psw' cex' : ℕ) → List ℕ → Type 0
Untouched regs psw cex m regs' psw' cex' m' = (regs' ≡ regs) × (psw' ≡ psw) × (cex' ≡ cex) × (m' ≡ m)

abbrev pub Taken :
    (free : Bool) → Instr → (regs : List ℕ) (psw cex : ℕ) (m regs' : List ℕ) (psw' cex' : ℕ) → List ℕ → (r : ℕ) → Type 0
Taken free x regs psw cex m regs' psw' cex' m' r =
    ((r ≡ left_alone) × Untouched regs psw cex m regs' psw' cex' m') ⊎ Served free x regs psw cex m regs' psw' cex' m' r

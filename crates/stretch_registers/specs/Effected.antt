-- What is said of one word that is done at once and touches registers, PSW and the CEX state alone. Its answer r is
-- left_alone where it was left alone, and so was everything; any other has the next PC for its low sixteen bits, and is
-- above left_alone where that PC may be odd.
-- Assumes nothing.
use Rattle.std.specs.Prelude.{ℕ, ◌<◌, ◌≤◌, ◌*◌, ◌/◌, ◌%◌, Bool, true, false, List, ◌⊎◌, ◌≡◌, get_or, set}
use Rattle.word.specs.Width.{width_of}
use Rattle.word.specs.Psw.{asleep?, current}
use Rattle.alu.specs.declared.Op.{Op}
use Rattle.alu.specs.declared.Computed.{Computed}
use Rattle.alu.specs.Alu.{alu_of}
use Rattle.isa.specs.declared.Instr.{Instr}
use Rattle.machine.specs.State.{core_of}
use Rattle.machine.specs.Effect.{effect_of, plainly, put_current}

-- No PC: the answer for a word that was left alone. A PC that may be odd is answered with odd added to it.
abbrev pub left_alone : ℕ
left_alone = 1048576

abbrev pub odd : ℕ
odd = 2 * left_alone

-- pc is PC past the instruction, even and not yet wrapped. [01 State and memory]
abbrev pub Past : (pc : ℕ) → List ℕ → Type 0
Past pc regs = (pc % 65536 ≡ get_or regs 7 0) × (pc % 2 ≡ 0) × (pc ≤ 65536)

-- SLP and the current priority stay. [01 One step, in order, 3, 4]
abbrev pub Keeps : (psw psw' : ℕ) → Type 0
Keeps psw psw' = (asleep? psw' ≡ asleep? psw) × (current psw' ≡ current psw)

-- SLP stays, and the current priority too where a line may wait: `free` says that none does.
-- [01 One step, in order, 3, 4]
abbrev pub Calm : (free : Bool) → (psw psw' : ℕ) → Type 0
Calm free psw psw' = (asleep? psw' ≡ asleep? psw) × (free ≡ false → current psw' ≡ current psw)

-- The instruction is executed, asks for no memory, and opens no CEX block. [01 One step, in order, 7; 01 CEX]
abbrev pub Done : Instr → (regs : List ℕ) (psw cex : ℕ) (regs' : List ℕ) (psw' cex' r : ℕ) → Type 0
Done x regs psw cex regs' psw' cex' r =
    (r ≡ left_alone → ⊥)
    × (effect_of (core_of regs psw cex) x ≡ plainly (core_of (set regs' 7 (r % 65536)) psw' cex'))
    × (r < left_alone → r % 2 ≡ 0)
    × Keeps psw psw'
    × (r < 2 * odd)
    × (cex % 64 ≡ 0 → cex' % 64 ≡ 0)

abbrev pub Tried : Instr → (regs : List ℕ) (psw cex : ℕ) (regs' : List ℕ) (psw' cex' r : ℕ) → Type 0
Tried x regs psw cex regs' psw' cex' r =
    ((r ≡ left_alone) × (regs' ≡ regs) × (psw' ≡ psw) × (cex' ≡ cex)) ⊎ Done x regs psw cex regs' psw' cex' r

-- An operation on the register of the word's low three bits, which is not R7. [01 Arithmetic]
abbrev pub outcome : Op → (byte : Bool) → (s w : ℕ) (regs : List ℕ) (psw : ℕ) → Computed
outcome op byte s w regs psw = alu_of op (width_of byte) (get_or regs (w % 8) 0) s psw

abbrev pub Computes :
    Op → (byte : Bool) → (s w pc : ℕ) (regs : List ℕ) (psw : ℕ) (regs' : List ℕ) (psw' r : ℕ) → Type 0
Computes op byte s w pc regs psw regs' psw' r =
    ((r ≡ left_alone) × (regs' ≡ regs) × (psw' ≡ psw))
    ⊎ ((w % 8 < 7) × (r ≡ pc) × (regs' ≡ set regs (w % 8) (outcome op byte s w regs psw).value)
    × (psw' ≡ (outcome op byte s w regs psw).psw))

-- SETPRI to the own priority or a lower one, where no line waits. [01 Faults; 003 14]
abbrev pub Lowers : (free : Bool) → (w pc psw psw' r : ℕ) → Type 0
Lowers free w pc psw psw' r =
    ((r ≡ left_alone) × (psw' ≡ psw))
    ⊎ ((free ≡ true) × (w / 8 ≡ 0x9B0) × (w % 8 ≤ current psw) × (r ≡ pc) × (psw' ≡ put_current psw (w % 8)))

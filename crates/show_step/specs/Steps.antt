-- A step taken at once by its word, no line waiting.
-- Assumes nothing.
use Rattle.std.specs.Prelude.{◌≡◌, ℕ, ◌+◌, ◌/◌, ◌%◌, ◌≤◌, false, List, length, slice_index}
use Rattle.word.specs.Psw.{asleep?}
use Rattle.machine.specs.declared.Depth.{Depth}
use Rattle.machine.specs.Memory.{word_at}
use Rattle.stretch_memory.specs.Served.{running}
use Rattle.frame_step.specs.Took.{Took}

-- w is the word at an even PC, and the log has room for the records that are there. [01 One step, in order, 5; 02 §1]
abbrev pub Fetched : (w : ℕ) (regs m log : List ℕ) (added : ℕ) → Type 0
Fetched w regs m log added =
    (length m ≡ 65536) × (w ≡ word_at m (slice_index regs 7)) × (slice_index regs 7 % 2 ≡ 0) × (added ≤ length log / 8)

-- The step of a machine awake and in no CEX block, whatever else its PSW and CEX state, and whatever the depth, which
-- stays. [01 One step, in order; 02 §10]
abbrev pub Steps : (regs m log : List ℕ) (n added : ℕ) (regs' m' log' : List ℕ) (added' : ℕ) → Type 0
Steps regs m log n added regs' m' log' added' =
    (psw cex : ℕ) (d : Depth) → asleep? psw ≡ false → cex % 64 ≡ 0 →
    Took (length log / 8) (running regs psw cex 0 n m) d added log (running regs' psw cex 0 (n + 1) m') d added' log'

-- Nothing has changed.
abbrev pub Same : (regs m log regs' m' log' : List ℕ) → Type 0
Same regs m log regs' m' log' = (regs' ≡ regs) × (m' ≡ m) × (log' ≡ log)

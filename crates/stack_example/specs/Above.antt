-- A run of five steps with a handler that holds SP above where entry left it (document 02, §9). Device 1 interrupts
-- the application; its handler reads the first word of its frame by LD SP+,R0, puts SP back and returns. Its figure is
-- 0, and the stacks reach exactly 8 bytes.
-- Assumes nothing.
use Rattle.std.specs.Prelude.{ℕ, List, [], ◌∷◌, ◌++◌}
use Rattle.machine.specs.Memory.{Write, word_writes, commit}
use Rattle.resume.specs.Example.{zeros}
use Rattle.stack_example.specs.Example.{registers, entries}

-- The handler of device 1: LD SP+,R0; SUB #2,SP; MOV LR,PC. [003 14]
abbrev pub code : List Write
code = word_writes 0x140 0x58B0 ++ word_writes 0x142 0x4296 ++ word_writes 0x144 0x4C2F

-- Device registers and vectors are those of the other run. [01 Entry]
abbrev pub program : List Write
program = registers ++ code ++ entries

abbrev pub memory : List ℕ
memory = commit program zeros

-- The event: at step 1, of device 1. [01 State and memory]
abbrev pub events : List ℕ
events = 1 ∷ 0 ∷ 0 ∷ 0 ∷ 1 ∷ 0 ∷ 0 ∷ 0 ∷ []

-- What the call is handed beside the vectors: device 1, no use. [02 §9]
abbrev pub devices : ℕ
devices = 2

abbrev pub uses : List ℕ
uses = 0 ∷ 0 ∷ 0 ∷ 0 ∷ 0 ∷ 0 ∷ 0 ∷ 0 ∷ 0 ∷ 0 ∷ 0 ∷ 0 ∷ 0 ∷ 0 ∷ 0 ∷ 0 ∷ []

-- A run of twelve steps whose stacks reach exactly the bytes that the figure gives (document 02, §9). Device 1
-- interrupts the application at priority 2, its handler takes 2 bytes; device 2 interrupts that handler at priority 5
-- and takes none; device 3, of priority 5 too, is chained onto its return and takes 2 bytes.
-- Assumes nothing.
use Rattle.std.specs.Prelude.{ℕ, List, [], ◌∷◌, ◌++◌}
use Rattle.machine.specs.Memory.{Write, write, word_writes, commit}
use Rattle.resume.specs.Example.{zeros}

-- The device registers: devices 1 to 3 are enabled and interrupt. [01 Devices]
abbrev pub registers : List Write
registers = write 2 0x11 ∷ write 4 0x11 ∷ write 6 0x11 ∷ []

-- The handlers of devices 1 and 3: SUB #2,SP; ADD #2,SP; MOV LR,PC. That of device 2: MOV LR,PC. [003 14]
abbrev pub code : List Write
code =
    word_writes 0x140 0x4296 ++ word_writes 0x142 0x4096 ++ word_writes 0x144 0x4C2F ++ word_writes 0x160 0x4C2F
    ++ word_writes 0x180 0x4296 ++ word_writes 0x182 0x4096 ++ word_writes 0x184 0x4C2F

-- The vectors: PSW with priority 2, 5 and 5, and entry point. [01 Entry]
abbrev pub entries : List Write
entries =
    word_writes 0xFFC4 0x40 ++ word_writes 0xFFC6 0x140
    ++ word_writes 0xFFC8 0xA0 ++ word_writes 0xFFCA 0x160
    ++ word_writes 0xFFCC 0xA0 ++ word_writes 0xFFCE 0x180

abbrev pub program : List Write
program = registers ++ code ++ entries

-- The memory handed over. [01 State and memory]
abbrev pub memory : List ℕ
memory = commit program zeros

-- The events: at steps 1, 3 and 5, of devices 1, 2 and 3. [01 State and memory]
abbrev pub events : List ℕ
events =
    1 ∷ 0 ∷ 0 ∷ 0 ∷ 1 ∷ 0 ∷ 0 ∷ 0
    ∷ 3 ∷ 0 ∷ 0 ∷ 0 ∷ 2 ∷ 0 ∷ 0 ∷ 0
    ∷ 5 ∷ 0 ∷ 0 ∷ 0 ∷ 3 ∷ 0 ∷ 0 ∷ 0 ∷ []

-- What the call is handed: the 64 bytes at #FFC0, devices 1 to 3, their uses. [02 §9]
abbrev pub vectors : List ℕ
vectors =
    0 ∷ 0 ∷ 0 ∷ 0 ∷ 0x40 ∷ 0 ∷ 0x40 ∷ 1 ∷ 0xA0 ∷ 0 ∷ 0x60 ∷ 1 ∷ 0xA0 ∷ 0 ∷ 0x80 ∷ 1
    ∷ 0 ∷ 0 ∷ 0 ∷ 0 ∷ 0 ∷ 0 ∷ 0 ∷ 0 ∷ 0 ∷ 0 ∷ 0 ∷ 0 ∷ 0 ∷ 0 ∷ 0 ∷ 0
    ∷ 0 ∷ 0 ∷ 0 ∷ 0 ∷ 0 ∷ 0 ∷ 0 ∷ 0 ∷ 0 ∷ 0 ∷ 0 ∷ 0 ∷ 0 ∷ 0 ∷ 0 ∷ 0
    ∷ 0 ∷ 0 ∷ 0 ∷ 0 ∷ 0 ∷ 0 ∷ 0 ∷ 0 ∷ 0 ∷ 0 ∷ 0 ∷ 0 ∷ 0 ∷ 0 ∷ 0 ∷ 0 ∷ []

abbrev pub devices : ℕ
devices = 14

abbrev pub uses : List ℕ
uses = 0 ∷ 0 ∷ 2 ∷ 0 ∷ 0 ∷ 0 ∷ 2 ∷ 0 ∷ 0 ∷ 0 ∷ 0 ∷ 0 ∷ 0 ∷ 0 ∷ 0 ∷ 0 ∷ []

-- A run of eleven steps with an entry, a nested entry, a chained entry and two returns, as the run call takes it: three
-- byte buffers and a number (document 01, "Depth" and "Resumption"). The application stores a word and, after the
-- handlers, loads it again. Device 1 interrupts the application, device 2 the handler of device 1, and device 3 is
-- chained onto the return of device 2's handler. An event of an earlier step is passed over.
-- Assumes nothing.
use Rattle.std.specs.Prelude.{ℕ, List, [], ◌∷◌, ◌++◌, replicate}
use Rattle.machine.specs.Memory.{Write, write, word_writes, commit}

-- The device registers: devices 1 to 3 are enabled and interrupt, device 1 takes input. [01 Devices]
abbrev pub devices : List Write
devices = write 2 0x13 ∷ write 4 0x11 ∷ write 6 0x11 ∷ []

-- The application: ST R0,R1 and LD R1,R2. [003 14]
abbrev pub application : List Write
application = word_writes 0x100 0x5C01 ++ word_writes 0x102 0x580A

-- The handlers of devices 1, 2 and 3: CMP R0,R0 and MOV LR,PC; MOV LR,PC; MOV LR,PC. [003 14]
abbrev pub handlers : List Write
handlers =
    word_writes 0x140 0x4500 ++ word_writes 0x142 0x4C2F ++ word_writes 0x160 0x4C2F ++ word_writes 0x180 0x4C2F

-- The vectors: PSW with priority 2, 5 and 4, and entry point. [01 Entry]
abbrev pub vectors : List Write
vectors =
    word_writes 0xFFC4 0x40 ++ word_writes 0xFFC6 0x140
    ++ word_writes 0xFFC8 0xA0 ++ word_writes 0xFFCA 0x160
    ++ word_writes 0xFFCC 0x80 ++ word_writes 0xFFCE 0x180

-- 65,536 bytes, all zero. [01 State and memory]
unfoldable pub zeros : List ℕ
zeros = replicate 65536 0

-- What is written over them before the start. [01 State and memory]
abbrev pub program : List Write
program = devices ++ application ++ handlers ++ vectors

-- The memory handed over. [01 State and memory]
abbrev pub memory : List ℕ
memory = commit program zeros

-- The state record: R0 7, R1 #200, R2 to R4 2 to 4, LR 5, SP #400, PC #100, PSW and CEX zero, step count 1.
-- [01 State and memory]
abbrev pub r : List ℕ
r =
    7 ∷ 0 ∷ 0 ∷ 2 ∷ 2 ∷ 0 ∷ 3 ∷ 0 ∷ 4 ∷ 0 ∷ 5 ∷ 0 ∷ 0 ∷ 4 ∷ 0 ∷ 1
    ∷ 0 ∷ 0 ∷ 0 ∷ 0 ∷ 0 ∷ 0 ∷ 1 ∷ 0 ∷ 0 ∷ 0 ∷ 0 ∷ 0 ∷ 0 ∷ 0 ∷ 0 ∷ 0 ∷ []

-- The events: at step 0, before the start, and at steps 2, 4 and 6, of devices 2, 1, 2 and 3. [01 State and memory]
abbrev pub events : List ℕ
events =
    0 ∷ 0 ∷ 0 ∷ 0 ∷ 2 ∷ 8 ∷ 0 ∷ 0
    ∷ 2 ∷ 0 ∷ 0 ∷ 0 ∷ 1 ∷ 9 ∷ 0 ∷ 0
    ∷ 4 ∷ 0 ∷ 0 ∷ 0 ∷ 2 ∷ 0 ∷ 0 ∷ 0
    ∷ 6 ∷ 0 ∷ 0 ∷ 0 ∷ 3 ∷ 0 ∷ 0 ∷ 0 ∷ []

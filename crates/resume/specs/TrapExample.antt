-- A run of fourteen steps with two traps of the application, one inside the handler of the other, an interrupt inside
-- the inner handler and a device chained onto the inner return, as the run call takes it: three byte buffers and a
-- number (document 02, §13). The outer handler stores a word and traps again; the inner one is interrupted by device
-- 1, loads the word into R2, restores nothing and returns; device 2 is chained onto that return. The application then
-- loads the word into R3.
-- Assumes nothing.
use Rattle.std.specs.Prelude.{ℕ, List, [], ◌∷◌, ◌++◌}
use Rattle.machine.specs.Memory.{Write, write, word_writes, commit}
use Rattle.resume.specs.Example.{zeros}

-- The device registers: devices 1 and 2 are enabled and interrupt, device 1 takes input. [01 Devices]
abbrev pub devices : List Write
devices = write 2 0x13 ∷ write 4 0x11 ∷ []

-- The application: SVC #10 and LD R1,R3. [003 14]
abbrev pub application : List Write
application = word_writes 0x100 0x4DAA ++ word_writes 0x102 0x580B

-- The handlers: that of SVC #10 is ST R0,R1, SVC #11 and MOV LR,PC; that of SVC #11 is LD R1,R2 and MOV LR,PC; those of
-- devices 1 and 2 are MOV LR,PC. [003 14]
abbrev pub handlers : List Write
handlers =
    word_writes 0x140 0x5C01 ++ word_writes 0x142 0x4DAB ++ word_writes 0x144 0x4C2F
    ++ word_writes 0x150 0x580A ++ word_writes 0x152 0x4C2F
    ++ word_writes 0x160 0x4C2F ++ word_writes 0x180 0x4C2F

-- The vectors: PSW with priority 3 of device 1, 5 of device 2, 1 of SVC #10 and 2 of SVC #11, and entry point.
-- [01 Entry]
abbrev pub vectors : List Write
vectors =
    word_writes 0xFFC4 0x60 ++ word_writes 0xFFC6 0x160
    ++ word_writes 0xFFC8 0xA0 ++ word_writes 0xFFCA 0x180
    ++ word_writes 0xFFE8 0x20 ++ word_writes 0xFFEA 0x140
    ++ word_writes 0xFFEC 0x40 ++ word_writes 0xFFEE 0x150

-- What is written over zeros before the start. [01 State and memory]
abbrev pub program : List Write
program = devices ++ application ++ handlers ++ vectors

-- The memory handed over. [01 State and memory]
abbrev pub memory : List ℕ
memory = commit program zeros

-- The state record: R0 7, R1 #200, R2 to R4 2 to 4, LR 5, SP #400, PC #100, PSW and CEX zero, step count 1.
-- [01 State and memory]
abbrev pub r : List ℕ
r =
    7 ∷ 0 ∷ 0 ∷ 2 ∷ 2 ∷ 0 ∷ 3 ∷ 0 ∷ 4 ∷ 0 ∷ 5 ∷ 0 ∷ 0 ∷ 4 ∷ 0 ∷ 1
    ∷ 0 ∷ 0 ∷ 0 ∷ 0 ∷ 0 ∷ 0 ∷ 1 ∷ 0 ∷ 0 ∷ 0 ∷ 0 ∷ 0 ∷ 0 ∷ 0 ∷ 0 ∷ 0 ∷ []

-- The events: at steps 4 and 9, of devices 1 and 2. [01 State and memory]
abbrev pub events : List ℕ
events =
    4 ∷ 0 ∷ 0 ∷ 0 ∷ 1 ∷ 9 ∷ 0 ∷ 0
    ∷ 9 ∷ 0 ∷ 0 ∷ 0 ∷ 2 ∷ 0 ∷ 0 ∷ 0 ∷ []

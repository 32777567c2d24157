-- A session of two runs with different event lists, and running on after going back into the first of them, by two
-- runs with lists and logs of their own (document 02, §8). Device 0 takes input, device 1 shows. The program loads the
-- byte of device 0 and stores it into the data byte of device 1, twice; the letter A comes before its first step and B
-- before its third.
-- Assumes nothing.
use Rattle.std.specs.Prelude.{ℕ, List, [], ◌∷◌, ◌++◌, replicate}
use Rattle.machine.specs.Memory.{Write, write, word_writes, commit}
use Rattle.journal.specs.Ring.{journal_of}
use Rattle.journal.specs.Back.{Lent, lent_of}
use Rattle.journal.specs.Call.{back_call_of}
use Rattle.journal_laws.specs.Session.{Call, runs, lent_after}
use Rattle.journal_laws.specs.On.{plain, keeping, Leg, leg}

-- Device 0 is enabled and takes input, device 1 is enabled. LD.B R0,R2 and ST.B R2,R1, twice, at #100.
-- [01 Devices; 003 14]
abbrev pub program : List Write
program =
    write 0 0x12 ∷ write 2 0x10
    ∷ word_writes 0x100 0x5842 ++ word_writes 0x102 0x5C51 ++ word_writes 0x104 0x5842 ++ word_writes 0x106 0x5C51

-- 65,536 bytes, zero but for these. [01 State and memory]
abbrev pub memory : List ℕ
memory = commit program (replicate 65536 0)

-- R0 1 and R1 3, the data bytes of the two devices; SP #200, PC #100, all else zero. [01 State and memory]
abbrev pub r : List ℕ
r =
    1 ∷ 0 ∷ 3 ∷ 0 ∷ 0 ∷ 0 ∷ 0 ∷ 0 ∷ 0 ∷ 0 ∷ 0 ∷ 0 ∷ 0 ∷ 2 ∷ 0 ∷ 1
    ∷ 0 ∷ 0 ∷ 0 ∷ 0 ∷ 0 ∷ 0 ∷ 0 ∷ 0 ∷ 0 ∷ 0 ∷ 0 ∷ 0 ∷ 0 ∷ 0 ∷ 0 ∷ 0 ∷ []

-- The lists of the two runs: A, 65, before step 0; B, 66, before step 2. [01 State and memory]
abbrev pub first : List ℕ
first = 0 ∷ 0 ∷ 0 ∷ 0 ∷ 0 ∷ 65 ∷ 0 ∷ 0 ∷ []

abbrev pub second : List ℕ
second = 2 ∷ 0 ∷ 0 ∷ 0 ∷ 0 ∷ 66 ∷ 0 ∷ 0 ∷ []

-- room for one record. [02 §1]
abbrev pub log : List ℕ
log = replicate 8 0

-- nothing kept, three places, the next place the last. [02 §8]
abbrev pub x : Lent
x = lent_of memory r (journal_of (replicate 192 0) 0 2)

abbrev pub session : List Call
session = runs first log 2 ∷ runs second log 2 ∷ []

-- what the two runs leave, and what going back 3, into the first run, leaves of that. [02 §8]
abbrev pub y : Lent
y = lent_after session x

abbrev pub z : Lent
z = (back_call_of 3 y).lent

-- On by two runs: one step with no events, by the run with a journal; two steps with a list that has B, and an event of
-- a later step besides, by the run call. [02 §8]
abbrev pub later : List ℕ
later = 2 ∷ 0 ∷ 0 ∷ 0 ∷ 0 ∷ 66 ∷ 0 ∷ 0 ∷ 9 ∷ 0 ∷ 0 ∷ 0 ∷ 1 ∷ 7 ∷ 0 ∷ 0 ∷ []

abbrev pub legs : List Leg
legs = leg keeping [] log 1 ∷ leg plain later log 2 ∷ []

-- On by two runs that have no room for all their steps: the first has none for its first step, which shows A, and the
-- second has none for the step that shows B. [02 §8; 02 §1]
abbrev pub tight : List Leg
tight = leg plain later [] 3 ∷ leg keeping later log 3 ∷ []

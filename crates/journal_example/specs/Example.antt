-- A session on a journal of two records that begins at its last place (document 02, §8). The PC is odd and SP is 4: the
-- first step is fault 9, whose frame is pushed at #FFFC and wraps into the device bytes; its record goes to place 1.
-- The vector's entry point is odd too, so the second step halts; its record goes to place 0. Going back 2 wraps again.
-- Assumes nothing.
use Rattle.std.specs.Prelude.{ℕ, List, [], ◌∷◌, replicate}
use Rattle.machine.specs.Memory.{write, commit}
use Rattle.journal.specs.Ring.{journal_of}
use Rattle.journal.specs.Back.{Lent, lent_of}
use Rattle.journal_laws.specs.Session.{Call, runs, backs}

-- zeros but for vector 9's entry point, 1, and bytes 7 and 9 where the frame will stand. [01 Entry]
abbrev pub memory : List ℕ
memory = commit (write 0xFFE6 1 ∷ write 0xFFFD 7 ∷ write 1 9 ∷ []) (replicate 65536 0)

-- SP 4, PC 1, all else zero. [01 State and memory]
abbrev pub r : List ℕ
r =
    0 ∷ 0 ∷ 0 ∷ 0 ∷ 0 ∷ 0 ∷ 0 ∷ 0 ∷ 0 ∷ 0 ∷ 0 ∷ 0 ∷ 4 ∷ 0 ∷ 1 ∷ 0
    ∷ 0 ∷ 0 ∷ 0 ∷ 0 ∷ 0 ∷ 0 ∷ 0 ∷ 0 ∷ 0 ∷ 0 ∷ 0 ∷ 0 ∷ 0 ∷ 0 ∷ 0 ∷ 0 ∷ []

-- nothing kept, the next place the last of two. [02 §8]
abbrev pub x : Lent
x = lent_of memory r (journal_of (replicate 128 0) 0 1)

-- a run of at most 5 steps, and then back 2. [02 §8]
abbrev pub run : List Call
run = runs [] [] 5 ∷ []

abbrev pub session : List Call
session = runs [] [] 5 ∷ backs 2 ∷ []

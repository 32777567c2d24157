-- The starred cases, one row each, and what each row says of one step. Assumes nothing.
use Rattle.std.specs.Prelude.{◌≡◌, Bool, false, ◌&&◌, List, [], ◌∷◌, ◌++◌, ℕ, ◌+◌, eqb, replicate}
use Rattle.machine.specs.State.{Core, core_of, reg, sp, pc}
use Rattle.machine.specs.Memory.{low_byte, high_byte}
use Rattle.machine.specs.Step.{step_of}

-- a case of each kind, by the word that stands at #1000. Arithmetic: what the word leaves in R1 and in the PSW, with
-- the destination d in R1, the source s in R0 and the PSW p. Entry: SP before, and after. Branch: where the word leads.
-- [01 Sheet for the markers]
pub data Row : Type 0 where
  arithmetic : (word d s p value psw : ℕ) → Row
  entry : (word before after : ℕ) → Row
  branch : (word to : ℕ) → Row

-- the flags as bits of the PSW. [01 State and memory]
abbrev flag_c : ℕ
flag_c = 1

abbrev flag_z : ℕ
flag_z = 2

abbrev flag_n : ℕ
flag_n = 4

abbrev flag_v : ℕ
flag_v = 16

-- the starred cases in the paper's order: ADD.B, ADD, ADDC, SUB.B twice, SUBC, DADD.B twice (each R0,R1), SRA and SXT
-- of R1, an illegal word (fault 8 enters), BRA by -1 word. SRA of #FFF0 sets N by the rule. [01 Sheet for the markers]
abbrev pub cases : List Row
cases =
    arithmetic 0x4041 0xff 0xf8 0 0xf7 (flag_c + flag_n)
    ∷ arithmetic 0x4001 0x7fff 1 0 0x8000 (flag_n + flag_v)
    ∷ arithmetic 0x4101 0xffff 0 flag_c 0 (flag_c + flag_z)
    ∷ arithmetic 0x4241 0x03 0x04 0 0xff flag_n
    ∷ arithmetic 0x4241 0xf5 0x04 0 0xf1 (flag_c + flag_n)
    ∷ arithmetic 0x4301 0 0xffff 0 0 flag_z
    ∷ arithmetic 0x4441 0x99 0x01 0 0x00 (flag_c + flag_z)
    ∷ arithmetic 0x4441 0xff 0xff flag_c 0x55 flag_c
    ∷ arithmetic 0x4d01 0xfff0 0 0 0xfff8 flag_n
    ∷ arithmetic 0x4d21 0x0080 0 0 0xff80 0
    ∷ entry 0x4e00 0 0xfff8
    ∷ branch 0x3fff 0x1000
    ∷ []

-- The memory, 65,536 bytes: the word at #1000, all else zero. [01 State and memory]
unfoldable pub memory : (word : ℕ) → List ℕ
memory word = replicate 0x1000 0 ++ low_byte word ∷ high_byte word ∷ replicate 0xEFFE 0

-- What one step leaves of a machine at #1000, the word there; all else is zero but R0, R1, SP and the PSW.
-- [01 One step, in order]
unfoldable pub after : (word r0 r1 stack psw : ℕ) → Core
after word r0 r1 stack psw =
    (step_of []
    (record {
      core = core_of (r0 ∷ r1 ∷ 0 ∷ 0 ∷ 0 ∷ 0 ∷ stack ∷ 0x1000 ∷ []) psw 0;
      lines = 0;
      halted = false;
      count = 0;
      mem = memory word;
    })
    ).core

-- what a row says of the definitions. [01 Sheet for the markers]
abbrev pub Says : Row → Type 0
Says (arithmetic word d s p value psw) = (reg (after word s d 0 p) 1 ≡ value) × ((after word s d 0 p).psw ≡ psw)
Says (entry word before to) = sp (after word 0 0 before 0) ≡ to
Says (branch word to) = pc (after word 0 0 0 0) ≡ to

-- the same as a test. [01 Sheet for the markers]
unfoldable pub test : Row → Bool
test (arithmetic word d s p value psw) = eqb (reg (after word s d 0 p) 1) value && eqb (after word s d 0 p).psw psw
test (entry word before to) = eqb (sp (after word 0 0 before 0)) to
test (branch word to) = eqb (pc (after word 0 0 0 0)) to

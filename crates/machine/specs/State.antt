-- The state of one machine with its memory (document 01, "State and memory").
-- Assumes nothing.
use Rattle.std.specs.Prelude.{ℕ, suc, ◌+◌, ◌-◌, ◌*◌, ◌%◌, Bool, cond, List, eqb, ℤ, pos, negsuc, get_or, set}
use Rattle.machine.specs.declared.Machine.{Machine}
use Rattle.machine.specs.declared.Rest.{Rest}

-- what an instruction works on: the eight registers, the PSW and the CEX state. [01 State and memory]
pub record Core : Type 0 where
  pub regs : List ℕ
  pub psw : ℕ
  pub cex : ℕ

-- the whole machine and the memory lent to it. [01 State and memory]
pub record State : Type 0 where
  pub core : Core
  pub lines : ℕ
  pub halted : Bool
  pub count : ℕ
  pub mem : List ℕ

-- a core from its parts. [01 State and memory]
abbrev pub core_of : List ℕ → ℕ → ℕ → Core
core_of regs psw cex = record { regs = regs; psw = psw; cex = cex }

-- the core of a machine whose registers are lent, and its whole state. [01 State and memory]
abbrev pub core_with : List ℕ → Rest → Core
core_with regs t = core_of regs t.psw t.cex

abbrev pub state_with : List ℕ → Rest → List ℕ → State
state_with regs t mem =
    record { core = core_with regs t; lines = t.lines; halted = t.halted; count = t.count; mem = mem }

-- a machine as the code holds it, with its memory. [01 State and memory]
abbrev pub state_of : Machine → List ℕ → State
state_of m mem = state_with m.regs m.rest mem

-- register i; R5 is LR, R6 SP, R7 PC. [01 State and memory; 003 5]
abbrev pub reg : Core → ℕ → ℕ
reg c i = get_or c.regs i 0

abbrev pub lr : Core → ℕ
lr c = reg c 5

abbrev pub sp : Core → ℕ
sp c = reg c 6

abbrev pub pc : Core → ℕ
pc c = reg c 7

-- addresses and SP wrap at 65,536. [01 State and memory]
abbrev pub wrap : ℕ → ℕ
wrap a = a % 65536

-- k below address a. [01 State and memory]
abbrev pub down : ℕ → ℕ → ℕ
down a k = wrap (a + 65536 - k)

-- the address at a signed distance in bytes. [01 State and memory]
abbrev pub moved : ℕ → ℤ → ℕ
moved a (pos n) = wrap (a + n)
moved a (negsuc n) = down a (suc n)

-- "a branch offset counts words; all else counts bytes": twice a signed number. [01 State and memory]
abbrev pub doubled : ℤ → ℤ
doubled (pos n) = pos (2 * n)
doubled (negsuc n) = negsuc (2 * n + 1)

-- a core with another PSW, or another CEX state.
abbrev pub with_psw : Core → ℕ → Core
with_psw c p = record { regs = c.regs; psw = p; cex = c.cex }

abbrev pub with_cex : Core → ℕ → Core
with_cex c x = record { regs = c.regs; psw = c.psw; cex = x }

-- a register written by an instruction: a write to R7 clears the CEX state. [01 CEX]
abbrev pub put : Core → ℕ → ℕ → Core
put c i v = record { regs = set c.regs i v; psw = c.psw; cex = cond (eqb i 7) 0 c.cex }

-- The bounds that every accepted machine keeps: bytes, words, eight registers, and the zero bits of PSW and CEX state
-- (document 01, "State and memory"); and the accesses by which an instruction gives up its own effect.
-- Assumes nothing.
use Rattle.std.specs.Prelude.{ℕ, ◌+◌, ◌/◌, ◌%◌, ◌^◌, ◌<◌, List, [], ◌∷◌, ◌⊎◌, ◌≡◌, length}
use Rattle.machine.specs.declared.Access.{Access}
use Rattle.machine.specs.declared.Access.TheVariants.{Nothing, Load, Store, Fault, Trap}
use Rattle.machine.specs.State.{Core, State, reg, wrap}
use Rattle.machine.specs.Memory.{byte_at, even, span}
use Rattle.machine.specs.Events.{Event}
use Rattle.machine.specs.Entry.{pushed}
use Rattle.machine.specs.declared.Act.{Act}
use Rattle.machine.specs.declared.Act.TheVariants as act

-- Every element has the property. [01 State and memory]
abbrev pub Each {ℓ} : {A : Type ℓ} → (A → Type 0) → List A → Type 0
Each P [] = Unit {0}
Each P (x ∷ xs) = P x × Each P xs

-- A buffer of bytes. [01 State and memory]
abbrev pub Bytes : List ℕ → Type 0
Bytes b = (i : ℕ) → byte_at b i < 256

-- Eight registers, words; the PSW a word with bits 12-9 zero; the CEX state with bits 15-7 zero. [01 State and memory]
pub record TidyCore (c : Core) : Type 0 where
  pub eight : length c.regs ≡ 8
  pub words : (i : ℕ) → reg c i < 65536
  pub psw_word : c.psw < 65536
  pub psw_zeros : c.psw / 512 % 16 ≡ 0
  pub cex_small : c.cex < 128

-- A tidy core, eight counts of four bits, and a memory of 65,536 bytes. [01 State and memory; 02 §7]
pub record Tidy (s : State) : Type 0 where
  pub core : TidyCore s.core
  pub lines : s.lines < 2 ^ 32
  pub size : length s.mem ≡ 65536
  pub bytes : Bytes s.mem

-- A fault or a trap: the instruction's own effect is not taken. [01 Faults]
abbrev pub Quits : Access → Type 0
Quits Nothing = ⊥
Quits (Load byte a d) = ⊥
Quits (Store byte a v) = ⊥
Quits (Fault v) = Unit {0}
Quits (Trap v) = Unit {0}

-- Addresses are below 65,536, stored values are words, and a register or a vector is one that there is.
-- [01 State and memory]
abbrev pub AccessFits : Access → Type 0
AccessFits Nothing = Unit {0}
AccessFits (Load byte a d) = (a.0 < 65536) × (d < 8)
AccessFits (Store byte a v) = (a.0 < 65536) × (v < 65536)
AccessFits (Fault v) = v < 16
AccessFits (Trap v) = v < 16

-- The same of an act, in which a line is one of the eight devices'. [01 State and memory]
abbrev pub ActFits : Act → Type 0
ActFits act.Stopped = Unit {0}
ActFits act.Pull = Unit {0}
ActFits (act.Chain d) = d < 8
ActFits (act.Accept d) = d < 8
ActFits act.Sleep = Unit {0}
ActFits (act.Fault v) = v < 16
ActFits act.Halt = Unit {0}
ActFits act.Skip = Unit {0}
ActFits (act.Trap v) = v < 16
ActFits act.Plain = Unit {0}
ActFits (act.Loads byte a d) = (a.0 < 65536) × (d < 8)
ActFits (act.Stores byte a v) = (a.0 < 65536) × (v < 65536)

-- An event is a device's; and it brings a byte. [01 State and memory]
abbrev pub OfDevice : Event → Type 0
OfDevice e = e.device < 8

abbrev pub EventFits : Event → Type 0
EventFits e = OfDevice e × (e.byte < 256)

-- x is one of the list. [01 Resumption]
abbrev pub Among : ℕ → List ℕ → Type 0
Among x [] = ⊥
Among x (y ∷ ys) = (x ≡ y) ⊎ Among x ys

-- b is one of the eight bytes that an entry from the core c pushes. [01 Entry]
abbrev pub Pushed : Core → ℕ → Type 0
Pushed c b = (i : ℕ) × ((i < 8) × (b ≡ wrap (even (pushed c) + i)))

-- The bytes that an act from the core c may write: a push its frame's, a store its own and device registers, a load
-- device registers, every other act none. [01 Devices; 01 Resumption]
abbrev pub MayWrite : Act → Core → ℕ → Type 0
MayWrite act.Stopped c b = ⊥
MayWrite act.Pull c b = ⊥
MayWrite (act.Chain d) c b = ⊥
MayWrite (act.Accept d) c b = Pushed c b
MayWrite act.Sleep c b = ⊥
MayWrite (act.Fault v) c b = Pushed c b
MayWrite act.Halt c b = ⊥
MayWrite act.Skip c b = ⊥
MayWrite (act.Trap v) c b = Pushed c b
MayWrite act.Plain c b = ⊥
MayWrite (act.Loads byte a d) c b = b < 16
MayWrite (act.Stores byte a v) c b = Among b (span byte a.0) ⊎ (b < 16)

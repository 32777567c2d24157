-- What a load leaves in the register that it also indexes by (document 01, "Arithmetic").
-- Assumes nothing.
use Rattle.std.specs.Prelude.{ℕ, ◌%◌, ◌<◌, List, ◌≡◌, length}
use Rattle.isa.specs.declared.Instr.TheVariants.{Ld}
use Rattle.machine.specs.State.{Core, reg}
use Rattle.machine.specs.Memory.{word_at}
use Rattle.machine.specs.Effect.{effect_of, indexed}
use Rattle.machine.specs.Step.{Outcome, advanced, executed, perform}

-- A step from the core c that executes LD, word wide, with register r for source and destination. [01 Arithmetic]
abbrev pub self_load : (c : Core) (prpo dec inc r lines : ℕ) → List ℕ → Outcome
self_load c prpo dec inc r l m =
    let p = executed c (effect_of (advanced c) (Ld prpo dec inc 0 r r)) m in
    perform p.act p.core l m

-- "a loaded value is written last": whatever the adjustment, the register, PC too, ends with the word that was loaded,
-- its address being even. [01 Arithmetic; 02 §6]
abbrev pub LoadedLast : Type 0
LoadedLast =
    (c : Core) (prpo dec inc r l : ℕ) (m : List ℕ) → length c.regs ≡ 8 → r < 8 →
    indexed (advanced c) r prpo dec inc 0 % 2 ≡ 0 →
    reg (self_load c prpo dec inc r l m).core r
    ≡ word_at m (indexed (advanced c) r prpo dec inc 0)

-- What an instruction's code leaves, as the effect that the definitions give.
-- Assumes nothing.
use Rattle.std.specs.Prelude.{ℕ, List}
use Rattle.machine.specs.State.{core_of}
use Rattle.machine.specs.Effect.{Effect, effect}
use Rattle.execute.specs.declared.Executed.{Executed}

-- the registers lent to it, with the PSW, the CEX state and the access that it gives back
abbrev pub effect_with : List ℕ → Executed → Effect
effect_with regs d = effect (core_of regs d.psw d.cex) d.access

-- What the code of a plan and of its performance leaves, as the definitions have it.
-- Assumes nothing.
use Rattle.std.specs.Prelude.{ℕ, ◌<◌, List}
use Rattle.machine.specs.declared.Access.{Access}
use Rattle.machine.specs.declared.Access.TheVariants as asks
use Rattle.machine.specs.declared.Act.{Act}
use Rattle.machine.specs.declared.Act.TheVariants as act
use Rattle.machine.specs.State.{core_of}
use Rattle.machine.specs.Step.{Plan, planned}
use Rattle.step_plan.specs.declared.Planned.{Planned}

-- the registers lent, with the PSW, the CEX state and the act that a plan gives back
abbrev pub plan_with : List ℕ → Planned → Plan
plan_with regs p = planned (core_of regs p.psw p.cex) p.act

-- the numbers of an access, and of an act, name a register, a vector and a device that there are. [003 14]
abbrev pub Asked : Access → Type 0
Asked asks.Nothing = Unit {0}
Asked (asks.Load byte a d) = d < 8
Asked (asks.Store byte a v) = Unit {0}
Asked (asks.Fault v) = v < 16
Asked (asks.Trap v) = v < 16

abbrev pub Within : Act → Type 0
Within act.Stopped = Unit {0}
Within act.Pull = Unit {0}
Within (act.Chain d) = d < 8
Within (act.Accept d) = d < 8
Within act.Sleep = Unit {0}
Within (act.Fault v) = v < 16
Within act.Halt = Unit {0}
Within act.Skip = Unit {0}
Within (act.Trap v) = v < 16
Within act.Plain = Unit {0}
Within (act.Loads byte a d) = d < 8
Within (act.Stores byte a v) = Unit {0}

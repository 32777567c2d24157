use Rattle.std.proofs.Common.{refl, sym, arith, rules}
use Rattle.machine_laws.specs.Bounds.{Bytes}
use Rattle.machine_laws.proofs.Loads.{value-lt, load-law}
use Rattle.stretch_registers.proofs.Laws.{pc-set, cex-set}
use Rattle.stretch_memory.proofs.load.Goals as goal

pub with_low-w-requires : goal.with_low-w-requires
with_low-w-requires c =
    let a = c.args in
    let bytes : Bytes a.mem.now = search rules in
    value-lt a.byte a.mem.now a.at _ bytes c.load-v.ensures.value

pub returns : goal.returns
returns c =
    let a = c.args in record {
      core = (λ psw cex.
          load-law a.regs.now _ a.mem.now psw cex cex a.byte a.at a.dst _ _ _
          c.load-v.ensures.value (omega arith) refl c.with_low-w.ensures refl
          (sym (cex-set a.dst cex c.requires)));
      memory = c.load-v.ensures.memory;
      pc = pc-set a.regs.now a.dst _ c.requires;
    }

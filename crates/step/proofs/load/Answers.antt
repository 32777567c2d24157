use Rattle.machine_laws.proofs.Loads.{value-lt, load-law}
use Rattle.machine_laws.specs.Bounds.{Bytes}
use native.Mathlib.Omega.{arith}
use borrow.Author.Rules.{rules}
use Rattle.step.proofs.load.Goals as goal

pub with_low-w-requires : goal.with_low-w-requires
with_low-w-requires c =
    let at-start = c in
    let a = at-start.args in
    let bytes : Bytes a.mem.now = λ i. search rules in
    value-lt a.byte a.mem.now a.at.0 _ bytes c.load-v.ensures.value

pub returns : goal.returns
returns c =
    let at_load = c in
    let at-start = c in
    let a = at-start.args in
    let o = at_load.load-v.ensures in
    let p = c.put.ensures in record {
      core = λ psw. load-law a.regs.now _ a.mem.now psw a.cex _ a.byte a.at.0 a.dst _ _ _
          o.value (omega arith) c.get.ensures c.with_low-w.ensures p.0 p.1;
      memory = o.memory;
    }

use Prim.Native.Nat.{◌+◌, ◌-◌}
use mathlib.Core.Path.{◌≡◌, refl, sym, subst}
use borrow.Author.Rules.{rules}
use Rattle.machine.specs.declared.Rest.{Rest}
use Rattle.stretch_memory.specs.Served.{running}
use Rattle.free_run.specs.Free.{Goes}
use Rattle.kept_run.proofs.go_free.Goals as goal

pub returns : goal.returns
returns c =
    let a = c.args in
    let t = a.t in
    let q = c.run_free-q in
    let j = a.u - q.result.left in
    let e = c.gone_on.ensures in record {
      goes = subst
          (λ (v : Rest). Goes a.u (running a.regs.now t.psw t.cex t.lines t.count a.memory.now)
          a.depth a.added a.log.now (running q.new.regs v.psw v.cex t.lines (t.count + j) q.new.mem)
          q.result.depth q.result.added q.new.log j) (sym e) q.ensures.goes;
      rest = subst
          (λ (v : Rest). v ≡ record { psw = v.psw; cex = v.cex; lines = t.lines; halted = t.halted; count = t.count + j })
          (sym e) refl;
      few = search rules;
    }

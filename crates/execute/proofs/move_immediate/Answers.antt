-- `execute::move_immediate` meets its contract. Assumes nothing.
use Prim.Native.Nat.{ℕ}
use mathlib.Core.Path.{ap, ◌∙◌}
use Rattle.machine.specs.Effect.{effect_of, immediate_of}
use Rattle.execute.proofs.Laws.{writing}
use Rattle.execute.proofs.move_immediate.Goals as goal

pub returns : goal.returns
unfolding effect_of
returns c =
    let s = c in
    let d = c in
    let v = c in
    let t = c in
    let a = s.args in
    writing a.regs.now _ a.psw a.cex _ a.dst
    (v.immediate-v.ensures ∙ ap (λ (n : ℕ). immediate_of a.op a.byte n) d.get.ensures) t.put.ensures c.asks_nothing.ensures

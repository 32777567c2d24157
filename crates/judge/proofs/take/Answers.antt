-- One step from what its calls say: it is looked at before it ends, its writes are marked, it is done, its breaches are told, and its
-- frames are kept. Assumes nothing.
use Rattle.judge.proofs.Laws.{begins-law, leaves-law, watched-law}
use Rattle.judge.specs.Taken.{watch_with}
use Rattle.soundness.specs.Watch.{seen_by}
use Rattle.machine.specs.Step.{plan_of}
use Rattle.machine.specs.State.{core_of, state_with}
use Rattle.std.proofs.Common.{refl}
use Rattle.judge.proofs.take.Goals as goal

pub returns-clause-step : goal.returns-clause-step
returns-clause-step c b er em el ec ep =
    let a = c.args in
    let q = c.perform-t in
    let t = state_with q.new.regs q.result q.new.mem in
    let m = a.memory.now in
    let f = a.frames.now in
    let w = a.writers.now in
    let y = c.watch_after in
    let x = y.ensures in
    let z = seen_by (plan_of b).act b t (watch_with f w) in
    let g = begins-law b a.done f a.before.now a.regs.now m w a.p a.lines a.count er em el ec ep t in
    let k = c.looked-l.ensures z g in
    record {
      leaves = leaves-law b a.done f a.before.now a.regs.now m w a.p a.lines a.count er em el ec ep t q.ensures;
      watched = watched-law b a.done f a.before.now a.regs.now m w a.p a.lines a.count er em el ec ep t
          y.new.f c.mark_writes.new.writers
          c.looked-l.result.mine c.writer.result x.owns.0 (x.devices.1 t refl refl) x.oldest k.is_mine c.writer.ensures
          (c.mark_writes.ensures (core_of a.regs.now a.p.psw a.p.cex) a.lines refl);
      told = c.tell.ensures a.before.now m w z g refl refl k;
    }

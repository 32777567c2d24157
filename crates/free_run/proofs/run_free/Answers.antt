-- The loop's invariant: what it holds is come to in the steps done so far from where the call began. A stretch keeps it, since its steps
-- are uneventful, and so does the step between two stretches. A turn that takes none is the last. Assumes nothing.
use Rattle.std.proofs.Common.{◌+◌, ◌-◌, refl, ◌∙◌, arith}
use Rattle.stretch_memory.specs.Served.{running}
use Rattle.free_run.specs.Free.{Goes}
use Rattle.free_run.proofs.Free.{took-opened, goes_none, goes-as, goes-stretch, goes-took}
use Rattle.free_run.proofs.run_free.Goals as goal
use Rattle.free_run.proofs.run_free.Goals.{After-stretch-q, else-loop-left-test, then-loop-left-test+then-left-eq0}
use Rattle.free_run.proofs.run_free.Goals.{then-loop-left-test+else-left-eq0+in_default}

pub loop-left-init : goal.loop-left-init
loop-left-init c =
    record {
      some = omega arith;
      size = refl;
      long = refl;
      fits = c.requires.2;
      opened = c.requires.1;
      goes = goes_none _ _ _ _ _ _ _ _ _ _;
    }

-- what a turn's stretch has come to
stretched : (c : After-stretch-q)
    → let a = c.args in
    let l = c.loop-left in
    let q = c.stretch-q in
    Goes a.n (running a.regs.now a.psw a.cex a.lines a.count a.mem.now) a.depth a.added a.log.now
    (running q.new.regs q.result.psw q.result.cex a.lines (a.count + (a.n - q.result.left)) q.new.mem)
    l.t.depth l.t.added l.log (a.n - q.result.left)
stretched c =
    let i = c.loop-left.invariant in
    goes-stretch _ _ _ _ _ _ _ _ _ _ _ _ _ _ i.some i.goes _ _ _ _ _ c.stretch-q.ensures.left c.stretch-q.ensures.passes

pub loop-left-preserved : goal.loop-left-preserved
loop-left-preserved c =
    let q : After-stretch-q = search in
    let h = c.loop-left.invariant in
    let e = c.in-Some.ensures in
    let some = c.stretch-q.ensures.left in
    let opened = took-opened _ _ _ _ _ _ _ _ _ e in
    record {
      some = omega (arith, h.some, some);
      size = omega (arith, h.size);
      long = omega (arith, h.long);
      fits = omega (arith, e.room, h.long);
      opened = omega (arith, opened, h.opened, some, c.if-left-eq0.false);
      goes =
          goes-took _ _ _ _ _ _ _ _ _ _ _ _ _ _ (omega (arith, h.some, some)) (stretched q) _ _ _ _
          (omega (arith, c.if-left-eq0.false)) h.long _ _ _ e;
    }

-- the ways out: no step left, none left after a stretch, a step for the general way
pub returns-clause-goes : goal.returns-clause-goes
returns-clause-goes c =
    let a = c.args in
    let i = c.loop-left.invariant in
    elim c.loop-left-test.branch [
      | else-loop-left-test w ↦
          goes-as _ _ _ _ _
          (λ j. running (w.regs-is j) (w.t-is j).psw (w.t-is j).cex a.lines (a.count + (a.n - w.left-is j)) (w.mem-is j))
          (λ j. (w.t-is j).depth) (λ j. (w.t-is j).added) w.log-is (λ j. a.n - w.left-is j) i.goes
      | then-loop-left-test+then-left-eq0 w ↦
          goes-as _ _ _ _ _
          (λ j. running (w.regs-is j) (w.t-is j).psw (w.t-is j).cex a.lines (a.count + (a.n - w.left-is j)) (w.mem-is j))
          (λ j. (w.t-is j).depth) (λ j. (w.t-is j).added) w.log-is (λ j. a.n - w.left-is j)
          (goes-stretch _ _ _ _ _ _ _ _ _ _ _ _ _ _ i.some i.goes _ _ _ _ _ w.stretch-q.ensures.left w.stretch-q.ensures.passes)
      | then-loop-left-test+else-left-eq0+in_default w ↦
          let (er, em, el) = w.in_default.ensures in
          goes-as _ _ _ _ _
          (λ j.
          running ((w.regs-is ∙ er) j) (w.t-is j).psw (w.t-is j).cex a.lines (a.count + (a.n - w.left-is j)) ((w.mem-is ∙ em) j))
          (λ j. (w.t-is j).depth) (λ j. (w.t-is j).added) (w.log-is ∙ el) (λ j. a.n - w.left-is j)
          (goes-stretch _ _ _ _ _ _ _ _ _ _ _ _ _ _ i.some i.goes _ _ _ _ _ w.stretch-q.ensures.left w.stretch-q.ensures.passes)
    ]

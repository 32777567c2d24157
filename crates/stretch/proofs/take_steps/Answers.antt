-- The loop's invariant: the steps taken so far lead from the start to where it is, PC being in `pc`. A word that was left alone adds
-- none, any other one more. Assumes nothing.
use Rattle.stretch.proofs.Steps.{awake-set, walked_start, walked_on, walked-back, walked-last, stays-shut}
use Rattle.flags.specs.Kept.{held_in}
use Rattle.std.proofs.Common.{◌≡◌, ℕ, ◌+◌, ◌-◌, ◌%◌, ◌≤◌, arith}
use Rattle.stretch.proofs.take_steps.Goals as goal
use Rattle.stretch.proofs.take_steps.Goals.{At-loop-left, Start}

-- of k that were left, s are taken
more : (n k s : ℕ) → s ≤ k → k ≤ n → n - (k - s) ≡ n - k + s
more n k s h g = omega arith

pub loop-left-init : goal.loop-left-init
loop-left-init c =
    let a = c.args in
    let (table, fetching, few) = c.requires in
    let even = fetching.0 in
    let none : a.n - a.n ≡ 0 = omega arith in
    record {
      within = omega arith;
      table = table;
      awake = fetching.1;
      even = omega arith;
      low = omega arith;
      few = few;
      walked =
          rw none (walked_start a.free a.regs.now a.mem.now
          (held_in a.psw.now a.kept.now) a.cex (omega arith));
      shut = λ h. h;
    }

-- the PSW of the loop
abbrev kept : At-loop-left → ℕ
kept c = let l = c.loop-left in held_in l.psw l.kept

-- and that before it
abbrev first : Start → ℕ
first c = let a = c.args in held_in a.psw.now a.kept.now

pub returns-then-r-eq-LEFT_ALONE : goal.returns-then-r-eq-LEFT_ALONE
returns-then-r-eq-LEFT_ALONE c =
    let at-loop : At-loop-left = search in
    let at-start : Start = search in
    let l = at-loop.loop-left in
    let i = l.invariant in
    let a = at-start.args in
    let g = c.take_step-r.ensures in
    let some = c.loop-left-test.true in
    let w = walked-back a.free a.regs.now a.mem.now (first at-start) a.cex l.regs l.mem _ _ (kept at-loop) l.x _ _
    l.pc _ (a.n - l.left) a.n i.awake i.walked i.few (omega (arith, i.within)) g c.if-r-eq-LEFT_ALONE.true in
    let still = stays-shut a.free l.regs l.mem _ _ (kept at-loop) l.x _ _ l.pc _ g in
    record { walked = w.0; left = (i.within, w.1); shut = (λ h. still (i.shut h)) }

pub returns-then-r-ge-LEFT_ALONE : goal.returns-then-r-ge-LEFT_ALONE
returns-then-r-ge-LEFT_ALONE c =
    let at-loop : At-loop-left = search in
    let at-start : Start = search in
    let l = at-loop.loop-left in
    let i = l.invariant in
    let a = at-start.args in
    let g = c.take_step-r.ensures in
    let some = c.loop-left-test.true in
    let w = walked-last a.free a.regs.now a.mem.now (first at-start) a.cex l.regs l.mem _ _ (kept at-loop) l.x _ _
    l.pc _ (a.n - l.left) a.n i.awake i.walked i.few (omega (arith, i.within)) g c.if-r-eq-LEFT_ALONE.false in
    let still = stays-shut a.free l.regs l.mem _ _ (kept at-loop) l.x _ _ l.pc _ g in record {
      walked = rw (more a.n l.left 1 (omega arith) i.within) w.0;
      left = (omega (arith, i.within), w.1);
      shut = (λ h. still (i.shut h));
    }

pub loop-left-preserved : goal.loop-left-preserved
loop-left-preserved c =
    let at-loop : At-loop-left = search in
    let at-start : Start = search in
    let l = at-loop.loop-left in
    let i = l.invariant in
    let a = at-start.args in
    let g = c.take_step-r.ensures in
    let t = c.loop-left-test.true in
    let some = i.within in
    let w = walked_on a.free a.regs.now a.mem.now (first at-start) a.cex l.regs l.mem _ _ (kept at-loop) l.x _ _
    l.pc _ (a.n - l.left) a.n i.awake i.walked i.few (omega arith) g c.if-r-ge-LEFT_ALONE.false in
    record {
      within = omega arith;
      table = i.table;
      awake = w.0;
      even = w.1;
      low = c.if-r-ge-LEFT_ALONE.false;
      few = w.2;
      walked = rw (more a.n l.left 1 (omega arith) some) w.3;
      shut = λ h. stays-shut a.free l.regs l.mem _ _ (kept at-loop) l.x _ _ l.pc _ g (i.shut h);
    }

pub returns : goal.returns
returns c =
    let at-loop : At-loop-left = search in
    let l = at-loop.loop-left in
    let i = l.invariant in
    record { walked = i.walked; left = (i.within, awake-set l.regs (kept at-loop) (l.pc % 65536) i.awake); shut = i.shut }

pub take_step-r-requires : goal.take_step-r-requires
take_step-r-requires c =
    let i = c.loop-left.invariant in
    (i.table, i.even, i.awake)

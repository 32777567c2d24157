-- The loop's invariant: the steps taken so far lead from the start to where it is, the PSW's flags being kept apart. Before it they are
-- taken apart, and after it put together. Assumes nothing.
use Rattle.std.proofs.Common.{◌≡◌, ℕ, ◌+◌, ◌-◌, ◌<◌, ◌≤◌, Bool, true, false, cond, sym, refl, subst, arith}
use mathlib.Core.Bool.{false≢true}
use Rattle.machine_laws.proofs.Cases.{eq_of}
use Rattle.stretch.specs.Stretch.{Awake, Goes}
use Rattle.stretch.proofs.Steps.{goes_none, goes-join}
use Rattle.stretch.proofs.walk.Goals as goal

pub loop-t-init : goal.loop-t-init
loop-t-init c =
    let a = c.args in
    let regs = a.regs.now in
    let mem = a.mem.now in
    let e = sym c.apart-kept.ensures in
    let none : a.n - a.n ≡ 0 = omega arith in
    record {
      within = omega arith;
      table = refl;
      told = λ h. eq_of {m = a.lines} {n = 0} h;
      awake = subst (λ (q : ℕ). Awake regs q) e c.requires;
      goes =
          subst (λ (q : ℕ). Goes a.lines regs a.psw a.cex mem regs q a.cex mem (a.n - a.n)) e
          (rw none (goes_none a.lines regs mem a.psw a.cex));
    }

-- a turn takes a step or is the last
less : (b d : Bool) (l k : ℕ) → b ≡ true → k ≤ l → (d ≡ true → k < l) → k + cond d 1 0 < l + cond b 1 0
less true true l k e h g = let q = g refl in omega arith
less true false l k e h g = omega arith
less false d l k e h g = absurd (false≢true e)

pub loop-t-smaller : goal.loop-t-smaller
loop-t-smaller c =
    let l = c.loop-t in
    let r = c.turn-t in
    less l.t.more r.result.more l.t.left r.result.left c.loop-t-test.true r.ensures.left.0
    r.ensures.left.1

pub loop-t-preserved : goal.loop-t-preserved
loop-t-preserved c =
    let a = c.args in
    let l = c.loop-t in
    let i = l.invariant in
    let o = c.turn-t.ensures in
    let k = c.turn-t.result.left in
    let e : a.n - k ≡ a.n - l.t.left + (l.t.left - k) = omega (arith, i.within, o.left.0) in
    record {
      within = omega (arith, i.within, o.left.0);
      table = i.table;
      told = i.told;
      awake = o.left.2;
      goes =
          rw e (goes-join a.lines a.regs.now a.mem.now a.psw a.cex _ _ _ _ _ _ _ _ _ _ i.goes
          (o.goes a.lines i.told));
    }

pub returns : goal.returns
returns c =
    let i = c.loop-t.invariant in
    rw c.together.ensures (record { goes = i.goes; left = i.within })

pub turn-t-requires : goal.turn-t-requires
turn-t-requires c =
    let i = c.loop-t.invariant in
    (i.table, (c.if-regs-eq0.true, i.awake), c.if-t-gt0.true)

-- Past both tests there is to be a stretch, and the next event is yet to come. Assumes nothing.
use Prim.Native.Nat.{ℕ, ◌<◌}
use mathlib.Core.Bool.{Bool, false, true≢false, ◌||◌}
use mathlib.Core.Path.{◌≡◌, sym, ◌∙◌}
use lib.Dec.{leb}
use native.Mathlib.Omega.{arith}
use Rattle.machine_laws.proofs.Cases.{gt-of}
use Rattle.run_laws.proofs.Room.{neither}
use Rattle.turn.proofs.at_once.Goals as goal

on : (none : Bool) (count due : ℕ) → (none || leb due count) ≡ false → (none ≡ false) × (count < due)
on none count due h = let n = neither none (leb due count) h in (n.0, gt-of n.1)

pub overflow_sub-due : goal.overflow_sub-due
overflow_sub-due c = omega (arith, (on c.args.none c.args.count c.args.due c.if-none-due.false).1)

pub overflow_sub-result : goal.overflow_sub-result
overflow_sub-result c = omega (arith, (on c.args.none c.args.count c.args.due c.if-none-due.false).1)

pub returns-then-due-c : goal.returns-then-due-c
returns-then-due-c c = (
  omega (arith, c.if-due-c.true),
  omega arith,
  λ q. absurd
      (true≢false (sym q ∙ (on c.args.none c.args.count c.args.due c.if-none-due.false).0)),
)

pub returns : goal.returns
returns c = (
  omega arith,
  omega (arith, c.if-due-c.false),
  λ q. absurd (true≢false
      (sym q ∙ (on c.args.none c.args.count c.args.due c.if-none-due.false).0)),
)

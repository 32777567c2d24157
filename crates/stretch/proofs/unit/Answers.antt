-- The part that comes first is skipped, since the block skips the next word. Assumes nothing.
use Rattle.std.proofs.Common.{◌≡◌, ℕ, ◌/◌, ◌%◌, subst, arith}
use Rattle.stretch.specs.Stretch.{SkippedPart}
use Rattle.stretch.proofs.Skips.{true-part, false-part, false-some}
use Rattle.stretch.proofs.unit.Goals as goal

pub returns-then-x-eq0 : goal.returns-then-x-eq0
returns-then-x-eq0 c =
    let x = c.args.x in
    let s = c.requires in
    let some = false-some x c.if-x-eq0.true s in
    let e : x % 8 ≡ x / 1 % 8 = omega arith in
    record {
      skips = subst (λ (n : ℕ). SkippedPart x n 1) e (false-part x c.if-x-eq0.true s);
      fits = (omega arith, omega (arith, some), omega arith);
    }

pub returns-else-x-eq0 : goal.returns-else-x-eq0
returns-else-x-eq0 c =
    let some = c.if-x-eq0.false in
    record { skips = true-part c.args.x some c.requires; fits = (omega arith, omega (arith, some), omega arith) }

use mir.Syntax.{w16}
use mir.ValLaws.{to_z-of_z}
use native.Mathlib.Omega.{arith}
use Rattle.stretch_registers.proofs.target.Goals as goal

pub branch_target-requires : goal.branch_target-requires
branch_target-requires c = rw (to_z-of_z w16 _ c.ranges.off) c.requires

pub returns : goal.returns
returns c =
    let t = rw (to_z-of_z w16 _ c.ranges.off) at c.branch_target.ensures in
    (t, omega arith)

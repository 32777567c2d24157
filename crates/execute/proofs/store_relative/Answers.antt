-- `execute::store_relative` meets its contract. Assumes nothing.
use mir.Syntax.{w16}
use mir.ValLaws.{to_z-of_z}
use Rattle.machine.specs.Effect.{effect_of}
use Rattle.execute.proofs.store_relative.Goals as goal

pub returns : goal.returns
unfolding effect_of
returns c =
    let t = rw (to_z-of_z w16 _ c.ranges.off) at c.offset_from.ensures in
    rw (t, c.get.ensures, c.get-2.ensures)

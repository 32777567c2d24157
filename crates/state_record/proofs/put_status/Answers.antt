use native.Mathlib.Omega.{arith}
use lib.ListN.{length-set}
use Rattle.state_record.proofs.put_status.Goals as goal

pub bounds-r-21 : goal.bounds-r-21
bounds-r-21 c = simp length-set (omega (arith, c.requires, c.put_two.auto, c.put_two-2.auto))

pub shape_of-r : goal.shape_of-r
shape_of-r c = simp length-set (omega (arith, c.put_two.auto, c.put_two-2.auto))

pub returns : goal.returns
returns c = rw (c.put_two-2.ensures, c.put_two.ensures)

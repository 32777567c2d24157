use borrow.Author.Tests.{eq-eqb, ne_eqb}
use Rattle.srec.specs.Load.{pc_at}
use Rattle.srec_load.proofs.line.pc.Goals as goal

pub returns-then-kind-ne57 : goal.returns-then-kind-ne57
unfolding pc_at
returns-then-kind-ne57 c = rw (← c.kind.ensures, ne_eqb _ _ c.if-kind-ne57.true)

pub returns : goal.returns
unfolding pc_at
returns c = rw (← c.kind.ensures, eq-eqb _ _ c.if-kind-ne57.false) c.address.ensures.0

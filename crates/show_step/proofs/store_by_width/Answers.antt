use Rattle.show_step.proofs.store_by_width.Goals as goal

pub returns-then-byte : goal.returns-then-byte
returns-then-byte c = rw c.if-byte.true c.store.ensures

pub returns : goal.returns
returns c = rw c.if-byte.false c.store-2.ensures

-- Test by test, in the code's order: shape, sum, type, end of the data; what is read lies inside the line since a shaped line is long
-- enough.
use Rattle.std.proofs.Common.{sym, arith}
use Rattle.std.proofs.lemmas.Bool.Decides.{nat_tests}
use Rattle.srec.specs.Record.{fault_of}
use Rattle.srec.proofs.Laws.{shaped-facts}
use Rattle.srec_load.proofs.line.fault.Goals as goal

pub returns-then-not-shaped : goal.returns-then-not-shaped
unfolding fault_of
returns-then-not-shaped c = grind (arith, nat_tests)

pub sum-requires : goal.sum-requires
sum-requires c = let h = shaped-facts _ _ (sym c.if-not-shaped.ensures) in omega arith

pub returns-then-sum-ne255 : goal.returns-then-sum-ne255
unfolding fault_of
returns-then-sum-ne255 c = grind (arith, nat_tests)

pub kind-requires : goal.kind-requires
kind-requires c = let h = shaped-facts _ _ (sym c.if-not-shaped.ensures) in omega arith

pub address-requires : goal.address-requires
address-requires c = let h = shaped-facts _ _ (sym c.if-not-shaped.ensures) in omega arith

pub count-requires : goal.count-requires
count-requires c = let h = shaped-facts _ _ (sym c.if-not-shaped.ensures) in omega arith

pub overflow_sub-count : goal.overflow_sub-count
overflow_sub-count c = let h = shaped-facts _ _ (sym c.if-not-shaped.ensures) in omega arith

pub returns-then-address-count-gt65536 : goal.returns-then-address-count-gt65536
unfolding fault_of
returns-then-address-count-gt65536 c = grind (arith, nat_tests)

pub returns : goal.returns
unfolding fault_of
returns c = grind (arith, nat_tests)

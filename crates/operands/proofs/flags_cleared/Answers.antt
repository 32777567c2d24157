-- `operands::flags_cleared` meets its contract. Assumes nothing.
use Rattle.std.proofs.Common.{◌-◌, ◌%◌, arith}
use lib.Bits.{and_lt}
use Rattle.operands.proofs.flags_cleared.Goals as goal

pub overflow_add-result : goal.overflow_add-result
overflow_add-result c = let h = and_lt 5 (c.args.psw % 32) (31 - c.args.f) (omega arith) (omega arith) in omega arith

-- `operands::flags_set` meets its contract. Assumes nothing.
use Rattle.std.proofs.Common.{◌%◌, arith}
use lib.Bits.{or_lt}
use Rattle.operands.proofs.flags_set.Goals as goal

pub overflow_add-result : goal.overflow_add-result
overflow_add-result c = let h = or_lt 5 (c.args.psw % 32) c.args.f (omega arith) c.requires in omega arith

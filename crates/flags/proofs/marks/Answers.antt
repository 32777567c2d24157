-- `flags::marks` meets its contract. Assumes nothing.
use mathlib.Core.Bool.{not}
use native.Mathlib.Omega.{arith}
use Rattle.word.proofs.Laws.{bit_le}
use Rattle.flags.proofs.Laws.{marks-zero, marks-negative}
use Rattle.flags.proofs.marks.Goals as goal

pub overflow_mul-result : goal.overflow_mul-result
overflow_mul-result c = let s = c in omega (arith, bit_le s.args.n)

pub overflow_add-result : goal.overflow_add-result
overflow_add-result c = let s = c in omega (arith, bit_le (not s.args.z), bit_le s.args.n)

pub returns : goal.returns
returns c = let s = c in (marks-zero s.args.z s.args.n, marks-negative s.args.z s.args.n)

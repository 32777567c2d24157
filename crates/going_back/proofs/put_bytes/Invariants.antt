use Rattle.std.proofs.Common.{◌≡◌, ◌+◌, ◌%◌, length}
use Rattle.going_back.proofs.Laws.{rest}
use Rattle.going_back.proofs.put_bytes.Given as goal

abbrev pub invariant-loop-i : goal.invariant-loop-i
invariant-loop-i l = record {
  size : length l.memory ≡ 65536;
  wraps : l.at ≡ (l.a + l.i) % 65536;
  left : rest l.memory l.journal l.from l.a l.n l.i ≡ rest l.initial.memory l.journal l.from l.a l.n 0;
}

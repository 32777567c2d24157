use Rattle.std.proofs.Common.{◌≡◌, length}
use Rattle.stores.proofs.Laws.{copied}
use Rattle.journal_record.proofs.put_bytes.Given as goal

abbrev pub invariant-loop-i : goal.invariant-loop-i
invariant-loop-i l = (length l.e ≡ length l.initial.e) × (copied l.e l.at l.v l.i ≡ copied l.initial.e l.at l.v 0)

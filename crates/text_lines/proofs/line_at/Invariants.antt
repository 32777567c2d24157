use Rattle.text_lines.proofs.Laws.{Scanned}
use Rattle.text_lines.proofs.line_at.Given as goal

abbrev pub invariant-loop-i : goal.invariant-loop-i
invariant-loop-i l = Scanned l.text l.at l.i

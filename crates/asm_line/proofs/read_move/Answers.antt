use mathlib.Core.Path.{sym, ◌∙◌}
use Rattle.asm_line.specs.Statement.{move}
use Rattle.asm_line.proofs.read_move.Goals as goal

pub returns-in_err-w : goal.returns-in_err-w
unfolding move
returns-in_err-w c = c.from_residual.ensures ∙ rw (sym c.in_err-w.ensures)

pub returns-in_err-s : goal.returns-in_err-s
unfolding move
returns-in_err-s c = c.from_residual-in_err-s.ensures ∙ rw (sym c.in_ok-w.ensures, sym c.in_err-s.ensures)

pub returns-in_err-d : goal.returns-in_err-d
unfolding move
returns-in_err-d c = c.from_residual-in_err-d.ensures ∙ rw (sym c.in_ok-w.ensures, sym c.in_ok-s.ensures, sym c.in_err-d.ensures)

pub returns : goal.returns
unfolding move
returns c = rw (sym c.in_ok-w.ensures, sym c.in_ok-s.ensures, sym c.in_ok-d.ensures)

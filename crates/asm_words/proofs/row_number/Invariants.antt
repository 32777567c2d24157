use mathlib.Core.Path.{◌≡◌}
use lib.ListN.{drop}
use Rattle.asm_words.specs.Rows.{number_in}
use Rattle.asm_words.proofs.row_number.Given as goal

abbrev pub invariant-loop-row : goal.invariant-loop-row
invariant-loop-row l = number_in (drop l.row-index l.rows) l.p ≡ number_in l.rows l.p

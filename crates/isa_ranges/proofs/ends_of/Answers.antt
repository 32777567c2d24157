use mathlib.Core.Path.{◌∙◌}
use Rattle.isa_ranges.proofs.Rows.{bits-rows}
use borrow.Author.Rules.{rules}
use Rattle.isa_ranges.proofs.ends_of.Goals as goal

pub returns : goal.returns
returns c = c.bits_ends.ensures ∙ bits-rows c.args.w (search rules)

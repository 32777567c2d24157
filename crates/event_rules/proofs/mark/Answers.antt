use mathlib.Core.Path.{ap, ◌∙◌}
use lib.Bits.{bit_or}
use Rattle.word.proofs.Laws.{or-bit}
use Rattle.event_rules.proofs.Marks.{one_shifted}
use Rattle.event_rules.proofs.mark.Goals as goal

pub returns : goal.returns
returns c = ap (bit_or c.args.marks) (one_shifted c.args.d c.requires) ∙ or-bit c.args.d c.args.marks

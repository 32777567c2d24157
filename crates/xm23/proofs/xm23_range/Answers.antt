use Rattle.isa_ranges.specs.Ranges.{range_reply}
use borrow.Author.Rules.{rules}
use Rattle.xm23.proofs.xm23_range.Goals as goal

pub returns : goal.returns
unfolding range_reply
returns c = record { reply = cc }

use mathlib.Core.Path.{sym, ap, ◌∙◌}
use Rattle.isa_card.specs.Words.{found_reply, next_reply}
use borrow.Author.Rules.{rules}
use Rattle.xm23.proofs.xm23_next.Goals as goal

pub returns-in-Some : goal.returns-in-Some
unfolding next_reply
returns-in-Some c = record { reply = sym (ap found_reply (sym c.next_of.ensures ∙ c.in-Some.is)) }

pub returns-in-None : goal.returns-in-None
unfolding next_reply
returns-in-None c = record { reply = sym (ap found_reply (sym c.next_of.ensures ∙ c.in-None.is)) }

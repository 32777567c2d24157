use Rattle.std.proofs.Common.{ap, ◌∙◌}
use Rattle.asm_places.specs.Call.{places_reply, places_call_of}
use Rattle.asm_places.proofs.places_call.Goals as goal

pub returns-clause-reply : goal.returns-clause-reply
unfolding places_call_of
returns-clause-reply c = c.reply.ensures ∙ ap places_reply c.list_source.ensures.verdict

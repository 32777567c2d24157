use Rattle.std.proofs.Common.{ap, ◌∙◌}
use Rattle.asm_call.specs.Call.{assemble_reply, assemble_call_of}
use Rattle.asm_call.proofs.assemble_call.Goals as goal

pub returns-clause-reply : goal.returns-clause-reply
unfolding assemble_call_of
returns-clause-reply c = c.verdict_reply.ensures ∙ ap assemble_reply c.assemble.ensures.verdict

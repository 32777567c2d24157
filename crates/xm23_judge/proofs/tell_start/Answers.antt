use Rattle.xm23_judge.proofs.Laws.{start_none, start-some}
use Rattle.open_frames.specs.Open.{handler_of}
use Rattle.machine.specs.State.{state_of}
use lib.ListN.{length}
use mathlib.Core.Path.{refl, sym, ap, ◌∙◌}
use Rattle.xm23_judge.proofs.tell_start.Goals as goal

pub returns-then-x-eq0 : goal.returns-then-x-eq0
returns-then-x-eq0 c mem =
    start_none c.args.m.rest.count (state_of c.args.m mem) _ c.requires (sym (c.start_faults-x.ensures mem) ∙ c.if-x-eq0.true)

pub note-requires : goal.note-requires
note-requires c = ap length c.requires

pub returns : goal.returns
returns c mem =
    start-some c.args.m.rest.count (state_of c.args.m mem) (handler_of c.none_open-o.result.oldest) _ _ _ _ c.requires
    (c.start_faults-x.ensures mem) c.if-x-eq0.false refl c.none_open-o.ensures.2
    c.note.ensures

use Rattle.std.proofs.Common.{Bool, ◌&&◌, eqb, ap, ◌∙◌}
use Rattle.output_log.proofs.Laws.{lacks_is}
use Rattle.output_log.proofs.lacks_room.Goals as goal

pub returns : goal.returns
returns c n =
    let a = c.args in
    ap (λ (b : Bool). b && eqb a.added a.room) c.is_some.ensures ∙ lacks_is a.x a.added a.room n c.requires

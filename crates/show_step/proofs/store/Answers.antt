use Rattle.std.proofs.Common.{sym, ◌∙◌}
use Rattle.show_step.proofs.Laws.{fits, stored}
use Rattle.show_step.proofs.store.Goals as goal

-- there is room for what is shown
pub add-records-requires : goal.add-records-requires
add-records-requires c =
    fits c.args.log.now c.args.added _ (sym (c.lacks_room.ensures c.args.count) ∙ c.if-lacks_room.false)

pub returns : goal.returns
returns c =
    let a = c.args in
    stored a.byte a.at a.value a.count a.added a.mem.now a.log.now c.shown_by-shown.result c.if-at-byte.false
    c.shown_by-shown.ensures (sym (c.lacks_room.ensures a.count) ∙ c.if-lacks_room.false) c.add-records.ensures.added
    c.add-records.ensures.log c.store.ensures

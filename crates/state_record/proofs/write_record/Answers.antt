use Rattle.state_record.proofs.Laws.{whole-record}
use Rattle.state_record.proofs.write_record.Goals as goal

pub returns : goal.returns
returns c =
    let s = c in
    let at-put-status = c in
    let at-put-registers = c in
    λ mem.
    whole-record s.args.r.now _ _ _ s.args.m mem s.requires
    at-put-registers.put_registers.ensures at-put-status.put_status.ensures c.put_counts.ensures

use Rattle.trace_record.proofs.Laws.{act-none, act-fits, act-one, added_is, stored-none, stored_one}
use mathlib.Core.Path.{refl, sym, ◌∙◌}
use native.Mathlib.Nat.{add-zero}
use Rattle.trace_record.proofs.add_act.Goals as goal

pub returns-then-not-asks : goal.returns-then-not-asks
returns-then-not-asks c =
    let a = c.args in
    let e = act-none a.b a.kinds a.a a.seen a.pc a.psw _ c.kind_of-kind.ensures.0 _
    c.asks.ensures c.if-not-asks.true in
    record { added = sym (add-zero a.k) ∙ added_is a.k 0 _ _ e refl; trace = stored-none _ _ _ e }

pub put_record-requires : goal.put_record-requires
put_record-requires c =
    let at-start = c in
    let a = at-start.args in
    act-fits a.b a.kinds a.a a.seen a.pc a.psw _ c.kind_of-kind.ensures.0 _
    c.asks.ensures c.if-not-asks.false a.k _
    at-start.requires

pub returns : goal.returns
returns c =
    let p = c in
    let s = c in
    let a = s.args in
    let e = act-one a.b a.kinds a.a a.seen a.pc a.psw _ p.kind_of-kind.ensures.0 _
    p.asks.ensures
    p.if-not-asks.false _ p.tell-x.ensures in
    record { added = added_is a.k 1 _ _ e refl; trace = stored_one _ _ _ _ _ e c.put_record.ensures }

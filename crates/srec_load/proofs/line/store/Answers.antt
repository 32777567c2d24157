use mathlib.Core.Path.{sym, ◌∙◌}
use native.Mathlib.Omega.{arith}
use Rattle.srec_load.proofs.Laws.{store-none, store-some}
use Rattle.srec_load.proofs.line.store.Goals as goal

pub returns-then-kind-ne49 : goal.returns-then-kind-ne49
returns-then-kind-ne49 c =
    store-none c.args.line.now c.args.memory.now _ c.kind.ensures c.if-kind-ne49.true

pub store_data-requires : goal.store_data-requires
store_data-requires c =
    let h = c.requires.1 in
    let i = h.inside (sym c.kind.ensures ∙ c.if-kind-ne49.false) in
    (omega arith, omega arith)

pub returns : goal.returns
returns c =
    store-some c.args.line.now c.args.memory.now _ _ _ _ c.kind.ensures c.if-kind-ne49.false
    c.address-a.ensures.0 c.count-n.ensures.0 c.store_data.ensures

-- The verdict is the assembler's, from the same sweeps. The third sweep stops at END, so where nothing is at fault its line is the
-- number of records: fewer places than that is 22, else the records are listed with the names of the table. Assumes nothing.
use Rattle.std.proofs.Common.{◌≡◌, Ok, Err, refl, sym, ap, ◌∙◌, arith, rules}
use Rattle.asm_sweeps.specs.Uses.{verdict_of}
use Rattle.asm_call.proofs.Laws.{verdict-form, verdict-found}
use Rattle.asm_places.proofs.Laws.{places-refused, places-short, places-accepted, buffer-kept, buffer-done}
use Rattle.asm_places.proofs.Laws.{found-count, found-short, found-room, held-room, found-list}
use Rattle.asm_places.proofs.list_source.Goals as goal
use Rattle.asm_places.proofs.list_source.Goals.{After-decide}

-- what the sweeps found
found : (c : After-decide) → c.decide.result ≡ verdict_of c.args.source.now
found c =
    verdict-found c.args.source.now c.collect-t.new.list c.collect-t.result c.collect-t.ensures.holds c.collect-t.ensures.result_after
    (sym c.form-f.ensures ∙ c.in_default.is) c.uses-u.result c.uses-u.ensures c.decide.result c.decide.ensures

pub returns-in-Some-clause-verdict : goal.returns-in-Some-clause-verdict
returns-in-Some-clause-verdict c =
    places-refused c.args.source.now c.args.list.now _
    (verdict-form c.args.source.now c.form-f.result c.in-Some.line c.form-f.ensures c.in-Some.is)

pub returns-in-Some-clause-places : goal.returns-in-Some-clause-places
returns-in-Some-clause-places c =
    buffer-kept c.args.source.now c.args.list.now _
    (places-refused c.args.source.now c.args.list.now _
    (verdict-form c.args.source.now c.form-f.result c.in-Some.line c.form-f.ensures c.in-Some.is)) refl

pub returns-in_err-decide-clause-verdict : goal.returns-in_err-decide-clause-verdict
returns-in_err-decide-clause-verdict c =
    let e : c.from_residual.result ≡ Err c.in_err-decide.field-0.0 = search rules in
    e ∙ places-refused c.args.source.now c.args.list.now c.in_err-decide.field-0.0
    (sym c.in_err-decide.was ∙ found (goal.at.returns-in_err-decide-clause-verdict c).After-decide)

pub returns-in_err-decide-clause-places : goal.returns-in_err-decide-clause-places
returns-in_err-decide-clause-places c =
    buffer-kept c.args.source.now c.args.list.now _
    (places-refused c.args.source.now c.args.list.now c.in_err-decide.field-0.0
    (sym c.in_err-decide.was ∙ found (goal.at.returns-in_err-decide-clause-places c).After-decide)) refl

pub returns-then-list-k-clause-verdict : goal.returns-then-list-k-clause-verdict
returns-then-list-k-clause-verdict c =
    places-short c.args.source.now c.args.list.now
    (sym c.in_ok-decide.was ∙ found (goal.at.returns-then-list-k-clause-verdict c).After-decide)
    (found-short c.args.source.now c.collect-t.new.list c.collect-t.result c.collect-t.ensures.holds c.collect-t.ensures.result_after
    (sym c.form-f.ensures ∙ c.in_default.is) c.uses-u.result c.uses-u.ensures c.args.list.now (omega (arith, c.if-list-k.true)))

pub returns-then-list-k-clause-places : goal.returns-then-list-k-clause-places
returns-then-list-k-clause-places c =
    buffer-kept c.args.source.now c.args.list.now _
    (places-short c.args.source.now c.args.list.now
    (sym c.in_ok-decide.was ∙ found (goal.at.returns-then-list-k-clause-places c).After-decide)
    (found-short c.args.source.now c.collect-t.new.list c.collect-t.result c.collect-t.ensures.holds c.collect-t.ensures.result_after
    (sym c.form-f.ensures ∙ c.in_default.is) c.uses-u.result c.uses-u.ensures c.args.list.now (omega (arith, c.if-list-k.true)))) refl

pub list_lines-requires : goal.list_lines-requires
list_lines-requires c =
    held-room c.args.source.now c.collect-t.new.list c.collect-t.result c.collect-t.ensures.holds c.collect-t.ensures.result_after
    (sym c.form-f.ensures ∙ c.in_default.is) c.uses-u.result c.uses-u.ensures c.args.list.now (omega (arith, c.if-list-k.false))

pub returns-clause-verdict : goal.returns-clause-verdict
returns-clause-verdict c =
    ap Ok (found-count c.args.source.now c.collect-t.new.list c.collect-t.result c.collect-t.ensures.holds
    c.collect-t.ensures.result_after (sym c.form-f.ensures ∙ c.in_default.is) c.uses-u.result c.uses-u.ensures)
    ∙ places-accepted c.args.source.now c.args.list.now
    (sym c.in_ok-decide.was ∙ found (goal.at.returns-clause-verdict c).After-decide)
    (found-room c.args.source.now c.collect-t.new.list c.collect-t.result c.collect-t.ensures.holds c.collect-t.ensures.result_after
    (sym c.form-f.ensures ∙ c.in_default.is) c.uses-u.result c.uses-u.ensures c.args.list.now (omega (arith, c.if-list-k.false)))

pub returns-clause-places : goal.returns-clause-places
returns-clause-places c =
    found-list c.args.source.now c.collect-t.new.list c.collect-t.result c.collect-t.ensures.holds c.collect-t.ensures.result_after
    (sym c.form-f.ensures ∙ c.in_default.is) c.uses-u.result c.uses-u.ensures c.args.list.now c.list_lines.new.list c.list_lines.ensures
    ∙ buffer-done c.args.source.now c.args.list.now _
    (places-accepted c.args.source.now c.args.list.now
    (sym c.in_ok-decide.was ∙ found (goal.at.returns-clause-places c).After-decide)
    (found-room c.args.source.now c.collect-t.new.list c.collect-t.result c.collect-t.ensures.holds c.collect-t.ensures.result_after
    (sym c.form-f.ensures ∙ c.in_default.is) c.uses-u.result c.uses-u.ensures c.args.list.now (omega (arith, c.if-list-k.false)))) refl

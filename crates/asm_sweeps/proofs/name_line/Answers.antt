-- What a line does to the table is decided by its reading: no line, a line without a name, a name with a statement. Each way out is the
-- law of its case.
use Rattle.std.proofs.Common.{◌+◌, drop, sym, ◌∙◌, arith}
use Rattle.asm_text.specs.Text.{word}
use Rattle.asm_sweeps.specs.Held.{table_at}
use Rattle.asm_sweeps.proofs.Names.{line_word, name-within}
use Rattle.asm_sweeps.proofs.Named.{line-named}
use Rattle.asm_sweeps.proofs.Laws.{name-fault, end-fault, name-none, name-some, end_line}
use Rattle.asm_sweeps.proofs.name_line.Goals as goal

pub returns-in_default-clause-tally_after : goal.returns-in_default-clause-tally_after
returns-in_default-clause-tally_after c =
    let a = c.args in
    name-fault a.source.now a.list.now a.t c.requires.0 _ c.read_line-r.result c.read_line-r.ensures c.in_default.is

pub returns-in_default-clause-end_value : goal.returns-in_default-clause-end_value
returns-in_default-clause-end_value c =
    let a = c.args in
    end-fault a.source.now a.list.now a.t c.requires.0 _ c.read_line-r.result c.read_line-r.ensures c.in_default.is

pub returns-in_default-name-clause-tally_after : goal.returns-in_default-name-clause-tally_after
returns-in_default-name-clause-tally_after c =
    let a = c.args in
    name-none a.source.now a.list.now a.t c.requires.0 _ c.read_line-r.result c.read_line-r.ensures c.in-Some.line c.in-Some.is
    c.layout_of-l.result c.layout_of-l.ensures c.after.result c.after.ensures c.placed_at-after.result c.placed_at-after.ensures
    c.in_default-name.is

pub returns-in_default-name-clause-end_value : goal.returns-in_default-name-clause-end_value
returns-in_default-name-clause-end_value c =
    let a = c.args in
    end_line a.source.now a.list.now a.t c.requires.0 _ c.read_line-r.result c.read_line-r.ensures c.in-Some.line c.in-Some.is
    c.layout_of-l.result c.layout_of-l.ensures c.is_stop-end.result c.is_stop-end.ensures

pub overflow_add-at : goal.overflow_add-at
overflow_add-at c =
    let a = c.args in
    let k = line-named _ _ c.in-Some.line c.in-Some-name.name (sym c.read_line-r.ensures ∙ c.in-Some.is) c.in-Some-name.is in
    let m = name-within a.source.now a.at a.stop c.in-Some-name.name c.requires.1 k in
    omega (arith, m, c.requires.1.to)

pub returns-clause-tally_after : goal.returns-clause-tally_after
returns-clause-tally_after c =
    let a = c.args in
    let g = c.give-given in
    let k = line-named _ _ c.in-Some.line c.in-Some-name.name (sym c.read_line-r.ensures ∙ c.in-Some.is) c.in-Some-name.is in
    let m = name-within a.source.now a.at a.stop c.in-Some-name.name c.requires.1 k in
    name-some a.source.now a.list.now a.t c.requires.0 _ c.read_line-r.result c.read_line-r.ensures c.in-Some.line c.in-Some.is
    c.layout_of-l.result c.layout_of-l.ensures c.after.result c.after.ensures c.placed_at-after.result c.placed_at-after.ensures
    c.in-Some-name.name c.in-Some-name.is c.name_value-v.result c.name_value-v.ensures
    (word (drop (a.at + c.in-Some-name.name) a.source.now))
    (line_word a.source.now a.at a.stop c.in-Some-name.name c.requires.1 (omega (arith, m)))
    (table_at a.source.now g.new.list g.result) g.ensures.result_after

pub returns-clause-end_value : goal.returns-clause-end_value
returns-clause-end_value c =
    let a = c.args in
    end_line a.source.now a.list.now a.t c.requires.0 _ c.read_line-r.result c.read_line-r.ensures c.in-Some.line c.in-Some.is
    c.layout_of-l.result c.layout_of-l.ensures c.is_stop-end.result c.is_stop-end.ensures

-- A name that is known already and the 1,025th leave the table and note the line; any other is put behind the names given, and the array
-- holds one name more. Each way out is one law of the table over the callees' equations.
use Rattle.std.proofs.Common.{◌≡◌, refl, sym, ap, ◌∙◌, drop, to_z, of_z, rules}
use mir.Syntax.{w32}
use Rattle.asm_text.specs.Text.{word}
use Rattle.asm_sweeps.specs.Places.{one_more}
use Rattle.asm_sweeps.specs.Held.{table_at}
use Rattle.asm_sweeps.proofs.Names.{known-is, stored-is, give-known, give-full, give-new}
use Rattle.asm_sweeps.proofs.give.Goals as goal

pub returns-then-is_ok-clause-result_after : goal.returns-then-is_ok-clause-result_after
returns-then-is_ok-clause-result_after c =
    let a = c.args in
    let old = c.look_up-old in
    ap (table_at a.source.now a.list.now) c.note_lack.ensures
    ∙ give-known a.source.now a.list.now a.t c.requires (word (drop a.at a.source.now)) a.v old.result old.ensures
    (sym (c.is_ok.ensures.value ∙ known-is old.result) ∙ c.if-is_ok.true)

pub returns-then-n-ge1024-clause-result_after : goal.returns-then-n-ge1024-clause-result_after
returns-then-n-ge1024-clause-result_after c =
    let a = c.args in
    let old = c.look_up-old in
    ap (table_at a.source.now a.list.now) c.note_lack-then-n-ge1024.ensures
    ∙ give-full a.source.now a.list.now a.t c.requires (word (drop a.at a.source.now)) a.v old.result old.ensures
    (sym (c.is_ok.ensures.value ∙ known-is old.result) ∙ c.if-is_ok.false) c.if-n-ge1024.true

pub returns-clause-result_after : goal.returns-clause-result_after
returns-clause-result_after c =
    let a = c.args in
    let old = c.look_up-old in
    let e : to_z w32 (of_z w32 c.unwrap_or.result) ≡ c.unwrap_or.result = search rules in
    give-new a.source.now a.list.now a.t c.requires (word (drop a.at a.source.now)) a.v old.result old.ensures
    (sym (c.is_ok.ensures.value ∙ known-is old.result) ∙ c.if-is_ok.false) c.if-n-ge1024.false
    record { place = a.at; key = c.read_word-key.result.value.key; value = to_z w32 (of_z w32 c.unwrap_or.result) }
    c.one_more.result refl (e ∙ c.unwrap_or.ensures ∙ stored-is a.v) (c.one_more.ensures ∙ ap one_more c.note_fault.ensures)

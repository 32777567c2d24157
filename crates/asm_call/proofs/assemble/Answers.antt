-- The first rule that is broken decides, in the order of the definition; where none is, the image's equation is the memory's.
use Rattle.std.proofs.Common.{◌≡◌, refl, sym, ◌∙◌}
use Rattle.asm_call.specs.Call.{assemble_verdict}
use Rattle.asm_call.proofs.Laws.{verdict-short, verdict-whole, verdict-form, verdict-found, image-found, memory-kept, memory-done}
use Rattle.asm_call.proofs.assemble.Goals as goal
use Rattle.asm_call.proofs.assemble.Goals.{After-decide-v}

-- what the sweeps found
found : (c : After-decide-v) → c.decide-v.result ≡ assemble_verdict c.args.memory.now c.args.source.now
found c =
    verdict-found c.args.source.now c.collect-t.new.list c.collect-t.result c.collect-t.ensures.holds c.collect-t.ensures.result_after
    (sym c.form-f.ensures ∙ c.in_default.is) c.uses-u.result c.uses-u.ensures c.decide-v.result c.decide-v.ensures
    ∙ verdict-whole c.args.memory.now c.args.source.now c.if-memory-ne65536.false

pub returns-then-memory-ne65536-clause-verdict : goal.returns-then-memory-ne65536-clause-verdict
returns-then-memory-ne65536-clause-verdict c = verdict-short c.args.memory.now c.args.source.now c.if-memory-ne65536.true

pub returns-then-memory-ne65536-clause-memory : goal.returns-then-memory-ne65536-clause-memory
returns-then-memory-ne65536-clause-memory c =
    memory-kept c.args.memory.now c.args.source.now _ (verdict-short c.args.memory.now c.args.source.now c.if-memory-ne65536.true) refl

pub returns-in-Some-clause-verdict : goal.returns-in-Some-clause-verdict
returns-in-Some-clause-verdict c =
    verdict-form c.args.source.now c.form-f.result c.in-Some.line c.form-f.ensures c.in-Some.is
    ∙ verdict-whole c.args.memory.now c.args.source.now c.if-memory-ne65536.false

pub returns-in-Some-clause-memory : goal.returns-in-Some-clause-memory
returns-in-Some-clause-memory c =
    memory-kept c.args.memory.now c.args.source.now _
    (verdict-form c.args.source.now c.form-f.result c.in-Some.line c.form-f.ensures c.in-Some.is
    ∙ verdict-whole c.args.memory.now c.args.source.now c.if-memory-ne65536.false) refl

pub returns-then-is_ok-clause-verdict : goal.returns-then-is_ok-clause-verdict
returns-then-is_ok-clause-verdict c = found (goal.at.returns-then-is_ok-clause-verdict c).After-decide-v

pub returns-then-is_ok-clause-memory : goal.returns-then-is_ok-clause-memory
returns-then-is_ok-clause-memory c =
    image-found c.args.source.now c.collect-t.new.list c.collect-t.result c.collect-t.ensures.holds c.collect-t.ensures.result_after
    c.args.memory.now c.image.new.memory c.image.ensures
    ∙ memory-done c.args.memory.now c.args.source.now c.decide-v.result
    (found (goal.at.returns-then-is_ok-clause-memory c).After-decide-v) (sym c.is_ok.ensures.value ∙ c.if-is_ok.true)

pub returns-else-is_ok-clause-verdict : goal.returns-else-is_ok-clause-verdict
returns-else-is_ok-clause-verdict c = found (goal.at.returns-else-is_ok-clause-verdict c).After-decide-v

pub returns-else-is_ok-clause-memory : goal.returns-else-is_ok-clause-memory
returns-else-is_ok-clause-memory c =
    memory-kept c.args.memory.now c.args.source.now c.decide-v.result
    (found (goal.at.returns-else-is_ok-clause-memory c).After-decide-v) (sym c.is_ok.ensures.value ∙ c.if-is_ok.false)

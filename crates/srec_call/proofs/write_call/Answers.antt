use Prim.Native.Nat.{ℕ, ◌*◌}
use mathlib.Core.Path.{ap, ◌∙◌}
use Rattle.srec_call.specs.Call.{Written}
use Rattle.srec_call.proofs.Laws.{write-short, write-past, write-small, write_done}
use Rattle.srec_call.proofs.write_call.Goals as goal

pub returns-then-memory-ne65536 : goal.returns-then-memory-ne65536
returns-then-memory-ne65536 c = let s = c.args in
    let e = write-short s.memory.now s.start s.size s.pc s.text.now c.if-memory-ne65536.true in
    record { reply = c.from.ensures ∙ ap (λ (x : Written). x.reply) e; text = ap (λ (x : Written). x.text) e }

pub returns-then-a-n-gt65536 : goal.returns-then-a-n-gt65536
returns-then-a-n-gt65536 c =
    let s = c.args in
    let e = write-past s.memory.now s.start s.size s.pc s.text.now c.if-memory-ne65536.false c.if-a-n-gt65536.true in
    record { reply = c.from-then-a-n-gt65536.ensures ∙ ap (λ (x : Written). x.reply) e; text = ap (λ (x : Written). x.text) e }

pub returns-then-text-need : goal.returns-then-text-need
returns-then-text-need c =
    let s = c.args in
    let e =
    write-small s.memory.now s.start s.size s.pc s.text.now c.if-memory-ne65536.false c.if-a-n-gt65536.false c.if-text-need.true in
    record { reply = c.from-then-text-need.ensures ∙ ap (λ (x : Written). x.reply) e; text = ap (λ (x : Written). x.text) e }

pub returns : goal.returns
returns c =
    let s = c.args in
    let e = write_done s.memory.now s.start s.size s.pc s.text.now c.if-memory-ne65536.false c.if-a-n-gt65536.false c.if-text-need.false in
    let w = c.write-count.ensures in
    record { reply = ap (λ (x : ℕ). 256 * x) w.1 ∙ ap (λ (x : Written). x.reply) e; text = w.0 ∙ ap (λ (x : Written). x.text) e }

use Prim.Native.Nat.{ℕ}
use mathlib.Core.Path.{ap, ◌∙◌}
use native.Mathlib.Omega.{arith}
use Rattle.srec_call.specs.Call.{Loaded, load_reply}
use Rattle.srec_call.proofs.Laws.{load-short, load-refused, load-done, load-sound}
use Rattle.srec_call.proofs.load_call.Goals as goal

pub returns-then-memory-ne65536 : goal.returns-then-memory-ne65536
returns-then-memory-ne65536 c = let s = c.args in
    let e = load-short s.memory.now s.text.now s.pc c.if-memory-ne65536.true in
    let r = c.reply.ensures ∙ ap (λ (x : ℕ). load_reply x s.pc 0) c.from.ensures in
    record { reply = r ∙ ap (λ (x : Loaded). x.reply) e; memory = ap (λ (x : Loaded). x.memory) e }

pub load-last-requires : goal.load-last-requires
load-last-requires c = (omega arith, load-sound c.args.text.now c.in-Ok.ensures)

pub returns-in-Ok : goal.returns-in-Ok
returns-in-Ok c =
    let s = c.args in
    let e = load-done s.memory.now s.text.now s.pc c.if-memory-ne65536.false c.in-Ok.ensures in
    let r = c.reply-in-Ok.ensures ∙ ap (λ (x : ℕ). load_reply 0 x 0) c.load-last.ensures.pc in
    record { reply = r ∙ ap (λ (x : Loaded). x.reply) e; memory = c.load-last.ensures.memory ∙ ap (λ (x : Loaded). x.memory) e }

pub returns-in-Err : goal.returns-in-Err
returns-in-Err c =
    let s = c.args in
    let v = c.in-Err.fault in
    let e = load-refused s.memory.now s.text.now s.pc v c.if-memory-ne65536.false c.in-Err.ensures in
    let r = c.reply-in-Err.ensures ∙ ap (λ (x : ℕ). load_reply x s.pc v.line) c.from-in-Err.ensures in
    record { reply = r ∙ ap (λ (x : Loaded). x.reply) e; memory = ap (λ (x : Loaded). x.memory) e }

use Rattle.std.proofs.Common.{◌/◌, ◌%◌, refl, inl, inr}
use Rattle.stretch_memory.proofs.Laws.{served-store, store-relative-effect}
use Rattle.stretch_memory.proofs.store_relative.Goals as goal

pub returns-then-not-store : goal.returns-then-not-store
returns-then-not-store c =
    let same = c.store.ensures.declined c.if-not-store.true in
    λ free psw cex. inl (refl, (refl, refl, refl, same))

pub returns : goal.returns
returns c =
    let a = c.args in
    let l = a.regs.now in
    let o = c.store.ensures.stored c.if-not-store.false in
    λ free psw cex.
    inr
    (served-store free _ l l a.mem.now psw cex a.pc c.requires _ _ _ _
    (store-relative-effect l psw cex a.wb (a.w % 8) _ refl c.relative-at.ensures (a.w / 8 % 8) refl) o.0
    o.1
    refl)

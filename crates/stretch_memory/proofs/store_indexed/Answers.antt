use Rattle.std.proofs.Common.{◌/◌, ◌%◌, refl, inl, inr, arith}
use Rattle.machine.specs.Effect.{moves?}
use Rattle.stretch_memory.proofs.Laws.{served-store, store-effect, pc-adjusted, decode-store}
use Rattle.stretch_memory.proofs.store_indexed.Goals as goal

pub returns-then-dec-inc : goal.returns-then-dec-inc
returns-then-dec-inc c = λ free psw cex. inl (refl, (refl, refl, refl, refl))

pub returns-then-not-store : goal.returns-then-not-store
returns-then-not-store c =
    let same = c.store.ensures.declined c.if-not-store.true in
    λ free psw cex. inl (refl, (refl, refl, refl, same))

pub returns : goal.returns
returns c =
    let a = c.args in
    let r = a.row in
    let l = a.regs.now in
    let (past, e, lo, hi) = c.requires in
    let stays = c.if-dec-inc.false in
    let o = c.store.ensures.stored c.if-not-store.false in
    λ free psw cex.
    rw (decode-store a.w r e lo hi)
    (inr
    (served-store free _ l _ a.mem.now psw cex a.pc past _ _ _ _
    (store-effect l _ psw cex (r / 8 % 2) (r / 4 % 2) (r / 2 % 2) (r % 2) (a.w % 8) stays refl c.adjusted_by-b.ensures
    c.address-at.ensures c.adjust.ensures (a.w / 8 % 8) refl) o.0 o.1
    (pc-adjusted (moves? (r / 4 % 2) (r / 2 % 2)) l _ (a.w % 8) _ (omega arith) stays c.adjust.ensures)))

use Rattle.std.proofs.Common.{◌/◌, ◌%◌, sym, refl, ◌∙◌, inl, inr, arith}
use Rattle.machine.specs.Effect.{moves?}
use Rattle.stretch_memory.proofs.Laws.{served-load, load-effect, pc-adjusted, decode-load}
use Rattle.stretch_memory.proofs.load_indexed.Goals as goal

pub returns-then-dst-eq7 : goal.returns-then-dst-eq7
returns-then-dst-eq7 c = λ free psw cex. inl (refl, (refl, refl, refl, refl))

pub returns-then-dec-inc : goal.returns-then-dec-inc
returns-then-dec-inc c = λ free psw cex. inl (refl, (refl, refl, refl, refl))

pub returns-then-not-aligned : goal.returns-then-not-aligned
returns-then-not-aligned c = λ free psw cex. inl (refl, (refl, refl, refl, refl))

pub returns : goal.returns
returns c =
    let a = c.args in
    let r = a.row in
    let o = c.load.ensures in
    let l = a.regs.now in
    let (past, e, lo, hi) = c.requires in
    let stays = c.if-dec-inc.false in
    λ free psw cex.
    rw (decode-load a.w r e lo hi)
    (inr
    (served-load free _ l _ a.mem.now psw cex a.pc past _ _ _ _ _
    (load-effect l _ psw cex (r / 8 % 2) (r / 4 % 2) (r / 2 % 2) (r % 2) (a.w / 8 % 8) stays refl c.adjusted_by-b.ensures
    c.address-at.ensures c.adjust.ensures (a.w % 8)) (sym c.aligned.ensures ∙ c.if-not-aligned.false) o.core o.memory
    (o.pc ∙ pc-adjusted (moves? (r / 4 % 2) (r / 2 % 2)) l _ (a.w / 8 % 8) _ (omega arith) stays c.adjust.ensures)))

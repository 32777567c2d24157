use Rattle.std.proofs.Common.{◌/◌, ◌%◌, sym, refl, ◌∙◌, inl, inr}
use Rattle.stretch_memory.proofs.Laws.{served-load, load-relative-effect}
use Rattle.stretch_memory.proofs.load_relative.Goals as goal

pub returns-then-dst-eq7 : goal.returns-then-dst-eq7
returns-then-dst-eq7 c = λ free psw cex. inl (refl, (refl, refl, refl, refl))

pub returns-then-not-aligned : goal.returns-then-not-aligned
returns-then-not-aligned c = λ free psw cex. inl (refl, (refl, refl, refl, refl))

pub returns : goal.returns
returns c =
    let a = c.args in
    let o = c.load.ensures in
    let l = a.regs.now in
    λ free psw cex.
    inr
    (served-load free _ l l a.mem.now psw cex a.pc c.requires _ _ _ _ _
    (load-relative-effect l psw cex a.wb (a.w / 8 % 8) _ refl c.relative-from.ensures (a.w % 8))
    (sym c.aligned.ensures ∙ c.if-not-aligned.false) o.core o.memory o.pc)

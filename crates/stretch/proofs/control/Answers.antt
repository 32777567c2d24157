-- No CEX, or one step of it, with no block open before it. Its outcome is the condition's of the flags as they are kept.
-- Assumes nothing.
use Rattle.std.proofs.Common.{◌≡◌, ℕ, ◌+◌, ◌-◌, ◌*◌, ◌/◌, ◌%◌, get_or, set, refl, ap, ◌∙◌, arith}
use mathlib.Core.Bool.{false≢true}
use Rattle.word.specs.Width.{bit}
use Rattle.flags.specs.Kept.{held_in}
use Rattle.stretch.specs.Stretch.{Goes}
use Rattle.entry.proofs.Quiet.{shut_none}
use Rattle.stretch.proofs.Steps.{goes_none, goes_one, fetched, cex-loaded}
use Rattle.stretch.proofs.control.Goals as goal
use Rattle.stretch.proofs.control.Goals.{Start}

even : (v : ℕ) → (v % 2 ≡ 1 → ⊥) → v % 2 ≡ 0
even v n = omega arith

-- no step
none : (c : Start) (l p : ℕ)
    → let a = c.args in
    let r = a.regs.now in
    let m = a.mem.now in
    Goes l r p a.cex m r p a.cex m (a.left - a.left)
none c l p =
    let a = c.args in
    let e : a.left - a.left ≡ 0 = omega arith in
    rw e (goes_none l a.regs.now a.mem.now p a.cex)

pub returns-then-pc-eq1 : goal.returns-then-pc-eq1
returns-then-pc-eq1 c =
    let s : Start = search in
    record { goes = λ l p woken. none s l _; left = (omega arith, (λ e. absurd (false≢true e))) }

pub returns-then-w-ne20 : goal.returns-then-w-ne20
returns-then-w-ne20 c =
    let s : Start = search in
    record { goes = λ l p woken. none s l _; left = (omega arith, (λ e. absurd (false≢true e))) }

-- the word's counts are its low six bits
counts : (w h b : ℕ) → h ≡ b → w % 64 + 64 * h ≡ w % 8 + 8 * (w / 8 % 8) + 64 * b
counts w h b e = omega arith

pub returns : goal.returns
returns c =
    let a = c.args in
    let regs = a.regs.now in
    let m = a.mem.now in
    let w = c.read_word-w.result in
    let pc = get_or regs 7 0 in
    let next = (pc + 2) % 65536 in
    let one : a.left - (a.left - 1) ≡ 1 = omega (arith, c.requires.1) in
    let x = w % 64 + 64 * c.flag-holds.result in
    rw one
    (record {
      goes =
          λ l p woken.
          let q = held_in p a.kept.now in
          goes_one l regs m q a.cex (set regs 7 next) m q x
          (cex-loaded l regs m q a.cex w next x (even pc c.if-pc-eq1.false) woken (shut_none a.cex c.requires.0).0
          (fetched m pc c.word_of.ensures.0 c.read_word-w.ensures) c.if-w-ne20.false refl
          (counts w c.flag-holds.result _ (c.flag-holds.ensures.0 ∙ ap bit (c.condition.ensures p))));
      left = (omega (arith, c.requires.1), (λ e. omega (arith, c.requires.1)));
    })

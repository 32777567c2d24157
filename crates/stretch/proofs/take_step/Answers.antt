-- The word at PC is fetched and PC is past it; then the word is taken. PC is even, so that the first byte of the word is at PC.
-- Assumes nothing.
use Rattle.stretch.proofs.Steps.{fetched, step-taken}
use Rattle.flags.specs.Kept.{held_in}
use Rattle.std.proofs.Common.{◌≡◌, ℕ, ◌+◌, ◌*◌, ◌/◌, ◌%◌, sym, ap, arith, get_or-set_same}
use Rattle.stretch.proofs.take_step.Goals as goal

-- the first byte of the word at an even PC
first_byte_lem : (p a b : ℕ) → p % 2 ≡ 0 → a ≡ p % 65536 / 2 → b ≡ 2 * a → b ≡ p % 65536
first_byte_lem p a b e ea eb = omega arith

pub take_word-requires : goal.take_word-requires
take_word-requires c =
    let a = c.args in
    let at = first_byte_lem a.pc _ _ c.requires.1 c.word_of-at.ensures.0 c.byte_of.ensures in
    ((sym (get_or-set_same a.regs.now 7 _ 0 c.requires.2.1), omega arith, omega arith), omega arith, omega arith, c.requires.0)

pub returns : goal.returns
returns c =
    let a = c.args in
    let at = first_byte_lem a.pc _ _ c.requires.1 c.word_of-at.ensures.0 c.byte_of.ensures in
    step-taken a.free a.pc _ _ a.cex.now (held_in a.psw.now a.kept.now) _ _ _
    a.regs.now a.mem.now _ _ c.requires.2 c.requires.1
    (fetched a.mem.now (a.pc % 65536) c.word_of-at.ensures.0 c.read_word-w.ensures)
    (ap (λ (n : ℕ). (n + 2) % 65536) at) c.take_word.ensures

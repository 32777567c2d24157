use Rattle.std.proofs.Common.{ℕ, ◌+◌, ◌-◌, ◌/◌, ◌%◌, ◌≡◌, sym, ap, ◌∙◌, List, [], ◌∷◌, length, ⊎_elim, arith}
use lib.Seq.{sets}
use Rattle.asm_spellings.specs.Spellings.{letters_of}
use Rattle.asm_printer.proofs.Laws.{put_then, letters-none, letters-end, letters-more}
use Rattle.asm_printer.proofs.+put_letters.Goals as goal

pub returns-then-k-eq0 : goal.returns-then-k-eq0
returns-then-k-eq0 t c =
    let none : letters_of c.args.k c.args.q ≡ [] =
    ⊎_elim (λ w. letters-end c.args.k c.args.q w) (λ w. letters-none c.args.k c.args.q w.1) c.then-k-eq0.either in
    (rw none, rw none (omega arith), omega arith)

pub returns : goal.returns
returns t c =
    let more = letters-more c.args.k c.args.q (omega arith) (omega arith) in
    let both =
    put_then c.args.text.now _ _ c.args.at _ _ (letters_of (c.args.k - 1) (c.args.q / 256)) ((c.args.q % 256) ∷ [])
    c.put_letters-next.ensures.0 c.put_letters-next.ensures.1 c.put.ensures.0 c.put.ensures.1 in
    (both.0 ∙ ap (sets c.args.text.now c.args.at) (sym more), both.1 ∙ ap (λ (l : List ℕ). c.args.at + length l) (sym more), omega arith)

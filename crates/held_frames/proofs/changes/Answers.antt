use Rattle.word.specs.Width.{bit}
use Rattle.std.proofs.Common.{◌≡◌, ◌+◌, ◌*◌, not, eqb, length, ap, ◌∙◌, get_or, rules}
use Rattle.std.specs.Cmp.Lexicographic.{pointwise}
use Rattle.held_frames.proofs.Laws.{same-law}
use Rattle.held_frames.proofs.changes.Goals as goal

pub returns : goal.returns
returns c =
    let row = c.args.row.now in
    let r = c.registers_differ-r.ensures.0 in
    let n : length row.frame ≡ 8 = search rules in
    let same = ap (pointwise eqb row.frame) c.frame_at.ensures ∙ same-law row.frame _ n in
    let b = ap bit (c.ne-b.ensures ∙ ap not same) in
    λ i. r i + 32 * bit (not (eqb row.stack (get_or c.args.regs.now 6 0))) + 64 * b i

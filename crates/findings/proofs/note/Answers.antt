use Rattle.findings.proofs.Laws.{four-wrap, copied-law}
use Rattle.machine.specs.Memory.{low_byte, high_byte}
use Rattle.soundness.specs.Findings.{finding}
use Rattle.soundness.specs.Judge.{finding_bytes}
use Rattle.open_frames.specs.Open.{handler_of}
use Rattle.std.proofs.Common.{ℕ, ◌+◌, ◌%◌, ◌^◌, ◌≤◌, [], ◌∷◌, ◌++◌, length, refl, ap, ◌∙◌, arith}
use lib.Seq.{sets}
use Rattle.findings.proofs.note.Goals as goal

pub returns : goal.returns
returns c =
    let a = c.args in
    let x = four-wrap (a.start + a.step) ((a.start + a.step) % 2 ^ 32) refl in
    let y = four-wrap (a.start + a.h.opened) ((a.start + a.h.opened) % 2 ^ 32) refl in
    let bytes = c.copy_from_slice.ensures.after ∙ c.bytes_of-bytes.ensures
    ∙ (λ i. x i ++ y i ++ (1 ∷ a.b.detail ∷ low_byte a.b.address ∷ high_byte a.b.address ∷ a.h.vector ∷ a.h.running ∷ 0 ∷ 0 ∷ [])) in
    let within : c.place-i.result + 16 ≤ length a.findings.now = omega (arith, c.place-i.ensures.1, c.requires) in
    copied-law a.findings.now _ _ c.place-i.result _ bytes refl (omega arith) within
    ∙ ap (λ (i : ℕ). sets a.findings.now i (finding_bytes a.start (finding a.step a.b.detail a.b.address (handler_of a.h))))
    c.place-i.ensures.0

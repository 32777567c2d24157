use Rattle.std.proofs.Common.{◌≡◌, ℕ, ◌+◌, ◌≤◌, List, length, take, drop, ◌++◌, append_assoc, refl, sym, ap, ◌∙◌, arith}
use Rattle.std.proofs.Math.Seq.{drop-drop}
use Rattle.std.proofs.lemmas.List.Edits.{sets, sets-eq}
use borrow.Rule.Slice.PartMut.{put_mid}
use Rattle.srec_write.proofs.put.Goals as goal

-- a part of a text that another list is copied over
copied : (t s : List ℕ) (at k : ℕ) → k ≡ length s → at + length s ≤ length t → put_mid at k t s ≡ sets t at s
copied t s at k e h =
    ap (λ n. take at t ++ (s ++ n)) (ap (λ n. drop n (drop at t)) e ∙ drop-drop (length s) at t)
    ∙ sym (append_assoc (take at t) s (drop (at + length s) t))
    ∙ sym (sets-eq s t at h)

pub returns : goal.returns
returns c =
    let a = c.args in
    (ap (put_mid a.at _ a.text.now) c.copy_from_slice.ensures.after ∙ copied a.text.now a.chars.now a.at _ (omega arith) c.requires, refl)

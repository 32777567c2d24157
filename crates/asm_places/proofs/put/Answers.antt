use Rattle.std.proofs.Common.{◌≡◌, ◌+◌, ◌-◌, ◌∷◌, [], List, ℕ, ap, ◌∙◌, arith, get_or}
use borrow.Rule.Slice.PartMut.{put_mid}
use mir.Val.{bool_byte}
use Rattle.asm_places.specs.Listing.{eight_of}
use Rattle.asm_places.proofs.Laws.{put-eight}
use Rattle.asm_places.proofs.put.Goals as goal

pub returns : goal.returns
unfolding eight_of
returns c =
    let a = c.args in
    let bytes : c.copy_from_slice.new.self ≡ eight_of a.n a.kind a.size a.named =
    c.copy_from_slice.ensures.after
    ∙ ap (λ (r : List ℕ). get_or r 0 0 ∷ get_or r 1 0 ∷ get_or r 2 0 ∷ get_or r 3 0 ∷ a.kind ∷ a.size ∷ bool_byte a.named ∷ 0 ∷ [])
    c.to_le_bytes.ensures in
    ap (put_mid a.i (a.i + 8 - a.i) a.list.now) bytes
    ∙ put-eight a.list.now a.i a.n a.kind a.size a.named (a.i + 8 - a.i) (omega arith) c.requires

-- What the code finds at a block, as its functions meet it. An operation has one block, or two of one size 64 words apart; so the next word
-- is the next in the first or, if there is none, the next in the second. Assumes nothing.
use Prim.Native.Nat.{ℕ, ◌+◌, ◌<◌}
use mathlib.Core.Path.{◌≡◌, refl, ap, ◌∙◌}
use mathlib.Core.Bool.{Bool, true, false, cond}
use mathlib.Core.List.{List, [], ◌∷◌}
use native.Mathlib.Omega.{arith}
use lib.Dec.{ltb}
use Rattle.std.specs.Prelude.{None}
use Rattle.std.specs.Option.{option_or}
use Rattle.word.proofs.Laws.{bool_cases}
use Rattle.isa_card.specs.declared.Block.{Block}
use Rattle.isa_card.specs.Words.{count_of, next_of}
use Rattle.isa_card.specs.Blocks.{block_of, is_twice, above_block, first_among}
use Rattle.isa_card.proofs.Lists.{next-illegal}
use Rattle.isa_card.proofs.Blocks.{next-blocks, count-total, no-operation}

-- no operation
pub next_none : (o w : ℕ) → (o < 1 → next_of o w ≡ None) × (41 < o → next_of o w ≡ None)
next_none o w = (
  λ h. let e : o ≡ 0 = omega arith in ap (λ (n : ℕ). next_of n w) e ∙ next-illegal w,
  λ h. (no-operation o w (omega arith)).1,
)

-- of blocks, the next word is in the first, or in the others
among_or : (b : Block) (bs : List Block) (w : ℕ) → first_among (b ∷ bs) w ≡ option_or (first_among (b ∷ []) w) (first_among bs w)
among_or b bs w = bool_cases (ltb w (b.first + b.size)) (λ q. rw q refl) (λ q. rw q refl)

module _ (o : ℕ) (b : Block) (k : b ≡ block_of o) (h : 0 < o) (l : o < 42) where
  pub count_twice : is_twice o ≡ true → count_of o ≡ b.size + b.size
  count_twice e = rw k (count-total o h l ∙ ap (λ (t : Bool). cond t ((block_of o).size + (block_of o).size) (block_of o).size) e)

  pub count_once : is_twice o ≡ false → count_of o ≡ b.size
  count_once e = rw k (count-total o h l ∙ ap (λ (t : Bool). cond t ((block_of o).size + (block_of o).size) (block_of o).size) e)

  next_among : (w : ℕ) (t : Bool) → is_twice o ≡ t → next_of o w ≡ first_among (b ∷ cond t (above_block b ∷ []) []) w
  next_among w t e =
      rw k (next-blocks o w h l ∙ ap (λ (t : Bool). first_among (block_of o ∷ cond t (above_block (block_of o) ∷ []) []) w) e)

  pub next_twice : (w : ℕ) → is_twice o ≡ true
      → next_of o w ≡ option_or (first_among (b ∷ []) w) (first_among (above_block b ∷ []) w)
  next_twice w e = next_among w true e ∙ among_or b (above_block b ∷ []) w

  pub next_once : (w : ℕ) → is_twice o ≡ false → next_of o w ≡ first_among (b ∷ []) w
  next_once w e = next_among w false e

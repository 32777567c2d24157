-- The image byte by byte: what a statement's bytes leave alone, and what they hold. Assumes nothing.
use mathlib.Core.Path.{◌≡◌, refl, sym, ap, ◌∙◌}
use mathlib.Core.List.{List, [], ◌∷◌, ◌++◌}
use Prim.Native.Nat.{ℕ, suc, ◌+◌, ◌/◌, ◌%◌, ◌<◌, ◌≤◌}
use native.Mathlib.Numerals.{add-one}
use native.Mathlib.Omega.{arith}
use lib.Dec.{eqb}
use lib.ListN.{length, get_or, set, length-set}
use lib.Seq.{sets, length-sets, get_or-set_same, get_or-set_other}
use borrow.Author.Tests.{eqb-true, eqb-false}
use Rattle.std.specs.Prelude.{Ok, Err}
use Rattle.asm_fits.specs.Fits.{Fit}
use Rattle.word.proofs.Laws.{bool_cases}
use Rattle.asm_write.specs.Written.{layout_of, size_of, used_of, bytes_for, bytes_with, bytes_of}
use Rattle.asm_image.specs.Image.{Placed, image_of}
use Rattle.asm_image.proofs.Laws.{image-append, used-room}
use Rattle.asm_theorems.specs.Theorems.{Uncovered, OthersKept, SpaceUncovered, LengthKept, word_in}

-- bytes stored elsewhere
pub sets-other : (vs m : List ℕ) (i a : ℕ) → (i ≤ a → a < i + length vs → ⊥) → get_or (sets m i vs) a 0 ≡ get_or m a 0
sets-other [] m i a h = refl
sets-other (v ∷ vs) m i a h =
    sets-other vs (set m i v) (suc i) a (λ b d. h (omega arith) (omega arith))
    ∙ get_or-set_other m i a v 0 (λ e. h (omega arith) (omega arith))

-- a statement has at most the bytes of its size
for-length : (size n : ℕ) → length (bytes_for size n) ≤ size
unfolding bytes_for
for-length size n =
    bool_cases (eqb size 0) (λ q. rw q (omega arith))
    (λ q. bool_cases (eqb size 1) (λ r. rw (q, r) (let e = eqb-true size 1 r in omega arith))
    (λ r. rw (q, r) (let e = eqb-false size 0 q in let d = eqb-false size 1 r in omega (arith, e, d))))

bytes-length : (size : ℕ) (f : Fit) → length (bytes_with size f) ≤ size
bytes-length size (Ok n) = for-length size n
bytes-length size (Err d) = omega arith

pub others-kept : OthersKept
unfolding image_of
others-kept [] m a h = refl
others-kept (x ∷ xs) m a h =
    let size = size_of (layout_of x.statement) in
    let k : length (bytes_of x.place x.statement) ≤ size = bytes-length size (used_of x.place x.statement) in
    others-kept xs (sets m x.place (bytes_of x.place x.statement)) a h.1
    ∙ sets-other (bytes_of x.place x.statement) m x.place a (λ b d. h.0 (b, omega arith))

pub space-uncovered : SpaceUncovered
unfolding layout_of
space-uncovered p a v h = let b = h.0 in let d = h.1 in omega arith

pub length_kept : LengthKept
unfolding image_of
length_kept [] m = refl
length_kept (x ∷ xs) m =
    length_kept xs (sets m x.place (bytes_of x.place x.statement))
    ∙ length-sets m x.place (bytes_of x.place x.statement)

-- ---- the bytes of a statement that fits
module _ (before after : List Placed) (x : Placed) (m : List ℕ) (n : ℕ) (e : used_of x.place x.statement ≡ Ok n)
    (hm : length m ≡ 65536) where
  p : ℕ
  p = x.place

  -- memory before it and behind it
  was : List ℕ
  was = image_of before m

  was-length : length was ≡ 65536
  unfolding was
  was-length = length_kept before m ∙ hm

  room : (s : ℕ) → size_of (layout_of x.statement) ≡ s → (s ≡ 0 → ⊥) → x.place + s ≤ 65536
  room s h = used-room x.place x.statement (layout_of x.statement) s (used_of x.place x.statement) refl (sym h) refl n e

  bytes-are : (s : ℕ) → size_of (layout_of x.statement) ≡ s → bytes_of x.place x.statement ≡ bytes_for s n
  bytes-are s h =
      ap (λ (f : Fit). bytes_with (size_of (layout_of x.statement)) f) e ∙ ap (λ (k : ℕ). bytes_for k n) h

  last : (a : ℕ) → Uncovered after a
      → get_or (image_of (before ++ (x ∷ after)) m) a 0 ≡ get_or (sets was x.place (bytes_of x.place x.statement)) a 0
  unfolding was image_of
  last a h =
      ap (λ (l : List ℕ). get_or l a 0) (image-append before (x ∷ after) m)
      ∙ others-kept after (sets (image_of before m) x.place (bytes_of x.place x.statement)) a h

  pub byte-held : size_of (layout_of x.statement) ≡ 1 → Uncovered after x.place
      → get_or (image_of (before ++ (x ∷ after)) m) x.place 0 ≡ n % 256
  unfolding bytes_for
  byte-held h u =
      let r = room 1 h (λ z. omega arith) in
      last x.place u
      ∙ ap (λ (l : List ℕ). get_or (sets was x.place l) x.place 0) (bytes-are 1 h)
      ∙ get_or-set_same was x.place (n % 256) 0 (omega (arith, was-length))

  pub word_held : size_of (layout_of x.statement) ≡ 2 → Uncovered after x.place → Uncovered after (x.place + 1)
      → word_in (image_of (before ++ (x ∷ after)) m) x.place ≡ n
  unfolding bytes_for
  word_held h u w =
      let r = room 2 h (λ z. omega arith) in
      let low : get_or (image_of (before ++ (x ∷ after)) m) x.place 0 ≡ n % 256 =
      last x.place u
      ∙ ap (λ (l : List ℕ). get_or (sets was x.place l) x.place 0) (bytes-are 2 h)
      ∙ get_or-set_other (set was x.place (n % 256)) (suc x.place) x.place (n / 256) 0 (λ z. omega (arith, z))
      ∙ get_or-set_same was x.place (n % 256) 0 (omega (arith, was-length)) in
      let high : get_or (image_of (before ++ (x ∷ after)) m) (x.place + 1) 0 ≡ n / 256 =
      last (x.place + 1) w
      ∙ ap (λ (l : List ℕ). get_or (sets was x.place l) (x.place + 1) 0) (bytes-are 2 h)
      ∙ ap (λ (a : ℕ). get_or (set (set was x.place (n % 256)) (suc x.place) (n / 256)) a 0) (add-one x.place)
      ∙ get_or-set_same (set was x.place (n % 256)) (suc x.place) (n / 256) 0
      (omega (arith, was-length, length-set was x.place (n % 256))) in
      omega (arith, low, high)

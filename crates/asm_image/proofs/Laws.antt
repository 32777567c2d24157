-- Laws of the image: lines one after the other, and the bytes of a statement. Assumes nothing.
use mathlib.Core.Path.{◌≡◌, refl, sym, ap, ◌∙◌}
use mathlib.Core.Bool.{Bool, true, false, cond, ◌&&◌, ◌||◌}
use mathlib.Core.List.{List, [], ◌∷◌, ◌++◌}
use Prim.Native.Nat.{ℕ, ◌+◌, ◌/◌, ◌%◌, ◌<◌, ◌≤◌}
use native.Mathlib.Numerals.{add-one}
use native.Mathlib.Omega.{arith}
use lib.Dec.{eqb, ltb}
use lib.ListN.{length, drop, set}
use lib.Seq.{sets}
use borrow.Author.Tests.{eq-eqb, ne_eqb, lt-ltb, ltb-false}
use Rattle.text_lines.specs.Lines.{lines_of, LineAt}
use Rattle.text_lines.proofs.Laws.{lines_end}
use Rattle.std.specs.Prelude.{ℤ, Result, Ok, Err}
use Rattle.asm_value.specs.declared.Lack.{Lack}
use Rattle.asm_value.specs.declared.Lack.TheVariants.{Outside}
use Rattle.asm_fits.specs.Fits.{Fit}
use Rattle.word.proofs.Laws.{bool_cases}
use Rattle.asm_line.specs.declared.Statement.{Statement}
use Rattle.asm_line.specs.Line.{line_of}
use Rattle.asm_write.specs.declared.Layout.{Layout}
use Rattle.asm_write.specs.Written.{layout_of, size_of, number_of, misplaced?, placed, used_of}
use Rattle.asm_write.specs.Written.{bytes_for, bytes_of}
use Rattle.asm_sweeps.specs.Form.{end?}
use Rattle.asm_sweeps.specs.Held.{line_at}
use Rattle.asm_image.specs.Image.{Placed, statements_at, place_on, placed_from, image_of}

-- ---- the image of a list
pub image-append : (xs ys : List Placed) (m : List ℕ) → image_of (xs ++ ys) m ≡ image_of ys (image_of xs m)
unfolding image_of
image-append [] ys m = refl
image-append (x ∷ xs) ys m = image-append xs ys (sets m x.place (bytes_of x.place x.statement))

pub image-none : (m : List ℕ) → image_of [] m ≡ m
unfolding image_of
image-none m = refl

-- ---- one line at a time
module _ (look : List ℕ → Result ℤ Lack) (t : List ℕ) (at stop next p : ℕ) (m : List ℕ) (here : LineAt t at stop next) where
  pub image-end : end? (line_of look (line_at t at stop)) ≡ true
      → image_of (statements_at p (line_of look (line_at t at stop))) m ≡ image_of (placed_from look (lines_of (drop at t)) p) m
  unfolding placed_from
  image-end e =
      sym (ap (λ (ls : List (List ℕ)). image_of (placed_from look ls p) m) here.split
      ∙ ap (λ (b : Bool). image_of (statements_at p (line_of look (line_at t at stop))
      ++ cond b [] (placed_from look (lines_of (drop next t)) (place_on p (line_of look (line_at t at stop))))) m) e
      ∙ image-append (statements_at p (line_of look (line_at t at stop))) [] m
      ∙ image-none (image_of (statements_at p (line_of look (line_at t at stop))) m))

  pub image-more : end? (line_of look (line_at t at stop)) ≡ false
      → image_of (placed_from look (lines_of (drop next t)) (place_on p (line_of look (line_at t at stop))))
      (image_of (statements_at p (line_of look (line_at t at stop))) m)
      ≡ image_of (placed_from look (lines_of (drop at t)) p) m
  unfolding placed_from
  image-more e =
      sym (ap (λ (ls : List (List ℕ)). image_of (placed_from look ls p) m) here.split
      ∙ ap (λ (b : Bool). image_of (statements_at p (line_of look (line_at t at stop))
      ++ cond b [] (placed_from look (lines_of (drop next t)) (place_on p (line_of look (line_at t at stop))))) m) e
      ∙ image-append (statements_at p (line_of look (line_at t at stop)))
      (placed_from look (lines_of (drop next t)) (place_on p (line_of look (line_at t at stop)))) m)

pub image-last : (look : List ℕ → Result ℤ Lack) (t : List ℕ) (at p : ℕ) (m : List ℕ) → length t ≤ at
    → m ≡ image_of (placed_from look (lines_of (drop at t)) p) m
unfolding placed_from image_of
image-last look t at p m h = sym (ap (λ (ls : List (List ℕ)). image_of (placed_from look ls p) m) (lines_end t at h))

-- ---- one statement
either : (b : Bool) → b || true ≡ false → ⊥
either true e = let z : ◌≡◌ {A = ℕ} 1 0 = ap (λ (x : Bool). cond x 1 0) e in omega arith
either false e = let z : ◌≡◌ {A = ℕ} 1 0 = ap (λ (x : Bool). cond x 1 0) e in omega arith

-- bytes that stand where they may lie in memory
room_of_lem : (size p : ℕ) → misplaced? size p ≡ false → 0 < size → p + size ≤ 65536
unfolding misplaced?
room_of_lem size p h k = bool_cases (ltb 65536 (p + size))
    (λ q. absurd (either (eqb size 2 && eqb (p % 2) 1) (rw (lt-ltb 0 size k, q) at h))) (λ q. ltb-false 65536 (p + size) q)

-- 1 for a number
abbrev numbers : Fit → ℕ
numbers (Ok n) = 1
numbers (Err e) = 0

-- s is the size, f the number as the code has them
module _ (p : ℕ) (x : Statement) (l : Layout) (s : ℕ) (f : Fit)
    (hl : l ≡ layout_of x) (hs : s ≡ size_of l) (hf : f ≡ used_of p x) where
  size_is : s ≡ size_of (layout_of x)
  size_is = hs ∙ ap size_of hl

  used-is : (y : Fit) → number_of p x ≡ y → f ≡ placed s p y
  unfolding used_of
  used-is y e =
      hf ∙ ap (λ (n : ℕ). placed n p (number_of p x)) (sym size_is) ∙ ap (λ (z : Fit). placed s p z) e

  pub used-room : (n : ℕ) → f ≡ Ok n → (s ≡ 0 → ⊥) → p + s ≤ 65536
  used-room n e k = go (number_of p x) refl
    where
      one : numbers f ≡ 1
      one = ap numbers e

      go : (y : Fit) → number_of p x ≡ y → p + s ≤ 65536
      go (Ok m) h = bool_cases (misplaced? s p)
          (λ q. let z : numbers f ≡ 0 = ap numbers (used-is (Ok m) h ∙ ap (λ (b : Bool). cond b (Err Outside) (Ok m)) q) in
          absurd (omega (arith, one, z)))
          (λ q. room_of_lem s p q (omega (arith, k)))
      go (Err d) h = let z : numbers f ≡ 0 = ap numbers (used-is (Err d) h) in absurd (omega (arith, one, z))

-- ---- a number's bytes
module _ (m : List ℕ) (p s n : ℕ) where
  bytes-at : (a b : Bool) → eqb s 0 ≡ a → eqb s 1 ≡ b
      → sets m p (bytes_for s n) ≡ sets m p (cond a [] (cond b ((n % 256) ∷ []) ((n % 256) ∷ (n / 256) ∷ [])))
  unfolding bytes_for
  bytes-at a b ea eb =
      ap (λ (x : Bool). sets m p (cond x [] (cond (eqb s 1) ((n % 256) ∷ []) ((n % 256) ∷ (n / 256) ∷ [])))) ea
      ∙ ap (λ (x : Bool). sets m p (cond a [] (cond x ((n % 256) ∷ []) ((n % 256) ∷ (n / 256) ∷ [])))) eb

  pub put-none : s ≡ 0 → m ≡ sets m p (bytes_for s n)
  put-none h = sym (bytes-at true (eqb s 1) (eq-eqb s 0 h) refl)

  module _ (h : s ≡ 0 → ⊥) where
    pub put_one : s ≡ 1 → set m p (n % 256) ≡ sets m p (bytes_for s n)
    put_one k = sym (bytes-at false true (ne_eqb s 0 h) (eq-eqb s 1 k))

    pub put_two : (s ≡ 1 → ⊥) → set (set m p (n % 256)) (p + 1) (n / 256) ≡ sets m p (bytes_for s n)
    put_two k =
        ap (λ (i : ℕ). set (set m p (n % 256)) i (n / 256)) (add-one p)
        ∙ sym (bytes-at false false (ne_eqb s 0 h) (ne_eqb s 1 k))

-- ---- the loop
module _ (look : List ℕ → Result ℤ Lack) (t : List ℕ) (at stop next p : ℕ) (m k : List ℕ) (here : LineAt t at stop next)
    (e : k ≡ image_of (statements_at p (line_of look (line_at t at stop))) m) (b : Bool)
    (eb : b ≡ end? (line_of look (line_at t at stop))) where
  pub store-end : b ≡ true → k ≡ image_of (placed_from look (lines_of (drop at t)) p) m
  store-end h = e ∙ image-end look t at stop next p m here (sym eb ∙ h)

  pub store-more : b ≡ false → (q : ℕ) → q ≡ place_on p (line_of look (line_at t at stop))
      → image_of (placed_from look (lines_of (drop next t)) q) k ≡ image_of (placed_from look (lines_of (drop at t)) p) m
  store-more h q eq =
      ap (λ (x : ℕ). image_of (placed_from look (lines_of (drop next t)) x) k) eq
      ∙ ap (image_of (placed_from look (lines_of (drop next t)) (place_on p (line_of look (line_at t at stop))))) e
      ∙ image-more look t at stop next p m here (sym eb ∙ h)

-- Frames held, read from their places: one frame more is a store at place n, which leaves the places below it, and one less is the same
-- places with a smaller count. Assumes nothing.
use Prim.Native.Nat.{ℕ, zero, suc, ◌+◌, ◌-◌, ◌<◌, ◌≤◌}
use native.Mathlib.Numerals.{add-one}
use native.Mathlib.Omega.{arith}
use mathlib.Core.List.{List, ◌∷◌}
use mathlib.Core.Path.{◌≡◌, refl, sym, ap, ◌∙◌}
use lib.Dec.{eqb}
use lib.ListN.{length, get_or, set}
use lib.Seq.{get_or-set_same, get_or-set_other}
use Rattle.machine.specs.State.{State}
use Rattle.machine_laws.proofs.Cases.{not-eq}
use Rattle.soundness.specs.Findings.{Handler, handler, kept_in}
use Rattle.soundness.specs.Watch.{held, no_device?, held_runs, held_chained}
use Rattle.held_frames.specs.Rows.{row_kept, kept_with}
use Rattle.open_frames.specs.declared.Frame as declared
use Rattle.open_frames.specs.Open.{handler_of, held_of, held_rows, no_frame}

module _ (l : List declared.Frame) where
  pub none-held : (n : ℕ) → no_device? (held_rows l n) ≡ eqb n 0
  none-held zero = refl
  none-held (suc n) = sym (not-eq {m = suc n} {n = 0} (λ e. absurd (omega (arith, e))))

  pub held-length : (n : ℕ) → length (held_rows l n) ≡ n
  held-length zero = refl
  held-length (suc n) = ap suc (held-length n)

  pub runs-some : (n : ℕ) → (n ≡ 0 → ⊥) → (h : Handler) → h ≡ handler_of (get_or l (n - 1) no_frame).by → h ≡ held_runs (held_rows l n)
  runs-some zero e h p = absurd (e refl)
  runs-some (suc n) e h p = let d : suc n - 1 ≡ n = omega arith in p ∙ ap (λ i. handler_of (get_or l i no_frame).by) d

-- a store at place m leaves the frames below it
pub rows_stay : (l : List declared.Frame) (m : ℕ) (f : declared.Frame) (n : ℕ) → n ≤ m → held_rows (set l m f) n ≡ held_rows l n
rows_stay l m f zero h = refl
rows_stay l m f (suc n) h =
    let a = get_or-set_other l m n f no_frame (λ e. absurd (omega (arith, e, h))) in
    let rest = rows_stay l m f n (omega (arith, h)) in
    λ i. held_of (a i) ∷ rest i

-- the newest of them replaced
pub rows-put : (l : List declared.Frame) (n : ℕ) (f : declared.Frame) → n < length l
    → held_rows (set l n f) (suc n) ≡ held_of f ∷ held_rows l n
rows-put l n f h =
    let a = get_or-set_same l n f no_frame h in
    let rest = rows_stay l n f n (omega arith) in
    λ i. held_of (a i) ∷ rest i

-- one more frame held
pub hold-law : (l : List declared.Frame) (n k x : ℕ) → n < length l → (regs mem : List ℕ) (f : declared.Frame)
    → row_kept f.row ≡ kept_with regs mem (get_or regs 6 0) → handler_of f.by ≡ handler k x x
    → (t : State) → t.core.regs ≡ regs → t.mem ≡ mem
    → held_rows (set l n f) (n + 1) ≡ held (kept_in t) (handler k x x) ∷ held_rows l n
hold-law l n k x h regs mem f er eh t e m =
    let row : row_kept f.row ≡ kept_in t = er ∙ sym (λ i. kept_with (e i) (m i) (get_or (e i) 6 0)) in
    ap (held_rows (set l n f)) (add-one n) ∙ rows-put l n f h ∙ (λ i. held (row i) (eh i) ∷ held_rows l n)

-- a chaining onto the newest of n
module _ (l : List declared.Frame) where
  pub chain-law : (n k d own : ℕ) → n ≤ length l → (n ≡ 0 → ⊥) → (t : State) (f : declared.Frame)
      → held_of f ≡ held (row_kept (get_or l (n - 1) no_frame).row)
      (handler (get_or l (n - 1) no_frame).by.opened (get_or l (n - 1) no_frame).by.vector d)
      → held_rows (set l (n - 1) f) n ≡ held_chained k d t own (held_rows l n)
  chain-law zero k d own h e t f q = absurd (e refl)
  chain-law (suc n) k d own h e t f q =
      let at : suc n - 1 ≡ n = omega arith in
      let z : declared.Frame = get_or l n no_frame in
      let p : held_of f ≡ held (row_kept z.row) (handler z.by.opened z.by.vector d) =
      q ∙ ap (λ m. held (row_kept (get_or l m no_frame).row)
      (handler (get_or l m no_frame).by.opened (get_or l m no_frame).by.vector d)) at in
      ap (λ m. held_rows (set l m f) (suc n)) at ∙ rows-put l n f (omega (arith, h)) ∙ ap (λ x. x ∷ held_rows l n) p

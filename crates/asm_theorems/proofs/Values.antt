-- A number that fits, read back: the value that was written. Assumes nothing.
use mathlib.Core.Path.{◌≡◌, refl, sym, ap, ◌∙◌, subst}
use mathlib.Core.Bool.{Bool, true, false, cond, not, ◌&&◌}
use Prim.Native.Nat.{ℕ, zero, suc, ◌+◌, ◌-◌, ◌*◌, ◌/◌, ◌%◌, ◌<◌, ◌≤◌}
use native.Mathlib.Nat.{not-suc-le-zero}
use native.Mathlib.Omega.{arith}
use lib.Dec.{ltb, eqb}
use lib.IntN.{ℤ, pos, negsuc}
use lib.ListN.{get_or}
use lib.Signed.{mag}
use borrow.Author.Tests.{ltb-true, ltb-false, lt-ltb, le-ltb, eqb-true}
use Rattle.word.specs.Offset.{signed_of, bits_of}
use Rattle.std.specs.Prelude.{Result, Ok, Err}
use Rattle.asm_value.specs.declared.Lack.{Lack}
use Rattle.asm_value.specs.declared.Lack.TheVariants.{Outside}
use Rattle.asm_fits.specs.Fits.{Fit, ◌>>=◌, residue_of, within_of, fit_of, word_fit, byte_fit, count_fit, offset_fit, immediate_fit}
use Rattle.asm_fits.specs.Fits.{constant_number, constant_fit, way_of, steps_of, branch_fit}
use Rattle.word.proofs.Laws.{bool_cases}
use Rattle.asm_print.specs.Print.{constants}
use Rattle.asm_theorems.specs.Theorems.{Leads, byte_taken}

-- ---- fits
abbrev in_fit : Fit → ℕ
in_fit (Ok n) = n
in_fit (Err d) = 0

abbrev is_number : Fit → ℕ
is_number (Ok n) = 1
is_number (Err d) = 0

pub number-inj : (m n : ℕ) → ◌≡◌ {A = Fit} (Ok m) (Ok n) → m ≡ n
number-inj m n e = ap in_fit e

pub lack-not : (d : Lack) (n : ℕ) → ◌≡◌ {A = Fit} (Err d) (Ok n) → ⊥
lack-not d n e = let z : ◌≡◌ {A = ℕ} 0 1 = ap is_number e in omega (arith, z)

-- what comes of a number that fits
next_of_fit : (g : ℕ → Fit) (f : Fit) (n : ℕ) → (f >>= g) ≡ Ok n → (k : ℕ) × (f ≡ Ok k) × (g k ≡ Ok n)
next_of_fit g (Ok k) n e = (k, refl, e)
next_of_fit g (Err d) n e = absurd (lack-not d n e)

map_of : (g : ℕ → ℕ) (f : Fit) (n : ℕ) → (f >>= λ (k : ℕ). Ok (g k)) ≡ Ok n → (k : ℕ) × (f ≡ Ok k) × (n ≡ g k)
map_of g f n e = let a = next_of_fit (λ (k : ℕ). Ok (g k)) f n e in (a.0, a.1, sym (number-inj (g a.0) n a.2))

chosen : (b : Bool) (x n : ℕ) → cond b (Ok x) (Err Outside) ≡ Ok n → (b ≡ true) × (n ≡ x)
chosen true x n e = (refl, sym (number-inj x n e))
chosen false x n e = absurd (lack-not Outside n e)

-- a value in its range
pub fit_of_lem : (b l : ℕ) (x : Result ℤ Lack) (n : ℕ) → fit_of b l x ≡ Ok n
    → (z : ℤ) × (x ≡ Ok z) × (within_of b l z ≡ true) × (n ≡ residue_of z)
unfolding fit_of
fit_of_lem b l (Ok z) n e = let k = chosen (within_of b l z) (residue_of z) n e in (z, refl, k.0, k.1)
fit_of_lem b l (Err d) n e = absurd (lack-not d n e)

-- ---- counts
count-is : (l : ℕ) (z : ℤ) → l ≤ 65536 → within_of 0 l z ≡ true → (z ≡ pos (residue_of z)) × (residue_of z < l)
unfolding within_of residue_of
count-is l (pos n) k h = let d : n < l = ltb-true n l h in (ap pos (omega arith), omega arith)
count-is l (negsuc n) k h = let d : n < 0 = ltb-true n 0 h in absurd (not-suc-le-zero d)

pub count_of : (l : ℕ) (x : Result ℤ Lack) (n : ℕ) → l ≤ 65536 → count_fit l x ≡ Ok n → (x ≡ Ok (pos n)) × (n < l)
count_of l x n k e =
    let f = fit_of_lem 0 l x n e in
    let d = count-is l f.0 k f.2 in
    (f.1 ∙ ap Ok (d.0 ∙ ap pos (sym f.3)), subst (λ (i : ℕ). i < l) (sym f.3) d.1)

-- ---- offsets of LDR and STR
offset-is : (z : ℤ) → within_of 64 64 z ≡ true → (signed_of 64 (residue_of z % 128) ≡ z) × (mag z < 64)
unfolding within_of residue_of
offset-is (pos n) h =
    let d : n < 64 = ltb-true n 64 h in
    let k : n % 65536 % 128 ≡ n = omega arith in
    (ap (signed_of 64) k ∙ simp (lt-ltb n 64 d), d)
offset-is (negsuc n) h =
    let d : n < 64 = ltb-true n 64 h in
    let k : (65535 - n % 65536) % 128 ≡ 127 - n = omega arith in
    let g : 64 + 64 - suc (127 - n) ≡ n = omega arith in
    (ap (signed_of 64) k ∙ simp (le-ltb (127 - n) 64 (omega arith), g), d)

pub offset-of : (x : Result ℤ Lack) (n : ℕ) → offset_fit x ≡ Ok n → (z : ℤ) × (x ≡ Ok z) × (signed_of 64 n ≡ z) × (mag z < 64)
offset-of x n e =
    let a = map_of (λ (k : ℕ). k % 128) (fit_of 64 64 x) n e in
    let f = fit_of_lem 64 64 x a.0 a.1 in
    let d = offset-is f.0 f.2 in
    (f.0, f.1, ap (signed_of 64) (a.2 ∙ ap (λ (k : ℕ). k % 128) f.3) ∙ d.0, d.1)

-- ---- bytes and words
pub byte_of : (x : Result ℤ Lack) (n : ℕ) → byte_fit x ≡ Ok n → (z : ℤ) × (x ≡ Ok z) × (n ≡ residue_of z % 256)
byte_of x n e =
    let a = map_of (λ (k : ℕ). k % 256) (fit_of 128 256 x) n e in
    let f = fit_of_lem 128 256 x a.0 a.1 in
    (f.0, f.1, a.2 ∙ ap (λ (k : ℕ). k % 256) f.3)

pub word_of : (x : Result ℤ Lack) (n : ℕ) → word_fit x ≡ Ok n → (z : ℤ) × (x ≡ Ok z) × (n ≡ residue_of z)
word_of x n e = let f = fit_of_lem 32768 65536 x n e in (f.0, f.1, f.3)

residue-less : (z : ℤ) → residue_of z < 65536
unfolding residue_of
residue-less (pos n) = omega arith
residue-less (negsuc n) = omega arith

-- the byte of MOVL to MOVH
immediate-by : (op : ℕ) (number last : Bool) (x : Result ℤ Lack) (n : ℕ)
    → cond number (byte_fit x) (word_fit x >>= λ (k : ℕ). Ok (cond last (k / 256) (k % 256))) ≡ Ok n
    → (z : ℤ) × (x ≡ Ok z) × (n ≡ cond (not number && last) (residue_of z / 256) (residue_of z % 256)) × (n < 256)
immediate-by op true last x n e =
    let f = byte_of x n e in
    let d = f.2 in
    (f.0, f.1, d, omega arith)
immediate-by op false true x n e =
    let a = map_of (λ (k : ℕ). k / 256) (word_fit x) n e in
    let f = word_of x a.0 a.1 in
    let d : n ≡ residue_of f.0 / 256 = a.2 ∙ ap (λ (k : ℕ). k / 256) f.2 in
    let b = residue-less f.0 in
    (f.0, f.1, d, omega arith)
immediate-by op false false x n e =
    let a = map_of (λ (k : ℕ). k % 256) (word_fit x) n e in
    let f = word_of x a.0 a.1 in
    let d = a.2 in
    (f.0, f.1, a.2 ∙ ap (λ (k : ℕ). k % 256) f.2, omega arith)

pub immediate-of : (op : ℕ) (number : Bool) (x : Result ℤ Lack) (n : ℕ) → immediate_fit op number x ≡ Ok n
    → (z : ℤ) × (x ≡ Ok z) × (n ≡ byte_taken op number z) × (n < 256)
immediate-of op number x n e = immediate-by op number (eqb op 3) x n e

-- ---- constants
first_three : (n : ℕ) → n < 3 → pos n ≡ get_or constants n (pos 0)
first_three zero h = refl
first_three (suc zero) h = refl
first_three (suc (suc zero)) h = refl
first_three (suc (suc (suc n))) h = absurd (omega (arith, h))

constant-is : (z : ℤ) (n : ℕ) → constant_number z ≡ Ok n → (n < 8) × (z ≡ get_or constants n (pos 0))
unfolding constant_number
constant-is (negsuc k) n e =
    let c = chosen (eqb k 0) 7 n e in
    let d = c.1 in
    (omega arith, ap negsuc (eqb-true k 0 c.0) ∙ ap (λ (i : ℕ). get_or constants i (pos 0)) (sym c.1))
constant-is (pos k) n e =
    bool_cases (ltb k 3)
    (λ q. at k (number-inj k n (rw q at e)) (let d = ltb-true k 3 q in omega arith) (first_three k (ltb-true k 3 q)))
    (λ a. bool_cases (eqb k 4) (λ q. at 3 (number-inj 3 n (rw (a, q) at e)) (omega arith) (ap pos (eqb-true k 4 q)))
    (λ b. bool_cases (eqb k 8) (λ q. at 4 (number-inj 4 n (rw (a, b, q) at e)) (omega arith) (ap pos (eqb-true k 8 q)))
    (λ d. bool_cases (eqb k 16) (λ q. at 5 (number-inj 5 n (rw (a, b, d, q) at e)) (omega arith) (ap pos (eqb-true k 16 q)))
    (λ f. bool_cases (eqb k 32) (λ q. at 6 (number-inj 6 n (rw (a, b, d, f, q) at e)) (omega arith) (ap pos (eqb-true k 32 q)))
    (λ q. absurd (lack-not Outside n (rw (a, b, d, f, q) at e)))))))
  where
    at : (i : ℕ) → i ≡ n → i < 8 → pos k ≡ get_or constants i (pos 0) → (n < 8) × (pos k ≡ get_or constants n (pos 0))
    at i h l g = (subst (λ (j : ℕ). j < 8) h l, g ∙ ap (λ (j : ℕ). get_or constants j (pos 0)) h)

pub constant_of : (x : Result ℤ Lack) (n : ℕ) → constant_fit x ≡ Ok n → (n < 8) × (x ≡ Ok (get_or constants n (pos 0)))
constant_of (Ok z) n e = let c = constant-is z n e in (c.0, ap Ok c.1)
constant_of (Err d) n e = absurd (lack-not d n e)

-- ---- branches

-- a way up, and a way down
module _ (half p t d : ℕ) (hh : half ≤ 4096) (ht : t < 65536) (hd : d ≡ way_of p t) (even : d % 2 ≡ 0) where
  way-to : (p + 2 + d) % 65536 ≡ t
  unfolding way_of
  way-to = omega arith

  way-less : d < 65536
  unfolding way_of
  way-less = omega arith

  up : (n : ℕ) → d / 2 < half → n ≡ d / 2
      → (mag (signed_of half n) < half) × ((p + 2 + 2 * bits_of 32768 (signed_of half n)) % 65536 ≡ t)
  up n h e =
      let s : signed_of half n ≡ pos (d / 2) = ap (signed_of half) e ∙ simp (lt-ltb (d / 2) half h) in
      let k : p + 2 + 2 * (d / 2) ≡ p + 2 + d = omega arith in (
        subst (λ (z : ℤ). mag z < half) (sym s) h,
        ap (λ (z : ℤ). (p + 2 + 2 * bits_of 32768 z) % 65536) s ∙ ap (λ (i : ℕ). i % 65536) k ∙ way-to,
      )

  down : (n : ℕ) → 32768 - half ≤ d / 2 → n ≡ d / 2 - (32768 - half - half)
      → (mag (signed_of half n) < half) × ((p + 2 + 2 * bits_of 32768 (signed_of half n)) % 65536 ≡ t)
  down n h e =
      let l = way-less in
      let g : half ≤ n = omega arith in
      let b : n < half + half = omega arith in
      let s : signed_of half n ≡ negsuc (half + half - suc n) = simp (le-ltb n half g) in
      let q : 32768 + 32768 - suc (half + half - suc n) ≡ 32768 + d / 2 = omega arith in
      let k : p + 2 + 2 * (32768 + d / 2) ≡ p + 2 + d + 65536 = omega arith in
      let w = way-to in (
        subst (λ (z : ℤ). mag z < half) (sym s) (omega arith),
        ap (λ (z : ℤ). (p + 2 + 2 * bits_of 32768 z) % 65536) s ∙ ap (λ (i : ℕ). (p + 2 + 2 * i) % 65536) q
            ∙ ap (λ (i : ℕ). i % 65536) k ∙ (let r : (p + 2 + d + 65536) % 65536 ≡ t = omega arith in r),
      )

steps-are : (half p t n : ℕ) → half ≤ 4096 → t < 65536 → steps_of half (way_of p t) ≡ Ok n
    → (mag (signed_of half n) < half) × ((p + 2 + 2 * bits_of 32768 (signed_of half n)) % 65536 ≡ t)
unfolding steps_of
steps-are half p t n hh ht e =
    bool_cases (eqb (way_of p t % 2) 0)
    (λ a. bool_cases (ltb (way_of p t / 2) half)
    (λ b. up half p t (way_of p t) hh ht refl (eqb-true _ 0 a) n (ltb-true (way_of p t / 2) half b)
    (sym (number-inj (way_of p t / 2) n (rw (a, b) at e)))) (λ b. bool_cases (ltb (way_of p t / 2) (32768 - half))
    (λ d. absurd (lack-not Outside n (rw (a, b, d) at e)))
    (λ d. down half p t (way_of p t) hh ht refl (eqb-true _ 0 a) n (ltb-false (way_of p t / 2) (32768 - half) d)
    (sym (number-inj (way_of p t / 2 - (32768 - half - half)) n (rw (a, b, d) at e)))))) (λ a. absurd (lack-not Outside n (rw a at e)))

pub branch-of : (half p : ℕ) (x : Result ℤ Lack) (n : ℕ) → half ≤ 4096 → branch_fit half p x ≡ Ok n
    → (z : ℤ) × (x ≡ Ok z) × (mag (signed_of half n) < half) × Leads p (signed_of half n) z
branch-of half p x n hh e =
    let b = next_of_fit (λ (t : ℕ). steps_of half (way_of p t)) (word_fit x) n e in
    let t = b.0 in
    let w = word_of x t b.1 in
    let r = residue-less w.0 in
    let less : t < 65536 = omega (arith, w.2, r) in
    let s = steps-are half p t n hh less b.2 in
    (w.0, w.1, s.0, s.1 ∙ w.2)

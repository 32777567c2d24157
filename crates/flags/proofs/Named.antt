-- Flags set and cleared by SETCC and CLRCC, SLP not among them: bit by bit the PSW's with those named, or without them.
-- Assumes nothing.
use mathlib.Core.Path.{◌≡◌, refl, sym, ap, ap₂, ◌∙◌}
use mathlib.Core.Bool.{Bool, true, false, not, ◌&&◌, ◌||◌}
use Prim.Native.Nat.{ℕ, zero, suc, ◌+◌, ◌-◌, ◌*◌, ◌/◌, ◌%◌, ◌≤◌, ◌<◌}
use native.Mathlib.Omega.{arith}
use lib.Dec.{eqb}
use lib.Bits.{bit_and, bit_or, or_lt, and_le_l}
use Rattle.word.specs.Psw.{bit_of}
use Rattle.machine.specs.Effect.{set_flags, clear_flags}
use Rattle.flags.specs.Kept.{flagged, held, nothing?, minus?}
use Rattle.flags.proofs.Bits.{and-bit, or-bit}
use Rattle.flags.proofs.Laws.{same-below, same-flagged, flagged-above, flagged-asleep, flagged-carry, flagged-zero}
use Rattle.flags.proofs.Laws.{flagged-negative, flagged-overflow}

or-none : (x y : Bool) → y ≡ false → x || y ≡ x
or-none true y e = refl
or-none false y e = e

and-all : (x y : Bool) → y ≡ true → x && y ≡ x
and-all true y e = e
and-all false y e = refl

-- a digit turned over
turned-digit : (x y : ℕ) → x + y ≡ 1 → eqb x 1 ≡ not (eqb y 1)
turned-digit zero zero e = absurd (omega arith)
turned-digit zero (suc y) e = let h : y ≡ 0 = omega arith in rw h
turned-digit (suc x) zero e = let h : x ≡ 0 = omega arith in rw h
turned-digit (suc x) (suc y) e = absurd (omega arith)

module _ (q f : ℕ) (h : f < 32) where
  set-above : set_flags q f / 32 ≡ q / 32
  set-above = let l : bit_or (q % 32) f < 32 = or_lt 5 (q % 32) f (omega arith) h in omega arith

  set-bit : (k : ℕ) → k < 5 → bit_of k (set_flags q f) ≡ bit_of k q || bit_of k f
  set-bit k b =
      let l : bit_or (q % 32) f < 32 = or_lt 5 (q % 32) f (omega arith) h in
      same-below k (set_flags q f) (bit_or (q % 32) f) b (omega arith) ∙ or-bit k (q % 32) f
      ∙ ap (λ (x : Bool). x || bit_of k f) (same-below k (q % 32) q b (omega arith))

  clear_above : clear_flags q f / 32 ≡ q / 32
  clear_above = let l : bit_and (q % 32) (31 - f) ≤ q % 32 = and_le_l (q % 32) (31 - f) in omega arith

  clear-bit : (k : ℕ) → k < 5 → bit_of k (clear_flags q f) ≡ bit_of k q && bit_of k (31 - f)
  clear-bit k b =
      let l : bit_and (q % 32) (31 - f) ≤ q % 32 = and_le_l (q % 32) (31 - f) in
      same-below k (clear_flags q f) (bit_and (q % 32) (31 - f)) b (omega arith) ∙ and-bit k (q % 32) (31 - f)
      ∙ ap (λ (x : Bool). x && bit_of k (31 - f)) (same-below k (q % 32) q b (omega arith))

module _ (p f : ℕ) (h : f < 32) (s : f / 8 % 2 ≡ 0) (c z n v : Bool) where
  pub set-flagged : set_flags (flagged p c z n v) f ≡ flagged p (c || bit_of 0 f) (z || bit_of 1 f) (n || bit_of 2 f) (v || bit_of 4 f)
  set-flagged =
      let q = flagged p c z n v in
      let slp : bit_of 3 f ≡ false = ap (λ (x : ℕ). eqb x 1) s in
      same-flagged p (c || bit_of 0 f) (z || bit_of 1 f) (n || bit_of 2 f) (v || bit_of 4 f) (set_flags q f)
      (set-above q f h ∙ flagged-above p c z n v)
      (set-bit q f h 3 (omega arith) ∙ or-none (bit_of 3 q) (bit_of 3 f) slp ∙ flagged-asleep p c z n v)
      (set-bit q f h 0 (omega arith) ∙ ap (λ (x : Bool). x || bit_of 0 f) (flagged-carry p c z n v))
      (set-bit q f h 1 (omega arith) ∙ ap (λ (x : Bool). x || bit_of 1 f) (flagged-zero p c z n v))
      (set-bit q f h 2 (omega arith) ∙ ap (λ (x : Bool). x || bit_of 2 f) (flagged-negative p c z n v))
      (set-bit q f h 4 (omega arith) ∙ ap (λ (x : Bool). x || bit_of 4 f) (flagged-overflow p c z n v))

  turned-0 : bit_of 0 (31 - f) ≡ not (bit_of 0 f)
  turned-0 = let e : (31 - f) / 1 % 2 + f / 1 % 2 ≡ 1 = omega arith in turned-digit ((31 - f) / 1 % 2) (f / 1 % 2) e

  turned-1 : bit_of 1 (31 - f) ≡ not (bit_of 1 f)
  turned-1 = let e : (31 - f) / 2 % 2 + f / 2 % 2 ≡ 1 = omega arith in turned-digit ((31 - f) / 2 % 2) (f / 2 % 2) e

  turned-2 : bit_of 2 (31 - f) ≡ not (bit_of 2 f)
  turned-2 = let e : (31 - f) / 4 % 2 + f / 4 % 2 ≡ 1 = omega arith in turned-digit ((31 - f) / 4 % 2) (f / 4 % 2) e

  turned-3 : bit_of 3 (31 - f) ≡ not (bit_of 3 f)
  turned-3 = let e : (31 - f) / 8 % 2 + f / 8 % 2 ≡ 1 = omega arith in turned-digit ((31 - f) / 8 % 2) (f / 8 % 2) e

  turned-4 : bit_of 4 (31 - f) ≡ not (bit_of 4 f)
  turned-4 =
      let d : (31 - f) / 16 + f / 16 ≡ 1 = omega arith in
      let e : (31 - f) / 16 % 2 + f / 16 % 2 ≡ 1 = omega (arith, d) in
      turned-digit ((31 - f) / 16 % 2) (f / 16 % 2) e

  pub clear-flagged : clear_flags (flagged p c z n v) f
      ≡ flagged p (c && not (bit_of 0 f)) (z && not (bit_of 1 f)) (n && not (bit_of 2 f)) (v && not (bit_of 4 f))
  clear-flagged =
      let q = flagged p c z n v in
      let slp : bit_of 3 (31 - f) ≡ true = turned-3 ∙ ap (λ (x : ℕ). not (eqb x 1)) s in
      same-flagged p (c && not (bit_of 0 f)) (z && not (bit_of 1 f)) (n && not (bit_of 2 f)) (v && not (bit_of 4 f)) (clear_flags q f)
      (clear_above q f h ∙ flagged-above p c z n v)
      (clear-bit q f h 3 (omega arith) ∙ and-all (bit_of 3 q) (bit_of 3 (31 - f)) slp ∙ flagged-asleep p c z n v)
      (clear-bit q f h 0 (omega arith) ∙ ap₂ ◌&&◌ (flagged-carry p c z n v) turned-0)
      (clear-bit q f h 1 (omega arith) ∙ ap₂ ◌&&◌ (flagged-zero p c z n v) turned-1)
      (clear-bit q f h 2 (omega arith) ∙ ap₂ ◌&&◌ (flagged-negative p c z n v) turned-2)
      (clear-bit q f h 4 (omega arith) ∙ ap₂ ◌&&◌ (flagged-overflow p c z n v) turned-4)

-- ---- as code computes it: the named flags, at the places where they are kept

-- last digits of two numbers of an odd sum
odd-left : (x f : ℕ) → x + f ≡ 63 → x % 2 + f / 1 % 2 ≡ 1
odd-left x f e = omega arith

one_left : (x g : ℕ) → x + g ≡ 1 → x % 2 + g % 2 ≡ 1
one_left x g e = omega arith

-- an even digit is not 1
even-digit : (x : ℕ) → x < 2 → eqb x 0 ≡ not (eqb x 1)
even-digit zero b = refl
even-digit (suc zero) b = refl
even-digit (suc (suc x)) b = absurd (omega arith)

module _ (f : ℕ) (h : f < 32) (s : f / 8 % 2 ≡ 0) (last sum over p last' : ℕ) where
  pub set-kept : nothing? last' ≡ nothing? last || bit_of 1 f → minus? last' ≡ minus? last || bit_of 2 f
      → held p last' (bit_or sum (f * 65536)) (bit_or over (f * 2048)) ≡ set_flags (held p last sum over) f
  unfolding held
  set-kept z n =
      let c : f * 65536 / 65536 ≡ f / 1 = omega arith in
      let v : f * 2048 / 32768 ≡ f / 16 = omega arith in
      (λ i. flagged p ((or-bit 16 sum (f * 65536) ∙ ap (λ (x : ℕ). bit_of 16 sum || eqb (x % 2) 1) c) i) (z i) (n i)
      ((or-bit 15 over (f * 2048) ∙ ap (λ (x : ℕ). bit_of 15 over || eqb (x % 2) 1) v) i))
      ∙ sym (set-flagged p f h s (bit_of 16 sum) (nothing? last) (minus? last) (bit_of 15 over))

  pub clear_kept : nothing? last' ≡ nothing? last && eqb (f / 2 % 2) 0 → minus? last' ≡ minus? last && eqb (f / 4 % 2) 0
      → held p last' (bit_and sum (4194303 - f * 65536)) (bit_and over (65535 - f * 2048)) ≡ clear_flags (held p last sum over) f
  unfolding held
  clear_kept z n =
      let c : (4194303 - f * 65536) / 65536 + f ≡ 63 = omega arith in
      let c2 : (4194303 - f * 65536) / 65536 % 2 + f / 1 % 2 ≡ 1 = odd-left ((4194303 - f * 65536) / 65536) f c in
      let v : (65535 - f * 2048) / 32768 + f / 16 ≡ 1 = omega arith in
      let v2 : (65535 - f * 2048) / 32768 % 2 + f / 16 % 2 ≡ 1 = one_left ((65535 - f * 2048) / 32768) (f / 16) v in
      (λ i. flagged p
      ((and-bit 16 sum (4194303 - f * 65536) ∙ ap (λ (x : Bool). bit_of 16 sum && x) (turned-digit _ _ c2)) i)
      ((z ∙ ap (λ (x : Bool). nothing? last && x) (even-digit (f / 2 % 2) (omega arith))) i)
      ((n ∙ ap (λ (x : Bool). minus? last && x) (even-digit (f / 4 % 2) (omega arith))) i)
      ((and-bit 15 over (65535 - f * 2048) ∙ ap (λ (x : Bool). bit_of 15 over && x) (turned-digit _ _ v2)) i))
      ∙ sym (clear-flagged p f h s (bit_of 16 sum) (nothing? last) (minus? last) (bit_of 15 over))

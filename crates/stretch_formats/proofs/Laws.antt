-- Words by their format: what the function of a format does is what its words mean. l is the registers with PC past the word
-- w, m the memory, p the PSW, x the CEX state. Assumes nothing.
use Prim.Native.Nat.{ℕ, zero, suc, ◌/◌, ◌%◌, ◌<◌, ◌≤◌}
use native.Mathlib.Omega.{arith}
use mathlib.Core.Bool.{Bool, true, false, cond, ◌||◌}
use mathlib.Core.List.{List}
use mathlib.Core.Logic.{inr}
use mathlib.Core.Path.{◌≡◌, refl, sym, ap, ◌∙◌}
use mathlib.Mathlib.Data.Bool.Basic.{or-eq-false-eq-eq-false-and-eq-false}
use lib.Dec.{eqb, ltb, leb}
use lib.ListN.{get_or}
use borrow.Author.Tests.{ltb-false, leb-false, lt-ltb, le-ltb}
use Rattle.word.specs.Offset.{signed_of}
use Rattle.word.specs.Width.{width_of}
use Rattle.alu.specs.Alu.{alu_of}
use Rattle.alu.specs.declared.Op.{Op}
use Rattle.isa.specs.declared.Instr.{Instr}
use Rattle.isa.specs.declared.Instr.TheVariants as i
use Rattle.isa.specs.Decode.{unary_of, decode_of}
use Rattle.machine.specs.Effect.{effect_of, constant_of, binary_op, flags_only?}
use Rattle.stretch_registers.specs.Effected.{Past, Done, Tried, Computes}
use Rattle.stretch_registers.proofs.Laws.{computes-tried, tests-done}
use Rattle.stretch_memory.specs.Served.{Taken}
use Rattle.stretch_memory.proofs.Laws.{tried-taken}
use Rattle.stretch_formats.specs.Ready.{constants}

-- the constants stand where they are named
pub constant-at : (k : ℕ) → k < 8 → get_or constants k 0 ≡ constant_of k
constant-at zero h = refl
constant-at (suc zero) h = refl
constant-at (suc (suc zero)) h = refl
constant-at (suc (suc (suc zero))) h = refl
constant-at (suc (suc (suc (suc zero)))) h = refl
constant-at (suc (suc (suc (suc (suc zero))))) h = refl
constant-at (suc (suc (suc (suc (suc (suc zero)))))) h = refl
constant-at (suc (suc (suc (suc (suc (suc (suc zero))))))) h = refl
constant-at (suc (suc (suc (suc (suc (suc (suc (suc k)))))))) h = absurd (omega arith)

-- a word that means n, done by a function of registers
pub means :
    (free : Bool) (n : Instr) (w : ℕ) (l m k : List ℕ) (p x q y r : ℕ) → decode_of w ≡ n → Tried n l p x k q y r →
    Taken free (decode_of w) l p x m k q y m r
means free n w l m k p x q y r e t = rw e (tried-taken free n l m k p x q y r t)

-- ---- operations

module _ (w row : ℕ) (h : w / 64 ≡ row) (lo : 0x100 ≤ row) (hi : row < 0x130) where
  decode-operation : decode_of w ≡ i.Alu (row / 4 % 16) (row / 2 % 2) (row % 2) (w / 8 % 8) (w % 8)
  unfolding decode_of
  decode-operation =
      let a : w / 256 % 16 ≡ row / 4 % 16 = omega arith in
      let b : w / 128 % 2 ≡ row / 2 % 2 = omega arith in
      let c : w / 64 % 2 ≡ row % 2 = omega arith in
      simp (le-ltb w 0x2000 (omega arith), le-ltb w 0x4000 (omega arith), lt-ltb w 0x4C00 (omega arith), a, b, c)

  module _ (free : Bool) (l m : List ℕ) (p x pc : ℕ) (past : Past pc l) (b : Op) (byte : Bool) {s : ℕ}
      (hb : binary_op (row / 4 % 16) ≡ b) (ht : eqb (row % 2) 1 ≡ byte)
      (hs : s ≡ cond (eqb (row / 2 % 2) 1) (constant_of (w / 8 % 8)) (get_or l (w / 8 % 8) 0)) where
    abbrev meant : Instr
    meant = i.Alu (row / 4 % 16) (row / 2 % 2) (row % 2) (w / 8 % 8) (w % 8)

    pub computing : {k : List ℕ} {q r : ℕ} → flags_only? (row / 4 % 16) ≡ false → Computes b byte s w pc l p k q r →
        Taken free (decode_of w) l p x m k q x m r
    unfolding effect_of
    computing {k} {q} {r} f t =
        means free meant w l m k p x q x r decode-operation
        (computes-tried meant l p x pc past b byte s w k q r (rw (f, hb, ht, sym hs) refl) t)

    pub testing : {d q : ℕ} → flags_only? (row / 4 % 16) ≡ true → d ≡ get_or l (w % 8) 0 → q ≡ (alu_of b (width_of byte) d s p).psw →
        Taken free (decode_of w) l p x m l q x m pc
    unfolding effect_of
    testing {d} {q} f hd hq =
        means free meant w l m l p x q x pc decode-operation
        (inr (tests-done meant l p x pc past b byte s w q pc (rw (f, hb, ht, sym hs) refl)
        (refl, hq ∙ ap (λ (j : ℕ). (alu_of b (width_of byte) j s p).psw) hd)))

-- ---- SWAP, one register

module _ (w : ℕ) where
  pub decode-swap : 0x4C80 ≤ w → w < 0x4D00 → decode_of w ≡ i.Swap (w / 8 % 8) (w % 8) (w / 64 % 2)
  unfolding decode_of
  decode-swap h k =
      simp (
        le-ltb w 0x2000 (omega arith),
        le-ltb w 0x4000 (omega arith),
        le-ltb w 0x4C00 (omega arith),
        lt-ltb w 0x5000 (omega arith),
        le-ltb w 0x4C80 h,
        lt-ltb w 0x4D00 k,
      )

  pub decode-single : 0x4D00 ≤ w → w < 0x4D80 → decode_of w ≡ unary_of w
  unfolding decode_of
  decode-single h k =
      rw (
        le-ltb w 0x2000 (omega arith),
        le-ltb w 0x4000 (omega arith),
        le-ltb w 0x4C00 (omega arith),
        lt-ltb w 0x5000 (omega arith),
        le-ltb w 0x4C80 (omega arith),
        le-ltb w 0x4D00 h,
        lt-ltb w 0x4D80 k,
      )
      refl

  -- ---- what is above them

  pub decode-immediate : 0x6000 ≤ w → w < 0x8000 → decode_of w ≡ i.MovImm (w / 2048 % 4) (w / 8 % 256) (w % 8)
  unfolding decode_of
  decode-immediate h k =
      simp (
        le-ltb w 0x2000 (omega arith),
        le-ltb w 0x4000 (omega arith),
        le-ltb w 0x4C00 (omega arith),
        le-ltb w 0x5000 (omega arith),
        le-ltb w 0x6000 h,
        lt-ltb w 0x8000 k,
      )

  -- the words from 8000, by bit 6
  module _ (h : 0x8000 ≤ w) (b : ℕ) (e : w / 64 % 2 ≡ b) where
    pub decode-ldr : w < 0xC000 → decode_of w ≡ i.Ldr (signed_of 64 (w / 128 % 128)) b (w / 8 % 8) (w % 8)
    unfolding decode_of
    decode-ldr k =
        simp (
          le-ltb w 0x2000 (omega arith),
          le-ltb w 0x4000 (omega arith),
          le-ltb w 0x4C00 (omega arith),
          le-ltb w 0x5000 (omega arith),
          le-ltb w 0x6000 (omega arith),
          le-ltb w 0x8000 h,
          lt-ltb w 0xC000 k,
          e,
        )

    pub decode-str : 0xC000 ≤ w → decode_of w ≡ i.Str (signed_of 64 (w / 128 % 128)) b (w / 8 % 8) (w % 8)
    unfolding decode_of
    decode-str k =
        simp (
          le-ltb w 0x2000 (omega arith),
          le-ltb w 0x4000 (omega arith),
          le-ltb w 0x4C00 (omega arith),
          le-ltb w 0x5000 (omega arith),
          le-ltb w 0x6000 (omega arith),
          le-ltb w 0x8000 h,
          le-ltb w 0xC000 k,
          e,
        )

  -- ---- branches

  decode-branch : 0x2000 ≤ w → w < 0x4000 → decode_of w ≡ i.Branch (w / 1024 % 8) (signed_of 512 (w % 1024))
  unfolding decode_of
  decode-branch h k = simp (le-ltb w 0x2000 h, lt-ltb w 0x4000 k)

  pub decode-link : w < 0x2000 → decode_of w ≡ i.Bl (signed_of 4096 (w % 8192))
  unfolding decode_of
  decode-link h = simp (lt-ltb w 0x2000 h)

  -- a branch by its row
  pub branches : (free : Bool) (row : ℕ) (l m : List ℕ) (p x : ℕ) {y r : ℕ} → w / 512 ≡ row → 16 ≤ row → row < 32 →
      Done (i.Branch (w / 1024 % 8) (signed_of 512 (w % 1024))) l p x l p y r → Taken free (decode_of w) l p x m l p y m r
  branches free row l m p x {y} {r} e lo hi d =
      means free (i.Branch (w / 1024 % 8) (signed_of 512 (w % 1024))) w l m l p x p y r (decode-branch (omega arith) (omega arith)) (inr d)

-- 4C80 to 4D7F, as the test has it
pub within : (w : ℕ) → (ltb w 0x4C80 || leb 0x4D80 w) ≡ false → (0x4C80 ≤ w) × (w < 0x4D80)
within w h =
    let p = (or-eq-false-eq-eq-false-and-eq-false (ltb w 0x4C80) (leb 0x4D80 w)).0 h in
    (ltb-false w 0x4C80 p.0, leb-false 0x4D80 w p.1)

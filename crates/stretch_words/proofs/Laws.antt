-- MOV, SETPRI, SETCC and CLRCC by their leading bits: what their rows do is what their words mean. l is the registers with PC
-- past the word w, m the memory, p the PSW, x the CEX state. Assumes nothing.
use Prim.Native.Nat.{ℕ, ◌+◌, ◌/◌, ◌%◌, ◌<◌, ◌≤◌}
use native.Mathlib.Omega.{arith}
use mathlib.Core.Bool.{Bool, true, false, true≢false}
use mathlib.Core.List.{List}
use mathlib.Core.Logic.{◌⊎◌, inl, inr, ⊎_elim}
use mathlib.Core.Path.{◌≡◌, refl, sym, ap, subst, ◌∙◌}
use lib.Dec.{eqb}
use borrow.Author.Tests.{lt-ltb, le-ltb, eq-eqb, ne_eqb}
use Rattle.word.specs.Psw.{asleep?, current}
use Rattle.isa.specs.declared.Instr.TheVariants as i
use Rattle.isa.specs.Decode.{control_of, decode_of}
use Rattle.machine.specs.State.{core_of}
use Rattle.machine.specs.Effect.{effect_of, plainly, put_current}
use Rattle.flags.specs.declared.Kept.{Kept}
use Rattle.flags.specs.Kept.{held_in}
use Rattle.flags.proofs.Laws.{held-current, held-put-current}
use Rattle.stretch_registers.specs.Effected.{Past, Lowers}
use Rattle.stretch_registers.proofs.Laws.{pc-back, priority-asleep}
use Rattle.stretch_memory.specs.Served.{Taken}
use Rattle.stretch_memory.proofs.Laws.{plain-served}

module _ (w : ℕ) where
  pub decode-move : (wb : ℕ) → wb < 2 → w / 64 ≡ 304 + wb → decode_of w ≡ i.Mov wb (w / 8 % 8) (w % 8)
  unfolding decode_of
  decode-move wb hw h =
      let c : w / 64 % 2 ≡ wb = omega arith in
      simp (
        le-ltb w 0x2000 (omega arith),
        le-ltb w 0x4000 (omega arith),
        le-ltb w 0x4C00 (omega arith),
        lt-ltb w 0x5000 (omega arith),
        lt-ltb w 0x4C80 (omega arith),
        c,
      )

  pub decode-control : 0x4D80 ≤ w → w < 0x4E00 → decode_of w ≡ control_of w
  unfolding decode_of
  decode-control h k =
      rw (
        le-ltb w 0x2000 (omega arith),
        le-ltb w 0x4000 (omega arith),
        le-ltb w 0x4C00 (omega arith),
        lt-ltb w 0x5000 (omega arith),
        le-ltb w 0x4C80 (omega arith),
        le-ltb w 0x4D00 (omega arith),
        le-ltb w 0x4D80 h,
        lt-ltb w 0x4E00 k,
      )
      refl

-- ---- the two rows of an operation on a register and on a constant

module _ (row : ℕ) (low : 0x100 ≤ row) (high : row < 0x12E) (even : row / 2 % 2 ≡ 0) where
  pub first-row : (0x100 ≤ row) × (row < 0x130) × (false ≡ eqb (row / 2 % 2) 1)
  first-row = (low, omega arith, sym (ne_eqb (row / 2 % 2) 1 (omega arith)))

  pub second-row : (n : ℕ) → (n ≡ row) ⊎ (n ≡ row + 2) → (n ≡ row → ⊥)
      → (n ≡ row + 2) × (0x100 ≤ row + 2) × (row + 2 < 0x130) × (true ≡ eqb ((row + 2) / 2 % 2) 1)
  second-row n e f =
      (⊎_elim (λ q. absurd (f q)) (λ q. q) e, omega arith, omega arith, sym (eq-eqb ((row + 2) / 2 % 2) 1 (omega arith)))

-- ---- SETPRI

decode-priority : (w : ℕ) → w / 8 ≡ 0x9B0 → decode_of w ≡ i.SetPri (w % 8)
decode-priority w h = decode-control w (omega arith) (omega arith) ∙ first
  where
    first : control_of w ≡ i.SetPri (w % 8)
    first = rw (lt-ltb w 0x4D88 (omega arith)) refl

module _ (w : ℕ) (l m : List ℕ) (p : ℕ) (flags : Kept) (x : ℕ) where
  -- the PSW n with the flags that are kept
  abbrev kept : ℕ → ℕ
  kept n = held_in n flags

  granted-level : w % 8 ≤ current p →
      effect_of (core_of l (kept p) x) (i.SetPri (w % 8)) ≡ plainly (core_of l (put_current (kept p) (w % 8)) x)
  unfolding effect_of
  granted-level h =
      let own : w % 8 ≤ current (kept p) = subst (λ (n : ℕ). w % 8 ≤ n) (sym (held-current p flags.last flags.sum flags.over)) h in
      rw (le-ltb (current (kept p)) (w % 8) own) refl

  -- the priority lowered, or left, while no line waits
  pub lowers : (free : Bool) (pc q r : ℕ) → Past pc l → Lowers free w pc p q r → Taken free (decode_of w) l (kept p) x m l (kept q) x m r
  lowers free pc q r past =
      ⊎_elim (λ h. inl (h.0, (refl, ap kept h.1, refl, refl)))
      (λ h.
      let (none, e, level, er, eq) = h in
      let put : put_current (kept p) (w % 8) ≡ kept q = held-put-current p flags.last flags.sum flags.over (w % 8) ∙ ap kept (sym eq) in
      let asleep : asleep? (kept q) ≡ asleep? (kept p) = ap asleep? (sym put) ∙ priority-asleep (kept p) (w % 8) in
      rw (decode-priority w e, er)
      (inr
      (plain-served free (i.SetPri (w % 8)) l m l (kept p) x (kept q) x pc (λ z. omega (arith, past.2))
      (granted-level level ∙ (λ j. plainly (core_of (pc-back l l pc past refl j) (put j) x))) (λ z. past.1)
      (asleep, (λ z. absurd (true≢false (sym none ∙ z)))) (omega (arith, past.2)) (λ z. z))))

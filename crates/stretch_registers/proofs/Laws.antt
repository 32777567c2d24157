-- What an instruction that touches registers, flags and the CEX state alone leaves. l is the registers, p the PSW and x the CEX
-- state before it; pc is PC past it. Assumes nothing.
use Prim.Native.Nat.{ℕ, suc, ◌+◌, ◌-◌, ◌*◌, ◌/◌, ◌%◌, ◌<◌, ◌≤◌}
use mathlib.Core.Bool.{Bool, true, false, cond}
use mathlib.Core.List.{List}
use mathlib.Core.Logic.{◌⊎◌, inl, inr, ⊎_elim}
use mathlib.Core.Path.{◌≡◌, refl, sym, ap, ◌∙◌}
use native.Mathlib.Nat.{mod-eq_of_lt}
use native.Mathlib.Omega.{arith}
use borrow.Author.Tests.{ne_eqb, lt-ltb, le-ltb, ltb-true, ltb-false}
use mir.Syntax.{w16}
use mir.Val.{to_z, of_z}
use mir.ValLaws.{to_z-of_z}
use lib.Bits.{bit_and, bit_or, or_shr, or_mod, or_lt, or_zero_r, and_shr, and_mod, and_lt, and_mask}
use lib.Dec.{eqb, ltb}
use lib.IntN.{ℤ, pos, negsuc}
use lib.ListN.{get_or, set}
use lib.Seq.{get_or-set_other, set-get_or}
use lib.Signed.{mag}
use Rattle.word.proofs.Laws.{bool_cases}
use Rattle.word.specs.Psw.{asleep?, current}
use Rattle.alu.specs.declared.Op.{Op}
use Rattle.alu.specs.declared.Op.TheVariants.{Swpb, Sxt}
use Rattle.alu.proofs.Laws.{alu-asleep, alu-current}
use Rattle.word.specs.Width.{width_of, low, with_low}
use Rattle.word.specs.Offset.{signed_of}
use Rattle.isa.specs.declared.Instr.{Instr}
use Rattle.isa.specs.declared.Instr.TheVariants as i
use Rattle.isa.specs.Decode.{unary_of}
use Rattle.machine.specs.State.{Core, core_of, moved, doubled, with_psw, put}
use Rattle.machine.specs.Effect.{effect_of, plainly, operated, unary_op, immediate_of, taken_of, set_flags, clear_flags, put_current}
use Rattle.stretch_registers.specs.Effected.{left_alone, odd, Past, Keeps, Done, Tried, Computes, outcome}

-- a write to another register leaves PC
pub pc-set : (l : List ℕ) (i v : ℕ) → i < 7 → get_or (set l i v) 7 0 ≡ get_or l 7 0
pc-set l i v h = get_or-set_other l i 7 v 0 (λ e. omega arith)

-- CEX stays where another register is written
pub cex-set : (i x : ℕ) → i < 7 → cond (eqb i 7) 0 x ≡ x
cex-set i x h = rw (ne_eqb i 7 (λ e. omega arith)) refl

-- PC put back where it stands changes nothing
pub pc-back : (l k : List ℕ) (pc : ℕ) → Past pc l → get_or k 7 0 ≡ get_or l 7 0 → k ≡ set k 7 (pc % 65536)
pc-back l k pc h e = sym (ap (set k 7) (h.0 ∙ sym e) ∙ set-get_or k 7 0)

module _ (n : Instr) (l : List ℕ) (p x pc : ℕ) (h : Past pc l) where
  -- an instruction that leaves PC and the CEX state
  pub plain_done :
      (k : List ℕ) (q : ℕ) → effect_of (core_of l p x) n ≡ plainly (core_of k q x) → get_or k 7 0 ≡ get_or l 7 0 → Keeps p q →
      Done n l p x k q x pc
  plain_done k q e f s = (
    (λ z. omega (arith, h.2)),
    e ∙ ap (λ (j : List ℕ). plainly (core_of j q x)) (pc-back l k pc h f),
    (λ z. h.1),
    s,
    omega (arith, h.2),
    (λ z. z),
  )

  -- an operation on one register, and one that tests alone
  pub computes-tried :
      (op : Op) (byte : Bool) (s w : ℕ) (k : List ℕ) (q r : ℕ) →
      effect_of (core_of l p x) n ≡ plainly (operated (core_of l p x) (w % 8) (outcome op byte s w l p)) →
      Computes op byte s w pc l p k q r → Tried n l p x k q x r
  computes-tried op byte s w k q r e =
      ⊎_elim (λ u. inl (u.0, u.1, u.2, refl))
      (λ v.
      let o = outcome op byte s w l p in
      let f : operated (core_of l p x) (w % 8) o ≡ core_of k q x =
      λ j. record { regs = sym v.2 j; psw = sym v.3 j; cex = cex-set (w % 8) x v.0 j } in
      rw v.1
      (inr (plain_done k q (e ∙ ap plainly f) (ap (λ (j : List ℕ). get_or j 7 0) v.2 ∙ pc-set l (w % 8) o.value v.0)
      (rw v.3 (alu-asleep op (width_of byte) (get_or l (w % 8) 0) s p, alu-current op (width_of byte) (get_or l (w % 8) 0) s p)))))

  pub tests-done :
      (op : Op) (byte : Bool) (s w q r : ℕ) →
      effect_of (core_of l p x) n ≡ plainly (with_psw (core_of l p x) (outcome op byte s w l p).psw) →
      (r ≡ pc) × (q ≡ (outcome op byte s w l p).psw) → Done n l p x l q x r
  tests-done op byte s w q r e v =
      rw v.0
      (plain_done l q (e ∙ ap (λ (j : ℕ). plainly (core_of l j x)) (sym v.1)) refl
      (rw v.1 (alu-asleep op (width_of byte) (get_or l (w % 8) 0) s p, alu-current op (width_of byte) (get_or l (w % 8) 0) s p)))

-- ---- one register

-- a register written that is not R7
put-below : (l : List ℕ) (p x d v : ℕ) → d < 7 → put (core_of l p x) d v ≡ core_of (set l d v) p x
put-below l p x d v h = λ j. record { regs = set l d v; psw = p; cex = cex-set d x h j }

-- bits 5 to 3 of a word, whatever its bit 6; v is the word's bits above the low three
either-width : (v n : ℕ) → n < 8 → (v % 16 ≡ n) ⊎ (v % 16 ≡ n + 8) → v % 8 ≡ n
either-width v n h = ⊎_elim (λ e. omega arith) (λ e. omega arith)

module _ (l : List ℕ) (p x pc : ℕ) (h : Past pc l) where
  writes-done :
      (n : Instr) (d v : ℕ) → effect_of (core_of l p x) n ≡ plainly (put (core_of l p x) d v) → d < 7 → Done n l p x (set l d v) p x pc
  writes-done n d v e f =
      plain_done n l p x pc h (set l d v) p (e ∙ ap plainly (put-below l p x d v f)) (pc-set l d v f) (refl, refl)

  pub moves-byte :
      (op b d : ℕ) {v : ℕ} → d < 7 → v ≡ immediate_of op b (get_or l d 0) → Done (i.MovImm op b d) l p x (set l d v) p x pc
  unfolding effect_of
  moves-byte op b d f e = rw e (writes-done (i.MovImm op b d) d (immediate_of op b (get_or l d 0)) refl f)

  pub moves :
      (byte : Bool) (wb src d : ℕ) {u z : ℕ} → byte ≡ eqb wb 1 → d < 7 → u ≡ low (width_of byte) (get_or l src 0) →
      z ≡ with_low (width_of byte) (get_or l d 0) u → Done (i.Mov wb src d) l p x (set l d z) p x pc
  unfolding effect_of
  moves byte wb src d eb f eu ez =
      let w = width_of (eqb wb 1) in
      rw (ez, eu, eb) (writes-done (i.Mov wb src d) d (with_low w (get_or l d 0) (low w (get_or l src 0))) refl f)

  pub swaps :
      (src d b : ℕ) → src < 7 → d < 7 →
      Done (i.Swap src d b) l p x (set (set l src (get_or l d 0)) d (get_or l src 0)) p x pc
  unfolding effect_of
  swaps src d b f f' =
      let k = set l src (get_or l d 0) in
      plain_done (i.Swap src d b) l p x pc h (set k d (get_or l src 0)) p
      (ap (λ (c : Core). plainly (put c d (get_or l src 0))) (put-below l p x src (get_or l d 0) f)
      ∙ ap plainly (put-below k p x d (get_or l src 0) f'))
      (pc-set k d (get_or l src 0) f' ∙ pc-set l src (get_or l d 0) f) (refl, refl)

  -- R7 written by MOV of a word
  pub moves-to-pc :
      (wb src d : ℕ) {r y : ℕ} → false ≡ eqb wb 1 → d ≡ 7 → get_or l src 0 < 65536 →
      (r % 65536 ≡ get_or l src 0) × (r ≡ left_alone → ⊥) × (r < left_alone → r % 2 ≡ 0) × (r < 2 * odd) × (y ≡ 0) →
      Done (i.Mov wb src d) l p x l p y r
  unfolding effect_of width_of
  moves-to-pc wb src d {r} {y} eb ed hv q =
      let a = get_or l 7 0 in
      let v = get_or l src 0 in
      let past = h.0 in
      let e : with_low 16 a (low 16 v) ≡ v = omega arith in (
        q.1,
        rw (sym eb, ed, e, q.0, q.4) refl,
        q.2,
        (refl, refl),
        q.3,
        (λ z. rw q.4 refl),
      )

  -- one operand, by bits 6 to 3 of the word: b is the width
  module _ (w : ℕ) {k : List ℕ} {q r : ℕ} where
    pub unary-tried :
        (b n : ℕ) (op : Op) → w / 8 % 16 ≡ b * 8 + n → b < 2 → n < 3 → unary_op n ≡ op → Computes op (eqb b 1) 0 w pc l p k q r →
        Tried (unary_of w) l p x k q x r
    unfolding effect_of
    unary-tried b n op e hb hn g t =
        let en : w / 8 % 8 ≡ n = omega arith in
        let eb : w / 64 % 2 ≡ b = omega arith in
        rw (lt-ltb (w / 8 % 8) 3 (omega arith))
        (computes-tried (i.Unary (w / 8 % 8) (w / 64 % 2) (w % 8)) l p x pc h op (eqb b 1) 0 w k q r
        (λ j. plainly (operated (core_of l p x) (w % 8) (outcome ((ap unary_op en ∙ g) j) (eqb (eb j) 1) 0 w l p))) t)

    pub swpb-tried : (w / 8 % 16 ≡ 3) ⊎ (w / 8 % 16 ≡ 11) → Computes Swpb false 0 w pc l p k q r → Tried (unary_of w) l p x k q x r
    unfolding effect_of width_of
    swpb-tried e t =
        let en : w / 8 % 8 ≡ 3 = either-width (w / 8) 3 (omega arith) e in
        rw (le-ltb (w / 8 % 8) 3 (omega arith), lt-ltb (w / 8 % 8) 4 (omega arith))
        (computes-tried (i.Swpb (w % 8) (w / 64 % 2)) l p x pc h Swpb false 0 w k q r refl t)

    pub sxt-tried : (w / 8 % 16 ≡ 4) ⊎ (w / 8 % 16 ≡ 12) → Computes Sxt false 0 w pc l p k q r → Tried (unary_of w) l p x k q x r
    unfolding effect_of width_of
    sxt-tried e t =
        let en : w / 8 % 8 ≡ 4 = either-width (w / 8) 4 (omega arith) e in
        rw (le-ltb (w / 8 % 8) 3 (omega arith), le-ltb (w / 8 % 8) 4 (omega arith), lt-ltb (w / 8 % 8) 5 (omega arith))
        (computes-tried (i.Sxt (w % 8) (w / 64 % 2)) l p x pc h Sxt false 0 w k q r refl t)

-- ---- flags

-- bit 3 above a multiple of 32
low-five : (q b : ℕ) → (q * 32 + b) / 8 % 2 ≡ b / 8 % 2
low-five q b =
    let e : (q * 32 + b) / 8 ≡ q * 4 + b / 8 = omega arith in
    ap (λ (n : ℕ). n % 2) e ∙ more (b / 8)
  where
    more : (y : ℕ) → (q * 4 + y) % 2 ≡ y % 2
    more y = omega arith

low-kept : (p b : ℕ) → b < 32 → b / 8 % 2 ≡ p % 32 / 8 % 2 → Keeps p (p / 32 * 32 + b)
low-kept p b lt h =
    let e : p / 32 * 32 + p % 32 ≡ p = omega arith in
    let l : (p / 32 * 32 + b) / 32 % 8 ≡ p / 32 % 8 = ap (λ (n : ℕ). n % 8) (above (p / 32)) in (
      ap (λ (n : ℕ). eqb n 1) (low-five (p / 32) b ∙ h ∙ sym (low-five (p / 32) (p % 32)) ∙ ap (λ (n : ℕ). n / 8 % 2) e),
      l,
    )
  where
    above : (q : ℕ) → (q * 32 + b) / 32 ≡ q
    above q = omega arith

-- SLP and the priority where the other flags are set or cleared
set_keeps : (p f : ℕ) → f < 32 → f / 8 % 2 ≡ 0 → Keeps p (set_flags p f)
set_keeps p f hf h =
    let b = bit_or (p % 32) f in
    let lt : b < 32 = or_lt 5 (p % 32) f (omega arith) hf in
    let z : b / 8 % 2 ≡ p % 32 / 8 % 2 =
    ap (λ (n : ℕ). n % 2) (or_shr (p % 32) f 3) ∙ or_mod (p % 32 / 8) (f / 8) 1 ∙ ap (bit_or (p % 32 / 8 % 2)) h
    ∙ or_zero_r (p % 32 / 8 % 2) in
    low-kept p b lt z

clear-keeps : (p f : ℕ) → f < 32 → f / 8 % 2 ≡ 0 → Keeps p (clear_flags p f)
clear-keeps p f hf h =
    let b = bit_and (p % 32) (31 - f) in
    let lt : b < 32 = and_lt 5 (p % 32) (31 - f) (omega arith) (omega arith) in
    let one : (31 - f) / 8 % 2 ≡ 1 = omega arith in
    let z : b / 8 % 2 ≡ p % 32 / 8 % 2 =
    ap (λ (n : ℕ). n % 2) (and_shr (p % 32) (31 - f) 3) ∙ and_mod (p % 32 / 8) ((31 - f) / 8) 1
    ∙ ap (bit_and (p % 32 / 8 % 2)) one ∙ and_mask (p % 32 / 8 % 2) 1 ∙ omega arith in
    low-kept p b lt z

-- SETCC of other flags than SLP may set all that it names
all-allowed : (b : Bool) (f : ℕ) → f < 32 → f / 8 % 2 ≡ 0 → cond b (f / 16 * 16 + f % 8) f ≡ f
all-allowed true f hf h = omega arith
all-allowed false f hf h = refl

module _ (l : List ℕ) (p x pc f : ℕ) (h : Past pc l) (hf : f < 32) (hs : f / 8 % 2 ≡ 0) where
  pub sets-flags : {q : ℕ} → q ≡ set_flags p f → Done (i.SetCc f) l p x l q x pc
  unfolding effect_of
  sets-flags {q} e =
      plain_done (i.SetCc f) l p x pc h l q
      (ap (λ (g : ℕ). plainly (core_of l (set_flags p g) x)) (all-allowed (eqb (current p) 7) f hf hs)
      ∙ ap (λ (g : ℕ). plainly (core_of l g x)) (sym e))
      refl (rw e (set_keeps p f hf hs))

  pub clears-flags : {q : ℕ} → q ≡ clear_flags p f → Done (i.ClrCc f) l p x l q x pc
  unfolding effect_of
  clears-flags {q} e =
      plain_done (i.ClrCc f) l p x pc h l q (ap (λ (g : ℕ). plainly (core_of l g x)) (sym e)) refl (rw e (clear-keeps p f hf hs))

-- SLP where another priority is put
pub priority-asleep : (p level : ℕ) → asleep? (put_current p level) ≡ asleep? p
priority-asleep p level =
    let e : (p / 256 * 256 + level * 32 + p % 32) / 8 % 2 ≡ p / 8 % 2 = omega arith in
    ap (λ (n : ℕ). eqb n 1) e

-- ---- branches

-- an even PC stays even
even-moved : (a : ℕ) (z : ℤ) → a % 2 ≡ 0 → moved a (doubled z) % 2 ≡ 0
even-moved a (pos n) h = omega arith
even-moved a (negsuc n) h = omega arith

module _ (l : List ℕ) (p x pc : ℕ) (h : Past pc l) where
  -- r is the target at PC pc by the offset z
  module _ (z : ℤ) {y r : ℕ} (e : r ≡ moved (pc % 65536) (doubled z)) (lt : r < 65536) (ey : y ≡ 0) where
    aimed : r % 65536 ≡ moved (get_or l 7 0) (doubled z)
    aimed = mod-eq_of_lt lt ∙ e ∙ ap (λ (a : ℕ). moved a (doubled z)) h.0

    even : r % 2 ≡ 0
    even = let b = h.1 in ap (λ (n : ℕ). n % 2) e ∙ even-moved (pc % 65536) z (omega arith)

    pub jumps : (n : ℕ) → taken_of n p ≡ true → Done (i.Branch n z) l p x l p y r
    unfolding effect_of
    jumps n t = ((λ q. omega arith), rw (t, aimed, ey) refl, (λ q. even), (refl, refl), omega arith, (λ q. rw ey refl))

    pub links : Done (i.Bl z) l p x (set l 5 (pc % 65536)) p y r
    unfolding effect_of
    links =
        let f : get_or (set l 5 (get_or l 7 0)) 7 0 ≡ get_or l 7 0 = pc-set l 5 (get_or l 7 0) (omega arith) in
        ((λ q. omega arith), rw (f, h.0, aimed, ey) refl, (λ q. even), (refl, refl), omega arith, (λ q. rw ey refl))

  pub stays : (z : ℤ) (n : ℕ) → taken_of n p ≡ false → Done (i.Branch n z) l p x l p x pc
  unfolding effect_of
  stays z n t = plain_done (i.Branch n z) l p x pc h l p (rw t refl) refl (refl, refl)

-- an offset of so many bits is near
pub near : (half n : ℕ) → half ≤ 4096 → n < half + half → mag (signed_of half n) < 4096
near half n hh hn =
    bool_cases (ltb n half)
    (λ e. let g = ltb-true n half e in rw e (omega arith)) (λ e. let g = ltb-false n half e in rw e (omega arith))

-- it goes to a callee as it is
pub handed : (half n : ℕ) {z : ℤ} → half ≤ 4096 → n < half + half → z ≡ signed_of half n → to_z w16 (of_z w16 z) ≡ signed_of half n
handed half n {z} hh hn ez =
    rw ez
    (bool_cases (ltb n half) (λ e. let g = ltb-true n half e in rw e (to_z-of_z w16 (pos n) (record { sfits = omega arith })))
    (λ e. let g = ltb-false n half e in rw e (to_z-of_z w16 (negsuc (half + half - suc n)) (record { sfits = omega arith }))))

-- A frame is found as it is held exactly if nothing differs. Assumes nothing.
use Prim.Native.Nat.{ℕ, ◌+◌, ◌*◌, ◌<◌}
use native.Mathlib.Omega.{arith}
use mathlib.Core.Bool.{Bool, true, false, not, ◌&&◌, true≢false}
use mathlib.Core.List.{List, [], ◌∷◌}
use mathlib.Core.Path.{◌≡◌, refl, sym, ap, ◌∙◌}
use lib.Dec.{eqb}
use Rattle.word.specs.Width.{bit}
use Rattle.machine.specs.State.{State, reg, sp}
use Rattle.machine.specs.Entry.{frame_byte}
use Rattle.machine_laws.proofs.Cases.{eq_of, eq_self, and_left, and_right}
use Rattle.resume.specs.Resume.{Found}
use Rattle.resume.proofs.RowFacts.{below, ◌▸◌}
use Rattle.soundness.specs.Findings.{Kept, registers_of, bytes_at, kept_at, kept_in, differing, same?, changes_of}

-- a test as a bit
pub bit-clear : (b : Bool) → bit b ≡ 0 → b ≡ false
bit-clear true e = absurd (omega (arith, e))
bit-clear false e = refl

pub not-clear : (b : Bool) → not b ≡ false → b ≡ true
not-clear true e = refl
not-clear false e = absurd (true≢false e)

bit-same : (x y : ℕ) → bit (not (eqb x y)) ≡ 0 → y ≡ x
bit-same x y e = sym (eq_of (not-clear (eqb x y) (bit-clear (not (eqb x y)) e)))

-- ---- lists

differing-self : (xs : List ℕ) → differing xs xs ≡ 0
differing-self [] = refl
differing-self (x ∷ xs) = λ i. bit (not (eq_self x i)) + 2 * differing-self xs i

same_self : (xs : List ℕ) → same? xs xs ≡ true
same_self [] = refl
same_self (x ∷ xs) = λ i. eq_self x i && same_self xs i

differing-head : (x y : ℕ) (xs ys : List ℕ) → differing (x ∷ xs) (y ∷ ys) ≡ 0 → y ≡ x
differing-head x y xs ys e = bit-same x y (omega (arith, e))

differing-tail : (x y : ℕ) (xs ys : List ℕ) → differing (x ∷ xs) (y ∷ ys) ≡ 0 → differing xs ys ≡ 0
differing-tail x y xs ys e = omega (arith, e)

same_head : (x y : ℕ) (xs ys : List ℕ) → same? (x ∷ xs) (y ∷ ys) ≡ true → y ≡ x
same_head x y xs ys e = sym (eq_of (and_left (eqb x y) (same? xs ys) e))

same-tail : (x y : ℕ) (xs ys : List ℕ) → same? (x ∷ xs) (y ∷ ys) ≡ true → same? xs ys ≡ true
same-tail x y xs ys e = and_right (eqb x y) (same? xs ys) e

-- ---- a frame

changes-self : (h : Kept) → changes_of h h ≡ 0
changes-self h =
    λ i. differing-self h.registers i
    + 32 * bit (not (eq_self h.stack i))
    + 64 * bit (not (same_self h.bytes i))

module _ (s t : State) where
  abbrev p : ℕ
  p = sp s.core

  registers-kept : Found s t → registers_of t.core ≡ registers_of s.core
  registers-kept F =
      λ i. F.registers 0 (omega arith) i ∷ F.registers 1 (omega arith) i ∷ F.registers 2 (omega arith) i
      ∷ F.registers 3 (omega arith) i ∷ F.registers 4 (omega arith) i ∷ []

  bytes-kept : Found s t → bytes_at t.mem p ≡ bytes_at s.mem p
  bytes-kept F =
      let b = F.frame.bytes in
      λ i. b 0 (omega arith) i ∷ b 1 (omega arith) i ∷ b 2 (omega arith) i ∷ b 3 (omega arith) i
      ∷ b 4 (omega arith) i ∷ b 5 (omega arith) i ∷ b 6 (omega arith) i ∷ b 7 (omega arith) i ∷ []

  pub found-unchanged : Found s t → changes_of (kept_in s) (kept_at p t) ≡ 0
  found-unchanged F =
      ap (changes_of (kept_in s))
      (λ i. record { registers = registers-kept F i; stack = F.frame.stack i; bytes = bytes-kept F i })
      ∙ changes-self (kept_in s)

  registers-found : differing (registers_of s.core) (registers_of t.core) ≡ 0 → (i : ℕ) → i < 5 → reg t.core i ≡ reg s.core i
  registers-found e0 =
      let c = s.core in
      let d = t.core in
      let e1 =
      differing-tail (reg c 0) (reg d 0) (reg c 1 ∷ reg c 2 ∷ reg c 3 ∷ reg c 4 ∷ []) (reg d 1 ∷ reg d 2 ∷ reg d 3 ∷ reg d 4 ∷ []) e0 in
      let e2 = differing-tail (reg c 1) (reg d 1) (reg c 2 ∷ reg c 3 ∷ reg c 4 ∷ []) (reg d 2 ∷ reg d 3 ∷ reg d 4 ∷ []) e1 in
      let e3 = differing-tail (reg c 2) (reg d 2) (reg c 3 ∷ reg c 4 ∷ []) (reg d 3 ∷ reg d 4 ∷ []) e2 in
      let e4 = differing-tail (reg c 3) (reg d 3) (reg c 4 ∷ []) (reg d 4 ∷ []) e3 in
      below (λ i. reg d i ≡ reg c i) 5
      (differing-head (reg c 0) (reg d 0) (reg c 1 ∷ reg c 2 ∷ reg c 3 ∷ reg c 4 ∷ []) (reg d 1 ∷ reg d 2 ∷ reg d 3 ∷ reg d 4 ∷ []) e0
      ▸ differing-head (reg c 1) (reg d 1) (reg c 2 ∷ reg c 3 ∷ reg c 4 ∷ []) (reg d 2 ∷ reg d 3 ∷ reg d 4 ∷ []) e1
      ▸ differing-head (reg c 2) (reg d 2) (reg c 3 ∷ reg c 4 ∷ []) (reg d 3 ∷ reg d 4 ∷ []) e2
      ▸ differing-head (reg c 3) (reg d 3) (reg c 4 ∷ []) (reg d 4 ∷ []) e3
      ▸ differing-head (reg c 4) (reg d 4) [] [] e4
      ▸ tt)

  bytes-found : same? (bytes_at s.mem p) (bytes_at t.mem p) ≡ true
      → (i : ℕ) → i < 8 → frame_byte t.mem p i ≡ frame_byte s.mem p i
  bytes-found e0 =
      let e1 = and_right (eqb (frame_byte s.mem p 0) (frame_byte t.mem p 0)) _ e0 in
      let e2 = and_right (eqb (frame_byte s.mem p 1) (frame_byte t.mem p 1)) _ e1 in
      let e3 = and_right (eqb (frame_byte s.mem p 2) (frame_byte t.mem p 2)) _ e2 in
      let e4 = and_right (eqb (frame_byte s.mem p 3) (frame_byte t.mem p 3)) _ e3 in
      let e5 = and_right (eqb (frame_byte s.mem p 4) (frame_byte t.mem p 4)) _ e4 in
      let e6 = and_right (eqb (frame_byte s.mem p 5) (frame_byte t.mem p 5)) _ e5 in
      let e7 = and_right (eqb (frame_byte s.mem p 6) (frame_byte t.mem p 6)) _ e6 in
      below (λ i. frame_byte t.mem p i ≡ frame_byte s.mem p i) 8
      (sym (eq_of (and_left (eqb (frame_byte s.mem p 0) (frame_byte t.mem p 0)) _ e0))
      ▸ sym (eq_of (and_left (eqb (frame_byte s.mem p 1) (frame_byte t.mem p 1)) _ e1))
      ▸ sym (eq_of (and_left (eqb (frame_byte s.mem p 2) (frame_byte t.mem p 2)) _ e2))
      ▸ sym (eq_of (and_left (eqb (frame_byte s.mem p 3) (frame_byte t.mem p 3)) _ e3))
      ▸ sym (eq_of (and_left (eqb (frame_byte s.mem p 4) (frame_byte t.mem p 4)) _ e4))
      ▸ sym (eq_of (and_left (eqb (frame_byte s.mem p 5) (frame_byte t.mem p 5)) _ e5))
      ▸ sym (eq_of (and_left (eqb (frame_byte s.mem p 6) (frame_byte t.mem p 6)) _ e6))
      ▸ sym (eq_of (and_left (eqb (frame_byte s.mem p 7) (frame_byte t.mem p 7)) _ e7))
      ▸ tt)

  pub unchanged-found : changes_of (kept_in s) (kept_at p t) ≡ 0 → Found s t
  unchanged-found e =
      let a = differing (registers_of s.core) (registers_of t.core) in
      let b = bit (not (eqb (sp s.core) (sp t.core))) in
      let c = bit (not (same? (bytes_at s.mem p) (bytes_at t.mem p))) in
      let ea : a ≡ 0 = omega (arith, e) in
      let eb : b ≡ 0 = omega (arith, e) in
      let ec : c ≡ 0 = omega (arith, e) in
      record {
        registers = registers-found ea;
        frame = record {
          stack = bit-same (sp s.core) (sp t.core) eb;
          bytes = bytes-found (not-clear (same? (bytes_at s.mem p) (bytes_at t.mem p)) (bit-clear _ ec));
        };
      }

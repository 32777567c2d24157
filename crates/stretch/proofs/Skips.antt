-- Words that a block skips one after the other. Until its count is used up, each takes one from the same count and nothing from the
-- other or from the condition's outcome, so the block skips the next word too. Assumes nothing.
use Rattle.std.proofs.Common.{
  ◌≡◌,
  ℕ,
  zero,
  suc,
  ◌+◌,
  ◌-◌,
  ◌*◌,
  ◌/◌,
  ◌%◌,
  ◌<◌,
  ◌≤◌,
  true,
  false,
  not,
  ◌&&◌,
  eqb,
  ltb,
  List,
  length,
  get_or,
  set,
  sym,
  refl,
  ap,
  ◌∙◌,
  subst,
  add-one,
  arith,
  get_or-set_same,
  set-set,
  lt-ltb,
  eq-eqb,
  ne_eqb,
}
use lib.Seq.{set-get_or}
use Rattle.word.specs.Psw.{asleep?}
use Rattle.machine.specs.State.{wrap}
use Rattle.machine.specs.Cex.{skips?, lowered, held?}
use Rattle.machine_laws.proofs.Cases.{and_left, lt_of}
use Rattle.stretch.specs.Stretch.{OneStep, Goes, SkippedPart}
use Rattle.stretch.proofs.Steps.{skipped, goes_none, goes_one, goes-join}

-- ---- the counts of a CEX state

by-eights : (n : ℕ) → n / 64 ≡ n / 8 / 8
by-eights n = omega arith

-- below the low three bits nothing is borrowed
less-low : (n j : ℕ) → j < n % 8 → (n - j) / 8 ≡ n / 8
less-low n j h = omega arith

rest-low : (n j : ℕ) → j < n % 8 → (n - j) % 8 ≡ n % 8 - j
rest-low n j h = omega arith

less-eights : (n j : ℕ) → (n - j * 8) / 8 ≡ n / 8 - j
less-eights n j = omega arith

less_one : (n j : ℕ) → n - j * 1 ≡ n - j
less_one n j = omega arith

-- the part for a condition that holds
module _ (x : ℕ) (some : x / 8 % 8 ≡ 0 → ⊥) (s : skips? x ≡ true) where
  pub true-part : SkippedPart x (x / 8 % 8) 8
  true-part j h =
      let y = x - j * 8 in
      let q : y / 8 ≡ x / 8 - j = less-eights x j in
      let count : y / 8 % 8 ≡ x / 8 % 8 - j = ap (λ (n : ℕ). n % 8) q ∙ rest-low (x / 8) j h in
      let outcome : y / 64 ≡ x / 64 =
      by-eights y ∙ ap (λ (n : ℕ). n / 8) q ∙ less-low (x / 8) j h ∙ sym (by-eights x) in
      let more = ne_eqb (y / 8 % 8) 0 (λ z. omega (arith, z, count, h)) in
      let now : skips? y ≡ not (held? y) = rw more refl in
      let first : skips? x ≡ not (held? x) = rw (ne_eqb (x / 8 % 8) 0 some) refl in
      let low : lowered y ≡ y - 8 = rw more refl in
      (now ∙ ap (λ (n : ℕ). not (eqb (n % 2) 1)) outcome ∙ sym first ∙ s, low ∙ next)
    where
      next : x - j * 8 - 8 ≡ x - (j + 1) * 8
      next = omega arith

-- and the part for one that does not
module _ (x : ℕ) (none : x / 8 % 8 ≡ 0) (s : skips? x ≡ true) where
  pub false-some : 0 < x % 8
  false-some =
      let e : skips? x ≡ ltb 0 (x % 8) && held? x = rw (eq-eqb _ _ none) refl in
      lt_of (and_left (ltb 0 (x % 8)) (held? x) (sym e ∙ s))

  pub false-part : SkippedPart x (x % 8) 1
  false-part j h =
      let y = x - j * 1 in
      let e : y ≡ x - j = less_one x j in
      let q : y / 8 ≡ x / 8 = ap (λ (n : ℕ). n / 8) e ∙ less-low x j h in
      let used : y / 8 % 8 ≡ 0 = ap (λ (n : ℕ). n % 8) q ∙ none in
      let count : y % 8 ≡ x % 8 - j = ap (λ (n : ℕ). n % 8) e ∙ rest-low x j h in
      let outcome : y / 64 ≡ x / 64 = by-eights y ∙ ap (λ (n : ℕ). n / 8) q ∙ sym (by-eights x) in
      let more : 0 < y % 8 = omega (arith, count, h) in
      let now : skips? y ≡ held? y = rw (eq-eqb _ _ used, lt-ltb 0 (y % 8) more) refl in
      let first : skips? x ≡ held? x = rw (eq-eqb _ _ none, lt-ltb 0 (x % 8) false-some) refl in
      let low : lowered y ≡ y - 1 = rw (eq-eqb _ _ used, ne_eqb (y % 8) 0 (λ z. omega (arith, z, more))) refl in
      (now ∙ ap (λ (n : ℕ). eqb (n % 2) 1) outcome ∙ sym first ∙ s, low ∙ next)
    where
      next : x - j * 1 - 1 ≡ x - (j + 1) * 1
      next = omega arith

-- ---- the steps

even-on : (a j : ℕ) → a % 2 ≡ 0 → wrap (a + 2 * j) % 2 ≡ 0
even-on a j h = omega arith

two-on : (a j : ℕ) → wrap (a + 2 * (j + 1)) ≡ wrap (wrap (a + 2 * j) + 2)
two-on a j = omega arith

-- j words skipped
module _ (l : ℕ) (regs m : List ℕ) (psw x c u : ℕ) (long : 7 < length regs) (fits : get_or regs 7 0 < 65536)
    (even : get_or regs 7 0 % 2 ≡ 0) (woken : asleep? psw ≡ false) (part : SkippedPart x c u) where
  abbrev past : ℕ → ℕ
  past j = wrap (get_or regs 7 0 + 2 * j)

  -- the word after j of them
  skips-next : (j : ℕ) → j < c → OneStep l (set regs 7 (past j)) psw (x - j * u) m (set regs 7 (past (j + 1))) psw (x - (j + 1) * u) m
  skips-next j h =
      let k = set regs 7 (past j) in
      let here : get_or k 7 0 ≡ past j = get_or-set_same regs 7 (past j) 0 long in
      subst (λ (r : List ℕ). OneStep l k psw (x - j * u) m r psw (x - (j + 1) * u) m) (set-set regs 7 (past j) (past (j + 1)))
      (skipped l k m psw (x - j * u) (past (j + 1)) (x - (j + 1) * u)
      (ap (λ (n : ℕ). n % 2) here ∙ even-on (get_or regs 7 0) j even) woken (part j h).0
      (two-on (get_or regs 7 0) j ∙ ap (λ (n : ℕ). wrap (n + 2)) (sym here)) (sym (part j h).1))

  pub skips-all : (j : ℕ) → j ≤ c → Goes l regs psw x m (set regs 7 (past j)) psw (x - j * u) m j
  skips-all zero h =
      let e : past 0 ≡ get_or regs 7 0 = omega (arith, fits) in
      let z : x - 0 * u ≡ x = omega arith in
      subst (λ (r : List ℕ). Goes l regs psw x m r psw (x - 0 * u) m 0) (sym (ap (set regs 7) e ∙ set-get_or regs 7 0))
      (subst (λ (n : ℕ). Goes l regs psw x m regs psw n m 0) (sym z) (goes_none l regs m psw x))
  skips-all (suc j) h =
      subst (λ (n : ℕ). Goes l regs psw x m (set regs 7 (past n)) psw (x - n * u) m n) (add-one j)
      (goes-join l regs m psw x (set regs 7 (past j)) m (set regs 7 (past (j + 1))) m psw (x - j * u) psw (x - (j + 1) * u) j 1
      (skips-all j (omega arith))
      (goes_one l (set regs 7 (past j)) m psw (x - j * u) (set regs 7 (past (j + 1))) m psw (x - (j + 1) * u) (skips-next j (omega arith))))

-- Tables read past their end, and addresses moved by a signed distance. A distance below zero is taken off as its magnitude and then one
-- more, any other is added, and both wrap at 65,536 as `moved` has it. Assumes nothing.
use Rattle.std.proofs.Common.{
  ◌≡◌,
  ℕ,
  zero,
  suc,
  ◌+◌,
  ◌*◌,
  ◌%◌,
  ◌<◌,
  ◌≤◌,
  Bool,
  true,
  false,
  List,
  [],
  ◌∷◌,
  ◌++◌,
  length,
  get_or,
  ℤ,
  pos,
  negsuc,
  ◌*ℤ◌,
  neg_ℤ,
  refl,
  ap,
  ◌∙◌,
  le_of_suc-le-suc,
  not-suc-le-zero,
  arith,
  w16,
  SFits,
  to_z,
  of_z,
  ltb-true,
}
use lib.ListN.{get_or-eq_default}
use lib.Signed.{mag, lt_z}
use mir.ValLaws.{to_z-of_z}
use Rattle.machine.specs.State.{moved, doubled}
use Rattle.machine.specs.Cex.{condition_of}

-- ---- tables

-- a table's last entry serves as its default
pub last_entry : (l : List ℕ) (x d k : ℕ) → k < suc (length l) → get_or (l ++ x ∷ []) k d ≡ get_or l k x
last_entry [] x d zero h = refl
last_entry [] x d (suc k) h = absurd (not-suc-le-zero (le_of_suc-le-suc h))
last_entry (y ∷ l) x d zero h = refl
last_entry (y ∷ l) x d (suc k) h = last_entry l x d k (le_of_suc-le-suc h)

-- no condition from 15 on holds
pub never : (n p : ℕ) → 15 ≤ n → false ≡ condition_of n p
unfolding condition_of
never n p h = rw get_or-eq_default

-- ---- addresses

-- m below and one below that
pub moved_down : (a q r m : ℕ) (z : ℤ) → SFits w16 z → lt_z (to_z w16 (of_z w16 z)) (pos 0) ≡ true
    → m ≡ mag (to_z w16 (of_z w16 z)) → (q + m) % 65536 ≡ a → (r + 1) % 65536 ≡ q → r < 65536 → r ≡ moved a z
moved_down a q r m z f t e p s h = go z f (rw (to_z-of_z w16 z f) at t) (rw (to_z-of_z w16 z f) at e)
  where
    go : (y : ℤ) → SFits w16 y → lt_z y (pos 0) ≡ true → m ≡ mag y → r ≡ moved a y
    go (pos n) f t e = let k : n < 0 = ltb-true n 0 t in absurd (not-suc-le-zero k)
    go (negsuc n) f t e = let k : n < 32768 = f.sfits in omega arith

pub moved_up : (a r m : ℕ) (z : ℤ) → SFits w16 z → lt_z (to_z w16 (of_z w16 z)) (pos 0) ≡ false
    → m ≡ mag (to_z w16 (of_z w16 z)) → r ≡ (a + m) % 65536 → r ≡ moved a z
moved_up a r m z f t e p = go z (rw (to_z-of_z w16 z f) at t) (rw (to_z-of_z w16 z f) at e)
  where
    go : (y : ℤ) → lt_z y (pos 0) ≡ false → m ≡ mag y → r ≡ moved a y
    go (pos n) t e = cc
    go (negsuc n) t e = let x : ◌≡◌ {A = Bool} true false = t in cc

-- twice a signed number is its double
twice : (z : ℤ) → pos 2 *ℤ z ≡ doubled z
twice (pos n) = refl
twice (negsuc n) = let e : 2 * suc n ≡ suc (2 * n + 1) = omega arith in ap (λ (k : ℕ). neg_ℤ (pos k)) e

doubled_fits : (z : ℤ) → mag z < 4096 → SFits w16 (doubled z)
doubled_fits (pos n) h = record { sfits = omega arith }
doubled_fits (negsuc n) h = record { sfits = omega arith }

pub twice-fits : (z : ℤ) → SFits w16 z → mag z < 4096 → SFits w16 (pos 2 *ℤ to_z w16 (of_z w16 z))
twice-fits z f h = rw (to_z-of_z w16 z f, twice z) (doubled_fits z h)

pub twice-moved : (a r : ℕ) (z : ℤ) → SFits w16 z → mag z < 4096
    → r ≡ moved a (to_z w16 (of_z w16 (pos 2 *ℤ to_z w16 (of_z w16 z)))) → r ≡ moved a (doubled z)
twice-moved a r z f h e =
    e ∙ ap (moved a) (to_z-of_z w16 _ (twice-fits z f h) ∙ ap (λ (y : ℤ). pos 2 *ℤ y) (to_z-of_z w16 z f) ∙ twice z)

-- An odd condition is the even one before it turned over; so the condition of half the number, turned over where the number is odd, is
-- the condition of the number. Assumes nothing.
use Rattle.std.proofs.Common.{
  ◌≡◌,
  ℕ,
  zero,
  suc,
  ◌+◌,
  ◌*◌,
  ◌/◌,
  ◌%◌,
  ◌<◌,
  ◌≤◌,
  Bool,
  true,
  false,
  not,
  ◌&&◌,
  ◌||◌,
  eqb,
  sym,
  refl,
  ap,
  ◌∙◌,
  ⊎_elim,
  arith,
}
use mathlib.Core.Bool.{beq}
use Rattle.word.specs.Psw.{carry?, zero?}
use Rattle.word.proofs.Laws.{order}
use Rattle.machine.specs.Cex.{condition_of, at_least?}

not-and : (a b : Bool) → not a || b ≡ not (a && not b)
not-and true true = refl
not-and true false = refl
not-and false b = refl

or-not : (a b : Bool) → a || not b ≡ not (not a && b)
or-not true b = refl
or-not false b = refl

-- an odd condition is the one before it turned over
turned : (k p : ℕ) → k < 8 → condition_of (2 * k + 1) p ≡ not (condition_of (2 * k) p)
unfolding condition_of
turned zero p h = refl
turned (suc zero) p h = refl
turned (suc (suc zero)) p h = refl
turned (suc (suc (suc zero))) p h = refl
turned (suc (suc (suc (suc zero)))) p h = not-and (carry? p) (zero? p)
turned (suc (suc (suc (suc (suc zero))))) p h = refl
turned (suc (suc (suc (suc (suc (suc zero)))))) p h = or-not (zero? p) (at_least? p)
turned (suc (suc (suc (suc (suc (suc (suc zero))))))) p h = refl
turned (suc (suc (suc (suc (suc (suc (suc (suc k)))))))) p h = absurd (omega arith)

same : (x : Bool) → not (beq x false) ≡ x
same true = refl
same false = refl

other : (x : Bool) → not (beq x true) ≡ not x
other true = refl
other false = refl

-- a number below 16 is twice a number below 8, or the next one
pub paired : (n p : ℕ) → n < 16 → not (beq (condition_of (2 * (n / 2)) p) (eqb (n % 2) 1)) ≡ condition_of n p
paired n p h =
    let x = condition_of (2 * (n / 2)) p in
    let at : (t : ℕ) → n % 2 ≡ t → not (beq x (eqb (n % 2) 1)) ≡ not (beq x (eqb t 1)) =
    λ t e. ap (λ (m : ℕ). not (beq x (eqb m 1))) e in
    ⊎_elim
    (λ (q : 1 ≤ n % 2). let e : 2 * (n / 2) + 1 ≡ n = omega arith in
    at 1 (omega arith) ∙ other x ∙ sym (turned (n / 2) p (omega arith)) ∙ ap (λ (m : ℕ). condition_of m p) e)
    (λ (q : n % 2 < 1). let e : 2 * (n / 2) ≡ n = omega arith in
    at 0 (omega arith) ∙ same x ∙ ap (λ (m : ℕ). condition_of m p) e)
    (order 1 (n % 2))

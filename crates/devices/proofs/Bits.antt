-- One event of a device in the place of its count, and the status byte after an event.
-- Assumes nothing.
use mathlib.Core.Path.{◌≡◌, sym, subst, ◌∙◌}
use mathlib.Core.Bool.{Bool, true, false, or-true, or-false}
use Prim.Native.Nat.{ℕ, ◌+◌, ◌-◌, ◌*◌, ◌/◌, ◌%◌, ◌^◌, ◌≤◌, ◌<◌}
use native.Mathlib.Nat.{one-mul}
use native.Mathlib.Omega.{arith}
use lib.Dec.{lit<}
use lib.Pow.{shl_exact}
use borrow.Author.Tests.{eq-eqb, ne_eqb, lt-ltb, le-ltb, ltb-true}
use Rattle.word.specs.Psw.{bit_of}
use Rattle.word.proofs.Laws.{bit-back}
use Rattle.machine.specs.Devices.{event_status, events_waiting, waiting, raised, fallen}
use Rattle.machine_laws.proofs.Lines.{one-held, sum_fits}

-- ---- one event of a device

pub one_shifted : (d : ℕ) → d < 8 → (1 * 2 ^ (4 * d)) % 2 ^ 32 ≡ 2 ^ (4 * d)
one_shifted d h = shl_exact 1 (4 * d) 32 (lit< tt) (omega arith) ∙ one-mul (2 ^ (4 * d))

-- one event more, from the count c and one event u
module _ (l d c u : ℕ) (e : c ≡ events_waiting l d) where
  pub rise-fits : d < 8 → l < 2 ^ 32 → c < 15 → u ≡ 2 ^ (4 * d) → l + u < 2 ^ 32
  rise-fits h f r v = rw v (sum_fits l d h f (subst (λ (x : ℕ). x < 15) e r))

  pub rises : c < 15 → u ≡ 2 ^ (4 * d) → l + u ≡ raised l d
  rises r v = rw (v, lt-ltb (events_waiting l d) 15 (subst (λ (x : ℕ). x < 15) e r))

  pub rises-full : 15 ≤ c → l ≡ raised l d
  rises-full r = rw (le-ltb (events_waiting l d) 15 (subst (λ (x : ℕ). 15 ≤ x) e r))

-- one taken, where the line waits
module _ (l d u : ℕ) {b : Bool} (e : b ≡ waiting l d) where
  pub fall-fits : b ≡ true → u ≡ 2 ^ (4 * d) → u ≤ l
  fall-fits w v = rw v (one-held l d (ltb-true 0 (events_waiting l d) (sym e ∙ w)))

  pub falls : b ≡ true → u ≡ 2 ^ (4 * d) → l - u ≡ fallen l d
  falls w v = rw (v, sym e ∙ w)

  pub falls-none : b ≡ false → l ≡ fallen l d
  falls-none w = rw (sym e ∙ w)

-- ---- the status byte after an event, where DBA was set before it and where not

pub event-again : (t : ℕ) → t / 4 % 2 ≡ 1 → t / 16 * 16 + 12 + t % 4 ≡ event_status t
event-again t h = rw (eq-eqb (t / 4 % 2) 1 h, or-true (bit_of 3 t)) (omega arith)

pub event-first : (t : ℕ) → (t / 4 % 2 ≡ 1 → ⊥) → t / 8 * 8 + 4 + t % 4 ≡ event_status t
event-first t h =
    let e : t / 16 * 16 + t / 8 % 2 * 8 + t % 8 ≡ t = omega arith in
    rw (ne_eqb (t / 4 % 2) 1 h, or-false (bit_of 3 t), bit-back (t / 8 % 2) (omega arith), e)

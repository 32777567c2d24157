-- One event on a device, as equations over plain lists and numbers, one for each way through the code.
-- Assumes nothing.
use Prim.Native.Nat.{ℕ, ◌+◌, ◌*◌, ◌/◌, ◌%◌}
use mathlib.Core.Path.{◌≡◌, ap, ap₂, ◌∙◌}
use mathlib.Core.Bool.{Bool}
use mathlib.Core.List.{List}
use native.Mathlib.Omega.{arith}
use lib.ListN.{set}
use borrow.Author.Tests.{eq-eqb, ne_eqb}
use Rattle.machine.specs.State.{Core}
use Rattle.machine.specs.Memory.{byte_at, commit}
use Rattle.machine.specs.Events.{Event}
use Rattle.machine.specs.Devices.{event_status, event_writes, raised, event_on}
use Rattle.devices.specs.Cursor.{state_from}

-- an event of step k on device d
abbrev pub event_of : (k d x : ℕ) → Event
event_of k d x = record { step = k; device = d; byte = x }

module _ (m : List ℕ) (d x t : ℕ) {n : List ℕ} {v : ℕ} (s : v ≡ event_status t) (k : ℕ) where
  pub receive-input : t / 2 % 2 ≡ 1 → n ≡ set m (2 * d + 1) x → set n (2 * d) v ≡ commit (event_writes (event_of k d x) t) m
  unfolding commit
  receive-input i e = rw (eq-eqb (t / 2 % 2) 1 i) (ap (λ (l : List ℕ). set l (2 * d) v) e ∙ ap (set (set m (2 * d + 1) x) (2 * d)) s)

  pub receive-output : (t / 2 % 2 ≡ 1 → ⊥) → n ≡ m → set n (2 * d) v ≡ commit (event_writes (event_of k d x) t) m
  unfolding commit
  receive-output i e = rw (ne_eqb (t / 2 % 2) 1 i) (ap (λ (l : List ℕ). set l (2 * d) v) e ∙ ap (set m (2 * d)) s)

module _ (m : List ℕ) (d x l : ℕ) (c : Core) (h : Bool) (k n : ℕ) where
  -- on a device with ENA clear
  pub event-off : (byte_at m (2 * d) / 16 % 2 ≡ 1 → ⊥) → state_from c l h n m ≡ event_on (event_of k d x) (state_from c l h n m)
  unfolding event_on
  event-off e = rw (ne_eqb (byte_at m (2 * d) / 16 % 2) 1 e)

  module _ (e : byte_at m (2 * d) / 16 % 2 ≡ 1) {p : List ℕ} (w : p ≡ commit (event_writes (event_of k d x) (byte_at m (2 * d))) m) where
    -- with IE set the line rises
    pub event-raises :
        {r : ℕ} → byte_at m (2 * d) % 2 ≡ 1 → r ≡ raised l d → state_from c r h n p ≡ event_on (event_of k d x) (state_from c l h n m)
    unfolding event_on
    event-raises i q =
        let b : byte_at m (2 * d) / 1 % 2 ≡ 1 = omega arith in
        rw (eq-eqb (byte_at m (2 * d) / 16 % 2) 1 e, eq-eqb (byte_at m (2 * d) / 1 % 2) 1 b)
        (ap₂ (λ (y : ℕ) (z : List ℕ). state_from c y h n z) q w)

    pub event-keeps : (byte_at m (2 * d) % 2 ≡ 1 → ⊥) → state_from c l h n p ≡ event_on (event_of k d x) (state_from c l h n m)
    unfolding event_on
    event-keeps i =
        let b : byte_at m (2 * d) / 1 % 2 ≡ 1 → ⊥ = λ q. i (omega arith) in
        rw (eq-eqb (byte_at m (2 * d) / 16 % 2) 1 e, ne_eqb (byte_at m (2 * d) / 1 % 2) 1 b)
        (ap (state_from c l h n) w)

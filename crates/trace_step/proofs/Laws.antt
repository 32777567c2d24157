-- The record of an event as the code writes it: the sum of the flags is its bits, looked up in what stood before the step.
-- Assumes nothing.
use Prim.Native.Nat.{ℕ, ◌+◌, ◌*◌, ◌/◌, ◌%◌}
use native.Mathlib.Omega.{arith}
use mathlib.Core.Bool.{Bool, cond}
use mathlib.Core.List.{List}
use mathlib.Core.Path.{◌≡◌, sym, ap, ◌∙◌}
use mir.Val.{bool_byte}
use lib.Dec.{eqb}
use lib.Seq.{sets}
use Rattle.machine.specs.Memory.{byte_at}
use Rattle.machine_laws.proofs.Cases.{is_eq, not-eq}
use Rattle.machine.specs.Devices.{events_waiting}
use Rattle.devices.specs.declared.Event.{Event}
use Rattle.devices.specs.Cursor.{event_of}
use Rattle.trace.specs.Trace.{entry_bytes, effect_bits, effect_on, event_entry}
use Rattle.trace_record.specs.declared.Before.{Before}
use Rattle.trace_record.specs.Written.{entry_with}
use Rattle.trace_step.specs.Steps.{as_seen}

-- ---- an event's bits

pub bits-off : (t w : ℕ) → (t / 16 % 2 ≡ 1 → ⊥) → 0 ≡ effect_bits t w
bits-off t w h =
    sym (ap (λ (b : Bool). cond b (1 + 2 * bool_byte (eqb (t / 4 % 2) 1) + 4 * bool_byte (eqb (t / 1 % 2) 1) + 8 * bool_byte (eqb w 15)) 0)
    (not-eq h))

pub bits-on : (t w : ℕ) → t / 16 % 2 ≡ 1
    → 1 + 2 * bool_byte (eqb (t / 4 % 2) 1) + 4 * bool_byte (eqb (t % 2) 1) + 8 * bool_byte (eqb w 15) ≡ effect_bits t w
bits-on t w h =
    let e : t % 2 ≡ t / 1 % 2 = omega arith in
    ap (λ x. 1 + 2 * bool_byte (eqb (t / 4 % 2) 1) + 4 * bool_byte (eqb x 1) + 8 * bool_byte (eqb w 15)) e
    ∙ sym (ap (λ (b : Bool). cond b (1 + 2 * bool_byte (eqb (t / 4 % 2) 1) + 4 * bool_byte (eqb (t / 1 % 2) 1) + 8 * bool_byte (eqb w 15))
    0)
    (is_eq h))

-- ---- an event

pub event-written : (b : Before) (m : List ℕ) (l i : ℕ) (e : Event) (t t' : List ℕ) (bits w : ℕ)
    → w ≡ events_waiting l e.device → bits ≡ effect_bits (byte_at m (2 * e.device)) w
    → t' ≡ sets t i (entry_bytes (entry_with b 0 e.device bits e.byte))
    → t' ≡ sets t i (entry_bytes (event_entry (as_seen b m l) (as_seen b m l) (event_of e)))
unfolding effect_on
event-written b m l i e t t' bits w ew eb f =
    f ∙ (λ j. sets t i (entry_bytes (entry_with b 0 e.device ((eb ∙ ap (effect_bits (byte_at m (2 * e.device))) ew) j) e.byte)))

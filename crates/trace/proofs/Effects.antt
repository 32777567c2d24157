-- What the bits of an event's record say of the event itself: the overrun mark, and what becomes of its line. Each bit is one of the
-- tests by which `event_on` goes, so by cases of those tests. Assumes nothing.
use Prim.Native.Nat.{ℕ, ◌+◌, ◌*◌, ◌/◌, ◌^◌, ◌<◌}
use native.Mathlib.Nat.{mod-lt}
use native.Mathlib.Omega.{arith}
use mathlib.Core.Bool.{Bool, true, false, cond, ◌&&◌, ◌||◌, true≢false}
use mathlib.Core.List.{[], ◌∷◌}
use mathlib.Core.Logic.{◌≢◌}
use mathlib.Core.Path.{◌≡◌, refl, sym, ap, ◌∙◌}
use mir.Val.{bool_byte}
use lib.Dec.{eqb, ltb, lit<}
use lib.ListN.{length}
use lib.Seq.{get_or-set_same}
use Rattle.word.specs.Psw.{bit_of, put_bit}
use Rattle.word.proofs.Laws.{put_same, put_other}
use Rattle.machine.specs.State.{State}
use Rattle.machine.specs.Memory.{write, commit, byte_at}
use Rattle.machine.specs.Events.{Event}
use Rattle.machine.specs.Devices.{status_of, data_of, input?, ie?, dba?, of?, ena?, events_waiting, raised, event_status, event_on}
use Rattle.machine_laws.proofs.Cases.{bool_cases, eq_of, neq-of, is_lt, not-lt, and_left, and_right}
use Rattle.machine_laws.proofs.Memory.{commit-one, commit-append, commit-length}
use Rattle.machine_laws.proofs.Lines.{counts-one}
use Rattle.trace.specs.Trace.{effect_on}
use Rattle.trace.specs.Theorems.{OverrunTold, LinesTold}

-- ---- bits 1, 2 and 3

abbrev told : (taken dba ie full : Bool) → ℕ
told taken dba ie full = cond taken (1 + 2 * bool_byte dba + 4 * bool_byte ie + 8 * bool_byte full) 0

-- those of an event that is taken; one that is not has none
abbrev Bits : (taken dba ie full : Bool) → Type 0
Bits taken dba ie full =
    (bit_of 1 (told taken dba ie full) ≡ taken && dba)
    × (bit_of 2 (told taken dba ie full) ≡ taken && ie)
    × (bit_of 3 (told taken dba ie full) ≡ taken && full)

bits : (taken dba ie full : Bool) → Bits taken dba ie full
bits false dba ie full = (refl, refl, refl)
bits true false false false = (refl, refl, refl)
bits true false false true = (refl, refl, refl)
bits true false true false = (refl, refl, refl)
bits true false true true = (refl, refl, refl)
bits true true false false = (refl, refl, refl)
bits true true false true = (refl, refl, refl)
bits true true true false = (refl, refl, refl)
bits true true true true = (refl, refl, refl)

few : (n : ℕ) → n < 16 → n ≢ 15 → n < 15
few n h q = omega (arith, h, q)

module _ (e : Event) (t : State) where
  abbrev status : ℕ
  status = byte_at t.mem (status_of e.device)

  abbrev count : ℕ
  count = events_waiting t.lines e.device

  abbrev effect : ℕ
  effect = effect_on t e.device

  these : (bit_of 1 effect ≡ ena? status && dba? status) × (bit_of 2 effect ≡ ena? status && ie? status)
      × (bit_of 3 effect ≡ ena? status && eqb count 15)
  unfolding effect_on
  these = bits (ena? status) (dba? status) (ie? status) (eqb count 15)

  -- ---- the overrun mark

  -- the status that an event leaves stands last
  status-after : status_of e.device < length t.mem → ena? status ≡ true
      → byte_at (event_on e t).mem (status_of e.device) ≡ event_status status
  unfolding event_on
  status-after h q =
      let first = cond (input? status) (write (data_of e.device) e.byte ∷ []) [] in
      let m = commit first t.mem in
      let size : status_of e.device < length m = rw (commit-length first t.mem) h in
      rw q
      (ap (λ n. byte_at n (status_of e.device))
      (commit-append first (write (status_of e.device) (event_status status) ∷ []) t.mem
      ∙ commit-one (status_of e.device) (event_status status) m)
      ∙ get_or-set_same m (status_of e.device) (event_status status) 0 size)

  or-true : (a b : Bool) → b ≡ true → a || b ≡ true
  or-true true b q = refl
  or-true false b q = q

  of-set : dba? status ≡ true → of? (event_status status) ≡ true
  of-set q =
      put_other 3 2 (put_bit 3 status (of? status || dba? status)) true (λ z. true≢false (ap (λ n. eqb n 3) z))
      ∙ put_same 3 status (of? status || dba? status)
      ∙ or-true (of? status) (dba? status) q

  overrun-at : status_of e.device < length t.mem → bit_of 1 effect ≡ true
      → of? (byte_at (event_on e t).mem (status_of e.device)) ≡ true
  overrun-at h q =
      let both = sym these.0 ∙ q in
      ap of? (status-after h (and_left (ena? status) (dba? status) both)) ∙ of-set (and_right (ena? status) (dba? status) both)

  -- ---- its line

  -- a line rises where the event is taken and its device has IE set
  lines_after : (event_on e t).lines ≡ cond (ena? status && ie? status) (raised t.lines e.device) t.lines
  unfolding event_on
  lines_after = bool_cases (ena? status) (λ q. rw q refl) (λ q. rw q refl)

  rises : bit_of 2 effect ≡ true → (event_on e t).lines ≡ raised t.lines e.device
  rises q = lines_after ∙ ap (λ b. cond b (raised t.lines e.device) t.lines) (sym these.1 ∙ q)

  stays : bit_of 2 effect ≡ false → (event_on e t).lines ≡ t.lines
  stays q = lines_after ∙ ap (λ b. cond b (raised t.lines e.device) t.lines) (sym these.1 ∙ q)

  -- a count of 15 stays
  lost-at : bit_of 2 effect ≡ true → bit_of 3 effect ≡ true → (event_on e t).lines ≡ t.lines
  lost-at p q =
      let full : count ≡ 15 = eq_of (and_right (ena? status) (eqb count 15) (sym these.2 ∙ q)) in
      let above : ltb count 15 ≡ false = not-lt {m = count} {n = 15} (omega (arith, full)) in
      rises p ∙ ap (λ b. cond b (t.lines + 2 ^ (4 * e.device)) t.lines) above

  -- a count below 15 gains one
  counted-at : bit_of 2 effect ≡ true → bit_of 3 effect ≡ false
      → events_waiting (event_on e t).lines e.device ≡ events_waiting t.lines e.device + 1
  counted-at p q =
      let taken : ena? status ≡ true = and_left (ena? status) (ie? status) (sym these.1 ∙ p) in
      let other : eqb count 15 ≡ false = ap (λ b. b && eqb count 15) (sym taken) ∙ sym these.2 ∙ q in
      let small : count < 16 = mod-lt (t.lines / 2 ^ (4 * e.device)) (lit< tt) in
      let below : ltb count 15 ≡ true = is_lt {m = count} {n = 15} (few count small (neq-of other)) in
      ap (λ l. events_waiting l e.device) (rises p)
      ∙ counts-one t.lines e.device
      ∙ ap (λ b. cond b (count + 1) 15) below

pub overrun-told : OverrunTold
overrun-told = overrun-at

pub lines-told : LinesTold
lines-told e t = record { lost = lost-at e t; counted = counted-at e t; silent = stays e t }

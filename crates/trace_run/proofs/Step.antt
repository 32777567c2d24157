-- One step of a traced run in the order of its calls: its records are counted before it is performed; it is given up, and memory
-- is put back, or it is taken, and what is written is what it adds. Assumes nothing.
use Prim.Native.Nat.{ℕ, ◌+◌, ◌*◌, ◌<◌, ◌≤◌}
use native.Mathlib.Omega.{arith}
use mathlib.Core.Bool.{Bool, true, false, cond, true≢false}
use mathlib.Core.List.{List}
use mathlib.Core.Path.{◌≡◌, refl, sym, ap, ◌∙◌}
use lib.Dec.{ltb, leb}
use lib.ListN.{length, take}
use lib.Seq.{sets}
use Rattle.machine.specs.declared.Rest.{Rest}
use Rattle.machine.specs.State.{Core, State, pc, sp, core_with, state_with}
use Rattle.machine.specs.Events.{Event, event_count, events_of}
use Rattle.machine.specs.Devices.{deliver, deliver_at}
use Rattle.machine.specs.Refusal.{events_fit_below}
use Rattle.machine.specs.Step.{Plan, plan_of, perform, closed, finished, step_of}
use Rattle.machine.specs.Uneventful.{next_act}
use Rattle.machine_laws.proofs.Cases.{ge-of, gt-of}
use Rattle.machine_laws.proofs.Runs.{step-live}
use Rattle.devices.specs.Cursor.{Ordered, state_from}
use Rattle.turn.specs.Due.{Awaits}
use Rattle.turn.proofs.Laws.{of-devices, restored}
use Rattle.trace.specs.Trace.{Entry, entry, traced_of, trace_bytes}
use Rattle.trace.specs.Before.{Apart}
use Rattle.trace_record.specs.declared.Before.{Before}
use Rattle.trace_record.specs.Written.{entry_with, seen_of}
use Rattle.trace_step.specs.Steps.{step_written}
use Rattle.trace_step.proofs.Step.{written_is}
use Rattle.trace_run.specs.Reached.{Turn}
use Rattle.trace_run.proofs.Laws.{awaits-none}

module _
    (b regs : List ℕ) (t : Rest) (mem : List ℕ) (live : t.halted ≡ false) (size : length mem ≡ 65536)
    (next due : ℕ) (awaits : Awaits b next due t.count) (ordered : Ordered b)
    (fits : events_fit_below b (event_count b) ≡ true) (apart : Apart (events_of b))
    (wanted : Bool) (wants : wanted ≡ leb due t.count)
    (kept : List ℕ) (keeps : wanted ≡ true → kept ≡ take 16 mem)
    (l : ℕ) (m : List ℕ)
    (delivered : (c : Core) (h : Bool)
    → state_from c l h t.count m ≡ deliver_at t.count (events_of b) (state_from c t.lines h t.count mem))
    (q : Plan) (planned : q ≡ plan_of (state_from (core_with regs t) l t.halted t.count m))
    (ks room added more : ℕ)
    (counted : (x : Before) (k : List ℕ) (j y p u : ℕ) → x.step ≡ t.count
    → more ≡ length (step_written x ks wanted k j (events_of b) q.act y p u))
    (lacks : Bool) (test : lacks ≡ ltb room (added + more)) where
  abbrev ev : List Event
  ev = events_of b

  abbrev stands : State
  stands = state_with regs t mem

  abbrev begun : State
  begun = state_from (core_with regs t) l t.halted t.count m

  begun-is : begun ≡ deliver ev stands
  begun-is = delivered (core_with regs t) t.halted

  act-is : q.act ≡ next_act ev stands
  act-is = ap (λ (x : Plan). x.act) planned ∙ ap (λ x. (plan_of x).act) begun-is

  mem_is : m ≡ (deliver ev stands).mem
  mem_is = ap (λ (x : State). x.mem) begun-is

  late : wanted ≡ false → t.count < due
  late z = gt-of (sym wants ∙ z)

  -- its records, from what the code holds
  pub records-are : (x : Before) → ((k n a y : ℕ) → entry_with x k n a y ≡ entry stands k n a y)
      → (y p u : ℕ) → y ≡ seen_of q.act m → p ≡ pc (step_of ev stands).core → u ≡ (step_of ev stands).core.psw
      → step_written x ks wanted kept t.lines ev q.act y p u ≡ traced_of ks ev stands
  records-are x same y p u ey ep eu =
      written_is x stands same ks ev (omega arith) (of-devices b fits) apart wanted kept keeps
      (λ z. awaits-none b next due t.count awaits ordered stands (late z))
      q.act act-is y (ey ∙ ap (seen_of q.act) mem_is) p u ep eu

  abbrev stood : Before
  stood = record { step = t.count; pc = pc stands.core; sp = sp stands.core; psw = t.psw }

  more-is : more ≡ length (traced_of ks ev stands)
  more-is =
      counted stood kept t.lines (seen_of q.act m) (pc (step_of ev stands).core) (step_of ev stands).core.psw refl
      ∙ ap length (records-are stood (λ k n a y. refl) _ _ _ refl refl refl)

  test-is : lacks ≡ ltb room (added + length (traced_of ks ev stands))
  test-is = test ∙ ap (λ i. ltb room (added + i)) more-is

  -- it is not taken: memory is put back
  pub given-up : (m' : List ℕ) → m' ≡ cond wanted (sets m 0 kept) m → lacks ≡ true → (regs' trace : List ℕ)
      → Turn ks ev room stands added trace (state_with regs' t m') added trace true
  given-up m' e z regs' trace =
      record {
        test = sym z ∙ test-is;
        taken = λ o. absurd (true≢false o);
        kept = λ o. e ∙ restored b next due stands awaits ordered fits (omega arith) wanted late kept m keeps mem_is;
        added = refl;
        written = refl;
      }

  -- it is taken
  module _
      (taken : lacks ≡ false) (regs' : List ℕ) (u : Rest) (m' : List ℕ)
      (performed : state_with regs' u m' ≡ closed (perform q.act q.core l m) t.count m)
      (x : Before) (starts : (y : List ℕ) (k n a z : ℕ) → entry_with x k n a z ≡ entry (state_with regs t y) k n a z)
      (y : ℕ) (saw : y ≡ seen_of q.act m) where
    step_is : state_with regs' u m' ≡ step_of ev stands
    step_is =
        performed
        ∙ ap (λ (z : Plan). closed (perform z.act z.core l m) t.count m) planned
        ∙ ap finished begun-is
        ∙ sym (step-live ev stands live)

    abbrev written : List Entry
    written = step_written x ks wanted kept t.lines ev q.act y (pc (core_with regs' u)) u.psw

    written-are : written ≡ traced_of ks ev stands
    written-are =
        records-are x (starts mem) y (pc (core_with regs' u)) u.psw saw (ap (λ (z : State). pc z.core) step_is)
        (ap (λ (z : State). z.core.psw) step_is)

    -- there is room for them
    pub has_room : (trace : List ℕ) → 16 * room ≤ length trace → 16 * (added + length written) ≤ length trace
    has_room trace h =
        let c = counted x kept t.lines y (pc (core_with regs' u)) u.psw (ap (λ (z : Entry). z.step) (starts mem 0 0 0 0)) in
        let f : added + more ≤ room = ge-of (sym test ∙ taken) in
        omega arith

    pub taken_is : (trace trace' : List ℕ) (added' : ℕ) → added' ≡ added + length written
        → trace' ≡ sets trace (16 * added) (trace_bytes written)
        → Turn ks ev room stands added trace (state_with regs' u m') added' trace' false
    taken_is trace trace' added' ea et =
        record {
          test = sym taken ∙ test-is;
          taken = λ o. step_is;
          kept = λ o. absurd (true≢false (sym o));
          added = ea ∙ ap (λ (z : List Entry). added + length z) written-are;
          written = et ∙ ap (λ (z : List Entry). sets trace (16 * added) (trace_bytes z)) written-are;
        }

-- The run meets the premises in plain numbers, and not those downwards modulo 65,536: after its second step SP stands 2
-- above where entry left it. Its stacks reach exactly the 8 bytes of the figure. Assumes nothing.
use Prim.Native.Nat.{ℕ, suc, ◌+◌, ◌%◌, ◌<◌, ◌≤◌}
use mathlib.Core.Bool.{true, false, true≢false}
use mathlib.Core.List.{List, [], ◌∷◌}
use mathlib.Core.Path.{◌≡◌, refl, sym, ap, subst, ◌∙◌}
use native.Mathlib.Omega.{arith}
use lib.Dec.{lit<}
use lib.ListN.{length}
use Rattle.isa.specs.Decode.{decode_of}
use Rattle.machine.specs.State.{sp}
use Rattle.machine.specs.Events.{event_at}
use Rattle.machine.specs.Step.{outcome}
use Rattle.machine.specs.Refusal.{verdict_of, record_fits, event_fits, events_fit_below, in_order, in_order_below, event_below, twins_below}
use Rattle.machine_laws.proofs.Memory.{over, commit-length, commit-bytes}
use Rattle.resume.specs.Frames.{Start, FrameFound, Calm, svc?, after, due, act, frames}
use Rattle.resume.specs.Depth.{DepthPremises}
use Rattle.resume.specs.Example.{zeros, r}
use Rattle.resume.proofs.Trace.{known, zeros-length}
use Rattle.resume.proofs.RowFacts.{◌▸◌, zeros-bytes, bytes_of, small-writes, small, frame_found}
use Rattle.resume.proofs.RowFacts as facts
use Rattle.resume.proofs.Example.{fetched}
use Rattle.stack_need.specs.Need.{given?, level_of, use_of, total, free?, choices, allowed?, largest, need_of, uses_fit, need_refused?}
use Rattle.stack_need.specs.Stack.{below, Handler, Enters, return?, works?, handlers, opened, StackPremises, PlainPremises, PlainWithin}
use Rattle.stack_need.proofs.Stack.{plain-within}
use Rattle.stack_example.specs.Example.{vectors}
use Rattle.stack_example.specs.Above.{program, memory, events, devices, uses}
use Rattle.stack_example.proofs.Trace.{act-is, next-state}
use Rattle.stack_example.proofs.Facts.{FoundAt, SetsNone, BackIn, HeldNext, calm-at, no_svc, no-pull, sets-none, even-at}
use Rattle.stack_example.proofs.Facts.{given-at, held_at, back_at, found_at, SameVectors, vectors-in, Unaltered, unaltered-at}
use Rattle.stack_example.proofs.Rows.{h1}
use Rattle.stack_example.proofs.AboveRows.{ev, s, row0, row1, row2, row3, row4, last-leaves, w2, c4, c5, entry_frame}

-- ---- an accepted start and the close

memory-length : length memory ≡ 65536
memory-length = commit-length program zeros ∙ zeros-length

start : Start memory r events 5
unfolding verdict_of record_fits event_fits events_fit_below in_order in_order_below event_below twins_below event_at
start =
    record {
      memory_bytes = commit-bytes program zeros (small-writes program refl) zeros-bytes;
      record_bytes = bytes_of r (small r refl);
      event_bytes = bytes_of events (small events refl);
      accepted = rw memory-length refl;
    }

close-is : after ev s 5 ≡ known c5 0 6 w2
close-is = next-state ev s w2 row4 refl (outcome c5 0 []) last-leaves refl

-- ---- the premises

entry_found : FrameFound entry_frame.held (known c4 0 5 w2)
unfolding over
entry_found =
    record { stack = refl; bytes = frame_found w2 w2 1016 (lit< tt) (refl ▸ refl ▸ refl ▸ refl ▸ refl ▸ refl ▸ refl ▸ refl ▸ tt) }

v0 : SameVectors program
unfolding over
v0 = vectors-in program refl

v2 : SameVectors w2
unfolding over
v2 = vectors-in w2 refl

depth-premises : DepthPremises memory r events 5
unfolding over decode_of
depth-premises =
    record {
      accepted = start;
      calm = facts.below (λ k. Calm (act ev s k) (frames ev s k)) 5
          (calm-at row0 tt ▸ calm-at row1 tt ▸ calm-at row2 tt ▸ calm-at row3 tt ▸ calm-at row4 refl ▸ tt);
      no_svc = facts.below (λ k. svc? (act ev s k) ≡ false) 5
          (no_svc row0 refl ▸ no_svc row1 refl ▸ no_svc row2 refl ▸ no_svc row3 refl ▸ no_svc row4 refl ▸ tt);
      no_setpri = facts.below (SetsNone ev s) 5
          (sets-none row0 refl ▸ sets-none row1 (fetched w2 320 (lit< tt) refl) ▸ sets-none row2 (fetched w2 322 (lit< tt) refl)
          ▸ sets-none row3 (fetched w2 324 (lit< tt) refl) ▸ sets-none row4 refl ▸ tt);
      found = λ k f fs h. facts.below (FoundAt ev s) 5
          (no-pull row0 refl ▸ no-pull row1 refl ▸ no-pull row2 refl ▸ no-pull row3 refl ▸ found_at row4 entry_found ▸ tt) k h f fs;
    }

unaltered : (k : ℕ) → k < 6 → Unaltered ev s k
unaltered = facts.below (Unaltered ev s) 6
    (unaltered-at ev s 0 program row0.state_is v0 ▸ unaltered-at ev s 1 w2 row1.state_is v2
    ▸ unaltered-at ev s 2 w2 row2.state_is v2 ▸ unaltered-at ev s 3 w2 row3.state_is v2
    ▸ unaltered-at ev s 4 w2 row4.state_is v2 ▸ unaltered-at ev s 5 w2 close-is v2 ▸ tt)

-- SP no further below than the newest handler's figure, in plain numbers
abbrev HeldIn : ℕ → List Handler → Type 0
HeldIn x [] = Unit {0}
HeldIn x (h ∷ hs) = h.left ≤ use_of uses h.vector + x

held : (k : ℕ) → k < 5 → HeldNext ev s HeldIn k
unfolding use_of
held =
    facts.below (HeldNext ev s HeldIn) 5
    (held_at row0 HeldIn row1.state_is (λ w. absurd (true≢false (sym w)))
    ▸ held_at row1 HeldIn row2.state_is (λ w. omega arith)
    ▸ held_at row2 HeldIn row3.state_is (λ w. omega arith)
    ▸ held_at row3 HeldIn row4.state_is (λ w. omega arith)
    ▸ held_at row4 HeldIn close-is (λ w. absurd (true≢false (sym w)))
    ▸ tt)

handed_back : (k : ℕ) → k < 5 → BackIn (sp (due ev s k).core) (return? (act ev s k)) (handlers ev s k)
handed_back = facts.below (λ k. BackIn (sp (due ev s k).core) (return? (act ev s k)) (handlers ev s k)) 5
    (back_at row0 tt ▸ back_at row1 (λ e. absurd (true≢false (sym e))) ▸ back_at row2 (λ e. absurd (true≢false (sym e)))
    ▸ back_at row3 (λ e. absurd (true≢false (sym e))) ▸ back_at row4 (λ e. refl) ▸ tt)

even_entry : (k : ℕ) → k < 5 → sp (due ev s k).core % 2 ≡ 0
even_entry = facts.below (λ k. sp (due ev s k).core % 2 ≡ 0) 5
    (even-at row0 refl ▸ even-at row1 refl ▸ even-at row2 refl ▸ even-at row3 refl ▸ even-at row4 refl ▸ tt)

only_given : (k : ℕ) → k < 5 → (e : ℕ) → Enters (act ev s k) e → given? devices e ≡ true
only_given = facts.below (λ k. (e : ℕ) → Enters (act ev s k) e → given? devices e ≡ true) 5
    (given-at row0 devices refl ▸ given-at row1 devices refl ▸ given-at row2 devices refl ▸ given-at row3 devices refl
    ▸ given-at row4 devices refl ▸ tt)

pub premises : PlainPremises memory r events vectors devices uses 0 5
unfolding need_refused? uses_fit
premises =
    record {
      run = record {
        depth = depth-premises;
        not_refused = refl;
        unaltered = λ k i h l. unaltered k (omega arith) i l;
        even_entry = λ k d h e. even_entry k h;
        only_given = λ k d h e. only_given k h d e;
        not_below = omega arith;
        handed_back = λ k h hs l b o. subst (BackIn (sp (due ev s k).core) (return? (act ev s k))) o (handed_back k l) b;
      };
      held_plainly = λ k h hs l w o. subst (HeldIn (sp (after ev s (suc k)).core)) o (held k l w);
    }

-- so the stacks stay within the figure
pub bounded : PlainWithin memory r events vectors devices uses 0 5
bounded = plain-within memory r events vectors devices uses 0 5 premises

-- ---- the other theorem does not speak of this run: downwards, SP lies 65,534 below

pub outside : StackPremises memory r events vectors devices uses 0 5 → ⊥
unfolding use_of
outside P =
    let h : below 1016 (sp (after ev s 2).core) ≤ 0 = P.held 1 h1 [] (lit< tt) (ap works? (act-is ev s row1)) row1.handlers-are in
    let e : sp (after ev s 2).core ≡ 1018 = ap (λ x. sp x.core) row2.state_is in
    let k : below 1016 1018 ≤ 0 = subst (λ x. below 1016 x ≤ 0) e h in
    omega arith

-- ---- the figure, computed from the 256 choices, is reached exactly after the entry

pub figure : need_of vectors devices uses 0 ≡ 8
unfolding need_of largest choices allowed? free? total level_of use_of
figure = refl

pub reached : opened ev s 1 ≡ need_of vectors devices uses 0 + sp (after ev s 1).core
reached = row1.opened-is ∙ sym (λ i. figure i + sp (row1.state_is i).core)

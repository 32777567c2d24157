-- The run meets the premises, and after its sixth step SP lies exactly as far below as the figure says. Each premise is read off the rows
-- of the run, which are computed, and the figure is computed from its 256 choices. Assumes nothing.
use Prim.Native.Nat.{ℕ, suc, ◌%◌, ◌<◌, ◌≤◌}
use mathlib.Core.Bool.{true, false, true≢false}
use mathlib.Core.List.{List, [], ◌∷◌}
use mathlib.Core.Path.{◌≡◌, refl, sym, subst, ◌∙◌}
use native.Mathlib.Omega.{arith}
use lib.Dec.{lit<}
use lib.ListN.{length}
use Rattle.isa.specs.Decode.{decode_of}
use Rattle.machine.specs.State.{sp}
use Rattle.machine.specs.Events.{event_at}
use Rattle.machine.specs.Step.{outcome}
use Rattle.machine.specs.Refusal.{verdict_of, record_fits, event_fits, events_fit_below, in_order, in_order_below, event_below, twins_below}
use Rattle.machine_laws.proofs.Memory.{over, commit-length, commit-bytes}
use Rattle.resume.specs.Frames.{Start, FrameFound, Calm, svc?, after, due, act, frames}
use Rattle.resume.specs.Depth.{DepthPremises}
use Rattle.resume.specs.Example.{zeros, r}
use Rattle.resume.proofs.Trace.{known, zeros-length}
use Rattle.resume.proofs.RowFacts.{◌▸◌, zeros-bytes, bytes_of, small-writes, small, frame_found}
use Rattle.resume.proofs.RowFacts as facts
use Rattle.resume.proofs.Example.{fetched}
use Rattle.stack_need.specs.Need.{given?, level_of, use_of, total, free?, choices, allowed?, largest, need_of, uses_fit, need_refused?}
use Rattle.stack_need.specs.Stack.{below, Handler, Enters, return?, handlers, opened, StackPremises, Within}
use Rattle.stack_need.proofs.Stack.{within}
use Rattle.stack_example.specs.Example.{program, memory, events, vectors, devices, uses}
use Rattle.stack_example.proofs.Trace.{next-state}
use Rattle.stack_example.proofs.Facts.{FoundAt, SetsNone, BackIn, HeldNext, calm-at, no_svc, no-pull, sets-none, even-at}
use Rattle.stack_example.proofs.Facts.{given-at, held_at, back_at, found_at, SameVectors, vectors-in, Unaltered, unaltered-at}
use Rattle.stack_example.proofs.Rows.{ev, s, row0, row1, row2, row3, row4, row5, row6, row7, row8, row9, row10, row11}
use Rattle.stack_example.proofs.Rows.{last-leaves, w2, w4, w5, c0, c8, c11, outer_frame, inner_frame}

-- ---- an accepted start

memory-length : length memory ≡ 65536
memory-length = commit-length program zeros ∙ zeros-length

start : Start memory r events 12
unfolding verdict_of record_fits event_fits events_fit_below in_order in_order_below event_below twins_below event_at
start =
    record {
      memory_bytes = commit-bytes program zeros (small-writes program refl) zeros-bytes;
      record_bytes = bytes_of r (small r refl);
      event_bytes = bytes_of events (small events refl);
      accepted = rw memory-length refl;
    }

-- ---- the close

close-is : after ev s 12 ≡ known c0 0 13 w5
close-is = next-state ev s w5 row11 refl (outcome c0 0 []) last-leaves refl

inner-found : FrameFound inner_frame.held (known c8 0 9 w5)
unfolding over
inner-found =
    record { stack = refl; bytes = frame_found w4 w5 1006 (lit< tt) (refl ▸ refl ▸ refl ▸ refl ▸ refl ▸ refl ▸ refl ▸ refl ▸ tt) }

outer-found : FrameFound outer_frame.held (known c11 0 12 w5)
unfolding over
outer-found =
    record { stack = refl; bytes = frame_found w2 w5 1016 (lit< tt) (refl ▸ refl ▸ refl ▸ refl ▸ refl ▸ refl ▸ refl ▸ refl ▸ tt) }

-- ---- the vectors

v0 : SameVectors program
unfolding over
v0 = vectors-in program refl

v2 : SameVectors w2
unfolding over
v2 = vectors-in w2 refl

v4 : SameVectors w4
unfolding over
v4 = vectors-in w4 refl

v5 : SameVectors w5
unfolding over
v5 = vectors-in w5 refl

-- ---- the premises

depth-premises : DepthPremises memory r events 12
unfolding over decode_of
depth-premises =
    record {
      accepted = start;
      calm = facts.below (λ k. Calm (act ev s k) (frames ev s k)) 12
          (calm-at row0 tt ▸ calm-at row1 tt ▸ calm-at row2 tt ▸ calm-at row3 tt ▸ calm-at row4 refl ▸ calm-at row5 tt
          ▸ calm-at row6 tt ▸ calm-at row7 tt ▸ calm-at row8 refl ▸ calm-at row9 tt ▸ calm-at row10 tt
          ▸ calm-at row11 refl ▸ tt);
      no_svc = facts.below (λ k. svc? (act ev s k) ≡ false) 12
          (no_svc row0 refl ▸ no_svc row1 refl ▸ no_svc row2 refl ▸ no_svc row3 refl ▸ no_svc row4 refl ▸ no_svc row5 refl
          ▸ no_svc row6 refl ▸ no_svc row7 refl ▸ no_svc row8 refl ▸ no_svc row9 refl ▸ no_svc row10 refl ▸ no_svc row11 refl ▸ tt);
      no_setpri = facts.below (SetsNone ev s) 12
          (sets-none row0 refl ▸ sets-none row1 (fetched w2 320 (lit< tt) refl) ▸ sets-none row2 refl
          ▸ sets-none row3 (fetched w4 352 (lit< tt) refl) ▸ sets-none row4 refl
          ▸ sets-none row5 (fetched w5 384 (lit< tt) refl) ▸ sets-none row6 (fetched w5 386 (lit< tt) refl)
          ▸ sets-none row7 (fetched w5 388 (lit< tt) refl) ▸ sets-none row8 refl
          ▸ sets-none row9 (fetched w5 322 (lit< tt) refl) ▸ sets-none row10 (fetched w5 324 (lit< tt) refl)
          ▸ sets-none row11 refl ▸ tt);
      found = λ k f fs h. facts.below (FoundAt ev s) 12
          (no-pull row0 refl ▸ no-pull row1 refl ▸ no-pull row2 refl ▸ no-pull row3 refl ▸ no-pull row4 refl
          ▸ no-pull row5 refl ▸ no-pull row6 refl ▸ no-pull row7 refl ▸ found_at row8 inner-found ▸ no-pull row9 refl
          ▸ no-pull row10 refl ▸ found_at row11 outer-found ▸ tt) k h f fs;
    }

unaltered : (k : ℕ) → k < 13 → Unaltered ev s k
unaltered = facts.below (Unaltered ev s) 13
    (unaltered-at ev s 0 program row0.state_is v0 ▸ unaltered-at ev s 1 w2 row1.state_is v2
    ▸ unaltered-at ev s 2 w2 row2.state_is v2 ▸ unaltered-at ev s 3 w4 row3.state_is v4
    ▸ unaltered-at ev s 4 w4 row4.state_is v4 ▸ unaltered-at ev s 5 w5 row5.state_is v5
    ▸ unaltered-at ev s 6 w5 row6.state_is v5 ▸ unaltered-at ev s 7 w5 row7.state_is v5
    ▸ unaltered-at ev s 8 w5 row8.state_is v5 ▸ unaltered-at ev s 9 w5 row9.state_is v5
    ▸ unaltered-at ev s 10 w5 row10.state_is v5 ▸ unaltered-at ev s 11 w5 row11.state_is v5 ▸ unaltered-at ev s 12 w5 close-is v5
    ▸ tt)

-- SP within the newest handler's figure
abbrev HeldIn : ℕ → List Handler → Type 0
HeldIn x [] = Unit {0}
HeldIn x (h ∷ hs) = below h.left x ≤ use_of uses h.vector

held : (k : ℕ) → k < 12 → HeldNext ev s HeldIn k
unfolding use_of
held =
    facts.below (HeldNext ev s HeldIn) 12
    (held_at row0 HeldIn row1.state_is (λ w. absurd (true≢false (sym w)))
    ▸ held_at row1 HeldIn row2.state_is (λ w. omega arith)
    ▸ held_at row2 HeldIn row3.state_is (λ w. absurd (true≢false (sym w)))
    ▸ held_at row3 HeldIn row4.state_is (λ w. omega arith)
    ▸ held_at row4 HeldIn row5.state_is (λ w. absurd (true≢false (sym w)))
    ▸ held_at row5 HeldIn row6.state_is (λ w. omega arith)
    ▸ held_at row6 HeldIn row7.state_is (λ w. omega arith)
    ▸ held_at row7 HeldIn row8.state_is (λ w. omega arith)
    ▸ held_at row8 HeldIn row9.state_is (λ w. absurd (true≢false (sym w)))
    ▸ held_at row9 HeldIn row10.state_is (λ w. omega arith)
    ▸ held_at row10 HeldIn row11.state_is (λ w. omega arith)
    ▸ held_at row11 HeldIn close-is (λ w. absurd (true≢false (sym w)))
    ▸ tt)

handed_back : (k : ℕ) → k < 12 → BackIn (sp (due ev s k).core) (return? (act ev s k)) (handlers ev s k)
handed_back = facts.below (λ k. BackIn (sp (due ev s k).core) (return? (act ev s k)) (handlers ev s k)) 12
    (back_at row0 tt ▸ back_at row1 (λ e. absurd (true≢false (sym e))) ▸ back_at row2 (λ e. absurd (true≢false (sym e)))
    ▸ back_at row3 (λ e. absurd (true≢false (sym e))) ▸ back_at row4 (λ e. refl)
    ▸ back_at row5 (λ e. absurd (true≢false (sym e))) ▸ back_at row6 (λ e. absurd (true≢false (sym e)))
    ▸ back_at row7 (λ e. absurd (true≢false (sym e))) ▸ back_at row8 (λ e. refl)
    ▸ back_at row9 (λ e. absurd (true≢false (sym e))) ▸ back_at row10 (λ e. absurd (true≢false (sym e)))
    ▸ back_at row11 (λ e. refl) ▸ tt)

even_entry : (k : ℕ) → k < 12 → sp (due ev s k).core % 2 ≡ 0
even_entry = facts.below (λ k. sp (due ev s k).core % 2 ≡ 0) 12
    (even-at row0 refl ▸ even-at row1 refl ▸ even-at row2 refl ▸ even-at row3 refl ▸ even-at row4 refl
    ▸ even-at row5 refl ▸ even-at row6 refl ▸ even-at row7 refl ▸ even-at row8 refl ▸ even-at row9 refl
    ▸ even-at row10 refl ▸ even-at row11 refl ▸ tt)

only_given : (k : ℕ) → k < 12 → (e : ℕ) → Enters (act ev s k) e → given? devices e ≡ true
only_given = facts.below (λ k. (e : ℕ) → Enters (act ev s k) e → given? devices e ≡ true) 12
    (given-at row0 devices refl ▸ given-at row1 devices refl ▸ given-at row2 devices refl ▸ given-at row3 devices refl
    ▸ given-at row4 devices refl ▸ given-at row5 devices refl ▸ given-at row6 devices refl ▸ given-at row7 devices refl
    ▸ given-at row8 devices refl ▸ given-at row9 devices refl ▸ given-at row10 devices refl ▸ given-at row11 devices refl ▸ tt)

pub premises : StackPremises memory r events vectors devices uses 0 12
unfolding need_refused? uses_fit
premises =
    record {
      run = record {
        depth = depth-premises;
        not_refused = refl;
        unaltered = λ k i h l. unaltered k (omega arith) i l;
        even_entry = λ k d h e. even_entry k h;
        only_given = λ k d h e. only_given k h d e;
        not_below = omega arith;
        handed_back = λ k h hs l b o. subst (BackIn (sp (due ev s k).core) (return? (act ev s k))) o (handed_back k l) b;
      };
      held = λ k h hs l w o. subst (HeldIn (sp (after ev s (suc k)).core)) o (held k l w);
    }

-- so the stacks stay within the figure
pub bounded : Within memory r events vectors devices uses 0 12
bounded = within memory r events vectors devices uses 0 12 premises

-- ---- the figure, computed from the 256 choices, is reached exactly after the sixth step

pub figure : need_of vectors devices uses 0 ≡ 20
unfolding need_of largest choices allowed? free? total level_of use_of
figure = refl

pub reached : below (opened ev s 6) (sp (after ev s 6).core) ≡ need_of vectors devices uses 0
reached = (λ i. below (row6.opened-is i) (sp (row6.state_is i).core)) ∙ sym figure

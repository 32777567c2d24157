-- A call that leaves what `judge_call_of` gives keeps its promise. Assumes nothing.
use Prim.Native.Nat.{ℕ, ◌+◌, ◌*◌, ◌/◌, ◌%◌, ◌<◌, ◌≤◌}
use native.Mathlib.Omega.{arith}
use mathlib.Core.Bool.{Bool, true, false, cond, not, ◌&&◌}
use mathlib.Core.List.{List}
use mathlib.Core.Logic.{◌≢◌}
use mathlib.Core.Path.{◌≡◌, refl, sym, ap, subst, ◌∙◌}
use lib.Dec.{eqb}
use lib.ListN.{length}
use Rattle.std.specs.Prelude.{Ok}
use Rattle.word.specs.Width.{bit}
use Rattle.word.proofs.Laws.{bit_le}
use Rattle.machine.specs.State.{State}
use Rattle.machine.specs.Memory.{byte_at}
use Rattle.machine.specs.Record.{four_at, state_in, record_of}
use Rattle.machine.specs.Events.{Event, events_of}
use Rattle.machine.specs.Run.{run_of}
use Rattle.machine.specs.Refusal.{verdict_of, refusal_number}
use Rattle.machine.specs.Call.{reply_number}
use Rattle.machine_laws.specs.Bounds.{Bytes}
use Rattle.machine_laws.proofs.Cases.{bool_cases, eq_of, neq-of, not-eq, and_left, and_right}
use Rattle.machine_laws.proofs.Records.{passed, number-small, is-accepted, closing-read}
use Rattle.run_laws.proofs.Verdicts.{verdict-fewer}
use Rattle.run_laws.proofs.Calls.{Parts, reply-parts}
use Rattle.resume.specs.Frames.{Start}
use Rattle.resume.specs.Resume.{Premises}
use Rattle.resume.specs.Resumption.{CallResumes}
use Rattle.resume.proofs.Resume.{resumes}
use Rattle.soundness.specs.Findings.{Kind, started, faulted, unopened, trapped, unclosed, changed, slept, device, foreign}
use Rattle.soundness.specs.Findings.{Finding, kinds_found, found_of}
use Rattle.soundness.specs.Soundness.{FailsAt, KindJudged}
use Rattle.soundness.specs.Watch.{Watch}
use Rattle.soundness.specs.Judge.{Judging, judged_reason, closing_told, findings_bytes, JudgeClosing, judge_refusal, judge_refused}
use Rattle.soundness.specs.Judge.{judge_accepted, judged_on, judge_call_of}
use Rattle.soundness.specs.Verdict.{count_in, FoundAt, TrueVerdict, Judgement}
use Rattle.soundness.proofs.Changes.{bit-clear}
use Rattle.soundness.proofs.Soundness.{judges-kinds}
use Rattle.soundness.proofs.Watch.{writer-is, foreign-within}
use Rattle.soundness.proofs.Blocks.{bit-told, bit_found, count-told}
use Rattle.soundness.proofs.Judge.{run-follows, tries}

-- ---- refusals

-- the number of a refusal, v that of the start's, b whether the two buffers have their lengths
abbrev number : (v : ℕ) (b : Bool) → ℕ
number v b = cond (not (eqb v 0)) v (cond b 0 20)

number-none : (v : ℕ) (b : Bool) → number v b ≡ 0 → (v ≡ 0) × (b ≡ true)
number-none v b e =
    bool_cases (eqb v 0)
    (λ q.
    let e' : ◌≡◌ {A = ℕ} (cond b 0 20) 0 = sym (ap (λ t. cond (not t) v (cond b 0 20)) q) ∙ e in
    (eq_of q, last b e'))
    (λ q.
    let n : v ≢ 0 = neq-of q in
    let e' : v ≡ 0 = sym (ap (λ t. cond (not t) v (cond b 0 20)) q) ∙ e in
    absurd (n e'))
  where
    last : (b : Bool) → ◌≡◌ {A = ℕ} (cond b 0 20) 0 → b ≡ true
    last true e = refl
    last false e = absurd (omega (arith, e))

number_lt : (v : ℕ) (b : Bool) → v < 256 → number v b < 256
number_lt v b h =
    bool_cases (eqb v 0)
    (λ q. rw q (last b))
    (λ q. rw q h)
  where
    last : (b : Bool) → cond b 0 20 < 256
    last true = omega arith
    last false = omega arith

module _ (memory r events writers findings : List ℕ) (n : ℕ) where
  abbrev refusal : ℕ
  refusal = judge_refusal memory r events writers findings n

  abbrev ran : Judging
  ran = judged_on memory r events n

  abbrev start : State
  start = state_in r memory

  -- an accepted call's answer is its run's; a refused one leaves everything as handed over
  pub judge-accepted : refusal ≡ 0 → judge_call_of memory r events writers findings n ≡ judge_accepted start ran
  unfolding judge_call_of
  judge-accepted e =
      ap (λ k. cond (eqb k 0) (judge_accepted start ran) (judge_refused k memory r writers findings)) e

  pub judge-refused : refusal ≢ 0
      → judge_call_of memory r events writers findings n ≡ judge_refused refusal memory r writers findings
  unfolding judge_call_of
  judge-refused h =
      ap (λ b. cond b (judge_accepted start ran) (judge_refused refusal memory r writers findings)) (not-eq h)

  -- what a call has settled that refuses nothing
  pub judge-start : refusal ≡ 0 → verdict_of memory r events n ≡ Ok tt
  judge-start e =
      is-accepted (verdict_of memory r events n)
      (number-none (refusal_number (verdict_of memory r events n)) (eqb (length writers) 65536 && eqb (length findings) 144) e).0

  pub judge-writers : refusal ≡ 0 → length writers ≡ 65536
  judge-writers e =
      let b = (number-none (refusal_number (verdict_of memory r events n)) (eqb (length writers) 65536 && eqb (length findings) 144) e).1 in
      eq_of (and_left (eqb (length writers) 65536) (eqb (length findings) 144) b)

  pub judge-findings : refusal ≡ 0 → length findings ≡ 144
  judge-findings e =
      let b = (number-none (refusal_number (verdict_of memory r events n)) (eqb (length writers) 65536 && eqb (length findings) 144) e).1 in
      eq_of (and_right (eqb (length writers) 65536) (eqb (length findings) 144) b)

  -- the low byte of the reply is the refusal
  low_byte : (judge_call_of memory r events writers findings n).reply % 256 ≡ 0 → refusal ≡ 0
  low_byte e =
      bool_cases (eqb refusal 0)
      (λ q. eq_of q)
      (λ q.
      let l = number_lt (refusal_number (verdict_of memory r events n)) (eqb (length writers) 65536 && eqb (length findings) 144)
      (number-small (verdict_of memory r events n)) in
      let k = ap (λ (c : JudgeClosing). c.reply % 256) (judge-refused (neq-of q)) in
      let low : reply_number refusal 0 0 0 % 256 ≡ 0 = sym k ∙ e in
      let same : reply_number refusal 0 0 0 % 256 ≡ refusal = omega (arith, l) in
      sym same ∙ low)

-- ---- the parts of the reply

reason-lt : (x : Judging) → judged_reason x < 256
reason-lt x =
    bool_cases x.deep
    (λ q. rw q (omega arith))
    (λ q. bool_cases x.state.halted (λ p. rw (q, p) (omega arith)) (λ p. rw (q, p) (omega arith)))

nine : (a b c d e f g h i : Bool) → bit a + 2 * bit b + 4 * bit c + 8 * bit d + 16 * bit e + 32 * bit f + 64 * bit g + 128 * bit h
    + 256 * bit i < 16777216
nine a b c d e f g h i =
    omega (arith, bit_le a, bit_le b, bit_le c, bit_le d, bit_le e, bit_le f, bit_le g, bit_le h, bit_le i)

pub kinds-lt : (f : Kind → Finding) → kinds_found f < 16777216
kinds-lt f =
    nine (f started).found (f faulted).found (f unopened).found (f trapped).found (f unclosed).found (f changed).found
    (f slept).found (f device).found (f foreign).found

-- ---- the promise

count-is : (r memory : List ℕ) → (state_in r memory).count ≡ four_at r 22
unfolding state_in
count-is r memory = refl

-- a premise of a run of n fails at one of its steps
fails-within : (memory r events : List ℕ) (κ : Kind) (n k : ℕ) → FailsAt memory r events κ n k → k ≤ n
fails-within memory r events started n k F = omega (arith, F.0)
fails-within memory r events faulted n k F = let w = F.within in omega (arith, w)
fails-within memory r events unopened n k F = let w = F.within in omega (arith, w)
fails-within memory r events trapped n k F = let w = F.within in omega (arith, w)
fails-within memory r events unclosed n k F = let w = F.within in omega (arith, w)
fails-within memory r events changed n k F = let w = F.within in omega (arith, w)
fails-within memory r events slept n k F = let w = F.within in omega (arith, w)
fails-within memory r events device n k F = let w = F.within in omega (arith, w)
fails-within memory r events foreign n k F = let w = F.within in omega (arith, w)

module _
    (memory r events : List ℕ) (n : ℕ) (bm : Bytes memory) (br : Bytes r) (be : Bytes events)
    (ok : verdict_of memory r events n ≡ Ok tt) where
  abbrev ev : List Event
  ev = events_of events

  abbrev s : State
  s = state_in r memory

  abbrev x : Judging
  x = judged_on memory r events n

  abbrev told : Kind → Finding
  told = closing_told s x

  -- the steps done are fewer than asked for, and an accepted start's too
  few : x.steps < 16777216
  few =
      let p = (passed memory r events n ok).few_steps in
      omega (arith, (run-follows ev s n).within, p)

  fewer : verdict_of memory r events x.steps ≡ Ok tt
  fewer = verdict-fewer memory r events n x.steps (run-follows ev s n).within ok

  begins : Start memory r events n
  begins = record { memory_bytes = bm; record_bytes = br; event_bytes = be; accepted = ok }

  module _
      (memory' r' writers' findings' : List ℕ) (em : memory' ≡ x.state.mem) (er : r' ≡ record_of x.state)
      (ew : writers' ≡ x.watch.writers) (ef : findings' ≡ findings_bytes s.count told) where
    -- memory and record hold the run's state at the steps done
    left : state_in r' memory' ≡ (run_of ev s x.steps).state
    left =
        let t = (run-follows ev s n).state in
        (λ i. state_in (er i) (em i))
        ∙ (λ i. state_in (record_of (t i)) (t i).mem)
        ∙ closing-read memory r events x.steps (passed memory r events x.steps fewer) bm br be

    close-resumes : Premises memory r events x.steps → CallResumes memory r events x.steps memory' r'
    close-resumes P =
        let a = resumes memory r events x.steps P in
        let kept = em ∙ ap (λ (t : State). t.mem) (run-follows ev s n).state in
        record {
          before_step = a.before_step;
          after_step = a.after_step;
          after_chaining = a.after_chaining;
          at_close =
              record {
                core = ap (λ (t : State). t.core) left ∙ a.at_close.core;
                bytes = λ b h d f. ap (λ m. byte_at m b) kept ∙ a.at_close.bytes b h d f;
              };
          same_steps = a.same_steps;
          same_return = a.same_return;
        }

    verdict : TrueVerdict memory r events x.steps (kinds_found told) memory' r' writers' findings'
    verdict =
        let t = tries memory r events n begins in
        record {
          sound = t.sound;
          complete = t.complete;
          resumes = λ e. close-resumes (t.sound e);
          found = λ i. kinds_found (λ κ. t.tells κ i);
          told = ef ∙ (λ i. findings_bytes s.count (λ κ. t.tells κ i));
          kind_sound = λ κ e. (judged κ).sound (is_found_lem κ (bit-clear (told κ).found (sym (bit-told told κ) ∙ e)));
          kind_complete = λ κ P. bit-told told κ ∙ ap bit (ap (λ (y : Finding). y.found) (t.tells κ) ∙ (judged κ).complete P);
          kind_least = λ κ e. least κ (is_found_lem κ (bit_found (told κ).found (sym (bit-told told κ) ∙ e)));
          marks = λ a h.
              ap (λ l. byte_at l a) ew ∙ ap (λ (w : Watch). byte_at w.writers a) (run-follows ev s n).carries
              ∙ writer-is ev s x.steps a h;
          foreign_marks = λ a h.
              ap (λ l. eqb (byte_at l a) 2) ew ∙ ap (λ (w : Watch). eqb (byte_at w.writers a) 2) (run-follows ev s n).carries
              ∙ foreign-within ev s x.steps a h;
        }
      where
        judged : (κ : Kind) → KindJudged memory r events κ x.steps
        judged κ = judges-kinds memory r events κ x.steps

        is_found_lem : (κ : Kind) {b : Bool} → (told κ).found ≡ b → (found_of ev s κ x.steps).found ≡ b
        is_found_lem κ e = sym (ap (λ (y : Finding). y.found) ((tries memory r events n begins).tells κ)) ∙ e

        least : (κ : Kind) → (found_of ev s κ x.steps).found ≡ true
            → FoundAt memory r events κ x.steps (count_in findings' κ)
        least κ e =
            let t = tries memory r events n begins in
            let F = (judged κ).least e in
            let w = fails-within memory r events κ x.steps (found_of ev s κ x.steps).step F in
            let c : s.count + n ≤ 4294967295 =
            subst (λ k. k + n ≤ 4294967295) (sym (count-is r memory)) (passed memory r events n ok).count_fits in
            record {
              step = (found_of ev s κ x.steps).step;
              counted = ap (λ l. count_in l κ) (ef ∙ (λ i. findings_bytes s.count (λ κ. t.tells κ i)))
                  ∙ count-told s.count (λ κ. found_of ev s κ x.steps) κ e (omega (arith, c, w, (run-follows ev s n).within));
              fails = F;
            }

-- of a call whose reply and buffers are those of `judge_call_of`
pub judgement : (memory r events writers findings : List ℕ) (n reply : ℕ) (memory' r' writers' findings' : List ℕ)
    → Bytes memory → Bytes r → Bytes events → reply ≡ (judge_call_of memory r events writers findings n).reply
    → memory' ≡ (judge_call_of memory r events writers findings n).memory
    → r' ≡ (judge_call_of memory r events writers findings n).state
    → writers' ≡ (judge_call_of memory r events writers findings n).writers
    → findings' ≡ (judge_call_of memory r events writers findings n).findings
    → Judgement memory r events reply memory' r' writers' findings'
judgement memory r events writers findings n reply memory' r' writers' findings' bm br be e em er ew ef low =
    let none = low_byte memory r events writers findings n (sym (ap (λ k. k % 256) e) ∙ low) in
    let c = judge-accepted memory r events writers findings n none in
    let ok = judge-start memory r events writers findings n none in
    let x = judged_on memory r events n in
    let told = closing_told (state_in r memory) x in
    let p : Parts reply 0 (judged_reason x) x.steps (kinds_found told) =
    subst (λ k. Parts k 0 (judged_reason x) x.steps (kinds_found told)) (sym (e ∙ ap (λ (y : JudgeClosing). y.reply) c))
    (reply-parts 0 (judged_reason x) x.steps (kinds_found told) (omega arith) (reason-lt x) (few memory r events n bm br be ok)
    (kinds-lt told)) in
    let v =
    verdict memory r events n bm br be ok memory' r' writers' findings'
    (em ∙ ap (λ (y : JudgeClosing). y.memory) c) (er ∙ ap (λ (y : JudgeClosing). y.state) c)
    (ew ∙ ap (λ (y : JudgeClosing). y.writers) c) (ef ∙ ap (λ (y : JudgeClosing). y.findings) c) in
    subst (λ j. TrueVerdict memory r events j (reply / 1099511627776) memory' r' writers' findings') (sym p.middle)
    (subst (λ k. TrueVerdict memory r events x.steps k memory' r' writers' findings') (sym p.high) v)

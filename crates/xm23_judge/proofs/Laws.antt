-- Findings told before the first step and after the last; the call's refusals; and its answer from its parts. Assumes nothing.
use Prim.Native.Nat.{ℕ, ◌+◌, ◌*◌, ◌≤◌}
use native.Mathlib.Omega.{arith}
use mathlib.Core.Bool.{Bool, true, false, cond, not}
use mathlib.Core.List.{List}
use mathlib.Core.Logic.{◌≢◌}
use mathlib.Core.Path.{◌≡◌, refl, sym, ap, ◌∙◌}
use lib.Dec.{eqb}
use lib.ListN.{length, replicate, set}
use lib.Seq.{sets}
use Rattle.machine.specs.declared.Machine.{Machine}
use Rattle.machine.specs.State.{State, pc, state_of}
use Rattle.machine.specs.Record.{state_in, record_of}
use Rattle.machine.specs.Events.{events_of}
use Rattle.machine.specs.Call.{reply_number}
use Rattle.machine_laws.specs.Passed.{Passed}
use Rattle.machine_laws.proofs.Records.{passed}
use Rattle.machine_laws.proofs.Cases.{is_eq, not-eq}
use Rattle.soundness.specs.Findings.{Kind, Handler, handler, Finding, finding, nothing, start_faults, kinds_found}
use Rattle.soundness.specs.Watch.{open_in}
use Rattle.soundness.specs.Judge.{Judging, begun, judged_run, closing_told, finding_bytes, findings_bytes, JudgeClosing, judge_refusal}
use Rattle.soundness.specs.Judge.{judge_accepted, judged_on, judge_call_of}
use Rattle.soundness.proofs.Judge.{run-follows}
use Rattle.soundness.proofs.Verdict.{judge-accepted, judge-refused, judge-start, judge-writers, judge-findings}
use Rattle.soundness.proofs.Blocks.{joined, blocks, blocks-sixteen, block-sixteen, joined-blocks}
use Rattle.findings.proofs.Laws.{joined-set}
use Rattle.open_frames.specs.declared.Open.{Open}
use Rattle.open_frames.specs.Open.{handler_of}
use Rattle.judge.specs.Reached.{told_by, JudgedIs}

-- what a call leaves, in its parts
abbrev left : (reply : ℕ) → (memory r writers findings : List ℕ) → JudgeClosing
left k memory r writers findings = record { reply = k; memory = memory; state = r; writers = writers; findings = findings }

-- ---- before the first step, and after the last

-- none open: nothing is told
pub close-none : (c : ℕ) (s : State) (x : Judging) (l : List ℕ) → l ≡ findings_bytes c (told_by s x) → eqb (open_in x.watch) 0 ≡ true
    → l ≡ findings_bytes c (closing_told s x)
close-none c s x l e n =
    let y = finding x.watch.oldest.opened 0 0 x.watch.oldest in
    e ∙ joined-blocks c (told_by s x)
    ∙ sym (ap (λ b. joined (set (blocks c (told_by s x)) 4 (finding_bytes c (cond b nothing y)))) n)
    ∙ sym (joined-blocks c (closing_told s x))

pub close-some : (c : ℕ) (s : State) (x : Judging) (h : Handler) (l l' : List ℕ) → l ≡ findings_bytes c (told_by s x)
    → eqb (open_in x.watch) 0 ≡ false → h ≡ x.watch.oldest
    → l' ≡ sets l (16 * 4) (finding_bytes c (finding h.opened 0 0 h))
    → l' ≡ findings_bytes c (closing_told s x)
close-some c s x h l l' e n eh el =
    let g = x.watch.oldest in
    let y = finding g.opened 0 0 g in
    el
    ∙ (λ i. sets ((e ∙ joined-blocks c (told_by s x)) i) (16 * 4) (finding_bytes c (finding (eh i).opened 0 0 (eh i))))
    ∙ joined-set (blocks c (told_by s x)) (blocks-sixteen c (told_by s x)) 4 (finding_bytes c y) (block-sixteen c y) (omega arith)
    ∙ sym (ap (λ b. joined (set (blocks c (told_by s x)) 4 (finding_bytes c (cond b nothing y)))) n)
    ∙ sym (joined-blocks c (closing_told s x))

abbrev clear : Kind → Finding
clear κ = nothing

clear-is : (c : ℕ) → replicate 144 0 ≡ findings_bytes c clear
clear-is c = refl

pub start_none : (c : ℕ) (s : State) (l : List ℕ) → l ≡ replicate 144 0 → start_faults s ≡ 0
    → l ≡ findings_bytes c (told_by s (begun s))
start_none c s l e n =
    let y = finding 0 (start_faults s) (pc s.core) (handler 0 16 16) in
    e ∙ clear-is c ∙ joined-blocks c clear
    ∙ sym (ap (λ b. joined (set (blocks c clear) 0 (finding_bytes c (cond b nothing y)))) (is_eq n))
    ∙ sym (joined-blocks c (told_by s (begun s)))

pub start-some : (c : ℕ) (s : State) (h : Handler) (r a : ℕ) (l l' : List ℕ) → l ≡ replicate 144 0 → r ≡ start_faults s → (r ≡ 0 → ⊥)
    → a ≡ pc s.core → h ≡ handler 0 16 16
    → l' ≡ sets l (16 * 0) (finding_bytes c (finding 0 r a h))
    → l' ≡ findings_bytes c (told_by s (begun s))
start-some c s h r a l l' e er n ea eh el =
    let y = finding 0 (start_faults s) (pc s.core) (handler 0 16 16) in
    el
    ∙ (λ i. sets ((e ∙ clear-is c ∙ joined-blocks c clear) i) (16 * 0) (finding_bytes c (finding 0 (er i) (ea i) (eh i))))
    ∙ joined-set (blocks c clear) (blocks-sixteen c clear) 0 (finding_bytes c y) (block-sixteen c y) (omega arith)
    ∙ sym (ap (λ b. joined (set (blocks c clear) 0 (finding_bytes c (cond b nothing y))))
    (not-eq {m = start_faults s} {n = 0} (λ q. absurd (n (er ∙ q)))))
    ∙ sym (joined-blocks c (told_by s (begun s)))

-- ---- refusals

-- a start that is refused, k by its number; else the lengths of the two buffers decide
pub start-refused : (k v : ℕ) (b : Bool) → k ≡ v → k ≢ 0 → k ≡ cond (not (eqb v 0)) v (cond b 0 20)
start-refused k v b e h = e ∙ sym (ap (λ t. cond (not t) v (cond b 0 20)) (not-eq {m = v} {n = 0} (λ q. h (e ∙ q))))

pub start-passed : (k v : ℕ) (b : Bool) → k ≡ v → k ≡ 0 → cond b 0 20 ≡ cond (not (eqb v 0)) v (cond b 0 20)
start-passed k v b e h = sym (ap (λ t. cond (not t) v (cond b 0 20)) (is_eq {m = v} {n = 0} (sym e ∙ h)))

-- ---- a call that is not refused

-- the judged run from the machine that the record holds
module _
    (memory r events : List ℕ) (n : ℕ) (m : Machine) (read : (mem : List ℕ) → state_of m mem ≡ state_in r mem)
    (l : Machine) (memory' : List ℕ) (steps : ℕ) (o : Open) (deep : Bool) (writers told : List ℕ)
    (J : JudgedIs (state_of m memory) m.rest.count (judged_run (events_of events) (state_of m memory) n) (state_of l memory') steps o deep
    writers told) where
  abbrev s : State
  s = state_of m memory

  abbrev x : Judging
  x = judged_run (events_of events) s n

  pub few_steps : n ≤ 1000000 → steps ≤ 1000000
  few_steps h = omega (arith, h, J.steps, (run-follows (events_of events) s n).within)

  -- what is told at the close
  pub told-close : (findings : List ℕ)
      → ((t : State) (y : Judging) → told ≡ findings_bytes m.rest.count (told_by t y)
      → eqb (o.owns + o.held) 0 ≡ eqb (open_in y.watch) 0 → handler_of o.oldest ≡ y.watch.oldest
      → findings ≡ findings_bytes m.rest.count (closing_told t y))
      → findings ≡ findings_bytes m.rest.count (closing_told s x)
  told-close findings h = h s x J.told J.none J.oldest

  pub answer : (findings : List ℕ) → findings ≡ findings_bytes m.rest.count (closing_told s x)
      → (r' : List ℕ) → ((mem : List ℕ) → r' ≡ record_of (state_of l mem))
      → (kinds : ℕ) → ((c : ℕ) (f : Kind → Finding) → findings ≡ findings_bytes c f → kinds ≡ kinds_found f)
      → (reply : ℕ) → reply ≡ reply_number 0 (cond deep 2 (cond l.rest.halted 1 0)) steps kinds
      → left reply memory' r' writers findings ≡ judge_accepted (state_in r memory) (judged_on memory r events n)
  answer findings ef r' write kinds count reply e =
      (λ i. left
      ((e ∙ (λ j. reply_number 0 (cond (J.stopped j) 2 (cond (J.state j).halted 1 0)) (J.steps j)
      (count m.rest.count (closing_told s x) ef j))) i)
      (J.state i).mem
      ((write memory' ∙ ap record_of J.state) i)
      (J.marks i)
      (ef i))
      ∙ ap (λ t. judge_accepted t (judged_run (events_of events) t n)) (read memory)

-- ---- the call

module _ (memory r events writers findings : List ℕ) (n k : ℕ) (e : k ≡ judge_refusal memory r events writers findings n) where
  pub call-passed : k ≡ 0 → Passed memory r events n
  call-passed h = passed memory r events n (judge-start memory r events writers findings n (sym e ∙ h))

  pub call-writers : k ≡ 0 → length writers ≡ 65536
  call-writers h = judge-writers memory r events writers findings n (sym e ∙ h)

  pub call-findings : k ≡ 0 → length findings ≡ 144
  call-findings h = judge-findings memory r events writers findings n (sym e ∙ h)

  pub call-refused : k ≢ 0 → left k memory r writers findings ≡ judge_call_of memory r events writers findings n
  call-refused h =
      let none : k ≡ reply_number k 0 0 0 = omega arith in
      ap (λ j. left j memory r writers findings) none
      ∙ ap (λ j. left (reply_number j 0 0 0) memory r writers findings) e
      ∙ sym (judge-refused memory r events writers findings n (λ q. h (e ∙ q)))

  pub call-judged : k ≡ 0 → judge_accepted (state_in r memory) (judged_on memory r events n)
      ≡ judge_call_of memory r events writers findings n
  call-judged h = sym (judge-accepted memory r events writers findings n (sym e ∙ h))

-- Refused, nothing is changed; else what the callees need is what the verdict has settled, of the run (`Passed`) and of the journal
-- (`RingFits`), and what they leave is the definition's closing and its journal (Laws), which has three parts. The figure that it carries
-- is the greatest number of open frames; demand 3 of the call follows from the equations of memory and record. Assumes nothing.
use Prim.Native.Nat.{ℕ, ◌≤◌}
use mathlib.Core.List.{List}
use mathlib.Core.Path.{◌≡◌, refl, ap, sym, subst, ◌∙◌}
use borrow.Author.Rules.{rules}
use Rattle.machine.specs.State.{state_of}
use Rattle.machine.specs.Events.{events_of}
use Rattle.journal_record.specs.Ring.{journal_with}
use Rattle.run_answer.specs.Leaves.{run_lent}
use Rattle.run_answer.proofs.Same.{leaves-same}
use Rattle.kept_run.specs.Kept.{kept_over}
use native.Mathlib.Omega.{arith}
use Rattle.machine.specs.Call.{Closing}
use Rattle.journal.specs.Ring.{Journal, journal_of}
use Rattle.machine_laws.specs.Passed.{Passed}
use Rattle.turn.proofs.Laws.{behind-none, events-fit, events-ordered, count_fits}
use Rattle.xm23_run_journal.proofs.Laws.{passed-all, ring-passed, refused-closing, refused-journal, figure-kept, steps-few}
use Rattle.xm23_run_journal.proofs.Laws.{records-few, figure-ran, closing-ran, journal-ran, some-length}
use Rattle.xm23_run_journal.proofs.Journal.{journal-carried, journal-resumes}
use Rattle.xm23_run_journal.proofs.xm23_run_journal.Goals as goal
use Rattle.xm23_run_journal.proofs.xm23_run_journal.Goals.{In_default}

pub returns-in-Err : goal.returns-in-Err
returns-in-Err c =
    let a = c.args in
    let lent = journal_of a.journal.now a.kept.now a.place.now in
    let v = sym c.journal_verdict.ensures ∙ c.in-Err.is in
    let e = refused-closing _ _ _ _ lent _ _ _ v c.refusal_number.ensures.0 in
    let j = refused-journal _ _ _ _ lent _ _ v in
    let f = figure-kept _ _ _ _ lent _ _ v a.deepest.now
    ∙ journal-carried a.memory.now a.state.now a.events.now a.log.now lent a.n a.deepest.now in
    let memory = ap (λ (x : Closing). x.memory) e in
    let state = ap (λ (x : Closing). x.state) e in
    let resumes = journal-resumes a.memory.now a.state.now a.events.now a.log.now lent a.n _ _ memory state in
    let bytes = ap (λ (x : Journal). x.bytes) j in
    let kept = ap (λ (x : Journal). x.kept) j in
    let place = ap (λ (x : Journal). x.place) j in
    record {
      reply = ap (λ (x : Closing). x.reply) e;
      memory = memory;
      state = state;
      log = ap (λ (x : Closing). x.log) e;
      deepest = f;
      resumption = resumes;
      journal = bytes;
      number = kept;
      place = place;
    }

-- what the verdict has settled of the run
passed : (c : In_default) → Passed c.args.memory.now c.args.state.now c.args.events.now c.args.n
passed c =
    let a = c.args in
    passed-all _ _ _ _ (journal_of a.journal.now a.kept.now a.place.now) _ (sym c.journal_verdict.ensures ∙ c.in_default.is)

pub read_record-m-requires : goal.read_record-m-requires
read_record-m-requires c =
    let i = (goal.at.read_record-m-requires c).In_default in
    (passed i).record_size

pub overflow_cast-n : goal.overflow_cast-n
overflow_cast-n c =
    let i = (goal.at.overflow_cast-n c).In_default in
    omega (arith, (passed i).few_steps)

pub run_kept-r-requires : goal.run_kept-r-requires
run_kept-r-requires c =
    let i = (goal.at.run_kept-r-requires c).In_default in
    let a = c.args in
    let p = passed i in (
      count_fits _ _ _ _ p _ c.read_record-m.ensures,
      events-ordered _ _ _ _ p,
      events-fit _ _ _ _ p,
      behind-none _ _,
      omega (arith, p.few_steps),
      (λ some. ring-passed _ _ _ _ (journal_of a.journal.now a.kept.now a.place.now) _
          (sym i.journal_verdict.ensures ∙ i.in_default.is)),
    )

pub write_record-requires : goal.write_record-requires
write_record-requires c =
    let i = (goal.at.write_record-requires c).In_default in
    (passed i).record_size

pub reply_of-requires : goal.reply_of-requires
reply_of-requires c =
    let v = sym c.journal_verdict.ensures ∙ c.in_default.is in
    let a = c.args in
    let m = c.read_record-m in
    let l = leaves-same a.events.now m.result _ _ a.log.now _ _ _ _ _ (search rules) c.run_kept-r.ensures.run in (
      subst (λ x. x ≤ 1000000) (sym l.steps) (steps-few _ _ _ _ _ _ v m.result m.ensures),
      subst (λ x. x ≤ 1000000) (sym l.added) (records-few _ _ _ _ _ _ v m.result m.ensures),
    )

pub returns : goal.returns
returns c =
    let a = c.args in
    let b = a.journal.now in
    let lent = journal_of b a.kept.now a.place.now in
    let v = sym c.journal_verdict.ensures ∙ c.in_default.is in
    let m = c.read_record-m in
    let l = leaves-same a.events.now m.result _ _ a.log.now _ _ _ _ _ (search rules) c.run_kept-r.ensures.run in
    let kept-journal =
    subst
    (λ (y : List ℕ). journal_with c.run_kept-r.new.journal c.run_kept-r.result.ring
    ≡ kept_over b (record { kept = a.kept.now; place = a.place.now }) (events_of a.events.now) (state_of m.result y)
    (run_lent a.events.now (state_of m.result y) a.log.now a.n).steps)
    (search rules) c.run_kept-r.ensures.journal in
    let e =
    closing-ran _ _ _ _ lent _ v m.result m.ensures _ _ _ _ _ _ _ _ l.state l.reason l.steps
    l.added l.log c.write_record.ensures c.reply_of.ensures in
    let some = some-length _ _ _ _ lent _ b _ refl v in
    let j = journal-ran _ _ _ _ lent _ v m.result m.ensures b _ _ _ refl some kept-journal in
    let f = figure-ran _ _ _ _ lent _ v m.result m.ensures _ a.deepest.now l.depth
    ∙ journal-carried a.memory.now a.state.now a.events.now a.log.now lent a.n a.deepest.now in
    let memory = ap (λ (x : Closing). x.memory) e in
    let state = ap (λ (x : Closing). x.state) e in
    let resumes = journal-resumes a.memory.now a.state.now a.events.now a.log.now lent a.n _ _ memory state in
    let bytes = ap (λ (x : Journal). x.bytes) j in
    let kept = ap (λ (x : Journal). x.kept) j in
    let place = ap (λ (x : Journal). x.place) j in
    record {
      reply = ap (λ (x : Closing). x.reply) e;
      memory = memory;
      state = state;
      log = ap (λ (x : Closing). x.log) e;
      deepest = f;
      resumption = resumes;
      journal = bytes;
      number = kept;
      place = place;
    }

pub unwrap-whole-requires : goal.unwrap-whole-requires
unwrap-whole-requires c =
    let i = (goal.at.unwrap-whole-requires c).In_default in
    c.as_mut_array.ensures.variant.1 (passed i).memory_size

-- Refused, nothing is changed and the reply is the number alone. Else what the callees need is what the verdict has settled of the
-- buffers, and what the run leaves is `closing`'s, part by part. Assumes nothing.
use Rattle.std.proofs.Common.{List, ℕ, ◌≤◌, ◌≡◌, length, refl, ap, sym, subst, ◌∙◌, arith, rules}
use Rattle.machine.specs.State.{state_of}
use Rattle.machine.specs.Events.{events_of}
use Rattle.trace.specs.Traced.{Traced, run_traced, reason_traced}
use Rattle.trace.specs.Call.{room_of, trace_after}
use Rattle.turn.proofs.Laws.{events-fit, events-ordered, count_fits}
use Rattle.xm23_trace.proofs.Calls.{call-passed, call-apart, call-refused, call-ran, few_steps, few-records}
use Rattle.xm23_trace.proofs.xm23_trace.Goals as goal

pub returns-in-Err : goal.returns-in-Err
returns-in-Err c =
    let e = call-refused _ _ _ _ _ _ _ c.in-Err.ensures.0 c.in-Err.ensures.1 in
    record { reply = ap (λ x. x.reply) e; memory = ap (λ x. x.memory) e; state = ap (λ x. x.state) e; trace = ap (λ x. x.trace) e }

pub read_record-m-requires : goal.read_record-m-requires
read_record-m-requires c = (call-passed _ _ _ _ _ _ _ (sym c.in_default.ensures) refl).record_size

pub overflow_cast-n : goal.overflow_cast-n
overflow_cast-n c =
    let few = (call-passed _ _ _ _ _ _ _ (sym c.in_default.ensures) refl).few_steps in
    omega arith

pub run_traced-r-requires : goal.run_traced-r-requires
run_traced-r-requires c =
    let p = call-passed _ _ _ _ _ _ _ (sym c.in_default.ensures) refl in
    record {
      counts = count_fits _ _ _ _ p _ c.read_record-m.ensures;
      ordered = events-ordered _ _ _ _ p;
      fit = events-fit _ _ _ _ p;
      apart = call-apart _ _ _ _ _ _ _ (sym c.in_default.ensures) refl;
    }

pub write_record-requires : goal.write_record-requires
write_record-requires c = (call-passed _ _ _ _ _ _ _ (sym c.in_default.ensures) refl).record_size

pub reply_of-requires : goal.reply_of-requires
reply_of-requires c =
    let r = c.run_traced-r.ensures in
    let m = c.read_record-m in
    let a = c.args in
    let run : List ℕ → Traced = λ y. run_traced a.kinds (events_of a.events.now) (state_of m.result y) (room_of a.trace.now) a.n in
    let same : run c.unwrap-whole.result.now ≡ run a.memory.now = ap run (search rules) in
    let f = sym c.in_default.ensures in (
      subst (λ j. j ≤ 1000000) (sym (r.steps ∙ ap (λ x. x.steps) same)) (few_steps _ _ _ _ _ _ _ f refl m.result m.ensures),
      subst (λ j. j ≤ 1004096) (sym (r.added ∙ ap (λ x. length x.records) same)) (few-records _ _ _ _ _ _ _ f refl m.result m.ensures),
    )

pub returns : goal.returns
returns c =
    let r = c.run_traced-r.ensures in
    let m = c.read_record-m in
    let a = c.args in
    let run : List ℕ → Traced = λ y. run_traced a.kinds (events_of a.events.now) (state_of m.result y) (room_of a.trace.now) a.n in
    let same : run c.unwrap-whole.result.now ≡ run a.memory.now = ap run (search rules) in
    let e =
    call-ran _ _ _ _ _ _ _ (sym c.in_default.ensures) refl m.result m.ensures
    _ _ _ _ _ _ _ _ (r.state ∙ ap (λ x. x.state) same) (r.reason ∙ ap reason_traced same) (r.steps ∙ ap (λ x. x.steps) same)
    (r.added ∙ ap (λ x. length x.records) same) (r.trace ∙ ap (trace_after a.trace.now) same) c.write_record.ensures c.reply_of.ensures in
    record { reply = ap (λ x. x.reply) e; memory = ap (λ x. x.memory) e; state = ap (λ x. x.state) e; trace = ap (λ x. x.trace) e }

pub unwrap-whole-requires : goal.unwrap-whole-requires
unwrap-whole-requires c = c.as_mut_array.ensures.variant.1 (call-passed _ _ _ _ _ _ _ (sym c.in_default.ensures) refl).memory_size

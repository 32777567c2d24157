-- Refused, nothing is touched; accepted, what `go_back` gives is stored. What `go_back` needs, and that the two numbers fit, is what the
-- verdict has settled (`back-passed`). Assumes nothing.
use Rattle.std.proofs.Common.{sym, ap, ◌∙◌, arith}
use Rattle.journal.proofs.Calls.{back-passed, back-answer}
use Rattle.going_back.proofs.Laws.{lent_at, refused-answer}
use Rattle.going_back.proofs.back_call.Goals as goal

pub returns-in-Err : goal.returns-in-Err
returns-in-Err c =
    let a = c.args in
    let x = lent_at a.memory.now a.state.now a.journal.now a.kept.now a.place.now in
    let e = refused-answer a.k x _ _ (sym c.back_verdict.ensures ∙ c.in-Err.is) c.refusal_number.ensures.0 in
    record { reply = e.0; lent = e.1 }

pub overflow_cast-k : goal.overflow_cast-k
overflow_cast-k c =
    let a = c.args in
    let x = lent_at a.memory.now a.state.now a.journal.now a.kept.now a.place.now in
    let p = back-passed a.k x (sym c.back_verdict.ensures ∙ c.in_default.is) in
    omega (arith, p.few, c.row_known-1.given)

pub go_back-x-requires : goal.go_back-x-requires
go_back-x-requires c =
    let a = c.args in
    let x = lent_at a.memory.now a.state.now a.journal.now a.kept.now a.place.now in
    let p = back-passed a.k x (sym c.back_verdict.ensures ∙ c.in_default.is) in
    (p.memory_size, p.state-size, p.ring.small, p.ring.place, p.few)

pub returns : goal.returns
returns c =
    let a = c.args in
    let x = lent_at a.memory.now a.state.now a.journal.now a.kept.now a.place.now in
    let e = back-answer a.k x (sym c.back_verdict.ensures ∙ c.in_default.is) in
    record { reply = sym (ap (λ z. z.reply) e); lent = c.go_back-x.ensures ∙ sym (ap (λ z. z.lent) e) }

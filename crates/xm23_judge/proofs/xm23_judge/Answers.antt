-- The reply and the four buffers are `judge_call`'s; its promise follows from their equations, since a buffer holds bytes.
use Rattle.std.proofs.Common.{ℕ, ◌<◌, arith}
use lib.ListN.{get_or}
use Rattle.soundness.proofs.Verdict.{judgement}
use Rattle.xm23_judge.proofs.xm23_judge.Goals as goal

pub returns-clause-judgement : goal.returns-clause-judgement
returns-clause-judgement c =
    let a = c.args in
    let memory : (i : ℕ) → get_or a.memory.now i 0 < 256 = λ i. omega (arith, c.slice_known-1.given i) in
    let state : (i : ℕ) → get_or a.state.now i 0 < 256 = λ i. omega (arith, c.slice_known-2-1.given i) in
    let events : (i : ℕ) → get_or a.events.now i 0 < 256 = λ i. omega (arith, c.shared_slice_known-1.given i) in
    let e = c.judge_call.ensures in
    judgement a.memory.now a.state.now a.events.now a.writers.now a.findings.now a.n _ _ _ _ _
    memory state events e.reply e.memory e.state e.writers e.findings

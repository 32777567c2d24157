-- A call that leaves what `run_call_of` gives keeps demand 3. Assumes nothing.
use Prim.Native.Nat.{ℕ}
use mathlib.Core.List.{List}
use mathlib.Core.Path.{◌≡◌, ap, ◌∙◌}
use Rattle.machine.specs.Memory.{byte_at}
use Rattle.machine.specs.Record.{state_in}
use Rattle.machine.specs.Events.{events_of}
use Rattle.machine.specs.Run.{run_of}
use Rattle.machine.specs.Call.{run_on, run_call_of}
use Rattle.run_laws.proofs.Calls.{accepted-call, left-state, done-state}
use Rattle.resume.proofs.Resume.{resumes}
use Rattle.resume.specs.Resumption.{Resumption}

-- demand 3 of a call whose exit memory and record are those of `run_call_of`, at the steps done
pub call-resumes : (memory r events log : List ℕ) (n : ℕ) (memory' r' : List ℕ) → memory' ≡ (run_call_of memory r events log n).memory
    → r' ≡ (run_call_of memory r events log n).state → Resumption memory r events log n memory' r'
call-resumes memory r events log n memory' r' em er ok P =
    let j = (run_on memory r events log n).steps in
    let s = resumes memory r events j P in
    let a = P.accepted in
    let done = done-state memory r events log n ok in
    let left : state_in r' memory' ≡ (run_of (events_of events) (state_in r memory) j).state =
    (λ i. state_in (er i) (em i))
    ∙ left-state memory r events log n ok a.memory_bytes a.record_bytes a.event_bytes
    ∙ done in
    let kept = em ∙ ap (λ c. c.memory) (accepted-call memory r events log n ok) ∙ ap (λ t. t.mem) done in
    record {
      before_step = s.before_step;
      after_step = s.after_step;
      after_chaining = s.after_chaining;
      at_close =
          record {
            core = ap (λ t. t.core) left ∙ s.at_close.core;
            bytes = λ b h d f. ap (λ m. byte_at m b) kept ∙ s.at_close.bytes b h d f;
          };
      same_steps = s.same_steps;
      same_return = s.same_return;
    }

-- What a traced run has reached, as the loop holds it: a definition's run in its parts.
-- Assumes nothing.
use Rattle.std.specs.Prelude.{ℕ, ◌+◌, ◌*◌, Bool, true, false, cond, not, ◌||◌, List, ◌≡◌, ltb, length}
use Rattle.std.proofs.lemmas.List.Edits.{sets}
use Rattle.word.specs.Psw.{bit_of}
use Rattle.machine.specs.State.{State}
use Rattle.machine.specs.Events.{Event}
use Rattle.machine.specs.Step.{step_of}
use Rattle.trace.specs.Trace.{traced_of, trace_bytes}
use Rattle.trace.specs.Traced.{Traced}
use Rattle.trace.specs.Call.{trace_after}

-- The state s, the steps done, the records there, the trace that was lent as it is now, and whether the run was stopped
-- for want of room are those of x. [call trace]
pub record Reached
    (x : Traced) (lent : List ℕ) (s : State) (done there : ℕ) (now : List ℕ) (stopped : Bool) : Type 0 where
  pub state : s ≡ x.state
  pub steps : done ≡ x.steps
  pub added : there ≡ length x.records
  pub trace : now ≡ trace_after lent x
  pub short : stopped ≡ x.short

-- One step from s, with room for k records in all and so many there: it is not taken where its records would pass the
-- room, and memory and trace are then as they were; else it is the machine's step, and its records stand behind the
-- others. [call trace]
pub record Turn
    (kinds : ℕ) (ev : List Event) (k : ℕ) (s : State) (there : ℕ) (trace : List ℕ)
    (s' : State) (there' : ℕ) (trace' : List ℕ) (short : Bool) : Type 0 where
  pub test : short ≡ ltb k (there + length (traced_of kinds ev s))
  pub taken : short ≡ false → s' ≡ step_of ev s
  pub kept : short ≡ true → s'.mem ≡ s.mem
  pub added : there' ≡ cond short there (there + length (traced_of kinds ev s))
  pub written : trace' ≡ cond short trace (sets trace (16 * there) (trace_bytes (traced_of kinds ev s)))

-- None of the kinds 4, 7, 9, 10, 11 is asked for. [call trace]
abbrev pub sparse? : ℕ → Bool
sparse? ks = not (bit_of 4 ks || (bit_of 7 ks || (bit_of 9 ks || (bit_of 10 ks || bit_of 11 ks))))

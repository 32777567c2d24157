-- What a judged run has reached, as its loop holds it: a definition's judged run in its parts (document 01,
-- "Resumption"; document 02, §13).
-- Assumes nothing.
use Rattle.std.specs.Prelude.{ℕ, ◌+◌, Bool, List, ◌≡◌, eqb}
use Rattle.machine.specs.State.{State}
use Rattle.soundness.specs.Findings.{Kind, started, faulted, unopened, trapped, unclosed, changed, slept, device}
use Rattle.soundness.specs.Findings.{foreign}
use Rattle.soundness.specs.Findings.{Finding, nothing, start_finding}
use Rattle.soundness.specs.Watch.{Watch, open_in}
use Rattle.soundness.specs.Judge.{Judging, findings_bytes}
use Rattle.open_frames.specs.declared.Open.{Open}
use Rattle.open_frames.specs.Open.{handler_of}

-- What the findings' bytes tell before the close: frames left open are told only then. [01 Resumption]
abbrev pub told_by : State → Judging → Kind → Finding
told_by s x started = start_finding s
told_by s x faulted = x.noted faulted
told_by s x unopened = x.noted unopened
told_by s x trapped = x.noted trapped
told_by s x unclosed = nothing
told_by s x changed = x.noted changed
told_by s x slept = x.noted slept
told_by s x device = x.noted device
told_by s x foreign = x.noted foreign

-- The state s, the steps done, what is carried, the findings' bytes l of a run from s₀, whose count is c, and whether a
-- step was not taken are those of x. [01 Resumption]
pub record Reaches
    (s₀ : State) (c : ℕ) (x : Judging) (s : State) (done : ℕ) (w : Watch) (l : List ℕ) (deep : Bool) : Type 0 where
  pub state : s ≡ x.state
  pub steps : done ≡ x.steps
  pub watch : w ≡ x.watch
  pub told : l ≡ findings_bytes c (told_by s₀ x)
  pub stopped : deep ≡ x.deep

-- The same of a run that has ended, in the parts that are told: the state, the steps done, the frames open, whether it
-- would have been too deep, the marks and the findings' bytes. [01 Resumption; 02 §13]
pub record JudgedIs
    (s₀ : State) (c : ℕ) (x : Judging) (s : State) (done : ℕ) (o : Open) (deep : Bool) (writers l : List ℕ)
    : Type 0 where
  pub state : s ≡ x.state
  pub steps : done ≡ x.steps
  pub none : eqb (o.owns + o.held) 0 ≡ eqb (open_in x.watch) 0
  pub oldest : handler_of o.oldest ≡ x.watch.oldest
  pub stopped : deep ≡ x.deep
  pub marks : writers ≡ x.watch.writers
  pub told : l ≡ findings_bytes c (told_by s₀ x)

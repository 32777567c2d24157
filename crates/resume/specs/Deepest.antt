-- How deep a run went (document 02, §10): the greatest number of frames open together, of the frames that "Depth" and
-- "Resumption" of document 01 speak of; and the bound that "Depth" gives for it. The proofs are proofs/Deepest.antt.
-- Assumes nothing.
use Rattle.std.specs.Prelude.{ℕ, zero, suc, ◌-◌, ◌≤◌, cond, List, ◌≡◌, length, Ok}
use Rattle.machine.specs.State.{State}
use Rattle.machine.specs.Record.{state_in}
use Rattle.machine.specs.Events.{Event, events_of}
use Rattle.machine.specs.Refusal.{call_verdict, accepted?}
use Rattle.machine.specs.Call.{run_on}
use Rattle.machine.specs.Depth.{greater, depth, depth_from}
use Rattle.resume.specs.Frames.{frames}
use Rattle.resume.specs.Depth.{DepthPremises, lowest}

-- "the greatest value over the run": of the open frames before the first of n steps, which are none, and after each.
-- [02 §10]
unfoldable pub deepest_of : List Event → State → ℕ → ℕ
deepest_of ev s zero = 0
deepest_of ev s (suc n) = greater (deepest_of ev s n) (length (frames ev s (suc n)))

-- What a run call leaves in the number lent for it: "the deepest count actually reached" in the steps done, a step not
-- taken counting nothing; where it is refused, the number as handed over. [02 §10; 01 Who can be turned back]
unfoldable pub deepest_left : (memory r events log : List ℕ) (n number : ℕ) → ℕ
deepest_left memory r events log n number =
    cond (accepted? (call_verdict memory r events log n))
    (deepest_of (events_of events) (state_in r memory) (run_on memory r events log n).steps)
    number

-- "the deepest count actually reached": no step has more frames open, and one has as many. [02 §10]
pub record Reaches (ev : List Event) (s : State) (n figure : ℕ) : Type 0 where
  pub bound : (k : ℕ) → k ≤ n → length (frames ev s k) ≤ figure
  pub at : ℕ
  pub within : at ≤ n
  pub reached : length (frames ev s at) ≡ figure

-- The pair that is carried from step to step is the open frames and the greatest number of them. [02 §10]
abbrev pub Carried : Type 0
Carried =
    (ev : List Event) (s : State) (n : ℕ)
    → depth_from ev s (depth 0 0) n ≡ depth (length (frames ev s n)) (deepest_of ev s n)

-- "Document 01 bounds the open frames": where it does, the figure is at most 7 - p, of a run and at the call.
-- [02 §10; 01 Depth]
abbrev pub Bounded : Type 0
Bounded =
    (memory r events : List ℕ) (n : ℕ) → DepthPremises memory r events n
    → deepest_of (events_of events) (state_in r memory) n ≤ 7 - lowest (events_of events) (state_in r memory) n

abbrev pub CallBounded : Type 0
CallBounded =
    (memory r events log : List ℕ) (n number : ℕ) → call_verdict memory r events log n ≡ Ok tt
    → DepthPremises memory r events (run_on memory r events log n).steps
    → deepest_left memory r events log n number
    ≤ 7 - lowest (events_of events) (state_in r memory) (run_on memory r events log n).steps

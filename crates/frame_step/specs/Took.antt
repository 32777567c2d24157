-- One step taken at once where no event is due: the state, the depth, the log's records and bytes that it leaves, with
-- room for k records (document 01, "One step, in order"; document 02, §1, §10).
-- Assumes nothing.
use Rattle.std.specs.Prelude.{◌≡◌, ℕ, ◌+◌, ◌*◌, ◌≤◌, List, length}
use Rattle.std.proofs.lemmas.List.Edits.{sets}
use Rattle.machine.specs.declared.Depth.{Depth}
use Rattle.machine.specs.State.{State}
use Rattle.machine.specs.Step.{plan_of, finished}
use Rattle.machine.specs.Log.{logged_of, log_bytes}
use Rattle.machine.specs.Depth.{depth_after}

-- s, its depth d, the records there and the log before it; with a prime, after it.
-- [01 One step, in order; 02 §1; 02 §10]
pub record Took
    (k : ℕ) (s : State) (d : Depth) (there : ℕ) (now : List ℕ)
    (s' : State) (d' : Depth) (there' : ℕ) (now' : List ℕ) : Type 0 where
  pub state : s' ≡ finished s
  pub depth : d' ≡ depth_after (plan_of s).act d
  pub added : there' ≡ there + length (logged_of (plan_of s).act s)
  pub log : now' ≡ sets now (8 * there) (log_bytes (logged_of (plan_of s).act s))
  pub room : there' ≤ k

-- A run whose first j steps are a stretch: these are uneventful, and the others go on from the state that they reach.
-- Assumes nothing.
use Prim.Native.Nat.{ℕ, ◌-◌, ◌≤◌}
use mathlib.Core.Bool.{false}
use mathlib.Core.List.{List, []}
use mathlib.Core.Path.{◌≡◌, sym, ap, ◌∙◌}
use native.Mathlib.Omega.{arith}
use lib.ListN.{length}
use Rattle.machine.specs.declared.Depth.{Depth}
use Rattle.machine.specs.State.{State}
use Rattle.machine.specs.Events.{Event}
use Rattle.machine.specs.Logged.{logged, run_logged, joined}
use Rattle.machine.specs.Depth.{depth_from}
use Rattle.run_laws.proofs.Room.{logged-le, logged-slices, records-fit}
use Rattle.run_laws.proofs.Turns.{uneventful-run}
use Rattle.run_laws.proofs.Depth.{depth-slice, uneventful-depth}
use Rattle.stretch.specs.Stretch.{Passes}

module _ (ev : List Event) (s v : State) (j : ℕ) (passes : Passes ev s v j) (k : ℕ) where
  -- these steps alone
  pub passed-run : run_logged ev s k j ≡ logged v j [] false
  passed-run =
      uneventful-run ev s k j passes.1 ∙ ap (λ r. logged r.state r.steps [] false) (sym passes.0)

  pub passed-depth : (d : Depth) → depth_from ev s d j ≡ d
  passed-depth d = uneventful-depth ev s d j passes.1

  -- and the rest of n, from the state that they reach
  pub run_on_lem : (n : ℕ) → j ≤ n → run_logged ev s k n ≡ joined (logged v j [] false) (run_logged ev v k (n - j))
  run_on_lem n h =
      let l = logged-le ev s k j in
      let z : k - 0 ≡ k = omega arith in
      logged-slices ev s k k j n (records-fit ev s k j) (omega arith)
      ∙ ap (λ x. joined x (run_logged ev x.state (k - length x.records) (n - x.steps))) passed-run
      ∙ ap (λ i. joined (logged v j [] false) (run_logged ev v i (n - j))) z

  pub depth-run-on : (d : Depth) (n : ℕ) → j ≤ n
      → depth_from ev v d (run_logged ev v k (n - j)).steps ≡ depth_from ev s d (run_logged ev s k n).steps
  depth-run-on d n h =
      depth-slice ev s d j (run_logged ev v k (n - j)).steps v d passes.0 (sym (passed-depth d))
      ∙ ap (λ x. depth_from ev s d x.steps) (sym (run_on_lem n h))

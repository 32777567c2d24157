-- A run in slices over a short log, as its loop goes. After j steps the state is that of the run of j; a slice that stopped for room goes
-- on from there, and one that did not ends where the one run ends. Assumes nothing.
use Prim.Native.Nat.{ℕ, ◌+◌, ◌-◌, ◌≤◌}
use native.Mathlib.Omega.{arith}
use mathlib.Core.Bool.{true, false}
use mathlib.Core.List.{List}
use mathlib.Core.Path.{◌≡◌, refl, sym, ap, ◌∙◌}
use Rattle.machine.specs.declared.Depth.{Depth}
use Rattle.machine.specs.declared.Reason.{Reason}
use Rattle.machine.specs.State.{State}
use Rattle.machine.specs.Events.{Event}
use Rattle.machine.specs.Run.{ran, run_of}
use Rattle.machine.specs.Logged.{Logged, run_logged, reason_logged}
use Rattle.machine.specs.Depth.{depth, depth_from}
use Rattle.machine_laws.proofs.Cases.{bool_cases}
use Rattle.machine_laws.proofs.Runs.{run-zero}
use Rattle.machine_laws.proofs.Steps.{run-count}
use Rattle.run_laws.proofs.Room.{logged-le}
use Rattle.run_laws.proofs.Turns.{slice-turn, slice-last, slice-moves}
use Rattle.run_laws.proofs.Depth.{depth-start, depth-slice, open-le}
use Rattle.printed_line.specs.Slices.{out_of_room}

-- the reason tells whether a run stopped for room
out-short : (x : Logged) → out_of_room (reason_logged x) ≡ x.short
out-short x =
    bool_cases x.short
    (λ q. rw q refl) (λ q. bool_cases x.state.halted (λ h. rw (q, h) refl) (λ h. rw (q, h) refl))

module _ (ev : List Event) (s : State) where
  pub slices-start : ran s 0 ≡ run_of ev s 0
  slices-start = sym (run-zero ev s)

  -- none is open at the start, and no more than one for each step
  pub depth-begins : depth 0 0 ≡ depth_from ev s (depth 0 0) 0
  depth-begins = sym (depth-start ev s (depth 0 0))

  pub depth-few : (d : Depth) (j n : ℕ) → d ≡ depth_from ev s (depth 0 0) j → j ≤ n → d.opened + (n - j) ≤ n
  depth-few d j n e h =
      let o = open-le ev s (depth 0 0) j in
      let q : d.opened ≡ (depth_from ev s (depth 0 0) j).opened = ap (λ (x : Depth). x.opened) e in
      omega arith

  -- the state t that j steps have reached
  module _ (t : State) (j : ℕ) (e : ran t j ≡ run_of ev s j) where
    pub slices-count : t.count ≡ s.count + j
    slices-count =
        ap (λ r. r.state.count) e ∙ run-count ev s j ∙ ap (λ r. s.count + r.steps) (sym e)

    pub slices-full : (n : ℕ) → j ≤ n → n ≤ j → ran t j ≡ run_of ev s n
    slices-full n h l = let q : j ≡ n = omega arith in e ∙ ap (run_of ev s) q

    -- a slice of the steps left of n, in the parts that a run gives
    module _
        (k n : ℕ) (u : State) (a : Reason) (i : ℕ) (eu : u ≡ (run_logged ev t k (n - j)).state)
        (ea : a ≡ reason_logged (run_logged ev t k (n - j))) (ei : i ≡ (run_logged ev t k (n - j)).steps) where
      abbrev y : Logged
      y = run_logged ev t k (n - j)

      short-is : out_of_room a ≡ y.short
      short-is = ap out_of_room ea ∙ out-short y

      pub slice-le : i ≤ n - j
      slice-le = let l = logged-le ev t k (n - j) in omega (arith, ei)

      -- it goes on
      pub slice-on : ran u (j + i) ≡ run_of ev s (j + i)
      slice-on =
          (λ x. ran (eu x) (j + ei x)) ∙ slice-turn ev s t j k (n - j) y e refl ∙ ap (λ m. run_of ev s (j + m)) (sym ei)

      pub slice-depth : (d d' : Depth) → d ≡ depth_from ev s (depth 0 0) j → d' ≡ depth_from ev t d y.steps
          → d' ≡ depth_from ev s (depth 0 0) (j + i)
      slice-depth d d' f g =
          g ∙ ap (depth_from ev t d) (sym ei) ∙ depth-slice ev s (depth 0 0) j i t d e f

      pub slice-some : 1 ≤ k → out_of_room a ≡ true → 1 ≤ i
      slice-some h b = let l = slice-moves ev t k (n - j) h (sym short-is ∙ b) in omega (arith, ei)

      -- it is the last
      pub slice-ends : j ≤ n → out_of_room a ≡ false → ran u (j + i) ≡ run_of ev s n
      slice-ends h b =
          (λ x. ran (eu x) (j + ei x)) ∙ slice-last ev s t j k n y e h refl (sym short-is ∙ b)

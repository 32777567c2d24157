-- Laws of the log, of which a step adds one record at most, and of the run with room for k of its records: those of any such run.
-- Assumes nothing.
use Prim.Native.Nat.{ℕ, zero, suc, ◌+◌, ◌-◌, ◌%◌, ◌<◌, ◌≤◌}
use native.Mathlib.Omega.{arith}
use mathlib.Core.Bool.{Bool, true, false, cond, not, ◌&&◌}
use mathlib.Core.List.{List, [], ◌∷◌, ◌++◌}
use mathlib.Core.Path.{◌≡◌, refl, sym, ap, subst, ◌∙◌}
use lib.Dec.{eqb, ltb}
use lib.ListN.{length}
use Rattle.machine.specs.State.{State}
use Rattle.machine.specs.Memory.{byte_at, word_number}
use Rattle.machine.specs.Events.{Event}
use Rattle.machine.specs.Devices.{status_of, input?, ena?, deliver}
use Rattle.machine.specs.declared.Act.{Act}
use Rattle.machine.specs.declared.Act.TheVariants as act
use Rattle.machine.specs.Step.{plan_of, step_of}
use Rattle.machine.specs.Run.{run_of}
use Rattle.machine_laws.proofs.Cases.{bool_cases}
use Rattle.machine.specs.Log.{Shown, shown_on, logged_of, logged_next}
use Rattle.machine.specs.Logged.{Logged, logged, ran_of, fresh, over?, onward, run_logged, records_of, joined}
use Rattle.run_laws.specs.Roomed.{Roomed, roomed, run_roomed}
use Rattle.run_laws.specs.Roomed as room
use Rattle.run_laws.proofs.Roomed as laws
pub use Rattle.run_laws.proofs.Roomed.{neither}

-- ---- one step

one-if : (b : Bool) (x : Shown) → length (cond b (x ∷ []) []) ≤ 1
one-if b x = bool_cases b (λ q. rw q (omega arith)) (λ q. rw q (omega arith))

shown-one : (n : ℕ) (m : List ℕ) (d v : ℕ) → length (shown_on n m d v) ≤ 1
unfolding shown_on
shown-one n m d v = one-if (ltb d 8 && ena? (byte_at m (status_of d)) && not (input? (byte_at m (status_of d)))) _

-- at most one record a step
pub logged-one : (a : Act) (s : State) → length (logged_of a s) ≤ 1
logged-one act.Stopped s = omega arith
logged-one act.Pull s = omega arith
logged-one (act.Chain d) s = omega arith
logged-one (act.Accept d) s = omega arith
logged-one act.Sleep s = omega arith
logged-one (act.Fault v) s = omega arith
logged-one act.Halt s = omega arith
logged-one act.Skip s = omega arith
logged-one (act.Trap v) s = omega arith
logged-one act.Plain s = omega arith
logged-one (act.Loads byte a d) s = omega arith
logged-one (act.Stores true a v) s =
    bool_cases (eqb (a.0 % 2) 1)
    (λ q. rw q (shown-one s.count s.mem (word_number a.0) _)) (λ q. rw q (omega arith))
logged-one (act.Stores false a v) s = shown-one s.count s.mem (word_number a.0) _

pub next_one : (ev : List Event) (s : State) → length (logged_next ev s) ≤ 1
unfolding logged_next
next_one ev s = logged-one (plan_of (deliver ev s)).act (deliver ev s)

-- ---- the run with a log is a run with room for records, each step adding those that it logs

abbrev pub of : Roomed Shown → Logged
of x = logged x.state x.steps x.records x.short

abbrev pub to : Logged → Roomed Shown
to x = roomed x.state x.steps x.records x.short

of-cond : (b : Bool) (x y : Roomed Shown) → of (cond b x y) ≡ cond b (of x) (of y)
of-cond true x y = refl
of-cond false x y = refl

onward-is : (ev : List Event) (k : ℕ) (x : Roomed Shown) → of (room.onward (logged_next ev) ev k x) ≡ onward ev k (of x)
onward-is ev k x =
    let stuck = roomed x.state x.steps x.records true in
    let taken = roomed (step_of ev x.state) (suc x.steps) (x.records ++ logged_next ev x.state) false in
    let b = ltb k (length x.records + length (logged_next ev x.state)) in
    of-cond (over? (of x)) x (cond b stuck taken) ∙ ap (cond (over? (of x)) (of x)) (of-cond b stuck taken)

pub logged-is : (ev : List Event) (s : State) (k n : ℕ) → run_logged ev s k n ≡ of (run_roomed (logged_next ev) ev s k n)
unfolding run_logged run_roomed
logged-is ev s k zero = refl
logged-is ev s k (suc n) =
    ap (onward ev k) (logged-is ev s k n) ∙ sym (onward-is ev k (run_roomed (logged_next ev) ev s k n))

records_is : (ev : List Event) (s : State) (n : ℕ) → records_of ev s n ≡ room.records_of (logged_next ev) ev s n
unfolding records_of room.records_of
records_is ev s zero = refl
records_is ev s (suc n) = ap (λ xs. xs ++ logged_next ev (run_of ev s n).state) (records_is ev s n)

-- ---- one step more

-- the records once the next step is taken
abbrev needed : List Event → Logged → ℕ
needed ev x = length x.records + length (logged_next ev x.state)

module _ (ev : List Event) (k : ℕ) (x : Logged) where
  pub onward-over : over? x ≡ true → onward ev k x ≡ x
  onward-over h = sym (onward-is ev k (to x)) ∙ ap of (laws.onward-over (logged_next ev) ev k (to x) h)

  pub onward-stuck : over? x ≡ false → k < needed ev x → onward ev k x ≡ logged x.state x.steps x.records true
  onward-stuck h l = sym (onward-is ev k (to x)) ∙ ap of (laws.onward-stuck (logged_next ev) ev k (to x) h l)

  pub onward-taken : over? x ≡ false → needed ev x ≤ k
      → onward ev k x ≡ logged (step_of ev x.state) (suc x.steps) (x.records ++ logged_next ev x.state) false
  onward-taken h l = sym (onward-is ev k (to x)) ∙ ap of (laws.onward-taken (logged_next ev) ev k (to x) h l)

-- ---- the run with room for k records

module _ (ev : List Event) (s : State) (k : ℕ) where
  pub logged-zero : run_logged ev s k 0 ≡ fresh s
  unfolding run_logged
  logged-zero = refl

  pub logged-next : (n : ℕ) → run_logged ev s k (suc n) ≡ onward ev k (run_logged ev s k n)
  unfolding run_logged
  logged-next n = refl

  -- it is the run itself at the steps done
  pub logged-run : (n : ℕ) → ran_of (run_logged ev s k n) ≡ run_of ev s (run_logged ev s k n).steps
  logged-run n = rw (logged-is ev s k n) (laws.room-run (logged_next ev) ev s k n)

  -- the records are those of the run's first steps
  pub logged-records : (n : ℕ) → (run_logged ev s k n).records ≡ records_of ev s (run_logged ev s k n).steps
  logged-records n =
      rw (logged-is ev s k n)
      (laws.room-records (logged_next ev) ev s k n ∙ sym (records_is ev s (run_roomed (logged_next ev) ev s k n).steps))

  -- bounds: the room, the steps asked for, and at most one record a step
  pub records-fit : (n : ℕ) → length (run_logged ev s k n).records ≤ k
  records-fit n = rw (logged-is ev s k n) (laws.records-fit (logged_next ev) ev s k n)

  pub logged-le : (n : ℕ) → (run_logged ev s k n).steps ≤ n
  logged-le n = rw (logged-is ev s k n) (laws.room-le (logged_next ev) ev s k n)

  pub records-le : (n : ℕ) → length (run_logged ev s k n).records ≤ (run_logged ev s k n).steps
  records-le n = rw (logged-is ev s k n) (laws.records-le (logged_next ev) ev s k (next_one ev) n)

  -- a run that is neither halted nor short has done all its steps
  pub logged-all : (n : ℕ) → over? (run_logged ev s k n) ≡ false → (run_logged ev s k n).steps ≡ n
  logged-all n = rw (logged-is ev s k n) (laws.room-all (logged_next ev) ev s k n)

  -- a run that stops for room has filled it, and n records of room are always enough for n steps
  pub short-fills : (n : ℕ) → (run_logged ev s k n).short ≡ true → length (run_logged ev s k n).records ≡ k
  short-fills n = rw (logged-is ev s k n) (laws.short-fills (logged_next ev) ev s k (next_one ev) n)

  pub room-enough : (n : ℕ) → n ≤ k → (run_logged ev s k n).short ≡ false
  room-enough n = rw (logged-is ev s k n) (laws.room-enough (logged_next ev) ev s k (next_one ev) n)

  -- with room for the records of n steps a run of n is not stopped
  pub records-enough : (n : ℕ) → length (records_of ev s n) ≤ k → (run_logged ev s k n).short ≡ false
  records-enough n h =
      rw (logged-is ev s k n) (laws.records-enough (logged_next ev) ev s k n (subst (λ xs. length xs ≤ k) (records_is ev s n) h))

  -- with room enough it is the run of n
  pub roomy-run : (n : ℕ) → (run_logged ev s k n).short ≡ false → ran_of (run_logged ev s k n) ≡ run_of ev s n
  roomy-run n = rw (logged-is ev s k n) (laws.roomy-run (logged_next ev) ev s k n)

  -- a run that is over stays as it is
  pub logged-stays : (m n : ℕ) → over? (run_logged ev s k m) ≡ true → run_logged ev s k (m + n) ≡ run_logged ev s k m
  logged-stays m n =
      rw (logged-is ev s k m) (λ h. logged-is ev s k (m + n) ∙ ap of (laws.room-stays (logged_next ev) ev s k m n h))

  -- ---- slices

  -- a run, and then one from what it left with the room that is left of K
  joined_is : (n K N : ℕ) → let R = run_roomed (logged_next ev) ev s k n in
      joined (run_logged ev s k n) (run_logged ev (run_logged ev s k n).state (K - length (run_logged ev s k n).records) N)
      ≡ of (room.joined R (run_roomed (logged_next ev) ev R.state (K - length R.records) N))
  joined_is n K N =
      let R = run_roomed (logged_next ev) ev s k n in
      ap (λ y. joined y (run_logged ev y.state (K - length y.records) N)) (logged-is ev s k n)
      ∙ ap (joined (of R)) (logged-is ev R.state (K - length R.records) N)

  -- by steps: a run of m with room left over, and then one of n with the rest of the room, is the run of m + n
  pub logged-append : (m n : ℕ) → (run_logged ev s k m).short ≡ false
      → run_logged ev s k (m + n)
      ≡ joined (run_logged ev s k m) (run_logged ev (run_logged ev s k m).state (k - length (run_logged ev s k m).records) n)
  logged-append m n h =
      logged-is ev s k (m + n)
      ∙ ap of (laws.room-append (logged_next ev) ev s k m n (ap (λ y. y.short) (sym (logged-is ev s k m)) ∙ h))
      ∙ sym (joined_is m k n)

  -- Slices: a run of n with room for k, and then the steps left of N from the state reached, with the room left of K, are the
  -- one run of N with room for K; a step that was not taken for want of room is taken then.
  pub logged-slices : (K n N : ℕ) → length (run_logged ev s k n).records ≤ K → (run_logged ev s k n).steps ≤ N
      → run_logged ev s K N
      ≡ joined (run_logged ev s k n)
      (run_logged ev (run_logged ev s k n).state (K - length (run_logged ev s k n).records) (N - (run_logged ev s k n).steps))
  logged-slices K n N w h =
      let e = logged-is ev s k n in
      logged-is ev s K N
      ∙ ap of (laws.room-slices (logged_next ev) ev s k K n N (subst (λ y. length y.records ≤ K) e w) (subst (λ y. y.steps ≤ N) e h))
      ∙ sym (ap (λ y. joined (run_logged ev s k n)
      (run_logged ev (run_logged ev s k n).state (K - length (run_logged ev s k n).records) (N - y.steps))) e
      ∙ joined_is n K (N - (run_roomed (logged_next ev) ev s k n).steps))

  -- a run that did not stop for room is the same with more
  pub logged-more : (K n : ℕ) → k ≤ K → (run_logged ev s k n).short ≡ false → run_logged ev s K n ≡ run_logged ev s k n
  logged-more K n w =
      rw (logged-is ev s k n) (λ q. logged-is ev s K n ∙ ap of (laws.room-more (logged_next ev) ev s k K n w q))

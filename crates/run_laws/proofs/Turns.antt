-- A run with a log as its loop goes: the step of the general way, the stretch after it, the three ways in which it ends; and the
-- events of an untaken step given back. Assumes nothing.
use Prim.Native.Nat.{ℕ, zero, suc, ◌+◌, ◌-◌, ◌%◌, ◌<◌, ◌≤◌}
use native.Mathlib.Nat.{min-eq_left}
use native.Mathlib.Omega.{arith}
use mathlib.Core.Bool.{true, false, cond, not, ◌&&◌, false≢true}
use mathlib.Core.List.{List, [], ◌∷◌, ◌++◌}
use mathlib.Core.Path.{◌≡◌, refl, sym, ap, ◌∙◌}
use lib.Dec.{eqb, ltb}
use lib.ListN.{length, take, drop, length-take, length-drop, take-append-drop}
use lib.Seq.{sets, sets-eq, ext_get_or, get_or-drop}
use Rattle.machine.specs.State.{State}
use Rattle.machine.specs.Memory.{byte_at, word_number, low_byte, high_byte}
use Rattle.machine.specs.Events.{Event}
use Rattle.machine.specs.Devices.{status_of, device?, ena?, input?, deliver}
use Rattle.machine.specs.declared.Act.{Act}
use Rattle.machine.specs.declared.Act.TheVariants as act
use Rattle.machine.specs.Step.{plan_of, step_of, finished}
use Rattle.machine.specs.Run.{ran, run_of}
pub use Rattle.machine_laws.specs.Bounds.{OfDevice}
use Rattle.machine_laws.specs.Bounds.{Each}
use Rattle.machine_laws.proofs.Steps.{deliver-size}
use Rattle.machine_laws.proofs.Writes.{deliver-bytes}
use Rattle.machine_laws.proofs.Cases.{bool_cases, ge-of, not-lt}
use Rattle.machine_laws.proofs.Runs.{run-zero, run-next, run-halted, run-append}
use Rattle.machine.specs.Log.{Shown, shown_on, logged_of, logged_next}
use Rattle.machine.specs.Logged.{Logged, logged, ran_of, fresh, onward, run_logged}
use Rattle.machine.specs.Uneventful.{uneventful?, next_act, Uneventful}
use Rattle.run_laws.specs.Roomed.{run_roomed}
use Rattle.run_laws.proofs.Roomed as laws
use Rattle.run_laws.proofs.Room.{of, to, logged-is, logged-zero, logged-next, onward-over, onward-taken}
use Rattle.run_laws.proofs.Room.{logged-run, roomy-run, short-fills, records-le}

-- ---- steps that add nothing

-- no device lies so high
shown-none : (n : ℕ) (m : List ℕ) (d v : ℕ) → 8 ≤ d → shown_on n m d v ≡ []
unfolding shown_on
shown-none n m d v h =
    let t = byte_at m (status_of d) in
    ap (λ b. cond (b && ena? t && not (input? t)) (record { step = n; device = d; byte = v } ∷ []) []) (not-lt h)

far-of : (a : ℕ) → not (device? a) ≡ true → 16 ≤ a
far-of a h = bool_cases (ltb a 16) (λ q. absurd (false≢true (ap not (sym q) ∙ h))) (λ q. ge-of q)

pub uneventful-logged : (a : Act) (s : State) → uneventful? a ≡ true → logged_of a s ≡ []
uneventful-logged act.Stopped s h = refl
uneventful-logged act.Pull s h = refl
uneventful-logged (act.Chain d) s h = refl
uneventful-logged (act.Accept d) s h = refl
uneventful-logged act.Sleep s h = refl
uneventful-logged (act.Fault v) s h = refl
uneventful-logged act.Halt s h = refl
uneventful-logged act.Skip s h = refl
uneventful-logged (act.Trap v) s h = refl
uneventful-logged act.Plain s h = refl
uneventful-logged (act.Loads byte a d) s h = refl
uneventful-logged (act.Stores true a v) s h =
    let far : 16 ≤ a.0 = far-of a.0 h in
    bool_cases (eqb (a.0 % 2) 1)
    (λ q. rw q (shown-none s.count s.mem (word_number a.0) (low_byte v) (omega arith))) (λ q. rw q refl)
uneventful-logged (act.Stores false a v) s h =
    let far : 16 ≤ a.0 = far-of a.0 h in
    shown-none s.count s.mem (word_number a.0) (high_byte v) (omega arith)

pub uneventful-next : (ev : List Event) (s : State) → uneventful? (next_act ev s) ≡ true → logged_next ev s ≡ []
unfolding logged_next
uneventful-next ev s h = uneventful-logged (next_act ev s) (deliver ev s) h

module _ (ev : List Event) (s : State) where
  -- a stretch adds no record and never stops for room
  pub uneventful-run : (k n : ℕ) → Uneventful ev s n → run_logged ev s k n ≡ logged (run_of ev s n).state (run_of ev s n).steps [] false
  uneventful-run k zero f = logged-zero ev s k ∙ sym (ap (λ r. logged r.state r.steps [] false) (run-zero ev s))
  uneventful-run k (suc n) f =
      let r = run_of ev s n in
      let x = logged r.state r.steps [] false in
      let none = uneventful-next ev r.state (f n (omega arith)) in
      let fits : length {A = Shown} [] + length (logged_next ev r.state) ≤ k = rw none (omega arith) in
      logged-next ev s k n
      ∙ ap (onward ev k) (uneventful-run k n (λ i h. f i (omega arith)))
      ∙ bool_cases r.state.halted
      (λ h. onward-over ev k x (rw h refl)
      ∙ sym (ap (λ y. logged y.state y.steps [] false) (run-halted ev s n h)))
      (λ h. onward-taken ev k x (rw h refl) fits
      ∙ ap (λ xs. logged (step_of ev r.state) (suc r.steps) xs false) none
      ∙ sym (ap (λ y. logged y.state y.steps [] false) (run-next ev s n h)))

-- ---- the loop

-- x is what the loop holds: the run with room k at the steps done, not stopped
module _ (ev : List Event) (s₀ : State) (k : ℕ) where
  pub turn-start : fresh s₀ ≡ run_logged ev s₀ k 0
  turn-start = sym (logged-zero ev s₀ k)

  module _ (x : Logged) (held : x ≡ run_logged ev s₀ k x.steps) (roomy : x.short ≡ false) where
    holds : to x ≡ run_roomed (logged_next ev) ev s₀ k x.steps
    holds = ap to (held ∙ logged-is ev s₀ k x.steps)

    module _ (live : x.state.halted ≡ false) (t : State) (delivered : t ≡ deliver ev x.state) (xs : List Shown)
        (told : xs ≡ logged_of (plan_of t).act t) where
      next-is : xs ≡ logged_next ev x.state
      unfolding logged_next
      next-is = told ∙ ap (λ u. logged_of (plan_of u).act u) delivered

      -- the step is taken: the general step tells the state after it and the records that it adds
      pub turn-taken : (u : State) → u ≡ finished t → length x.records + length xs ≤ k
          → logged u (suc x.steps) (x.records ++ xs) false ≡ run_logged ev s₀ k (suc x.steps)
      turn-taken u done fits =
          ap of (laws.turn-taken (logged_next ev) ev s₀ k (to x) holds roomy live xs next-is u (done ∙ ap finished delivered) fits)
          ∙ sym (logged-is ev s₀ k (suc x.steps))

      -- the step is not taken: the run ends as it was before the events of that step
      pub turn-short : (n : ℕ) → x.steps < n → k < length x.records + length xs
          → logged x.state x.steps x.records true ≡ run_logged ev s₀ k n
      turn-short n below past =
          ap of (laws.turn-short (logged_next ev) ev s₀ k (to x) holds roomy live xs next-is n below past) ∙ sym (logged-is ev s₀ k n)

    -- a stretch: the state after it, and that its steps are uneventful
    pub turn-stretch : (v : State) (j : ℕ) → ran v j ≡ run_of ev x.state j → Uneventful ev x.state j
        → logged v (x.steps + j) x.records false ≡ run_logged ev s₀ k (x.steps + j)
    turn-stretch v j e f =
        let room = k - length x.records in
        let none = ap to (sym (logged-is ev x.state room j) ∙ uneventful-run ev x.state room j f) in
        ap of (laws.turn-stretch (logged_next ev) ev s₀ k (to x) holds roomy v j e none) ∙ sym (logged-is ev s₀ k (x.steps + j))

    -- all steps done, and halted before that
    pub turn-full : (n : ℕ) → x.steps ≤ n → n ≤ x.steps → x ≡ run_logged ev s₀ k n
    turn-full n h l = ap of (laws.turn-full (logged_next ev) ev s₀ k (to x) holds roomy n h l) ∙ sym (logged-is ev s₀ k n)

    pub turn-halted : (n : ℕ) → x.steps ≤ n → x.state.halted ≡ true → x ≡ run_logged ev s₀ k n
    turn-halted n h l = ap of (laws.turn-halted (logged_next ev) ev s₀ k (to x) holds roomy n h l) ∙ sym (logged-is ev s₀ k n)

-- ---- the events of an untaken step, given back

-- memory whose first sixteen bytes are put back
bytes_back : (m m' : List ℕ) → length m' ≡ length m → 16 ≤ length m
    → ((a : ℕ) → 16 ≤ a → a < length m → byte_at m' a ≡ byte_at m a) → sets m' 0 (take 16 m) ≡ m
bytes_back m m' e h f =
    let l : length (take 16 m) ≡ 16 = length-take 16 m ∙ min-eq_left h in
    let rest : drop 16 m' ≡ drop 16 m =
    ext_get_or 0 (drop 16 m') (drop 16 m) (length-drop 16 m' ∙ ap (λ n. n - 16) e ∙ sym (length-drop 16 m))
    (λ i b.
    let d = length-drop 16 m' in
    get_or-drop 16 m' i 0 ∙ f (16 + i) (omega arith) (omega arith) ∙ sym (get_or-drop 16 m i 0)) in
    let z : 0 + length (take 16 m) ≡ 16 = omega arith in
    sets-eq (take 16 m) m' 0 (omega arith)
    ∙ ap (λ n. take 16 m ++ drop n m') z
    ∙ ap (λ r. take 16 m ++ r) rest
    ∙ take-append-drop 16 m

-- Lines and the device bytes are all that the events of a step change: put back, they give the memory before it.
pub given_back : (ev : List Event) (s : State) → Each OfDevice ev → 16 ≤ length s.mem
    → sets (deliver ev s).mem 0 (take 16 s.mem) ≡ s.mem
given_back ev s f h =
    let n = s.count in
    bytes_back s.mem (deliver ev s).mem (deliver-size n ev s) h (λ a b l. deliver-bytes n ev s a f b l)

-- ---- slices of the printed line, over a small log

-- a slice from what the slices so far have reached
pub slice-turn : (ev : List Event) (s t : State) (j k m : ℕ) (y : Logged) → ran t j ≡ run_of ev s j → y ≡ run_logged ev t k m
    → ran y.state (j + y.steps) ≡ run_of ev s (j + y.steps)
slice-turn ev s t j k m y e q =
    let here : ran_of y ≡ run_of ev t y.steps =
    ap ran_of q ∙ logged-run ev t k m ∙ ap (λ z. run_of ev t z.steps) (sym q) in
    sym (run-append ev s j y.steps
    ∙ ap (λ r. ran (run_of ev r.state y.steps).state (r.steps + (run_of ev r.state y.steps).steps)) (sym e)
    ∙ ap (λ r. ran r.state (j + r.steps)) (sym here))

-- the last one, which did not stop for room, closes the run of n
pub slice-last : (ev : List Event) (s t : State) (j k n : ℕ) (y : Logged) → ran t j ≡ run_of ev s j → j ≤ n
    → y ≡ run_logged ev t k (n - j) → y.short ≡ false → ran y.state (j + y.steps) ≡ run_of ev s n
slice-last ev s t j k n y e h q r =
    let here : ran_of y ≡ run_of ev t (n - j) =
    ap ran_of q ∙ roomy-run ev t k (n - j) (ap (λ z. z.short) (sym q) ∙ r) in
    let n-is : j + (n - j) ≡ n = omega arith in
    sym (ap (run_of ev s) (sym n-is)
    ∙ run-append ev s j (n - j)
    ∙ ap (λ x. ran (run_of ev x.state (n - j)).state (x.steps + (run_of ev x.state (n - j)).steps)) (sym e)
    ∙ ap (λ x. ran x.state (j + x.steps)) (sym here))

-- a slice with room for a record that stops for room has done a step
pub slice-moves : (ev : List Event) (t : State) (k m : ℕ) → 1 ≤ k → (run_logged ev t k m).short ≡ true → 1 ≤ (run_logged ev t k m).steps
slice-moves ev t k m h q =
    let f = short-fills ev t k m q in
    let l = records-le ev t k m in
    omega arith

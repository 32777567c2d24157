-- Laws of a run with room for k records, whatever a step adds. A step is taken with all its records or not at all; so such a run is the
-- plain run as far as it goes, and slices, by steps or by room, are the one run. Then such a run as its loop goes: the step of the general
-- way, the stretch after it, the three ways in which it ends. Assumes nothing.
use Prim.Native.Nat.{ℕ, zero, suc, ◌+◌, ◌-◌, ◌<◌, ◌≤◌}
use native.Mathlib.Nat.{add-suc, add-zero, zero-add}
use native.Mathlib.Omega.{arith}
use mathlib.Core.Bool.{Bool, true, false, ◌||◌, true≢false}
use mathlib.Core.List.{List, [], ◌++◌, append_assoc, append-nil}
use mathlib.Core.Path.{◌≡◌, refl, sym, ap, subst, ◌∙◌}
use mathlib.Mathlib.Data.Bool.Basic.{or-eq-false-eq-eq-false-and-eq-false}
use lib.Dec.{ltb}
use lib.ListN.{length, length-append}
use Rattle.machine.specs.State.{State}
use Rattle.machine.specs.Events.{Event}
use Rattle.machine.specs.Devices.{deliver}
use Rattle.machine.specs.Step.{step_of, finished}
use Rattle.machine.specs.Run.{ran, run_of}
use Rattle.machine_laws.proofs.Cases.{bool_cases, lt_of, ge-of, is_lt, not-lt}
use Rattle.machine_laws.proofs.Runs.{step-live, run-zero, run-next, run-stays}
use Rattle.run_laws.specs.Roomed.{Roomed, roomed, ran_of, fresh, over?, onward, run_roomed, records_of, joined}

-- ---- the run, one step more

-- the records once the next step is taken
abbrev needed : {A : Type 0} → (State → List A) → Roomed A → ℕ
needed adds x = length x.records + length (adds x.state)

abbrev stuck : {A : Type 0} → Roomed A → Roomed A
stuck x = roomed x.state x.steps x.records true

abbrev taken : {A : Type 0} → (State → List A) → List Event → Roomed A → Roomed A
taken adds ev x = roomed (step_of ev x.state) (suc x.steps) (x.records ++ adds x.state) false

module _ {A : Type 0} (adds : State → List A) (ev : List Event) (k : ℕ) (x : Roomed A) where
  pub onward-over : over? x ≡ true → onward adds ev k x ≡ x
  onward-over h = rw h refl

  pub onward-stuck : over? x ≡ false → k < needed adds x → onward adds ev k x ≡ stuck x
  onward-stuck h l = rw (h, is_lt l) refl

  pub onward-taken : over? x ≡ false → needed adds x ≤ k → onward adds ev k x ≡ taken adds ev x
  onward-taken h l = rw (h, not-lt l) refl

  -- a fact of one step more, by what becomes of the step
  pub onward-cases {ℓ} : (P : Roomed A → Type ℓ) → (over? x ≡ true → P x) → (over? x ≡ false → k < needed adds x → P (stuck x))
      → (over? x ≡ false → needed adds x ≤ k → P (taken adds ev x))
      → P (onward adds ev k x)
  onward-cases P f g h =
      bool_cases (over? x)
      (λ q. subst P (sym (onward-over q)) (f q)) (λ q. bool_cases (ltb k (needed adds x))
      (λ r. subst P (sym (onward-stuck q (lt_of r))) (g q (lt_of r))) (λ r. subst P (sym (onward-taken q (ge-of r))) (h q (ge-of r))))

-- neither of two tests is met, or the first is
pub neither : (a b : Bool) → a || b ≡ false → (a ≡ false) × (b ≡ false)
neither a b = (or-eq-false-eq-eq-false-and-eq-false a b).0

or_cases : (a b : Bool) → a || b ≡ true → b ≡ false → a ≡ true
or_cases true b e h = refl
or_cases false b e h = absurd (true≢false (sym e ∙ h))

halted-of : {A : Type 0} → (x : Roomed A) → over? x ≡ true → x.short ≡ false → x.state.halted ≡ true
halted-of x = or_cases x.state.halted x.short

pub awake-of : {A : Type 0} → (x : Roomed A) → over? x ≡ false → x.state.halted ≡ false
awake-of x e = (neither x.state.halted x.short e).0

roomy_of : {A : Type 0} → (x : Roomed A) → over? x ≡ false → x.short ≡ false
roomy_of x e = (neither x.state.halted x.short e).1

-- ---- the run with room for k records

module _ {A : Type 0} (adds : State → List A) (ev : List Event) (s : State) (k : ℕ) where
  abbrev at : ℕ → Roomed A
  at n = run_roomed adds ev s k n

  pub room-zero : run_roomed adds ev s k 0 ≡ fresh s
  unfolding run_roomed
  room-zero = refl

  pub room_next : (n : ℕ) → run_roomed adds ev s k (suc n) ≡ onward adds ev k (run_roomed adds ev s k n)
  unfolding run_roomed
  room_next n = refl

  -- it is the run itself at the steps done
  pub room-run : (n : ℕ) → ran_of (run_roomed adds ev s k n) ≡ run_of ev s (run_roomed adds ev s k n).steps
  room-run zero = rw room-zero (sym (run-zero ev s))
  room-run (suc n) =
      rw (room_next n)
      (onward-cases adds ev k (at n) (λ x. ran_of x ≡ run_of ev s x.steps) (λ q. room-run n) (λ q l. room-run n) (λ q l.
      let e = room-run n in
      let live : (run_of ev s (at n).steps).state.halted ≡ false = ap (λ r. r.state.halted) (sym e) ∙ awake-of (at n) q in
      sym (run-next ev s (at n).steps live ∙ ap (λ r. ran (step_of ev r.state) (suc r.steps)) (sym e))))

  -- the records are those of the run's first steps
  pub room-records : (n : ℕ) → (run_roomed adds ev s k n).records ≡ records_of adds ev s (run_roomed adds ev s k n).steps
  unfolding records_of
  room-records zero = rw room-zero refl
  room-records (suc n) =
      rw (room_next n)
      (onward-cases adds ev k (at n) (λ x. x.records ≡ records_of adds ev s x.steps) (λ q. room-records n) (λ q l. room-records n)
      (λ q l. ap (λ xs. xs ++ adds (at n).state) (room-records n)
      ∙ ap (λ r. records_of adds ev s (at n).steps ++ adds r.state) (room-run n)))

  -- bounds: the room, and the steps asked for
  pub records-fit : (n : ℕ) → length (run_roomed adds ev s k n).records ≤ k
  records-fit zero = rw room-zero (omega arith)
  records-fit (suc n) =
      rw (room_next n)
      (onward-cases adds ev k (at n) (λ x. length x.records ≤ k) (λ q. records-fit n) (λ q l. records-fit n)
      (λ q l. rw (length-append (at n).records (adds (at n).state)) l))

  pub room-le : (n : ℕ) → (run_roomed adds ev s k n).steps ≤ n
  room-le zero = rw room-zero (omega arith)
  room-le (suc n) =
      let h = room-le n in
      rw (room_next n)
      (onward-cases adds ev k (at n) (λ x. x.steps ≤ suc n) (λ q. omega arith) (λ q l. omega arith) (λ q l. omega arith))

  -- a run that is neither halted nor short has done all its steps
  pub room-all : (n : ℕ) → over? (run_roomed adds ev s k n) ≡ false → (run_roomed adds ev s k n).steps ≡ n
  room-all zero = rw room-zero (λ q. refl)
  room-all (suc n) =
      rw (room_next n)
      (onward-cases adds ev k (at n) (λ x. over? x ≡ false → x.steps ≡ suc n) (λ q r. absurd (true≢false (sym q ∙ r)))
      (λ q l r. absurd (true≢false (neither (at n).state.halted true r).1)) (λ q l r. ap suc (room-all n q)))

  -- a run stops for room only where the next step, of those asked for, needs a record more than there is room for
  pub record Stops (n : ℕ) (x : Roomed A) : Type 0 where
    pub before : x.steps < n
    pub live : x.state.halted ≡ false
    pub past : k < needed adds x

  pub stops : (n : ℕ) → (run_roomed adds ev s k n).short ≡ true → Stops n (run_roomed adds ev s k n)
  stops zero = rw room-zero (λ q. absurd (true≢false (sym q)))
  stops (suc n) =
      rw (room_next n)
      (onward-cases adds ev k (at n) (λ x. x.short ≡ true → Stops (suc n) x)
      (λ q r. let h = stops n r in let b = h.before in record { before = omega arith; live = h.live; past = h.past })
      (λ q l r. let h = room-le n in record { before = omega arith; live = awake-of (at n) q; past = l })
      (λ q l r. absurd (true≢false (sym r))))

  -- where a step adds at most one record: no more records than steps, a run that stops has filled its room, and n records of room are
  -- enough for n steps
  module _ (one : (t : State) → length (adds t) ≤ 1) where
    pub records-le : (n : ℕ) → length (run_roomed adds ev s k n).records ≤ (run_roomed adds ev s k n).steps
    records-le zero = rw room-zero (omega arith)
    records-le (suc n) =
        let h = records-le n in
        let o = one (at n).state in
        rw (room_next n)
        (onward-cases adds ev k (at n) (λ x. length x.records ≤ x.steps) (λ q. h) (λ q l. h)
        (λ q l. rw (length-append (at n).records (adds (at n).state)) (omega arith)))

    pub short-fills : (n : ℕ) → (run_roomed adds ev s k n).short ≡ true → length (run_roomed adds ev s k n).records ≡ k
    short-fills n q =
        let h = (stops n q).past in
        let f = records-fit n in
        let o = one (at n).state in
        omega arith

    pub room-enough : (n : ℕ) → n ≤ k → (run_roomed adds ev s k n).short ≡ false
    room-enough n h =
        bool_cases (run_roomed adds ev s k n).short
        (λ q.
        let b = (stops n q).before in
        let f = short-fills n q in
        let r = records-le n in
        absurd (omega arith))
        (λ q. q)

  -- the records of more steps are no fewer; with room for those of n steps a run of n is not stopped
  records-more : (m i : ℕ) → length (records_of adds ev s m) ≤ length (records_of adds ev s (m + i))
  unfolding records_of
  records-more m zero = rw (add-zero m) (omega arith)
  records-more m (suc i) =
      let h = records-more m i in
      rw (add-suc m i, length-append (records_of adds ev s (m + i)) (adds (run_of ev s (m + i)).state)) (omega arith)

  records-next : (m : ℕ) → length (records_of adds ev s (suc m)) ≡ length (records_of adds ev s m) + length (adds (run_of ev s m).state)
  unfolding records_of
  records-next m = length-append (records_of adds ev s m) (adds (run_of ev s m).state)

  pub records-enough : (n : ℕ) → length (records_of adds ev s n) ≤ k → (run_roomed adds ev s k n).short ≡ false
  records-enough n h =
      bool_cases (run_roomed adds ev s k n).short
      (λ q.
      let x = at n in
      let st = stops n q in
      let before = st.before in
      let past = st.past in
      let a : length x.records ≡ length (records_of adds ev s x.steps) = ap length (room-records n) in
      let b : length (adds x.state) ≡ length (adds (run_of ev s x.steps).state) =
      ap (λ r. length (adds r.state)) (room-run n) in
      let c = records-next x.steps in
      let n-is : suc x.steps + (n - suc x.steps) ≡ n = omega arith in
      let d : length (records_of adds ev s (suc x.steps)) ≤ length (records_of adds ev s n) =
      subst (λ i. length (records_of adds ev s (suc x.steps)) ≤ length (records_of adds ev s i)) n-is
      (records-more (suc x.steps) (n - suc x.steps)) in
      absurd (omega arith))
      (λ q. q)

  -- with room enough it is the run of n
  pub roomy-run : (n : ℕ) → (run_roomed adds ev s k n).short ≡ false → ran_of (run_roomed adds ev s k n) ≡ run_of ev s n
  roomy-run n q =
      bool_cases (over? (at n))
      (λ o.
      let e = room-run n in
      let h : (run_of ev s (at n).steps).state.halted ≡ true = ap (λ r. r.state.halted) (sym e) ∙ halted-of (at n) o q in
      let l = room-le n in
      let n-is : (at n).steps + (n - (at n).steps) ≡ n = omega arith in
      e ∙ sym (run-stays ev s (at n).steps (n - (at n).steps) h) ∙ ap (run_of ev s) n-is)
      (λ o. room-run n ∙ ap (run_of ev s) (room-all n o))

  -- a run that is over stays as it is
  pub room-stays : (m n : ℕ) → over? (run_roomed adds ev s k m) ≡ true → run_roomed adds ev s k (m + n) ≡ run_roomed adds ev s k m
  room-stays m zero h = ap at (add-zero m)
  room-stays m (suc n) h =
      let e = room-stays m n h in
      ap at (add-suc m n) ∙ room_next (m + n) ∙ onward-over adds ev k (at (m + n)) (ap over? e ∙ h) ∙ e

-- ---- slices

-- the records of a run joined to those of another
needed-joined : {A : Type 0} (adds : State → List A) (x y : Roomed A) → needed adds (joined x y) ≡ length x.records + needed adds y
needed-joined adds x y = rw (length-append x.records y.records) (omega arith)

-- one step more of the second run is one step more of both
pub onward-joined : {A : Type 0} (adds : State → List A) (ev : List Event) (k : ℕ) (x y : Roomed A)
    → onward adds ev (length x.records + k) (joined x y) ≡ joined x (onward adds ev k y)
onward-joined adds ev k x y =
    let K = length x.records + k in
    let z = joined x y in
    let n-is = needed-joined adds x y in
    onward-cases adds ev k y (λ w. onward adds ev K z ≡ joined x w)
    (λ q. onward-over adds ev K z q) (λ q l. onward-stuck adds ev K z q (omega arith)) (λ q l. onward-taken adds ev K z q (omega arith)
    ∙ (λ i. roomed (step_of ev y.state) (sym (add-suc x.steps y.steps) i)
    (append_assoc x.records y.records (adds y.state) i) false))

joined-fresh : {A : Type 0} → (x : Roomed A) → x.short ≡ false → joined x (fresh x.state) ≡ x
joined-fresh x h = λ i. roomed x.state (add-zero x.steps i) (append-nil x.records i) (sym h i)

module _ {A : Type 0} (adds : State → List A) (ev : List Event) (s : State) (k : ℕ) where
  -- by steps: a run of m with room left over, and then one of n with the rest of the room, is the run of m + n
  pub room-append : (m n : ℕ) → (run_roomed adds ev s k m).short ≡ false
      → run_roomed adds ev s k (m + n)
      ≡ joined (run_roomed adds ev s k m)
      (run_roomed adds ev (run_roomed adds ev s k m).state (k - length (run_roomed adds ev s k m).records) n)
  room-append m zero h =
      let x = run_roomed adds ev s k m in
      ap (run_roomed adds ev s k) (add-zero m)
      ∙ sym (ap (joined x) (room-zero adds ev x.state (k - length x.records)) ∙ joined-fresh x h)
  room-append m (suc n) h =
      let x = run_roomed adds ev s k m in
      let j = k - length x.records in
      let f = records-fit adds ev s k m in
      let k-is : length x.records + j ≡ k = omega arith in
      ap (run_roomed adds ev s k) (add-suc m n)
      ∙ room_next adds ev s k (m + n)
      ∙ ap (onward adds ev k) (room-append m n h)
      ∙ ap (λ i. onward adds ev i (joined x (run_roomed adds ev x.state j n))) (sym k-is)
      ∙ onward-joined adds ev j x (run_roomed adds ev x.state j n)
      ∙ ap (joined x) (sym (room_next adds ev x.state j n))

-- the same run, not stopped
abbrev unstopped : {A : Type 0} → Roomed A → Roomed A
unstopped x = roomed x.state x.steps x.records false

module _ {A : Type 0} (adds : State → List A) (ev : List Event) (s : State) (k : ℕ) where
  -- with room for as many records, a run of the steps done reaches the same
  pub room-reaches : (K n : ℕ) → length (run_roomed adds ev s k n).records ≤ K
      → run_roomed adds ev s K (run_roomed adds ev s k n).steps ≡ unstopped (run_roomed adds ev s k n)
  room-reaches K zero =
      λ h. ap (λ y. run_roomed adds ev s K y.steps) (room-zero adds ev s k) ∙ room-zero adds ev s K ∙ sym (ap unstopped
      (room-zero adds ev s k))
  room-reaches K (suc n) =
      let x = run_roomed adds ev s k n in
      rw (room_next adds ev s k n)
      (onward-cases adds ev k x (λ y. length y.records ≤ K → run_roomed adds ev s K y.steps ≡ unstopped y) (λ q. room-reaches K n)
      (λ q l. room-reaches K n) (λ q l h.
      let e = length-append x.records (adds x.state) in
      let fits : needed adds x ≤ K = omega arith in
      room_next adds ev s K x.steps
      ∙ ap (onward adds ev K) (room-reaches K n (omega arith))
      ∙ onward-taken adds ev K (unstopped x) (ap (λ b. b || false) (awake-of x q)) fits))

  -- Slices: a run of n with room for k, and then the steps left of N from the state reached, with the room left of K, are the
  -- one run of N with room for K; a step that was not taken for want of room is taken then.
  pub room-slices : (K n N : ℕ) → length (run_roomed adds ev s k n).records ≤ K → (run_roomed adds ev s k n).steps ≤ N
      → run_roomed adds ev s K N
      ≡ joined (run_roomed adds ev s k n)
      (run_roomed adds ev (run_roomed adds ev s k n).state (K - length (run_roomed adds ev s k n).records)
      (N - (run_roomed adds ev s k n).steps))
  room-slices K n N w h =
      let x = run_roomed adds ev s k n in
      let e = room-reaches K n w in
      let N-is : x.steps + (N - x.steps) ≡ N = omega arith in
      ap (run_roomed adds ev s K) (sym N-is)
      ∙ room-append adds ev s K x.steps (N - x.steps) (ap (λ y. y.short) e)
      ∙ ap (λ y. joined y (run_roomed adds ev y.state (K - length y.records) (N - x.steps))) e

  -- a run that did not stop for room is the same with more
  pub room-more : (K n : ℕ) → k ≤ K → (run_roomed adds ev s k n).short ≡ false → run_roomed adds ev s K n ≡ run_roomed adds ev s k n
  room-more K n w q =
      let x = run_roomed adds ev s k n in
      let j = K - length x.records in
      let rest : run_roomed adds ev x.state j (n - x.steps) ≡ fresh x.state =
      bool_cases (over? x)
      (λ o. ap (run_roomed adds ev x.state j) (sym (zero-add (n - x.steps)))
      ∙ room-stays adds ev x.state j 0 (n - x.steps)
      (ap over? (room-zero adds ev x.state j) ∙ rw (halted-of x o q) refl)
      ∙ room-zero adds ev x.state j)
      (λ o.
      let a = room-all adds ev s k n o in
      let z : n - x.steps ≡ 0 = omega arith in
      ap (run_roomed adds ev x.state j) z ∙ room-zero adds ev x.state j) in
      let f = records-fit adds ev s k n in
      room-slices K n n (omega arith) (room-le adds ev s k n) ∙ ap (joined x) rest ∙ joined-fresh x q

-- ---- the loop

-- x is what a loop holds: the run with room k at the steps done, not stopped
module _ {A : Type 0} (adds : State → List A) (ev : List Event) (s₀ : State) (k : ℕ) where
  pub turn-start : fresh s₀ ≡ run_roomed adds ev s₀ k 0
  turn-start = sym (room-zero adds ev s₀ k)

  module _ (x : Roomed A) (held : x ≡ run_roomed adds ev s₀ k x.steps) (roomy : x.short ≡ false) where
    not-over : x.state.halted ≡ false → over? x ≡ false
    not-over h = rw (h, roomy) refl

    module _ (live : x.state.halted ≡ false) (xs : List A) (told : xs ≡ adds x.state) where
      -- the step is taken: the general step tells the state after it and the records that it adds
      pub turn-taken : (u : State) → u ≡ finished (deliver ev x.state) → length x.records + length xs ≤ k
          → roomed u (suc x.steps) (x.records ++ xs) false ≡ run_roomed adds ev s₀ k (suc x.steps)
      turn-taken u done fits =
          let fits' = subst (λ ys. length x.records + length ys ≤ k) told fits in
          let step_is : u ≡ step_of ev x.state = done ∙ sym (step-live ev x.state live) in
          sym (room_next adds ev s₀ k x.steps
          ∙ ap (onward adds ev k) (sym held)
          ∙ onward-taken adds ev k x (not-over live) fits'
          ∙ (λ i. roomed (sym step_is i) (suc x.steps) (x.records ++ sym told i) false))

      -- the step is not taken: the run ends as it was before the events of that step
      pub turn-short : (n : ℕ) → x.steps < n → k < length x.records + length xs → stuck x ≡ run_roomed adds ev s₀ k n
      turn-short n below past =
          let past' = subst (λ ys. k < length x.records + length ys) told past in
          let one : run_roomed adds ev s₀ k (suc x.steps) ≡ stuck x =
          room_next adds ev s₀ k x.steps ∙ ap (onward adds ev k) (sym held) ∙ onward-stuck adds ev k x (not-over live) past' in
          let n-is : suc x.steps + (n - suc x.steps) ≡ n = omega arith in
          sym (ap (run_roomed adds ev s₀ k) (sym n-is)
          ∙ room-stays adds ev s₀ k (suc x.steps) (n - suc x.steps) (ap over? one ∙ rw live refl)
          ∙ one)

    -- a stretch that adds nothing: the state after it
    pub turn-stretch : (v : State) (j : ℕ) → ran v j ≡ run_of ev x.state j
        → run_roomed adds ev x.state (k - length x.records) j
        ≡ roomed (run_of ev x.state j).state (run_of ev x.state j).steps [] false
        → roomed v (x.steps + j) x.records false ≡ run_roomed adds ev s₀ k (x.steps + j)
    turn-stretch v j e none =
        sym (room-append adds ev s₀ k x.steps j (ap (λ z. z.short) (sym held) ∙ roomy)
        ∙ ap (λ z. joined z (run_roomed adds ev z.state (k - length z.records) j)) (sym held)
        ∙ ap (joined x) none
        ∙ ap (λ r. joined x (roomed r.state r.steps [] false)) (sym e)
        ∙ ap (λ ys. roomed v (x.steps + j) ys false) (append-nil x.records))

    -- all steps done, and halted before that
    pub turn-full : (n : ℕ) → x.steps ≤ n → n ≤ x.steps → x ≡ run_roomed adds ev s₀ k n
    turn-full n h l = let q : x.steps ≡ n = omega arith in held ∙ ap (run_roomed adds ev s₀ k) q

    pub turn-halted : (n : ℕ) → x.steps ≤ n → x.state.halted ≡ true → x ≡ run_roomed adds ev s₀ k n
    turn-halted n h l =
        let q : x.steps + (n - x.steps) ≡ n = omega arith in
        held
        ∙ sym (room-stays adds ev s₀ k x.steps (n - x.steps) (ap over? (sym held) ∙ rw l refl))
        ∙ ap (run_roomed adds ev s₀ k) q

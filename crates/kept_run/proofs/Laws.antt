-- A run with its log and its journal as its loop goes: one step that is taken or given up, and a free run. What has been reached and
-- its laws are free_run's. Assumes nothing.
use Prim.Native.Nat.{ℕ, ◌+◌, ◌-◌, ◌*◌, ◌/◌, ◌<◌, ◌≤◌}
use mathlib.Core.Bool.{Bool, true, false, cond, not, ◌&&◌, ◌||◌}
use mathlib.Core.List.{List}
use mathlib.Core.Path.{◌≡◌, refl, sym, ap, subst, ◌∙◌}
use native.Mathlib.Omega.{arith}
use lib.Dec.{eqb, ltb, leb}
use lib.ListN.{length, take}
use lib.Seq.{sets}
use mathlib.Mathlib.Data.Bool.Basic.{or-eq-false-eq-eq-false-and-eq-false}
use Rattle.machine.specs.declared.Depth.{Depth}
use Rattle.machine.specs.declared.Rest.{Rest}
use Rattle.machine.specs.State.{Core, State, core_of, core_with, state_with}
use Rattle.machine.specs.Record.{record_of}
use Rattle.machine.specs.Events.{Event, event_count, events_of}
use Rattle.machine.specs.Devices.{deliver, deliver_at}
use Rattle.machine.specs.Step.{Plan, plan_of, perform, closed}
use Rattle.machine.specs.Log.{logged_of, log_bytes}
use Rattle.machine.specs.Logged.{Logged, run_logged}
use Rattle.machine.specs.Refusal.{events_fit_below}
use Rattle.machine.specs.Uneventful.{next_act}
use Rattle.machine.specs.Depth.{depth_after, depth_from}
use Rattle.machine_laws.specs.Bounds.{Each}
use Rattle.machine_laws.proofs.Cases.{bool_cases, gt-of, ge-of}
use Rattle.run_laws.proofs.Turns.{OfDevice, given_back}
use Rattle.run_laws.proofs.Depth.{depth-next, open-le}
use Rattle.std.specs.Prelude.{Option}
use Rattle.output_log.specs.declared.Showing.{Showing}
use Rattle.output_log.specs.Showing.{listed}
use Rattle.devices.specs.Cursor.{Ordered, state_from}
use Rattle.stretch_memory.specs.Served.{running}
use Rattle.stretch.specs.Stretch.{Undisturbed}
use Rattle.free_run.specs.Reached.{Reached}
use Rattle.free_run.specs.Free.{Along, Goes}
use Rattle.free_run.proofs.Laws.{log-size, reached-step, reached-short, short-full, state_is}
use Rattle.journal.specs.Record.{address_by, bytes_from, fields_of}
use Rattle.journal.specs.Ring.{Journal}
use Rattle.journal_record.specs.declared.Ring.{Ring}
use Rattle.journal_record.specs.Ring.{journal_with, kept_in}
use Rattle.turn.specs.Due.{Awaits}
use Rattle.turn.proofs.Laws.{restored}
use Rattle.kept_run.specs.Kept.{kept_over}
use Rattle.kept_run.proofs.Kept.{kept_next, record-kept}

-- ---- one step of the loop, in the order of its calls

-- the same where what is held is equal part by part
pub carried : {x : Logged} {lent regs regs' m m' log : List ℕ} {t : Rest} {d a : ℕ} {b b' : Bool}
    → m' ≡ m → regs' ≡ regs → b' ≡ b → Reached x lent (state_with regs t m) d a log b → Reached x lent (state_with regs' t m') d a log b'
carried {t = t} em er eb h =
    record { state = (λ i. state_with (er i) t (em i)) ∙ h.state; steps = h.steps; added = h.added; log = h.log; short = eb ∙ h.short }

module _
    (ev : List Event) (s₀ : State) (k : ℕ) (lent regs : List ℕ) (t : Rest) (mem : List ℕ) (done added : ℕ) (log : List ℕ)
    (h : Reached (run_logged ev s₀ k done) lent (state_with regs t mem) done added log false) (live : t.halted ≡ false) (l : ℕ) (m : List ℕ)
    (delivered : (c : Core) (b : Bool) → state_from c l b t.count m ≡ deliver_at t.count ev (state_from c t.lines b t.count mem))
    (q : Plan) (planned : q ≡ plan_of (state_from (core_with regs t) l t.halted t.count m))
    (x : Option Showing) (shows : (s : State) → s.mem ≡ m → listed s.count x ≡ logged_of q.act s)
    (lacks : Bool) (test : (n : ℕ) → lacks ≡ ltb k (added + length (listed n x))) where
  abbrev begun : State
  begun = state_from (core_with regs t) l t.halted t.count m

  begun-is : begun ≡ deliver ev (state_with regs t mem)
  begun-is = delivered (core_with regs t) t.halted

  told : listed t.count x ≡ logged_of (plan_of begun).act begun
  told = shows begun refl ∙ ap (λ v. logged_of v.act begun) planned

  act-is : q.act ≡ next_act ev (state_with regs t mem)
  act-is = ap (λ (v : Plan). v.act) planned ∙ ap (λ v. (plan_of v).act) begun-is

  -- taken: the run is one step longer, the depth is the one that its act leaves, and the journal has its record: the device bytes kept
  -- give back the memory before its events
  pub step-taken : (u : State) → u ≡ closed (perform q.act q.core l m) t.count m → lacks ≡ false
      → (added' : ℕ) → added' ≡ added + length (listed t.count x)
      → (log' : List ℕ) → log' ≡ sets log (8 * added) (log_bytes (listed t.count x))
      → (p d d' : Depth) → d ≡ depth_from ev s₀ p done → d' ≡ depth_after q.act d
      → Each OfDevice ev → 16 ≤ length mem
      → (b : List ℕ) (r : Ring) (here first wanted : Bool) → here ≡ not (eqb (length b) 0) → wanted ≡ here || first
      → (kept : List ℕ) → (wanted ≡ true → kept ≡ take 16 mem)
      → (j : List ℕ) (v : Ring) → journal_with j v ≡ kept_over b r ev s₀ done
      → (y : Journal) → y ≡ kept_in j v (fields_of (record_of (state_with regs t (sets m 0 kept))) (bytes_from (sets m 0 kept) 0 16)
      (address_by q) (bytes_from (sets m 0 kept) (address_by q) 8))
      → Reached (run_logged ev s₀ k (done + 1)) lent u (done + 1) added' log' false
      × (d' ≡ depth_from ev s₀ p (done + 1)) × (y ≡ kept_over b r ev s₀ (done + 1))
  step-taken u e ok added' ea log' el p d d' ed f devices size b r here first wanted eh ew kept keeps j v ej y ey =
      let s = state_with regs t mem in
      let state = state_is ev s₀ k lent s done added log h in (
        reached-step ev s₀ k lent s done added log h live begun begun-is (listed t.count x) told lacks (test t.count) u
            (e ∙ ap (λ (v : Plan). closed (perform v.act v.core l m) t.count m) planned) ok added' ea log' el,
        f ∙ (λ i. depth_after (act-is i) (ed i)) ∙ sym (depth-next ev s₀ p done s state),
        kept_next b r ev s₀ done s state j v ej _
            (λ e.
            let there : here ≡ true = eh ∙ ap not e in
            let back : sets m 0 kept ≡ mem =
            (λ i. sets (begun-is i).mem 0 (keeps (ew ∙ ap (λ c. c || first) there) i)) ∙ given_back ev s devices size in
            record-kept ev regs t mem (sets m 0 kept) back q (planned ∙ ap plan_of begun-is))
            y ey,
      )

  -- given up
  step-short : (n : ℕ) → done < n → lacks ≡ true
      → Reached (run_logged ev s₀ k n) lent (state_with regs t mem) done added log true
  step-short n d b =
      reached-short ev s₀ k lent (state_with regs t mem) done added log h live begun begun-is (listed t.count x) told lacks
      (test t.count) n d b

  step-full : lacks ≡ true → eqb added k ≡ true
  step-full b =
      short-full ev s₀ k lent (state_with regs t mem) done added log h live begun begun-is (listed t.count x) told lacks
      (test t.count) b

  step-memory : m ≡ (deliver ev (state_with regs t mem)).mem
  step-memory = ap (λ (v : State). v.mem) begun-is

-- frames opened before the run, and one at most for each of its steps
pub opened-fits : (ev : List Event) (s : State) (p d : Depth) (k n : ℕ) → d ≡ depth_from ev s p k → k < n → p.opened + n ≤ 4294967295
    → d.opened < 4294967295
opened-fits ev s p d k n e h l =
    let o = open-le ev s p k in
    let q : d.opened ≡ (depth_from ev s p k).opened = ap (λ (x : Depth). x.opened) e in
    omega arith

-- ---- a step given up

-- where they were not kept though the log is full, none was due
late_of : (here : Bool) (full : Bool) (due n : ℕ) → full ≡ true → here || (full && leb due n) ≡ false → n < due
late_of here full due n e q =
    gt-of (sym (ap (λ c. c && leb due n) e) ∙ ((or-eq-false-eq-eq-false-and-eq-false here (full && leb due n)).0 q).1)

-- a step given up, from what the loop holds before its events: memory is put back, and the run ends
module _
    (b : List ℕ) (s₀ : State) (k : ℕ) (lent regs : List ℕ) (t : Rest) (mem : List ℕ) (done added : ℕ) (log : List ℕ)
    (h : Reached (run_logged (events_of b) s₀ k done) lent (state_with regs t mem) done added log false) (live : t.halted ≡ false)
    (l : ℕ) (m : List ℕ) (delivered : (c : Core) (g : Bool)
    → state_from c l g t.count m ≡ deliver_at t.count (events_of b) (state_from c t.lines g t.count mem))
    (q : Plan) (planned : q ≡ plan_of (state_from (core_with regs t) l t.halted t.count m))
    (x : Option Showing) (shows : (s : State) → s.mem ≡ m → listed s.count x ≡ logged_of q.act s)
    (lacks : Bool) (test : (n : ℕ) → lacks ≡ ltb k (added + length (listed n x))) (up : lacks ≡ true)
    (next due : ℕ) (awaits : Awaits b next due t.count) (ordered : Ordered b) (fits : events_fit_below b (event_count b) ≡ true)
    (size : 16 ≤ length mem) (here wanted : Bool) (wants : wanted ≡ here || (eqb added k && leb due t.count))
    (kept : List ℕ) (keeps : wanted ≡ true → kept ≡ take 16 mem) where
  pub undone : (n : ℕ) → done < n
      → (cond wanted (sets m 0 kept) m ≡ mem) × Reached (run_logged (events_of b) s₀ k n) lent (state_with regs t mem) done added log true
  undone n d =
      let ev = events_of b in
      let full = step-full ev s₀ k lent regs t mem done added log h live l m delivered q planned x shows lacks test up in (
        restored b next due (state_with regs t mem) awaits ordered fits size wanted
            (λ q. late_of here (eqb added k) due t.count full (sym wants ∙ q)) kept m keeps
            (step-memory ev s₀ k lent regs t mem done added log h live l m delivered q planned x shows lacks test),
        step-short ev s₀ k lent regs t mem done added log h live l m delivered q planned x shows lacks test n d up,
      )

-- what is shown has room
pub room_for : (n : ℕ) (x : Option Showing) (added : ℕ) (lent log : List ℕ) (lacks : Bool)
    → lacks ≡ ltb (length lent / 8) (added + length (listed n x)) → lacks ≡ false → length log ≡ length lent
    → 8 * (added + length (listed n x)) ≤ length log
room_for n x added lent log lacks e b size =
    let fits : added + length (listed n x) ≤ length lent / 8 = ge-of (sym e ∙ b) in
    omega arith

-- ---- a free run

-- none is done where a journal is lent
pub lends_none : (b : List ℕ) (halted : Bool) (u j : ℕ) → j ≤ u → (not (eqb (length b) 0) || halted ≡ true → u ≡ 0)
    → eqb (length b) 0 ≡ false → j ≡ 0
lends_none b halted u j few none q = let z : u ≡ 0 = none (ap (λ c. not c || halted) q) in omega arith

-- frames opened before the run, one at most for each step done, and one for each step of the free run
pub opened-left : (ev : List Event) (s : State) (p d : Depth) (k u n : ℕ) → d ≡ depth_from ev s p k → k + u ≤ n → p.opened + n ≤ 4294967295
    → d.opened + u ≤ 4294967295
opened-left ev s p d k u n e h l =
    let o = open-le ev s p k in
    let q : d.opened ≡ (depth_from ev s p k).opened = ap (λ (x : Depth). x.opened) e in
    omega arith

-- its records fit the log as it is now
pub room-now : (ev : List Event) (s₀ : State) (lent : List ℕ) (s : State) (done added : ℕ) (log : List ℕ)
    → Reached (run_logged ev s₀ (length lent / 8) done) lent s done added log false → length lent / 8 ≡ length log / 8
room-now ev s₀ lent s done added log h = ap (λ (j : ℕ). j / 8) (sym (log-size ev s₀ (length lent / 8) lent s done added log h))

-- What a free run of at most u steps, one at least, from a machine taken apart leaves, no event being due in them and none being done
-- by a machine that is halted: the run has come to it.
pub free-along :
    (ev : List Event) (s₀ : State) (k : ℕ) (lent : List ℕ) (p : Depth) (regs : List ℕ) (t : Rest) (mem : List ℕ) (d : Depth) (added : ℕ)
    (log : List ℕ) (done : ℕ) → Along ev s₀ k lent p (state_with regs t mem) d added log done
    → (u due : ℕ) → 0 < u → (t.halted ≡ true → u ≡ 0) → Undisturbed ev t.count due → u ≤ due - t.count → k ≡ length log / 8
    → (regs' mem' log' : List ℕ) (psw cex j : ℕ) (d' : Depth) (added' : ℕ)
    → Goes u (running regs t.psw t.cex t.lines t.count mem) d added log
    (running regs' psw cex t.lines (t.count + j) mem') d' added' log' j
    → (v : Rest) → v ≡ record { psw = psw; cex = cex; lines = t.lines; halted = t.halted; count = t.count + j }
    → Along ev s₀ k lent p (state_with regs' v mem') d' added' log' (done + j)
free-along ev s₀ k lent p regs t mem d added log done h u due some none undue few room regs' mem' log' psw cex j d' added' goes v on =
    let live : t.halted ≡ false = bool_cases t.halted (λ q. let z = none q in absurd (omega arith)) (λ q. q) in
    let core = core_with regs t in
    let begun : Along ev s₀ k lent p (running regs t.psw t.cex t.lines t.count mem) d added log done =
    subst
    (λ (b : Bool). Along ev s₀ k lent p
    (record { core = core; lines = t.lines; halted = b; count = t.count; mem = mem }) d added log done) live h in
    let came = goes.on ev s₀ k lent p done (λ i a b s. undue i a (omega arith) s) room begun in
    subst (λ (w : Rest). Along ev s₀ k lent p (state_with regs' w mem') d' added' log' (done + j)) (sym on)
    (subst
    (λ (b : Bool). Along ev s₀ k lent p
    (record { core = core_of regs' psw cex; lines = t.lines; halted = b; count = t.count + j; mem = mem' }) d' added' log' (done + j))
    (sym live) came)

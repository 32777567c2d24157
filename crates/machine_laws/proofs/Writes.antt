-- Which bytes events and steps can write: an event its device's registers, a step what its act pushes, loads or stores, and device
-- registers. Each list of writes names its places, and a byte at none of them stays as it was. Assumes nothing.
use Prim.Native.Nat.{ℕ, ◌+◌, ◌-◌, ◌%◌, ◌<◌, ◌≤◌}
use mathlib.Core.Bool.{Bool, true, false, cond, ◌||◌, false≢true}
use mathlib.Core.List.{List, [], ◌∷◌, ◌++◌}
use mathlib.Core.Logic.{◌⊎◌, inl, inr, ⊎_elim}
use mathlib.Core.Path.{◌≡◌, refl, sym, ap, subst, ◌∙◌}
use native.Mathlib.Omega.{arith}
use lib.Dec.{eqb, ltb, lit<}
use lib.ListN.{length}
use Rattle.machine.specs.State.{State, Core, sp, wrap, down}
use Rattle.machine.specs.Memory.{Write, write, commit, writes?, byte_at, even, span, low_byte, high_byte}
use Rattle.machine.specs.Events.{Event}
use Rattle.machine.specs.Devices.{status_of, device?, status?, input?, ena?, event_writes, event_on, deliver_at, deliver, load_writes}
use Rattle.machine.specs.Devices.{byte_writes, store_writes}
use Rattle.machine.specs.Entry.{pushes}
use Rattle.machine.specs.declared.Act.{Act}
use Rattle.machine.specs.Step.{perform, outcome_of, step_of}
use Rattle.machine.specs.declared.Act.TheVariants as act
use Rattle.machine_laws.specs.Bounds.{Each, OfDevice, EventFits, TidyCore, Among, Pushed, MayWrite}
use Rattle.machine_laws.proofs.Cases.{bool_cases, eq_of, lt_of, ge-of, not-eq, and_left}
use Rattle.machine_laws.proofs.Memory.{unwritten, writes-append}
use Rattle.machine_laws.proofs.Runs.{step-halted, step-live}
use Rattle.machine_laws.proofs.Steps.{event-size, deliver-size}

-- ---- addresses below 16

abbrev pub InDevices : List Write → Type 0
InDevices ws = Each (λ w. w.addr < 16) ws

pub devices-untouched : (ws : List Write) (a : ℕ) → InDevices ws → 16 ≤ a → writes? ws a ≡ false
unfolding writes?
devices-untouched [] a p h = refl
devices-untouched (w ∷ ws) a p h =
    let q : w.addr < 16 = p.0 in
    rw (not-eq {m = w.addr} {n = a} (omega arith)) (devices-untouched ws a p.1 h)

in-devices : (ws : List Write) (a : ℕ) → InDevices ws → writes? ws a ≡ true → a < 16
in-devices ws a p e =
    bool_cases (ltb a 16)
    (λ q. lt_of q) (λ q. absurd (false≢true (sym (devices-untouched ws a p (ge-of q)) ∙ e)))

-- ---- events write device registers alone

event-devices : (e : Event) (t : ℕ) → OfDevice e → InDevices (event_writes e t)
event-devices e t h =
    bool_cases (input? t)
    (λ q. rw q (omega arith, (omega arith, tt))) (λ q. rw q (omega arith, tt))

event_bytes : (e : Event) (s : State) (a : ℕ) → OfDevice e → 16 ≤ a → a < length s.mem → byte_at (event_on e s).mem a ≡ byte_at s.mem a
unfolding event_on
event_bytes e s a f h k =
    let t = byte_at s.mem (status_of e.device) in
    bool_cases (ena? t)
    (λ q. rw q (unwritten (event_writes e t) s.mem a k (devices-untouched (event_writes e t) a (event-devices e t f) h))) (λ q. rw q refl)

pub fits-devices : (ev : List Event) → Each EventFits ev → Each OfDevice ev
fits-devices [] f = tt
fits-devices (e ∷ es) f = (f.0.0, fits-devices es f.1)

pub deliver-bytes : (k : ℕ) (ev : List Event) (s : State) (a : ℕ) → Each OfDevice ev → 16 ≤ a → a < length s.mem
    → byte_at (deliver_at k ev s).mem a ≡ byte_at s.mem a
unfolding deliver_at
deliver-bytes k [] s a f h l = refl
deliver-bytes k (e ∷ es) s a f h l =
    let t = cond (eqb e.step k) (event_on e s) s in
    deliver-bytes k es t a f.1 h (bool_cases (eqb e.step k) (λ q. rw (q, event-size e s) l) (λ q. rw q l))
    ∙ bool_cases (eqb e.step k) (λ q. rw q (event_bytes e s a f.0 h l)) (λ q. rw q refl)

-- ---- loads and stores by instructions

pub load-devices : (byte : Bool) (m : List ℕ) (a : ℕ) → InDevices (load_writes byte m a)
load-devices byte m a =
    let b = cond byte a (even a) in
    bool_cases (status? b)
    (λ q. rw q (lt_of (and_left (ltb b 16) (eqb (b % 2) 0) q), tt)) (λ q. rw q tt)

pub store-devices : (m : List ℕ) (a v : ℕ) → device? a ≡ true → InDevices (byte_writes m a v)
store-devices m a v q =
    let h : a < 16 = lt_of q in
    bool_cases (eqb (a % 2) 0)
    (λ r. rw (q, r) (h, tt)) (λ r. bool_cases (input? (byte_at m (a - 1))) (λ t. rw (q, r, t) (h, tt))
    (λ t. rw (q, r, t) (h, (omega arith, tt))))

-- outside the device registers a store writes its byte and no other
pub store-plain : (m : List ℕ) (a v : ℕ) → device? a ≡ false → byte_writes m a v ≡ write a v ∷ []
store-plain m a v q = rw q refl

one_written : (a v b : ℕ) → writes? (write a v ∷ []) b ≡ true → b ≡ a
unfolding writes?
one_written a v b e =
    bool_cases (eqb a b) (λ q. sym (eq_of q)) (λ q. absurd (false≢true (rw q at e)))

byte-written : (m : List ℕ) (a v b : ℕ) → writes? (byte_writes m a v) b ≡ true → (b ≡ a) ⊎ (b < 16)
byte-written m a v b e =
    bool_cases (device? a)
    (λ q. inr (in-devices (byte_writes m a v) b (store-devices m a v q) e))
    (λ q. inl (one_written a v b (subst (λ ws. writes? ws b ≡ true) (store-plain m a v q) e)))

-- a byte that two lists write is one that the one or the other writes
either : (ws vs : List Write) (b : ℕ) → writes? (ws ++ vs) b ≡ true → (writes? ws b ≡ true) ⊎ (writes? vs b ≡ true)
either ws vs b e =
    bool_cases (writes? ws b)
    (λ q. inl q) (λ q. inr (ap (λ x. x || writes? vs b) (sym q) ∙ sym (writes-append ws vs b) ∙ e))

store-written : (byte : Bool) (m : List ℕ) (a v b : ℕ) → writes? (store_writes byte m a v) b ≡ true → Among b (span byte a) ⊎ (b < 16)
store-written true m a v b e = ⊎_elim (λ (q : b ≡ a). inl (inl q)) (λ (q : b < 16). inr q) (byte-written m a (low_byte v) b e)
store-written false m a v b e =
    let lo = byte_writes m (even a) (low_byte v) in
    let hi = byte_writes (commit lo m) (even a + 1) (high_byte v) in
    ⊎_elim
    (λ (p : writes? lo b ≡ true).
    ⊎_elim (λ (q : b ≡ even a). inl (inl q)) (λ (q : b < 16). inr q) (byte-written m (even a) (low_byte v) b p))
    (λ (p : writes? hi b ≡ true).
    ⊎_elim (λ (q : b ≡ even a + 1). inl (inr (inl q))) (λ (q : b < 16). inr q) (byte-written (commit lo m) (even a + 1) (high_byte v) b p))
    (either lo hi b e)

-- ---- pushes

push_places : (x : ℕ) → x < 65536 → (a : ℕ) → Among a (even (down x 2) ∷ (even (down x 2) + 1) ∷ even (down x 4) ∷ (even (down x 4) + 1)
    ∷ even (down x 6) ∷ (even (down x 6) + 1) ∷ even (down x 8) ∷ (even (down x 8) + 1) ∷ [])
    → (i : ℕ) × ((i < 8) × (a ≡ wrap (even (down x 8) + i)))
push_places x h a (inl e) = (6, (lit< tt, omega arith))
push_places x h a (inr (inl e)) = (7, (lit< tt, omega arith))
push_places x h a (inr (inr (inl e))) = (4, (lit< tt, omega arith))
push_places x h a (inr (inr (inr (inl e)))) = (5, (lit< tt, omega arith))
push_places x h a (inr (inr (inr (inr (inl e))))) = (2, (lit< tt, omega arith))
push_places x h a (inr (inr (inr (inr (inr (inl e)))))) = (3, (lit< tt, omega arith))
push_places x h a (inr (inr (inr (inr (inr (inr (inl e))))))) = (0, (lit< tt, omega arith))
push_places x h a (inr (inr (inr (inr (inr (inr (inr (inl e)))))))) = (1, (lit< tt, omega arith))
push_places x h a (inr (inr (inr (inr (inr (inr (inr (inr e)))))))) = absurd e

-- the addresses that a list of writes names
abbrev places : List Write → List ℕ
places [] = []
places (w ∷ ws) = w.addr ∷ places ws

written-place : (ws : List Write) (b : ℕ) → writes? ws b ≡ true → Among b (places ws)
unfolding writes?
written-place [] b e = absurd (false≢true e)
written-place (w ∷ ws) b e =
    bool_cases (eqb w.addr b)
    (λ q. inl (sym (eq_of q))) (λ q. inr (written-place ws b (rw q at e)))

push-written : (c : Core) (b : ℕ) → sp c < 65536 → writes? (pushes c) b ≡ true → Pushed c b
unfolding pushes
push-written c b h e = push_places (sp c) h b (written-place (pushes c) b e)

-- ---- a step

pub perform-writes : (a : Act) (c : Core) (l : ℕ) (m : List ℕ) (b : ℕ) → TidyCore c → writes? (perform a c l m).writes b ≡ true
    → MayWrite a c b
unfolding perform writes?
perform-writes act.Stopped c l m b t e = false≢true e
perform-writes act.Pull c l m b t e = false≢true e
perform-writes (act.Chain d) c l m b t e = false≢true e
perform-writes (act.Accept d) c l m b t e = push-written c b (t.words 6) e
perform-writes act.Sleep c l m b t e = false≢true e
perform-writes (act.Fault v) c l m b t e = push-written c b (t.words 6) e
perform-writes act.Halt c l m b t e = false≢true e
perform-writes act.Skip c l m b t e = false≢true e
perform-writes (act.Trap v) c l m b t e = push-written c b (t.words 6) e
perform-writes act.Plain c l m b t e = false≢true e
perform-writes (act.Loads byte a d) c l m b t e = in-devices (load_writes byte m a.0) b (load-devices byte m a.0) e
perform-writes (act.Stores byte a v) c l m b t e = store-written byte m a.0 v b e

-- a byte that the step does not write and that is no device register stays
pub step-byte : (ev : List Event) (s : State) (a : ℕ) → Each EventFits ev → 16 ≤ a → a < length s.mem
    → writes? (outcome_of (deliver ev s)).writes a ≡ false → byte_at (step_of ev s).mem a ≡ byte_at s.mem a
step-byte ev s a f h k w =
    bool_cases s.halted
    (λ q. ap (λ t. byte_at t.mem a) (step-halted ev s q)) (λ q.
    ap (λ t. byte_at t.mem a) (step-live ev s q)
    ∙ unwritten (outcome_of (deliver ev s)).writes (deliver ev s).mem a (rw (deliver-size s.count ev s) k) w
    ∙ deliver-bytes s.count ev s a (fits-devices ev f) h k)

-- What every step keeps: the bounds of core, lines and memory; and what it adds to the count. The events, the plan and its performance each
-- keep the bounds, act by act, since what they leave is cut to its bits; a run keeps them step by step. Assumes nothing.
use Prim.Native.Nat.{ℕ, zero, suc, ◌+◌, ◌*◌, ◌/◌, ◌%◌, ◌-◌, ◌^◌, ◌<◌, ◌≤◌}
use mathlib.Core.Bool.{Bool, true, false, cond, not, ◌&&◌, ◌||◌, false≢true}
use mathlib.Core.List.{List, [], ◌∷◌, ◌++◌}
use mathlib.Core.Path.{◌≡◌, refl, sym, ap, subst, ◌∙◌}
use native.Mathlib.Omega.{arith}
use lib.Dec.{eqb, ltb, lit<}
use lib.ListN.{length, set, get_or, length-set}
use Rattle.word.specs.Width.{bit}
use Rattle.word.specs.Psw.{bit_of, put_bit, faulted?, current, previous}
use Rattle.word.proofs.Laws.{put-lt, bit_le}
use Rattle.isa.specs.Decode.{decode_of}
use Rattle.isa.proofs.Laws.{decode-fields}
use Rattle.machine.specs.declared.Access.{Access}
use Rattle.machine.specs.declared.Access.TheVariants.{Nothing, Load, Store, Fault, Trap}
use Rattle.machine.specs.State.{Core, State, sp, pc, wrap}
use Rattle.machine.specs.Memory.{Write, commit, byte_at, word_at, even, low_byte, high_byte, value_at}
use Rattle.machine.specs.Events.{Event}
use Rattle.machine.specs.Devices.{
  status_of,
  device?,
  status?,
  ie?,
  input?,
  dba?,
  of?,
  ena?,
  event_status,
  event_writes,
  event_on,
  deliver_at,
}
use Rattle.machine.specs.Devices.{deliver, load_writes, byte_writes, store_writes}
use Rattle.machine.specs.Entry.{priority, best, above, vector_psw, vector_pc, vectored, entered_psw, pushed, pushes, pulled, pulled_psw}
use Rattle.machine.specs.Effect.{effect_of}
use Rattle.machine.specs.declared.Act.TheVariants as act
use Rattle.machine.specs.Step
use Rattle.machine.specs.declared.Act.{Act}
use Rattle.machine.specs.Step.{
  Plan,
  Interrupt,
  interrupt_of,
  returns?,
  advanced,
  faulting,
  allowed,
  granted,
  instruction_of,
  plan_of,
  perform,
}
use Rattle.machine.specs.Step.{entered, outcome_of, finished, step_of}
use Rattle.machine.specs.Run.{run_of}
use Rattle.machine_laws.specs.Bounds.{Each, Bytes, TidyCore, Tidy, AccessFits, ActFits, EventFits}
use Rattle.machine_laws.proofs.Cases.{bool_cases, lt_of, and_left}
use Rattle.machine_laws.proofs.Lines.{raised-fits, fallen-fits}
use Rattle.machine_laws.proofs.Memory.{commit-length, commit-bytes, word_lt}
use Rattle.machine_laws.proofs.Effects.{words-set, advanced-tidy, loaded-tidy, effect-tidy, effect-access}
use Rattle.machine_laws.proofs.Plans.{instruction-cases, granted-cases, plan-cases}
use Rattle.machine_laws.proofs.Runs.{step-halted, step-live, run-zero, run_step, run-next, run-halted}

abbrev ByteValues : List Write → Type 0
ByteValues ws = Each (λ w. w.value < 256) ws

values-append : (ws vs : List Write) → ByteValues ws → ByteValues vs → ByteValues (ws ++ vs)
values-append [] vs p q = q
values-append (w ∷ ws) vs p q = (p.0, values-append ws vs p.1 q)

-- ---- events

event-status-byte : (t : ℕ) → t < 256 → event_status t < 256
event-status-byte t h = put-lt 2 (put_bit 3 t (of? t || dba? t)) true 8 (lit< tt) (put-lt 3 t (of? t || dba? t) 8 (lit< tt) h)

event-values : (e : Event) (t : ℕ) → e.byte < 256 → t < 256 → ByteValues (event_writes e t)
event-values e t h k =
    bool_cases (input? t)
    (λ q. rw q (h, (event-status-byte t k, tt))) (λ q. rw q (event-status-byte t k, tt))

pub event-tidy : (e : Event) (s : State) → EventFits e → Tidy s → Tidy (event_on e s)
unfolding event_on
event-tidy e s f t =
    let b = byte_at s.mem (status_of e.device) in
    bool_cases (ena? b)
    (λ q. rw q (record {
      core = t.core;
      lines = bool_cases (ie? b) (λ r. rw r (raised-fits s.lines e.device f.0 t.lines)) (λ r. rw r t.lines);
      size = commit-length (event_writes e b) s.mem ∙ t.size;
      bytes = commit-bytes (event_writes e b) s.mem (event-values e b f.1 (t.bytes (status_of e.device))) t.bytes;
    }))
    (λ q. rw q t)

pub deliver-tidy : (k : ℕ) (ev : List Event) (s : State) → Each EventFits ev → Tidy s → Tidy (deliver_at k ev s)
unfolding deliver_at
deliver-tidy k [] s f t = t
deliver-tidy k (e ∷ es) s f t =
    deliver-tidy k es (cond (eqb e.step k) (event_on e s) s) f.1
    (bool_cases (eqb e.step k) (λ q. rw q (event-tidy e s f.0 t)) (λ q. rw q t))

-- events leave the core, the halted mark and the count
event-core : (e : Event) (s : State) → (event_on e s).core ≡ s.core
unfolding event_on
event-core e s = bool_cases (ena? (byte_at s.mem (status_of e.device))) (λ q. rw q refl) (λ q. rw q refl)

event-halted : (e : Event) (s : State) → (event_on e s).halted ≡ s.halted
unfolding event_on
event-halted e s = bool_cases (ena? (byte_at s.mem (status_of e.device))) (λ q. rw q refl) (λ q. rw q refl)

event-count : (e : Event) (s : State) → (event_on e s).count ≡ s.count
unfolding event_on
event-count e s = bool_cases (ena? (byte_at s.mem (status_of e.device))) (λ q. rw q refl) (λ q. rw q refl)

pub event-size : (e : Event) (s : State) → length (event_on e s).mem ≡ length s.mem
unfolding event_on
event-size e s =
    bool_cases (ena? (byte_at s.mem (status_of e.device)))
    (λ q. rw q (commit-length (event_writes e (byte_at s.mem (status_of e.device))) s.mem)) (λ q. rw q refl)

-- a field that no event changes is the same after all of them
module _ {A : Type 0} (field : State → A) (keeps : (e : Event) (s : State) → field (event_on e s) ≡ field s) where
  deliver-keeps : (k : ℕ) (ev : List Event) (s : State) → field (deliver_at k ev s) ≡ field s
  unfolding deliver_at
  deliver-keeps k [] s = refl
  deliver-keeps k (e ∷ es) s =
      deliver-keeps k es (cond (eqb e.step k) (event_on e s) s)
      ∙ bool_cases (eqb e.step k) (λ q. rw q (keeps e s)) (λ q. rw q refl)

pub deliver-core : (k : ℕ) (ev : List Event) (s : State) → (deliver_at k ev s).core ≡ s.core
deliver-core = deliver-keeps (λ s. s.core) event-core

pub deliver-halted : (k : ℕ) (ev : List Event) (s : State) → (deliver_at k ev s).halted ≡ s.halted
deliver-halted = deliver-keeps (λ s. s.halted) event-halted

pub deliver-count : (k : ℕ) (ev : List Event) (s : State) → (deliver_at k ev s).count ≡ s.count
deliver-count = deliver-keeps (λ s. s.count) event-count

pub deliver-size : (k : ℕ) (ev : List Event) (s : State) → length (deliver_at k ev s).mem ≡ length s.mem
deliver-size = deliver-keeps (λ s. length s.mem) event-size

-- ---- plans

-- the core and the act of a plan lie in their bounds

above-there : (m : List ℕ) (d p : ℕ) → above m d p ≡ true → d < 8
above-there m d p e = lt_of (and_left (ltb d 8) (ltb p (priority m d)) e)

InterruptFits : Interrupt → Type 0
InterruptFits Step.pulls = Unit {0}
InterruptFits (Step.chains d) = d < 8
InterruptFits (Step.accepts d) = d < 8
InterruptFits Step.nothing = Unit {0}

interrupt-fits : (c : Core) (l : ℕ) (m : List ℕ) → InterruptFits (interrupt_of c l m)
unfolding interrupt_of InterruptFits
interrupt-fits c l m =
    bool_cases (returns? c)
    (λ q. bool_cases (above m (best l m) (previous c.psw)) (λ r. rw (q, r) (above-there m (best l m) (previous c.psw) r))
    (λ r. rw (q, r) tt)) (λ q. bool_cases (above m (best l m) (current c.psw))
    (λ r. rw (q, r) (above-there m (best l m) (current c.psw) r)) (λ r. rw (q, r) tt))

abbrev PlanFits : Plan → Type 0
PlanFits p = TidyCore p.core × ActFits p.act

faulting-fits : (c x : Core) (v : ℕ) → TidyCore c → TidyCore x → v < 16 → PlanFits (faulting c x v)
faulting-fits c x v t u h = bool_cases (faulted? c.psw) (λ q. rw q (t, tt)) (λ q. rw q (u, h))

allowed-fits : (c x : Core) (a : Access) (m : List ℕ) → TidyCore c → TidyCore x → AccessFits a → PlanFits (allowed c x a m)
allowed-fits c x Nothing m t u f = (u, tt)
allowed-fits c x (Load byte a d) m t u f = (u, f)
allowed-fits c x (Store byte a v) m t u f = (u, f)
allowed-fits c x (Fault v) m t u f = faulting-fits c (advanced c) v t (advanced-tidy c t) f
allowed-fits c x (Trap v) m t u f =
    bool_cases (ltb (current c.psw) (priority m v))
    (λ q. rw q (u, f)) (λ q. rw q (faulting-fits c (advanced c) 10 t (advanced-tidy c t) (lit< tt)))

granted-fits : (c x : Core) (a : Access) (m : List ℕ) → TidyCore c → TidyCore x → AccessFits a → PlanFits (granted c x a m)
granted-fits c x a m t u f =
    granted-cases c x a m PlanFits (λ q. faulting-fits c (advanced c) 9 t (advanced-tidy c t) (lit< tt)) (λ q. allowed-fits c x a m t u f)

instruction-fits : (c : Core) (m : List ℕ) → TidyCore c → PlanFits (instruction_of c m)
instruction-fits c m t =
    let n = decode_of (word_at m (pc c)) in
    let f = decode-fields (word_at m (pc c)) in
    let a = advanced-tidy c t in
    instruction-cases c m PlanFits
    (λ q. (t, tt)) (λ q r. faulting-fits c c 9 t t (lit< tt)) (λ q r o. (a, tt))
    (λ q r o. granted-fits c (effect_of (advanced c) n).core (effect_of (advanced c) n).access m t
    (effect-tidy (advanced c) n f a) (effect-access (advanced c) n f a))

pub plan-fits : (s : State) → Tidy s → TidyCore (plan_of s).core × ActFits (plan_of s).act
unfolding InterruptFits
plan-fits s t =
    let f = interrupt-fits s.core s.lines s.mem in
    plan-cases s PlanFits
    (λ h. (t.core, tt)) (λ h q. (t.core, tt)) (λ d h q. (t.core, subst InterruptFits q f)) (λ d h q. (t.core, subst InterruptFits q f))
    (λ h q. instruction-fits s.core s.mem t.core)

-- ---- what a step leaves

entered-word : (p q : ℕ) (b : Bool) → q < 8 → entered_psw p q b < 65536
unfolding entered_psw
entered-word p q b h = let l = bit_le b in omega arith

entered-sum : (x y z q : ℕ) → x < 8 → y < 16 → z ≤ 1 → (x + y * 16 + z * 256 + q * 8192) / 512 % 16 ≡ 0
entered-sum x y z q hx hy hz =
    let a : (x + y * 16 + z * 256 + q * 8192) / 512 ≡ q * 16 = omega arith in
    rw a (omega arith)

entered-zeros : (p q : ℕ) (b : Bool) → entered_psw p q b / 512 % 16 ≡ 0
unfolding entered_psw
entered-zeros p q b = entered-sum (p % 8) (p / 16 % 16) (bit b) q (omega arith) (omega arith) (bit_le b)

pulled-word : (p : ℕ) → pulled_psw p < 65536
pulled-word p = omega arith

pulled-sum : (x y q : ℕ) → x < 8 → y < 32 → (x + y * 16 + q * 8192) / 512 % 16 ≡ 0
pulled-sum x y q hx hy =
    let a : (x + y * 16 + q * 8192) / 512 ≡ q * 16 = omega arith in
    rw a (omega arith)

pulled-zeros : (p : ℕ) → pulled_psw p / 512 % 16 ≡ 0
pulled-zeros p = pulled-sum (p % 8) (p / 16 % 32) (previous p) (omega arith) (omega arith)

-- three registers set
three-eight : (l : List ℕ) (x y z : ℕ) → length (set (set (set l 5 x) 6 y) 7 z) ≡ length l
three-eight l x y z = length-set (set (set l 5 x) 6 y) 7 z ∙ length-set (set l 5 x) 6 y ∙ length-set l 5 x

three-words : (l : List ℕ) (x y z : ℕ) → x < 65536 → y < 65536 → z < 65536 → ((i : ℕ) → get_or l i 0 < 65536) →
    (i : ℕ) → get_or (set (set (set l 5 x) 6 y) 7 z) i 0 < 65536
three-words l x y z hx hy hz h = words-set (set (set l 5 x) 6 y) 7 z hz (words-set (set l 5 x) 6 y hy (words-set l 5 x hx h))

vectored-tidy : (c : Core) (m : List ℕ) (v q : ℕ) (b : Bool) (s : ℕ) → TidyCore c → Bytes m → q < 8 → s < 65536
    → TidyCore (vectored c m v q b s)
unfolding vectored
vectored-tidy c m v q b s t h l k =
    record {
      eight = three-eight c.regs 0xFFFF s (vector_pc m v) ∙ t.eight;
      words = three-words c.regs 0xFFFF s (vector_pc m v) (lit< tt) k (word_lt m (0xFFC0 + 4 * v + 2) h) t.words;
      psw_word = entered-word (vector_psw m v) q b l;
      psw_zeros = entered-zeros (vector_psw m v) q b;
      cex_small = lit< tt;
    }

pulled-tidy : (c : Core) (m : List ℕ) → TidyCore c → Bytes m → TidyCore (pulled c m)
unfolding pulled
pulled-tidy c m t h =
    record {
      eight = three-eight c.regs _ _ _ ∙ t.eight;
      words = three-words c.regs _ _ _ (word_lt m (wrap (sp c + 4)) h) (omega arith) (word_lt m (wrap (sp c + 6)) h) t.words;
      psw_word = pulled-word _;
      psw_zeros = pulled-zeros _;
      cex_small = omega arith;
    }

entered-tidy : (c : Core) (m : List ℕ) (v : ℕ) (b : Bool) → TidyCore c → Bytes m → TidyCore (entered c m v b)
entered-tidy c m v b t h = vectored-tidy c m v (current c.psw) (b || faulted? c.psw) (pushed c) t h (omega arith) (omega arith)

value-byte : (m : List ℕ) (a : ℕ) (byte : Bool) → Bytes m → byte ≡ true → value_at byte m a < 256
value-byte m a true h e = h a
value-byte m a false h e = absurd (false≢true e)

value-word : (m : List ℕ) (a : ℕ) (byte : Bool) → Bytes m → value_at byte m a < 65536
value-word m a true h = let l = h a in omega arith
value-word m a false h = word_lt m a h

pub perform-tidy : (a : Act) (c : Core) (l : ℕ) (m : List ℕ) → TidyCore c → Bytes m → TidyCore (perform a c l m).core
unfolding perform
perform-tidy act.Stopped c l m t h = t
perform-tidy act.Pull c l m t h = pulled-tidy c m t h
perform-tidy (act.Chain d) c l m t h = vectored-tidy c m d (previous c.psw) (faulted? c.psw) (sp c) t h (omega arith) (t.words 6)
perform-tidy (act.Accept d) c l m t h = entered-tidy c m d false t h
perform-tidy act.Sleep c l m t h = t
perform-tidy (act.Fault v) c l m t h = entered-tidy c m v true t h
perform-tidy act.Halt c l m t h = t
perform-tidy act.Skip c l m t h = t
perform-tidy (act.Trap v) c l m t h = entered-tidy c m v false t h
perform-tidy act.Plain c l m t h = t
perform-tidy (act.Loads byte a d) c l m t h =
    loaded-tidy c byte d (value_at byte m a.0) t (value-byte m a.0 byte h) (value-word m a.0 byte h)
perform-tidy (act.Stores byte a v) c l m t h = t

pub perform-lines : (a : Act) (c : Core) (l : ℕ) (m : List ℕ) → ActFits a → l < 2 ^ 32 → (perform a c l m).lines < 2 ^ 32
unfolding perform
perform-lines act.Stopped c l m f h = h
perform-lines act.Pull c l m f h = h
perform-lines (act.Chain d) c l m f h = fallen-fits l d h
perform-lines (act.Accept d) c l m f h = fallen-fits l d h
perform-lines act.Sleep c l m f h = h
perform-lines (act.Fault v) c l m f h = h
perform-lines act.Halt c l m f h = h
perform-lines act.Skip c l m f h = h
perform-lines (act.Trap v) c l m f h = h
perform-lines act.Plain c l m f h = h
perform-lines (act.Loads byte a d) c l m f h = h
perform-lines (act.Stores byte a v) c l m f h = h

push-values : (c : Core) → ByteValues (pushes c)
unfolding pushes
push-values c = (omega arith, (omega arith, (omega arith, (omega arith, (omega arith, (omega arith, (omega arith, (omega arith, tt))))))))

load-values : (byte : Bool) (m : List ℕ) (a : ℕ) → Bytes m → ByteValues (load_writes byte m a)
load-values byte m a h =
    let b = cond byte a (even a) in
    bool_cases (status? b)
    (λ q. rw q (put-lt 2 (put_bit 3 (byte_at m b) false) false 8 (lit< tt) (put-lt 3 (byte_at m b) false 8 (lit< tt) (h b)), tt))
    (λ q. rw q tt)

byte-values : (m : List ℕ) (a v : ℕ) → Bytes m → v < 256 → ByteValues (byte_writes m a v)
byte-values m a v h k =
    bool_cases (status? a)
    (λ q. rw q (
      put-lt 4 (put_bit 0 (byte_at m a) (bit_of 0 v)) (bit_of 4 v) 8 (lit< tt)
          (put-lt 0 (byte_at m a) (bit_of 0 v) 8 (lit< tt) (h a)),
      tt,
    ))
    (λ q. bool_cases (device? a && not (input? (byte_at m (a - 1))))
    (λ r. rw (q, r) (k, (put-lt 2 (byte_at m (a - 1)) false 8 (lit< tt) (h (a - 1)), tt))) (λ r. rw (q, r) (k, tt)))

store-values : (byte : Bool) (m : List ℕ) (a v : ℕ) → Bytes m → ByteValues (store_writes byte m a v)
store-values true m a v h = byte-values m a (low_byte v) h (omega arith)
store-values false m a v h =
    let lo = byte_writes m (even a) (low_byte v) in
    let f = byte-values m (even a) (low_byte v) h (omega arith) in
    values-append lo (byte_writes (commit lo m) (even a + 1) (high_byte v)) f
    (byte-values (commit lo m) (even a + 1) (high_byte v) (commit-bytes lo m f h) (omega arith))

pub perform-values : (a : Act) (c : Core) (l : ℕ) (m : List ℕ) → Bytes m → Each (λ w. w.value < 256) (perform a c l m).writes
unfolding perform
perform-values act.Stopped c l m h = tt
perform-values act.Pull c l m h = tt
perform-values (act.Chain d) c l m h = tt
perform-values (act.Accept d) c l m h = push-values c
perform-values act.Sleep c l m h = tt
perform-values (act.Fault v) c l m h = push-values c
perform-values act.Halt c l m h = tt
perform-values act.Skip c l m h = tt
perform-values (act.Trap v) c l m h = push-values c
perform-values act.Plain c l m h = tt
perform-values (act.Loads byte a d) c l m h = load-values byte m a.0 h
perform-values (act.Stores byte a v) c l m h = store-values byte m a.0 v h

pub finished-tidy : (s : State) → Tidy s → Tidy (finished s)
finished-tidy s t =
    let f = plan-fits s t in
    record {
      core = perform-tidy (plan_of s).act (plan_of s).core s.lines s.mem f.0 t.bytes;
      lines = perform-lines (plan_of s).act (plan_of s).core s.lines s.mem f.1 t.lines;
      size = commit-length (outcome_of s).writes s.mem ∙ t.size;
      bytes = commit-bytes (outcome_of s).writes s.mem
          (perform-values (plan_of s).act (plan_of s).core s.lines s.mem t.bytes) t.bytes;
    }

-- ---- a step, and a run

pub step-tidy : (ev : List Event) (s : State) → Each EventFits ev → Tidy s → Tidy (step_of ev s)
step-tidy ev s f t =
    bool_cases s.halted
    (λ h. subst Tidy (sym (step-halted ev s h)) t)
    (λ h. subst Tidy (sym (step-live ev s h)) (finished-tidy (deliver ev s) (deliver-tidy s.count ev s f t)))

-- memory keeps its length, of whatever length it is
pub step-length : (ev : List Event) (s : State) → length (step_of ev s).mem ≡ length s.mem
step-length ev s =
    bool_cases s.halted
    (λ h. ap (λ t. length t.mem) (step-halted ev s h)) (λ h. ap (λ t. length t.mem) (step-live ev s h)
    ∙ commit-length (outcome_of (deliver ev s)).writes (deliver ev s).mem ∙ deliver-size s.count ev s)

-- the count gains one
pub step_count : (ev : List Event) (s : State) → s.halted ≡ false → (step_of ev s).count ≡ s.count + 1
step_count ev s h = ap (λ t. t.count) (step-live ev s h) ∙ ap (λ n. n + 1) (deliver-count s.count ev s)

module _ (ev : List Event) (s : State) where
  pub run-tidy : (k : ℕ) → Each EventFits ev → Tidy s → Tidy (run_of ev s k).state
  run-tidy zero f t = subst Tidy (sym (ap (λ r. r.state) (run-zero ev s))) t
  run-tidy (suc k) f t = subst Tidy (sym (run_step ev s k)) (step-tidy ev (run_of ev s k).state f (run-tidy k f t))

  pub run_length : (k : ℕ) → length (run_of ev s k).state.mem ≡ length s.mem
  run_length zero = ap (λ r. length r.state.mem) (run-zero ev s)
  run_length (suc k) = ap (λ t. length t.mem) (run_step ev s k) ∙ step-length ev (run_of ev s k).state ∙ run_length k

  -- the count has gained the steps done
  pub run-count : (k : ℕ) → (run_of ev s k).state.count ≡ s.count + (run_of ev s k).steps
  run-count zero = rw (run-zero ev s) (omega arith)
  run-count (suc k) =
      let p = run-count k in
      bool_cases (run_of ev s k).state.halted
      (λ h. rw (run-halted ev s k h) p) (λ h. ap (λ r. r.state.count) (run-next ev s k h) ∙ step_count ev (run_of ev s k).state h
      ∙ rw (p, ap (λ r. r.steps) (run-next ev s k h)) (omega arith))

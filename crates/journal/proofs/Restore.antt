-- A step's record, copied out into the memory that the step left, gives the state before the step: a step writes device bytes and the
-- eight bytes at its address alone, and the record holds what these were before the step's events. Assumes nothing.
use Prim.Native.Nat.{ℕ, zero, suc, ◌+◌, ◌*◌, ◌<◌, ◌≤◌}
use native.Mathlib.Nat.{add-suc, suc-add}
use native.Mathlib.Omega.{arith}
use mathlib.Core.Bool.{true, false, cond, true≢false}
use mathlib.Core.List.{List, [], ◌∷◌, ◌++◌, append_assoc}
use mathlib.Core.Logic.{◌⊎◌, inl, inr, ⊎_elim}
use mathlib.Core.Path.{◌≡◌, refl, sym, ap, subst, ◌∙◌}
use lib.Dec.{eqb, ltb, lit<}
use lib.ListN.{length, take, drop, length-append}
use lib.Seq.{slice, ext_get_or, take_at, drop_at, get_or_at}
use Rattle.machine.specs.State.{Core, State, wrap}
use Rattle.machine.specs.Memory.{byte_at, even, low_byte, high_byte, Write, commit, writes?}
use Rattle.machine.specs.Record.{two_at, state_in, record_of}
use Rattle.machine.specs.Events.{Event}
use Rattle.machine.specs.Devices.{device?, deliver}
use Rattle.machine.specs.declared.Act.{Act}
use Rattle.machine.specs.declared.Act.TheVariants as act
use Rattle.machine.specs.Step.{plan_of, outcome_of, step_of}
use Rattle.machine_laws.specs.Bounds.{Each, Tidy, EventFits, ActFits, MayWrite}
use Rattle.machine_laws.proofs.Cases.{bool_cases, eq_of, lt_of, ge-of, is_eq}
use Rattle.machine_laws.proofs.Memory.{over, commit-at, commit-length, word_back}
use Rattle.machine_laws.proofs.Writes.{perform-writes, step-byte}
use Rattle.machine_laws.proofs.Steps.{deliver-tidy, plan-fits, step-length}
use Rattle.machine_laws.proofs.Records.{record-read}
use Rattle.journal.proofs.Record.{bytes-length, record-length}
use Rattle.journal.specs.Record.{address_of, address_in, bytes_from, fields_of, journal_record, placed, state_out, memory_out}

-- ---- which bytes a step can write: device bytes, and the eight bytes at its address

-- b is one of the eight bytes at address a. [02 §8]
abbrev pub InEight : (a b : ℕ) → Type 0
InEight a b = (i : ℕ) × ((i < 8) × (b ≡ wrap (a + i)))

-- a store whose first byte is f
store-covered : (f b i : ℕ) → i < 8 → f < 65536 → b < 65536 → b ≡ f + i → (f < 16 → b < 16) → (b < 16) ⊎ InEight (cond (device? f) 0 f) b
store-covered f b i l h k e d =
    bool_cases (device? f)
    (λ q. inl (d (lt_of q))) (λ q. rw q (inr (i, (l, omega arith))))

pub act-covered : (a : Act) (c : Core) (b : ℕ) → ActFits a → b < 65536 → MayWrite a c b → (b < 16) ⊎ InEight (address_of a c) b
unfolding address_of
act-covered act.Stopped c b f k w = absurd w
act-covered act.Pull c b f k w = absurd w
act-covered (act.Chain d) c b f k w = absurd w
act-covered (act.Accept d) c b f k w = inr w
act-covered act.Sleep c b f k w = absurd w
act-covered (act.Fault v) c b f k w = inr w
act-covered act.Halt c b f k w = absurd w
act-covered act.Skip c b f k w = absurd w
act-covered (act.Trap v) c b f k w = inr w
act-covered act.Plain c b f k w = absurd w
act-covered (act.Loads byte a d) c b f k w = inl w
act-covered (act.Stores true a v) c b f k (inl (inl e)) = store-covered a.0 b 0 (lit< tt) f.0 k (omega arith) (λ h. omega arith)
act-covered (act.Stores true a v) c b f k (inl (inr e)) = absurd e
act-covered (act.Stores true a v) c b f k (inr e) = inl e
act-covered (act.Stores false a v) c b f k (inl (inl e)) =
    let h = f.0 in store-covered (even a.0) b 0 (lit< tt) (omega arith) k (omega arith) (λ q. omega arith)
act-covered (act.Stores false a v) c b f k (inl (inr (inl e))) =
    let h = f.0 in store-covered (even a.0) b 1 (lit< tt) (omega arith) k e (λ q. omega arith)
act-covered (act.Stores false a v) c b f k (inl (inr (inr e))) = absurd e
act-covered (act.Stores false a v) c b f k (inr e) = inl e

-- a byte that is neither a device's nor one of the eight at the step's address stays
pub step-covered : (ev : List Event) (s : State) (b : ℕ) → Each EventFits ev → Tidy s → 16 ≤ b → b < 65536
    → (InEight (address_in ev s) b → ⊥) → byte_at (step_of ev s).mem b ≡ byte_at s.mem b
step-covered ev s b f t h k n =
    let d = deliver ev s in
    let p = plan_of d in
    let fits = plan-fits d (deliver-tidy s.count ev s f t) in
    step-byte ev s b f h (rw t.size k)
    (bool_cases (writes? (outcome_of d).writes b) (λ q. ⊎_elim (λ (l : b < 16). absurd (omega arith)) (λ e. absurd (n e))
    (act-covered p.act p.core b fits.1 k (perform-writes p.act p.core d.lines d.mem b fits.0 q))) (λ q. q))

-- ---- bytes put back

-- each write has the value that m has there
abbrev From : List ℕ → List Write → Type 0
From m ws = Each (λ w. w.value ≡ byte_at m w.addr) ws

-- writes from m make of a byte that of m, if it is that of m where they do not write it
over-from : (m : List ℕ) (ws : List Write) (b y : ℕ) → From m ws → (writes? ws b ≡ false → y ≡ byte_at m b) → over ws b y ≡ byte_at m b
unfolding over writes?
over-from m [] b y f h = h refl
over-from m (w ∷ ws) b y f h =
    over-from m ws b (cond (eqb w.addr b) w.value y) f.1
    (λ e. bool_cases (eqb w.addr b) (λ q. rw q (f.0 ∙ ap (byte_at m) (eq_of q))) (λ q. rw q (h (rw (q, e) refl))))

placed-from : (m : List ℕ) (a n : ℕ) → From m (placed a (bytes_from m a n))
unfolding placed bytes_from
placed-from m a zero = tt
placed-from m a (suc n) = (refl, placed-from m (suc a) n)

placed-hit : (m : List ℕ) (a n i : ℕ) → i < n → writes? (placed a (bytes_from m a n)) (wrap (a + i)) ≡ true
unfolding placed bytes_from writes?
placed-hit m a zero i h = absurd (omega arith)
placed-hit m a (suc n) zero h = rw (is_eq {m = wrap a} {n = wrap (a + 0)} (omega arith)) refl
placed-hit m a (suc n) (suc i) h =
    bool_cases (eqb (wrap a) (wrap (a + suc i)))
    (λ q. rw q refl) (λ q. rw q (subst (λ x. writes? (placed (suc a) (bytes_from m (suc a) n)) (wrap x) ≡ true) (suc-add a i
    ∙ sym (add-suc a i)) (placed-hit m (suc a) n i (omega arith))))

-- ---- the fields of a record

module _ (state devices eight : List ℕ) (a : ℕ) (l : length state ≡ 32) (d : length devices ≡ 16) (g : length eight ≡ 8) where
  abbrev e : List ℕ
  e = fields_of state devices a eight

  abbrev front : List ℕ
  front = state ++ devices

  abbrev zeros : List ℕ
  zeros = 0 ∷ 0 ∷ 0 ∷ 0 ∷ 0 ∷ 0 ∷ []

  front_length : length front ≡ 48
  front_length = length-append state devices ∙ (λ i. l i + d i)

  pub entry_length : length e ≡ 64
  unfolding fields_of
  entry_length = simp length-append (rw (l, d, g) refl)

  pub entry-state : take 32 e ≡ state
  unfolding fields_of
  entry-state = take_at state (devices ++ (low_byte a ∷ high_byte a ∷ (eight ++ zeros))) 32 l

  cut : e ≡ front ++ (low_byte a ∷ high_byte a ∷ (eight ++ zeros))
  unfolding fields_of
  cut = sym (append_assoc state devices (low_byte a ∷ high_byte a ∷ (eight ++ zeros)))

  pub entry-devices : slice 32 48 e ≡ devices
  entry-devices =
      ap (λ x. slice 32 48 x) cut
      ∙ ap (drop 32) (take_at front (low_byte a ∷ high_byte a ∷ (eight ++ zeros)) 48 front_length)
      ∙ drop_at state devices 32 l

  abbrev longer : List ℕ
  longer = front ++ (low_byte a ∷ high_byte a ∷ [])

  longer-length : length longer ≡ 50
  longer-length = length-append front (low_byte a ∷ high_byte a ∷ []) ∙ ap (λ n. n + 2) front_length

  cut-longer : e ≡ longer ++ (eight ++ zeros)
  cut-longer = cut ∙ sym (append_assoc front (low_byte a ∷ high_byte a ∷ []) (eight ++ zeros))

  pub entry-eight : slice 50 58 e ≡ eight
  entry-eight =
      ap (λ x. slice 50 58 x) (cut-longer ∙ sym (append_assoc longer eight zeros))
      ∙ ap (drop 50) (take_at (longer ++ eight) zeros 58 (length-append longer eight ∙ (λ i. longer-length i + g i)))
      ∙ drop_at longer eight 50 longer-length

  pub entry-address : a < 65536 → two_at e 48 ≡ a
  entry-address h =
      let lo : byte_at e 48 ≡ low_byte a = ap (λ x. byte_at x 48) cut
      ∙ get_or_at front (low_byte a) (high_byte a ∷ (eight ++ zeros)) 0 48 front_length in
      let hi : byte_at e 49 ≡ high_byte a =
      ap (λ x. byte_at x 49) (cut ∙ sym (append_assoc front (low_byte a ∷ []) (high_byte a ∷ (eight ++ zeros))))
      ∙ get_or_at (front ++ (low_byte a ∷ [])) (high_byte a) (eight ++ zeros) 0 49 (length-append front (low_byte a ∷ [])
      ∙ ap (λ n. n + 1) front_length) in
      (λ i. lo i + 256 * hi i) ∙ word_back a h

-- ---- the address is one

pub address-lt : (a : Act) (c : Core) → ActFits a → address_of a c < 65536
unfolding address_of
address-lt act.Stopped c f = lit< tt
address-lt act.Pull c f = lit< tt
address-lt (act.Chain d) c f = lit< tt
address-lt (act.Accept d) c f = omega arith
address-lt act.Sleep c f = lit< tt
address-lt (act.Fault v) c f = omega arith
address-lt act.Halt c f = lit< tt
address-lt act.Skip c f = lit< tt
address-lt (act.Trap v) c f = omega arith
address-lt act.Plain c f = lit< tt
address-lt (act.Loads byte a d) c f = lit< tt
address-lt (act.Stores true a v) c f = bool_cases (device? a.0) (λ q. rw q (lit< tt)) (λ q. rw q f.0)
address-lt (act.Stores false a v) c f =
    let h = f.0 in bool_cases (device? (even a.0)) (λ q. rw q (lit< tt)) (λ q. rw q (omega arith))

-- ---- one step back

module _ (ev : List Event) (s : State) where
  pub record-whole : length (journal_record ev s) ≡ 64
  unfolding journal_record
  record-whole = entry_length _ _ _ _ (record-length s) (bytes-length _ 0 16) (bytes-length _ (address_in ev s) 8)

  -- the state record comes back
  pub state-back : state_out (journal_record ev s) ≡ record_of s
  unfolding journal_record
  state-back = entry-state _ _ _ _ (record-length s) (bytes-length _ 0 16) (bytes-length _ (address_in ev s) 8)

  abbrev W₁ : List Write
  W₁ = placed 0 (bytes_from s.mem 0 16)

  abbrev W₂ : List Write
  W₂ = placed (address_in ev s) (bytes_from s.mem (address_in ev s) 8)

  address-in-lt : Each EventFits ev → Tidy s → address_in ev s < 65536
  address-in-lt f t =
      let d = deliver ev s in
      address-lt (plan_of d).act (plan_of d).core (plan-fits d (deliver-tidy s.count ev s f t)).1

  memory-out : (m : List ℕ) → Each EventFits ev → Tidy s → memory_out (journal_record ev s) m ≡ commit W₂ (commit W₁ m)
  unfolding memory_out journal_record
  memory-out m f t =
      let a = address_in ev s in
      let l = record-length s in
      let d = bytes-length s.mem 0 16 in
      let g = bytes-length s.mem a 8 in
      let p = entry-address (record_of s) (bytes_from s.mem 0 16) (bytes_from s.mem a 8) a l d g (address-in-lt f t) in
      let q = entry-eight (record_of s) (bytes_from s.mem 0 16) (bytes_from s.mem a 8) a l d g in
      let r = entry-devices (record_of s) (bytes_from s.mem 0 16) (bytes_from s.mem a 8) a l d g in
      λ i. commit (placed (p i) (q i)) (commit (placed 0 (r i)) m)

  -- a memory that differs from that before the step in the device bytes and the eight bytes at its address alone
  byte-back : (m : List ℕ) (b : ℕ) → length m ≡ 65536 → b < 65536
      → (16 ≤ b → (InEight (address_in ev s) b → ⊥) → byte_at m b ≡ byte_at s.mem b)
      → byte_at (commit W₂ (commit W₁ m)) b ≡ byte_at s.mem b
  byte-back m b l h k =
      let a = address_in ev s in
      commit-at W₂ (commit W₁ m) b (rw (commit-length W₁ m, l) h)
      ∙ ap (over W₂ b) (commit-at W₁ m b (rw l h))
      ∙ over-from s.mem W₂ b (over W₁ b (byte_at m b)) (placed-from s.mem a 8)
      (λ p. over-from s.mem W₁ b (byte_at m b) (placed-from s.mem 0 16)
      (λ q. k (outside q) (λ e. absurd (true≢false (sym (placed-hit s.mem a 8 e.0 e.1.0) ∙ ap (writes? W₂) (sym e.1.1)
      ∙ p)))))
    where
      outside : writes? W₁ b ≡ false → 16 ≤ b
      outside q =
          bool_cases (ltb b 16)
          (λ r. let k : b < 16 = lt_of r in let w : wrap (0 + b) ≡ b = omega arith in
          absurd (true≢false (sym (placed-hit s.mem 0 16 b k) ∙ ap (writes? W₁) w ∙ q)))
          (λ r. ge-of r)

  -- every byte of memory comes back
  pub memory-back : Each EventFits ev → Tidy s → memory_out (journal_record ev s) (step_of ev s).mem ≡ s.mem
  memory-back f t =
      let m = (step_of ev s).mem in
      let l : length m ≡ 65536 = step-length ev s ∙ t.size in
      memory-out m f t
      ∙ ext_get_or 0 (commit W₂ (commit W₁ m)) s.mem
      (commit-length W₂ (commit W₁ m) ∙ commit-length W₁ m ∙ step-length ev s)
      (λ b h. let k : b < 65536 = rw (commit-length W₂ (commit W₁ m), commit-length W₁ m, l) at h in
      byte-back m b l k (λ p n. step-covered ev s b f t p k n))

  -- the whole state
  pub step_back : Each EventFits ev → Tidy s → s.count ≤ 4294967295
      → state_in (state_out (journal_record ev s)) (memory_out (journal_record ev s) (step_of ev s).mem) ≡ s
  step_back f t h = (λ i. state_in (state-back i) (memory-back f t i)) ∙ record-read s t h

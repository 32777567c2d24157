-- A word that asks for a store, as a step. With no line waiting, SLP clear, PC even and no block open, the plan is what the word asks
-- for; a store that is no odd word's is granted, so the step is its writes, and its records are what the store shows. Assumes nothing.
use Rattle.std.proofs.Common.{
  ◌≡◌,
  ℕ,
  ◌+◌,
  ◌*◌,
  ◌/◌,
  ◌%◌,
  ◌<◌,
  ◌≤◌,
  Bool,
  Option,
  false,
  cond,
  not,
  ◌&&◌,
  ◌||◌,
  eqb,
  ltb,
  leb,
  List,
  length,
  get_or,
  set,
  sym,
  refl,
  ap,
  ◌∙◌,
  arith,
  set-set,
  ltb-false,
}
use mathlib.Mathlib.Data.Bool.Basic.{or-eq-false-eq-eq-false-and-eq-false}
use lib.Seq.{sets, set-get_or}
use Rattle.word.specs.Psw.{asleep?}
use Rattle.word.specs.Offset.{signed_of}
use Rattle.isa.specs.declared.Instr.{Instr}
use Rattle.isa.specs.Decode.{decode_of}
use Rattle.machine.specs.declared.Access.TheVariants as asks
use Rattle.machine.specs.State.{State, core_of, wrap, down, moved}
use Rattle.machine.specs.Memory.{word_at, commit}
use Rattle.machine.specs.Devices.{store_writes}
use Rattle.machine.specs.Effect.{Effect, effect, effect_of, byte_addr, size_of, moves?, adjusted}
use Rattle.machine.specs.Step.{Plan, planned, executed, perform, plan_of}
use Rattle.machine.specs.Log.{logged_of, log_bytes}
use Rattle.machine.specs.Depth.{depth_after}
use Rattle.machine_laws.proofs.Cases.{bool_cases}
use Rattle.machine_laws.proofs.Plans.{granted-even}
use Rattle.output_log.specs.declared.Showing.{Showing}
use Rattle.output_log.specs.Showing.{listed}
use Rattle.stretch_memory.specs.Served.{running, carried_out}
use Rattle.stretch_memory.proofs.Laws.{store-effect, store-relative-effect, decode-store}
use Rattle.stretch_formats.proofs.Laws.{decode-str}
use Rattle.frame_step.proofs.Laws.{plan-fetches}
use Rattle.show_step.specs.Stored.{storing, Stored}
use Rattle.show_step.specs.Steps.{Steps}

-- ---- the store

-- what is shown finds room where the test says so
pub room_for : (log : List ℕ) (added l : ℕ) → ltb (length log / 8) (added + l) ≡ false → added + l ≤ length log / 8
room_for log added l h = ltb-false (length log / 8) (added + l) h

pub fits : (log : List ℕ) (added l : ℕ) → ltb (length log / 8) (added + l) ≡ false → 8 * (added + l) ≤ length log
fits log added l h = let k = room_for log added l h in omega arith

pub stored :
    (byte : Bool) (at v n added : ℕ) (m log : List ℕ) (x : Option Showing) {m' log' : List ℕ} {added' : ℕ} →
    leb 16 at || (not byte && eqb (at % 2) 1) ≡ false →
    ((s : State) → s.mem ≡ m → listed s.count x ≡ logged_of (storing byte at v) s) →
    ltb (length log / 8) (added + length (listed n x)) ≡ false → added' ≡ added + length (listed n x) →
    log' ≡ sets log (8 * added) (log_bytes (listed n x)) → m' ≡ commit (store_writes byte m at v) m →
    Stored byte at v n m added log m' added' log'
stored byte at v n added m log x h f r ea el em =
    record {
      granted = ((or-eq-false-eq-eq-false-and-eq-false (leb 16 at) (not byte && eqb (at % 2) 1)).0 h).1;
      memory = em;
      records = λ s hm hn. ea ∙ ap (λ (k : ℕ). added + length (listed k x)) (sym hn) ∙ ap (λ xs. added + length xs) (f s hm);
      bytes =
          λ s hm hn.
          el
          ∙ ap (λ (k : ℕ). sets log (8 * added) (log_bytes (listed k x))) (sym hn)
          ∙ ap (λ xs. sets log (8 * added) (log_bytes xs)) (f s hm);
      room = rw ea (room_for log added (length (listed n x)) r);
    }

-- ---- the step

-- R7 put back
pub put_back : (regs : List ℕ) (v : ℕ) → set (set regs 7 v) 7 (get_or regs 7 0) ≡ regs
put_back regs v = set-set regs 7 v (get_or regs 7 0) ∙ set-get_or regs 7 0

module _ (regs k m m' log log' : List ℕ) (w n added added' at v : ℕ) (byte : Bool) (ew : w ≡ word_at m (get_or regs 7 0))
    (even : get_or regs 7 0 % 2 ≡ 0) (st : Stored byte at v n m added log m' added' log')
    (e : (psw cex : ℕ) → effect (core_of k psw cex) (asks.Store byte (byte_addr at) v)
    ≡ effect_of (core_of (set regs 7 (wrap (get_or regs 7 0 + 2))) psw cex) (decode_of w)) where
  plan : (psw cex : ℕ) → asleep? psw ≡ false → cex % 64 ≡ 0 →
      plan_of (running regs psw cex 0 n m) ≡ planned (core_of k psw cex) (storing byte at v)
  plan psw cex woken shut =
      let c = core_of regs psw cex in
      plan-fetches regs m psw cex n w woken even shut ew
      ∙ ap (λ (x : Effect). executed c x m) (sym (e psw cex))
      ∙ granted-even c (core_of k psw cex) (asks.Store byte (byte_addr at) v) m st.granted

  -- a store taken is the step
  pub store-steps : Steps regs m log n added k m' log' added'
  unfolding perform
  store-steps psw cex d woken shut =
      let s = running regs psw cex 0 n m in
      let p = plan psw cex woken shut in
      record {
        state =
            ap (λ (o : List ℕ). running k psw cex 0 (n + 1) o) st.memory
            ∙ ap (λ (x : Plan). carried_out x 0 n m) (sym p);
        depth = ap (λ (x : Plan). depth_after x.act d) (sym p);
        added = st.records s refl refl ∙ ap (λ (x : Plan). added + length (logged_of x.act s)) (sym p);
        log = st.bytes s refl refl ∙ ap (λ (x : Plan). sets log (8 * added) (log_bytes (logged_of x.act s))) (sym p);
        room = st.room;
      }

-- STR, R7 being p, past its word
pub str-effect :
    (regs : List ℕ) (w : ℕ) {p a at v : ℕ} → 0xC000 ≤ w → p ≡ wrap (get_or regs 7 0 + 2) → v ≡ get_or (set regs 7 p) (w / 8 % 8) 0 →
    a ≡ get_or (set regs 7 p) (w % 8) 0 → at ≡ moved a (signed_of 64 (w / 128 % 128)) → (psw cex : ℕ) →
    effect (core_of (set regs 7 p) psw cex) (asks.Store (eqb (w / 64 % 2) 1) (byte_addr at) v)
    ≡ effect_of (core_of (set regs 7 (wrap (get_or regs 7 0 + 2))) psw cex) (decode_of w)
str-effect regs w {p} {a} {at} {v} h ep ev ea et psw cex =
    let l = set regs 7 p in
    store-relative-effect l psw cex (w / 64 % 2) (w % 8) (signed_of 64 (w / 128 % 128)) ea et (w / 8 % 8) ev
    ∙ ap (λ (i : Instr). effect_of (core_of l psw cex) i) (sym (decode-str w (omega arith) (w / 64 % 2) refl h))
    ∙ ap (λ (q : ℕ). effect_of (core_of (set regs 7 q) psw cex) (decode_of w)) ep

-- an index register that is not moved is written as it stands
settled : (l : List ℕ) (i dec inc wb : ℕ) {a b : ℕ} → a ≡ get_or l i 0 → b ≡ adjusted a dec inc wb →
    set l i b ≡ cond (moves? dec inc) (set l i b) l
settled l i dec inc wb {a} {b} ea eb =
    bool_cases (moves? dec inc)
    (λ q. ap (λ (m : Bool). cond m (set l i b) l) (sym q))
    (λ q.
    ap (set l i) (eb ∙ ap (λ (m : Bool). cond m (cond (eqb inc 1) (wrap (a + size_of wb)) (down a (size_of wb))) a) q ∙ ea)
    ∙ set-get_or l i 0
    ∙ ap (λ (m : Bool). cond m (set l i b) l) (sym q))

-- ST, R7 being p, past its word, and b the index register after it
pub st-effect :
    (regs : List ℕ) (w : ℕ) {p a b at v : ℕ} → 0x5C00 ≤ w → w < 0x6000 →
    moves? (w / 64 / 4 % 2) (w / 64 / 2 % 2) && eqb (w % 8) 7 ≡ false → p ≡ wrap (get_or regs 7 0 + 2) →
    v ≡ get_or (set regs 7 p) (w / 8 % 8) 0 → a ≡ get_or (set regs 7 p) (w % 8) 0 →
    b ≡ adjusted a (w / 64 / 4 % 2) (w / 64 / 2 % 2) (w / 64 % 2) → at ≡ cond (eqb (w / 64 / 8 % 2) 1) b a → (psw cex : ℕ) →
    effect (core_of (set (set regs 7 p) (w % 8) b) psw cex) (asks.Store (eqb (w / 64 % 2) 1) (byte_addr at) v)
    ≡ effect_of (core_of (set regs 7 (wrap (get_or regs 7 0 + 2))) psw cex) (decode_of w)
st-effect regs w {p} {a} {b} {at} {v} lo hi h ep ev ea eb et psw cex =
    let row = w / 64 in
    let l = set regs 7 p in
    store-effect l (set l (w % 8) b) psw cex (row / 8 % 2) (row / 4 % 2) (row / 2 % 2) (row % 2) (w % 8) h ea eb et
    (settled l (w % 8) (row / 4 % 2) (row / 2 % 2) (row % 2) ea eb) (w / 8 % 8) ev
    ∙ ap (λ (i : Instr). effect_of (core_of l psw cex) i) (sym (decode-store w row refl (omega arith) (omega arith)))
    ∙ ap (λ (q : ℕ). effect_of (core_of (set regs 7 q) psw cex) (decode_of w)) ep

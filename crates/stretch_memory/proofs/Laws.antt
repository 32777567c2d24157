-- What the code of one instruction leaves, put together as its definition has it. l is the registers with PC past the
-- instruction, m the memory before it, p the PSW, x the CEX state. Assumes nothing.
use Rattle.std.proofs.Common.{
  ◌≡◌,
  ℕ,
  ◌+◌,
  ◌*◌,
  ◌/◌,
  ◌%◌,
  ◌<◌,
  ◌≤◌,
  Bool,
  true,
  false,
  cond,
  not,
  ◌&&◌,
  eqb,
  ltb,
  List,
  get_or,
  set,
  ℤ,
  sym,
  refl,
  ap,
  ◌∙◌,
  inl,
  inr,
  ⊎_elim,
  arith,
  ltb-false,
  ltb-true,
  le-ltb,
  lt-ltb,
}
use borrow.Author.Tests.{eqb-false}
use Rattle.word.proofs.Laws.{bool_cases}
use Rattle.word.specs.Offset.{signed_of}
use Rattle.isa.specs.declared.Instr.{Instr}
use Rattle.isa.specs.Decode.{decode_of}
use Rattle.machine.specs.declared.Access.{Access}
use Rattle.machine.specs.declared.Access.TheVariants as asks
use Rattle.machine.specs.State.{Core, core_of, moved}
use Rattle.machine.specs.Memory.{commit, value_at}
use Rattle.machine.specs.Devices.{load_writes, store_writes}
use Rattle.machine.specs.Effect.{Effect, byte_addr, effect, effect_of, plainly, moves?, adjusted, loaded}
use Rattle.machine.specs.Step.{Plan, allowed, odd?, granted, executed, perform}
use Rattle.machine_laws.proofs.Cases.{and_right, eq_of}
use Rattle.machine_laws.proofs.Plans.{granted-even}
use Rattle.operands.proofs.Indexed.{loading, storing}
use Rattle.stretch_registers.specs.Effected.{left_alone, odd, Past, Calm, Tried}
use Rattle.stretch_registers.proofs.Laws.{pc-set, pc-back}
use Rattle.stretch_memory.specs.Ordinary.{aligned?, inside?, storable?, ordinary?}
use Rattle.stretch_memory.specs.Served.{running, carried_out, Served, Taken}

-- ---- what is granted

-- an access that a stretch takes is no odd word's
aligned-even : (byte : Bool) (a : ℕ) → aligned? byte a ≡ true → not byte && eqb (a % 2) 1 ≡ false
aligned-even true a h = refl
aligned-even false a h = ap (λ (n : ℕ). eqb n 1) (eq_of {m = a % 2} {n = 0} h)

ordinary-even : (a : Access) → ordinary? a ≡ true → odd? a ≡ false
ordinary-even asks.Nothing h = refl
ordinary-even (asks.Load byte a d) h = aligned-even byte a.0 h
ordinary-even (asks.Store byte a v) h = aligned-even byte a.0 (and_right (inside? a.0) (aligned? byte a.0) h)
ordinary-even (asks.Fault v) h = refl
ordinary-even (asks.Trap v) h = refl

pub ordinary-granted : (c x : Core) (a : Access) (m : List ℕ) → ordinary? a ≡ true → allowed c x a m ≡ granted c x a m
ordinary-granted c x a m h = sym (granted-even c x a m (ordinary-even a h))

module _ (free : Bool) (n : Instr) (l k m : List ℕ) (p x pc : ℕ) (past : Past pc l) where
  -- a load's registers before it are k; k' and m' are after it
  pub served-load :
      (k' m' : List ℕ) (byte : Bool) (at dst : ℕ) →
      effect (core_of k p x) (asks.Load byte (byte_addr at) dst) ≡ effect_of (core_of l p x) n → aligned? byte at ≡ true →
      ((q y : ℕ) → core_of k' q y ≡ loaded (core_of k q y) byte dst (value_at byte m at)) → m' ≡ commit (load_writes byte m at) m →
      get_or k' 7 0 ≡ get_or l 7 0 → Served free n l p x m k' p x m' pc
  unfolding perform
  served-load k' m' byte at dst e h f g c = (
    (λ z. omega (arith, past.2)),
    (λ b t j.
        ap (λ (r : List ℕ). running r p x t (j + 1) m') (sym (pc-back l k' pc past c))
        ∙ (λ i. record { core = f p x i; lines = t; halted = false; count = j + 1; mem = g i })
        ∙ ap (λ (y : Plan). carried_out y t j m) (ordinary-granted b (core_of k p x) (asks.Load byte (byte_addr at) dst) m h)
        ∙ ap (λ (y : Effect). carried_out (executed b y m) t j m) e),
    (λ z. past.1),
    (refl, λ z. refl),
    omega (arith, past.2),
    (λ z. z),
    ap (λ (y : Effect). ordinary? y.access) (sym e) ∙ h,
  )

  pub served-store :
      (m' : List ℕ) (byte : Bool) (at v : ℕ) →
      effect (core_of k p x) (asks.Store byte (byte_addr at) v) ≡ effect_of (core_of l p x) n → storable? byte at ≡ true →
      m' ≡ commit (store_writes byte m at v) m → get_or k 7 0 ≡ get_or l 7 0 → Served free n l p x m k p x m' pc
  unfolding perform
  served-store m' byte at v e h f c = (
    (λ z. omega (arith, past.2)),
    (λ b t j.
        ap (λ (r : List ℕ). running r p x t (j + 1) m') (sym (pc-back l k pc past c))
        ∙ ap (λ (o : List ℕ). running k p x t (j + 1) o) f
        ∙ ap (λ (y : Plan). carried_out y t j m) (ordinary-granted b (core_of k p x) (asks.Store byte (byte_addr at) v) m h)
        ∙ ap (λ (y : Effect). carried_out (executed b y m) t j m) e),
    (λ z. past.1),
    (refl, λ z. refl),
    omega (arith, past.2),
    (λ z. z),
    ap (λ (y : Effect). ordinary? y.access) (sym e) ∙ h,
  )

-- an instruction that asks for no memory
pub plain-served :
    (free : Bool) (n : Instr) (l m k : List ℕ) (p x q y r : ℕ) → (r ≡ left_alone → ⊥) →
    effect_of (core_of l p x) n ≡ plainly (core_of (set k 7 (r % 65536)) q y) → (r < left_alone → r % 2 ≡ 0) → Calm free p q → r < 2 * odd →
    (x % 64 ≡ 0 → y % 64 ≡ 0) → Served free n l p x m k q y m r
unfolding granted perform commit
plain-served free n l m k p x q y r done e even calm near shut = (
  done,
  (λ b t j. ap (λ (e : Effect). carried_out (executed b e m) t j m) (sym e)),
  even,
  calm,
  near,
  shut,
  ap (λ (e : Effect). ordinary? e.access) e,
)

-- one that keeps the priority
pub tried-taken :
    (free : Bool) (n : Instr) (l m k : List ℕ) (p x q y r : ℕ) → Tried n l p x k q y r → Taken free n l p x m k q y m r
tried-taken free n l m k p x q y r =
    ⊎_elim (λ h. inl (h.0, (h.1, h.2, h.3, refl)))
    (λ h. inr (plain-served free n l m k p x q y r h.0 h.1 h.2 (h.3.0, (λ z. h.3.1)) h.4 h.5))

-- ---- LD and ST

-- the CEX state and PC where an adjustment is not one of R7
cex-stays : (moves : Bool) (i x : ℕ) → (moves && eqb i 7) ≡ false → cond moves (cond (eqb i 7) 0 x) x ≡ x
cex-stays true i x h = rw h refl
cex-stays false i x h = refl

pub pc-adjusted :
    (moves : Bool) (l k : List ℕ) (i v : ℕ) → i < 8 → (moves && eqb i 7) ≡ false → k ≡ cond moves (set l i v) l → get_or k 7 0
    ≡ get_or l 7 0
pc-adjusted true l k i v b h e =
    let n = eqb-false i 7 h in
    ap (λ (x : List ℕ). get_or x 7 0) e ∙ pc-set l i v (omega arith)
pc-adjusted false l k i v b h e = ap (λ (x : List ℕ). get_or x 7 0) e

module _ (l k : List ℕ) (p x prpo dec inc wb i : ℕ) {a b at : ℕ} (h : (moves? dec inc && eqb i 7) ≡ false) (ha : a ≡ get_or l i 0)
    (hb : b ≡ adjusted a dec inc wb) (ht : at ≡ cond (eqb prpo 1) b a) (w : k ≡ cond (moves? dec inc) (set l i b) l) where
  pub load-effect :
      (dst : ℕ) → effect (core_of k p x) (asks.Load (eqb wb 1) (byte_addr at) dst)
      ≡ effect_of (core_of l p x) (Instr.Ld prpo dec inc wb i dst)
  load-effect dst = loading l k p x x prpo dec inc wb i ha hb ht (w, sym (cex-stays (moves? dec inc) i x h)) dst

  pub store-effect :
      (src : ℕ) {v : ℕ} → v ≡ get_or l src 0 →
      effect (core_of k p x) (asks.Store (eqb wb 1) (byte_addr at) v) ≡ effect_of (core_of l p x) (Instr.St prpo dec inc wb src i)
  store-effect src e = storing l k p x x prpo dec inc wb i ha hb ht (w, sym (cex-stays (moves? dec inc) i x h)) src e

-- the words of a row w / 64: their bits are the row's
pub decode-load : (w row : ℕ) → w / 64 ≡ row → 0x160 ≤ row → row < 0x170 →
    decode_of w ≡ Instr.Ld (row / 8 % 2) (row / 4 % 2) (row / 2 % 2) (row % 2) (w / 8 % 8) (w % 8)
unfolding decode_of
decode-load w row h lo hi =
    let e : w / 512 % 2 ≡ row / 8 % 2 = omega arith in
    let f : w / 256 % 2 ≡ row / 4 % 2 = omega arith in
    let g : w / 128 % 2 ≡ row / 2 % 2 = omega arith in
    let j : w / 64 % 2 ≡ row % 2 = omega arith in
    simp (
      le-ltb w 0x2000 (omega arith),
      le-ltb w 0x4000 (omega arith),
      le-ltb w 0x4C00 (omega arith),
      le-ltb w 0x5000 (omega arith),
      lt-ltb w 0x6000 (omega arith),
      le-ltb w 0x5400 (omega arith),
      le-ltb w 0x5800 (omega arith),
      lt-ltb w 0x5C00 (omega arith),
      e,
      f,
      g,
      j,
    )

pub decode-store : (w row : ℕ) → w / 64 ≡ row → 0x170 ≤ row → row < 0x180 →
    decode_of w ≡ Instr.St (row / 8 % 2) (row / 4 % 2) (row / 2 % 2) (row % 2) (w / 8 % 8) (w % 8)
unfolding decode_of
decode-store w row h lo hi =
    let e : w / 512 % 2 ≡ row / 8 % 2 = omega arith in
    let f : w / 256 % 2 ≡ row / 4 % 2 = omega arith in
    let g : w / 128 % 2 ≡ row / 2 % 2 = omega arith in
    let j : w / 64 % 2 ≡ row % 2 = omega arith in
    simp (
      le-ltb w 0x2000 (omega arith),
      le-ltb w 0x4000 (omega arith),
      le-ltb w 0x4C00 (omega arith),
      le-ltb w 0x5000 (omega arith),
      lt-ltb w 0x6000 (omega arith),
      le-ltb w 0x5400 (omega arith),
      le-ltb w 0x5800 (omega arith),
      le-ltb w 0x5C00 (omega arith),
      e,
      f,
      g,
      j,
    )

-- ---- LDR and STR

-- an offset that counts from -64 is added and 64 is subtracted
pub relative-address : (a n : ℕ) → n < 128 → ((a + (n + 64) % 128) % 65536 + 65472) % 65536 ≡ moved a (signed_of 64 n)
relative-address a n hn = joined a ((n + 64) % 128) ∙ from
  where
    joined : (a k : ℕ) → ((a + k) % 65536 + 65472) % 65536 ≡ (a + k + 65472) % 65536
    joined a k = omega arith

    from : (a + (n + 64) % 128 + 65472) % 65536 ≡ moved a (signed_of 64 n)
    from =
        bool_cases (ltb n 64)
        (λ e. let g = ltb-true n 64 e in rw e (omega arith)) (λ e. let g = ltb-false n 64 e in rw e (omega arith))

module _ (l : List ℕ) (p x wb i : ℕ) (off : ℤ) {a at : ℕ} (ha : a ≡ get_or l i 0) (ht : at ≡ moved a off) where
  from-base : at ≡ moved (get_or l i 0) off
  from-base = ht ∙ ap (λ (y : ℕ). moved y off) ha

  pub load-relative-effect :
      (dst : ℕ) → effect (core_of l p x) (asks.Load (eqb wb 1) (byte_addr at) dst) ≡ effect_of (core_of l p x) (Instr.Ldr off wb i dst)
  unfolding effect_of
  load-relative-effect dst = λ j. effect (core_of l p x) (asks.Load (eqb wb 1) (byte_addr (from-base j)) dst)

  pub store-relative-effect :
      (src : ℕ) {v : ℕ} → v ≡ get_or l src 0 →
      effect (core_of l p x) (asks.Store (eqb wb 1) (byte_addr at) v) ≡ effect_of (core_of l p x) (Instr.Str off wb src i)
  unfolding effect_of
  store-relative-effect src h = λ j. effect (core_of l p x) (asks.Store (eqb wb 1) (byte_addr (from-base j)) (h j))

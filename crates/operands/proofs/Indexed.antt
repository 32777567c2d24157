-- What LD and ST leave, put together as their definition has it: the register adjusted where it moves, and the access at
-- the address before or after that. Assumes nothing.
use Rattle.std.proofs.Common.{◌≡◌, ℕ, Bool, true, false, cond, eqb, List, get_or, set, refl}
use Rattle.isa.specs.declared.Instr.TheVariants as instr
use Rattle.machine.specs.declared.Access.TheVariants.{Load, Store}
use Rattle.machine.specs.State.{core_of}
use Rattle.machine.specs.Effect.{effect, effect_of, byte_addr, moves?, adjusted, adjust, indexed}

-- the core, whether or not the adjustment moves
adjusting : (m : Bool) (l k : List ℕ) (p x y : ℕ) → core_of (cond m k l) p (cond m y x) ≡ cond m (core_of k p y) (core_of l p x)
adjusting true l k p x y = refl
adjusting false l k p x y = refl

module _ (l l' : List ℕ) (p x y prpo dec inc wb i : ℕ) {a b at : ℕ} (ha : a ≡ get_or l i 0) (hb : b ≡ adjusted a dec inc wb)
    (ht : at ≡ cond (eqb prpo 1) b a)
    (w : (l' ≡ cond (moves? dec inc) (set l i b) l) × (y ≡ cond (moves? dec inc) (cond (eqb i 7) 0 x) x)) where
  core : core_of l' p y ≡ adjust (core_of l p x) i dec inc wb
  core = rw (w.0, w.1, adjusting, hb, ha)

  address : at ≡ indexed (core_of l p x) i prpo dec inc wb
  address = rw (ht, hb, ha)

  pub loading : (dst : ℕ) → effect (core_of l' p y) (Load (eqb wb 1) (byte_addr at) dst)
      ≡ effect_of (core_of l p x) (instr.Ld prpo dec inc wb i dst)
  unfolding effect_of
  loading dst = λ j. record { core = core j; access = Load (eqb wb 1) (byte_addr (address j)) dst }

  pub storing : (src : ℕ) {v : ℕ} → v ≡ get_or l src 0
      → effect (core_of l' p y) (Store (eqb wb 1) (byte_addr at) v)
      ≡ effect_of (core_of l p x) (instr.St prpo dec inc wb src i)
  unfolding effect_of
  storing src h = λ j. record { core = core j; access = Store (eqb wb 1) (byte_addr (address j)) (h j) }

-- What the code of an instruction leaves, put together as its definition has it. Each law's premises are what the calls
-- ensure, in the code's order. Assumes nothing.
use mathlib.Core.Path.{◌≡◌, refl, sym, ap, ◌∙◌}
use mathlib.Core.Bool.{Bool, true, false, cond}
use mathlib.Core.List.{List}
use Prim.Native.Nat.{ℕ}
use native.Mathlib.Omega.{arith}
use lib.Dec.{eqb}
use lib.IntN.{ℤ}
use lib.ListN.{get_or, set}
use lib.Seq.{get_or-set_other}
use Rattle.word.specs.Width.{width_of}
use Rattle.alu.specs.declared.Op.{Op}
use Rattle.alu.specs.declared.Computed.{Computed}
use Rattle.alu.specs.Alu.{alu_of}
use Rattle.isa.specs.declared.Instr.{Instr}
use Rattle.machine.specs.declared.Access.{Access}
use Rattle.machine.specs.declared.Access.TheVariants.{Nothing}
use Rattle.machine.specs.State.{Core, core_of, put, moved, doubled, with_psw}
use Rattle.machine.specs.Effect.{Effect, effect, effect_of, plainly, operated, operand, binary_op, unary_op, flags_only?, taken_of}
use Rattle.execute.specs.declared.Executed.{Executed}
use Rattle.execute.specs.Executed.{effect_with}

-- d holds this PSW and this CEX state and asks for nothing
abbrev pub AsksNothing : Executed → (p x : ℕ) → Type 0
AsksNothing d p x = (d.psw ≡ p) × (d.cex ≡ x) × (d.access ≡ Nothing)

-- l' and y are what writing v to register i leaves of l and x
abbrev pub Written : (l l' : List ℕ) (x y i v : ℕ) → Type 0
Written l l' x y i v = (l' ≡ set l i v) × (y ≡ cond (eqb i 7) 0 x)

-- ---- what is left, part by part

effect-parts : {l : List ℕ} {d : Executed} {a : Access} (c : Core) → l ≡ c.regs → d.psw ≡ c.psw → d.cex ≡ c.cex → d.access ≡ a
    → effect_with l d ≡ effect c a
effect-parts c r p x a i = record { core = record { regs = r i; psw = p i; cex = x i }; access = a i }

-- a register written, and nothing asked
pub writing : (l l' : List ℕ) (p x y i : ℕ) {v w : ℕ} {d : Executed} → v ≡ w → Written l l' x y i v → AsksNothing d p y
    → effect_with l' d ≡ plainly (put (core_of l p x) i w)
writing l l' p x y i {v} {w} e h n = effect-parts (put (core_of l p x) i w) (h.0 ∙ ap (set l i) e) n.0 (n.1 ∙ h.1) n.2

-- two registers written, each with what the other held
pub swapping : (l m n : List ℕ) (p x y z src dst : ℕ) {s t : ℕ} {d : Executed} → s ≡ get_or l src 0 → t ≡ get_or l dst 0
    → Written l m x y src t → Written m n y z dst s → AsksNothing d p z
    → effect_with n d ≡ plainly (put (put (core_of l p x) src (get_or l dst 0)) dst (get_or l src 0))
swapping l m n p x y z src dst es et h k a =
    effect-parts (put (put (core_of l p x) src (get_or l dst 0)) dst (get_or l src 0))
    (k.0 ∙ λ i. set ((h.0 ∙ ap (set l src) et) i) dst (es i)) a.0 (a.1 ∙ k.1 ∙ ap (cond (eqb dst 7) 0) h.1) a.2

-- ---- the arms of `execute`

-- a form executed, and the instruction that has it
pub arm : (c : Core) {r : Effect} {i j : Instr} → i ≡ j → r ≡ effect_of c j → r ≡ effect_of c i
arm c e f = f ∙ sym (ap (effect_of c) e)

-- what asks and does nothing else
pub arm-asks : (c : Core) {d : Executed} {a : Access} {i j : Instr} → i ≡ j → (d.psw ≡ c.psw) × (d.cex ≡ c.cex) × (d.access ≡ a)
    → effect c a ≡ effect_of c j → effect_with c.regs d ≡ effect_of c i
arm-asks c e q f = arm c e (effect-parts c refl q.0 q.1 q.2 ∙ f)

-- an operation on one register, its number read
pub arm-one : (l : List ℕ) (p x op wb dst : ℕ) {r : Effect} {o : Op} {i : Instr} → i ≡ Instr.Unary op wb dst → o ≡ unary_op op
    → r ≡ plainly (operated (core_of l p x) dst (alu_of o (width_of (eqb wb 1)) (get_or l dst 0) 0 p)) → r ≡ effect_of (core_of l p x) i
unfolding effect_of
arm-one l p x op wb dst e h f =
    f
    ∙ ap (λ (o : Op). plainly (operated (core_of l p x) dst (alu_of o (width_of (eqb wb 1)) (get_or l dst 0) 0 p))) h
    ∙ sym (ap (effect_of (core_of l p x)) e)

-- ---- operations

-- flags alone
pub flagged : (l : List ℕ) (p x : ℕ) {d : Executed} {o e : Computed} → o ≡ e → AsksNothing d o.psw x
    → effect_with l d ≡ plainly (with_psw (core_of l p x) e.psw)
flagged l p x h q = effect-parts _ refl (q.0 ∙ ap (λ (o : Computed). o.psw) h) q.1 q.2

-- flags and a register
pub operating : (l l' : List ℕ) (p x y i : ℕ) {d : Executed} {o e : Computed} → o ≡ e → Written l l' x y i o.value
    → AsksNothing d o.psw y → effect_with l' d ≡ plainly (operated (core_of l p x) i e)
operating l l' p x y i h w q =
    effect-parts _ (w.0 ∙ ap (λ (o : Computed). set l i o.value) h) (q.0 ∙ ap (λ (o : Computed). o.psw) h) (q.1 ∙ w.1) q.2

-- one operand
pub single : (l l' : List ℕ) (p x y i : ℕ) (b : Op) (byte : Bool) {v : ℕ} {d : Executed} {o : Computed} → v ≡ get_or l i 0
    → o ≡ alu_of b (width_of byte) v 0 p → Written l l' x y i o.value → AsksNothing d o.psw y
    → effect_with l' d ≡ plainly (operated (core_of l p x) i (alu_of b (width_of byte) (get_or l i 0) 0 p))
single l l' p x y i b byte h ho w q = operating l l' p x y i (ho ∙ ap (λ (v : ℕ). alu_of b (width_of byte) v 0 p) h) w q

-- two operands
module _ (l : List ℕ) (p x op rc wb src dst : ℕ) {v s : ℕ} {b : Op} {o : Computed} (hv : v ≡ get_or l dst 0)
    (hs : s ≡ operand (core_of l p x) rc src) (hb : b ≡ binary_op op) (ho : o ≡ alu_of b (width_of (eqb wb 1)) v s p) where
  result : o ≡ alu_of (binary_op op) (width_of (eqb wb 1)) (get_or l dst 0) (operand (core_of l p x) rc src) p
  result = cc

  pub tested : flags_only? op ≡ true → {d : Executed} → AsksNothing d o.psw x
      → effect_with l d ≡ effect_of (core_of l p x) (Instr.Alu op rc wb src dst)
  unfolding effect_of
  tested t q = rw t (flagged l p x result q)

  pub computed : flags_only? op ≡ false → (l' : List ℕ) (y : ℕ) {d : Executed} → Written l l' x y dst o.value
      → AsksNothing d o.psw y → effect_with l' d ≡ effect_of (core_of l p x) (Instr.Alu op rc wb src dst)
  unfolding effect_of
  computed t l' y w q = rw t (operating l l' p x y dst result w q)

-- ---- branches

-- LR, then PC; the write to LR leaves PC as it was
pub linked : (l m n : List ℕ) (p x y z : ℕ) (off : ℤ) {pc to : ℕ} {d : Executed} → pc ≡ get_or l 7 0 → Written l m x y 5 pc
    → to ≡ moved pc (doubled off) → Written m n y z 7 to → AsksNothing d p z
    → effect_with n d ≡ effect_of (core_of l p x) (Instr.Bl off)
unfolding effect_of
linked l m n p x y z off {pc} {to} hp w ht u q =
    let e : get_or (set l 5 (get_or l 7 0)) 7 0 ≡ get_or l 7 0 = get_or-set_other l 5 7 (get_or l 7 0) 0 (λ h. omega arith) in
    effect-parts _ (rw (u.0, w.0, ht, hp, e)) q.0 (q.1 ∙ u.1) q.2

pub branching : (l m : List ℕ) (p x y n : ℕ) (off : ℤ) {t : Bool} {pc to : ℕ} {d : Executed} → t ≡ taken_of n p → t ≡ true
    → pc ≡ get_or l 7 0 → to ≡ moved pc (doubled off) → Written l m x y 7 to → AsksNothing d p y
    → effect_with m d ≡ effect_of (core_of l p x) (Instr.Branch n off)
unfolding effect_of
branching l m p x y n off h t hp ht w q = rw (sym h ∙ t) (effect-parts _ (rw (w.0, ht, hp)) q.0 (q.1 ∙ w.1) q.2)

pub passing : (l : List ℕ) (p x n : ℕ) (off : ℤ) {t : Bool} {d : Executed} → t ≡ taken_of n p → t ≡ false → AsksNothing d p x
    → effect_with l d ≡ effect_of (core_of l p x) (Instr.Branch n off)
unfolding effect_of
passing l p x n off h t q = rw (sym h ∙ t) (effect-parts _ refl q.0 q.1 q.2)

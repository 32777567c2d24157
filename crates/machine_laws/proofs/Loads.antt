-- A register that is both index and destination of a load ends with the loaded word; what the code of a load leaves.
-- Assumes nothing.
use Prim.Native.Nat.{ℕ, ◌+◌, ◌^◌, ◌<◌}
use native.Mathlib.Omega.{arith}
use mathlib.Core.Bool.{Bool, true, false, cond}
use mathlib.Core.List.{List}
use mathlib.Core.Path.{◌≡◌, refl, sym, ap, subst, ◌∙◌}
use lib.Dec.{eqb}
use lib.ListN.{length, length-set, get_or, set}
use lib.Seq.{get_or-set_same}
use Rattle.word.specs.Width.{width_of, with_low}
use Rattle.isa.specs.declared.Instr.TheVariants.{Ld}
use Rattle.machine.specs.State.{Core, core_of, reg, pc, wrap}
use Rattle.machine.specs.Memory.{word_at, value_at}
use Rattle.machine.specs.Effect.{effect_of, indexed, loaded}
use Rattle.machine.specs.Step.{advanced, perform}
use Rattle.machine_laws.specs.Bounds.{Bytes}
use Rattle.machine_laws.specs.Loads.{LoadedLast}
use Rattle.machine_laws.proofs.Effects.{effect-eight}
use Rattle.machine_laws.proofs.Memory.{word_lt}
use Rattle.machine_laws.proofs.Plans.{granted-even}

advanced-eight : (c : Core) → length (advanced c).regs ≡ length c.regs
unfolding advanced
advanced-eight c = length-set c.regs 7 (wrap (pc c + 2))

pub loaded-last : LoadedLast
unfolding effect_of perform
loaded-last c prpo dec inc r l m eight h even =
    let moved = (effect_of (advanced c) (Ld prpo dec inc 0 r r)).core.regs in
    let e : 8 ≡ length moved = sym (effect-eight (advanced c) (Ld prpo dec inc 0 r r) ∙ advanced-eight c ∙ eight) in
    let w = word_at m (indexed (advanced c) r prpo dec inc 0) in
    let x = effect_of (advanced c) (Ld prpo dec inc 0 r r) in
    subst (λ p. reg (perform p.act p.core l m).core r ≡ w)
    (sym (granted-even c x.core x.access m (ap (λ n. eqb n 1) even))) (get_or-set_same moved r w 0 (subst (λ (n : ℕ). r < n) e h))

-- ---- what the code of a load leaves

-- a loaded value fits its width
pub value-lt : (byte : Bool) (m : List ℕ) (a v : ℕ) → Bytes m → v ≡ value_at byte m a → v < 2 ^ width_of byte
unfolding width_of
value-lt true m a v h e = subst (λ (x : ℕ). x < 256) (sym e) (h a)
value-lt false m a v h e = subst (λ (x : ℕ). x < 65536) (sym e) (word_lt m a h)

value-kept : (byte : Bool) (x v : ℕ) → x < 65536 → with_low (width_of byte) x v ≡ cond byte (with_low 8 x v) v
unfolding width_of
value-kept true x v h = refl
value-kept false x v h = omega arith

-- v is what stands there, x the register before, w what is put into it
pub load-law :
    (regs k m : List ℕ) (psw cex y : ℕ) (byte : Bool) (a d v x w : ℕ) → v ≡ value_at byte m a → x < 65536 → x ≡ get_or regs d 0
    → w ≡ with_low (width_of byte) x v → k ≡ set regs d w → y ≡ cond (eqb d 7) 0 cex →
    core_of k psw y ≡ loaded (core_of regs psw cex) byte d (value_at byte m a)
load-law regs k m psw cex y byte a d v x w ev hx ex ew ek ey =
    let w' : w ≡ cond byte (with_low 8 (get_or regs d 0) (value_at byte m a)) (value_at byte m a) =
    ew ∙ value-kept byte x v hx ∙ (λ i. cond byte (with_low 8 (ex i) (ev i)) (ev i)) in
    let k' = ek ∙ ap (set regs d) w' in
    λ i. core_of (k' i) psw (ey i)

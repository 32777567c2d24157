-- An arm for each form, in the order of `Instr`: the callee's answer is what `effect_of` has for that form (`arm`). What a callee asks of
-- its registers and its offset is what the bounds of the instruction's fields say (`Fields`). Assumes nothing.
use mathlib.Core.Path.{◌≡◌, refl, sym, ap, subst, ◌∙◌}
use lib.IntN.{ℤ}
use mir.Val.{to_z, of_z}
use mir.Syntax.{w16}
use borrow.Author.Rules.{rules}
use Rattle.word.specs.Width.{width_of}
use Rattle.isa.specs.declared.Instr.TheVariants as Instr
use Rattle.isa.specs.Fields.{Fields}
use Rattle.machine.specs.State.{Core, core_of}
use Rattle.machine.specs.Effect.{effect_of}
use Rattle.execute.proofs.Laws.{arm, arm-asks, arm-one}
use Rattle.execute.proofs.execute.Goals as goal
use Rattle.execute.proofs.execute.Goals.{Start}

-- the core that the instruction finds
abbrev found : Start → Core
found s = core_of s.args.regs.now s.args.psw s.args.cex

pub bl-requires : goal.bl-requires
bl-requires c =
    let e : to_z w16 (of_z w16 c.in-Bl.off) ≡ c.in-Bl.off = search rules in
    subst (λ (z : ℤ). Fields (Instr.Bl z)) (sym e) (subst Fields c.in-Bl.is c.requires)

pub branch-regs-requires : goal.branch-regs-requires
branch-regs-requires c =
    let e : to_z w16 (of_z w16 c.in-Branch.off) ≡ c.in-Branch.off = search rules in
    subst (λ (z : ℤ). Fields (Instr.Branch c.in-Branch.cond z)) (sym e) (subst Fields c.in-Branch.is c.requires)

pub swap-requires : goal.swap-requires
swap-requires c = let f = subst Fields c.in-Swap.is c.requires in (f.0, f.1)

pub one_operand-requires : goal.one_operand-requires
one_operand-requires c =
    let at-start = c in
    let f = subst Fields c.in-Unary.is at-start.requires in
    f.2

pub load_relative-requires : goal.load_relative-requires
load_relative-requires c =
    let e : to_z w16 (of_z w16 c.in-Ldr.off) ≡ c.in-Ldr.off = search rules in
    subst (λ (z : ℤ). Fields (Instr.Ldr z c.in-Ldr.wb c.in-Ldr.src c.in-Ldr.dst)) (sym e)
    (subst Fields c.in-Ldr.is c.requires)

pub store_relative-requires : goal.store_relative-requires
store_relative-requires c =
    let e : to_z w16 (of_z w16 c.in-Str.off) ≡ c.in-Str.off = search rules in
    subst (λ (z : ℤ). Fields (Instr.Str z c.in-Str.wb c.in-Str.src c.in-Str.dst)) (sym e)
    (subst Fields c.in-Str.is c.requires)

pub returns-in-Illegal : goal.returns-in-Illegal
unfolding effect_of
returns-in-Illegal c = let s : Start = search in arm-asks (found s) c.in-Illegal.is c.asks.ensures refl

pub returns-in-Bl : goal.returns-in-Bl
returns-in-Bl c =
    let s : Start = search in
    let k = found s in
    let e : to_z w16 (of_z w16 c.in-Bl.off) ≡ c.in-Bl.off = search rules in
    arm k c.in-Bl.is (c.bl.ensures ∙ ap (λ (z : ℤ). effect_of k (Instr.Bl z)) e)

pub returns-in-Branch : goal.returns-in-Branch
returns-in-Branch c =
    let s : Start = search in
    let k = found s in
    let e : to_z w16 (of_z w16 c.in-Branch.off) ≡ c.in-Branch.off = search rules in
    arm k c.in-Branch.is (c.branch-regs.ensures ∙ ap (λ (z : ℤ). effect_of k (Instr.Branch c.in-Branch.cond z)) e)

pub returns-in-Alu : goal.returns-in-Alu
returns-in-Alu c = let s : Start = search in arm (found s) c.in-Alu.is c.arithmetic.ensures

pub returns-in-Mov : goal.returns-in-Mov
returns-in-Mov c = let s : Start = search in arm (found s) c.in-Mov.is c.mov.ensures

pub returns-in-Swap : goal.returns-in-Swap
returns-in-Swap c = let s : Start = search in arm (found s) c.in-Swap.is (c.swap.ensures _)

pub returns-in-Unary : goal.returns-in-Unary
returns-in-Unary c =
    let at-start = c in
    let a = at-start.args in
    let g = c.in-Unary.is in
    arm-one a.regs.now a.psw a.cex _ _ _ g c.unary.ensures c.one_operand.ensures

pub returns-in-Swpb : goal.returns-in-Swpb
unfolding effect_of width_of
returns-in-Swpb c = let s : Start = search in arm (found s) c.in-Swpb.is c.one_operand-in-Swpb.ensures

pub returns-in-Sxt : goal.returns-in-Sxt
unfolding effect_of width_of
returns-in-Sxt c = let s : Start = search in arm (found s) c.in-Sxt.is c.one_operand-in-Sxt.ensures

pub returns-in-SetPri : goal.returns-in-SetPri
returns-in-SetPri c =
    let s : Start = search in
    arm (found s) c.in-SetPri.is (c.set_priority.ensures s.args.regs.now)

pub returns-in-Svc : goal.returns-in-Svc
unfolding effect_of
returns-in-Svc c = let s : Start = search in arm-asks (found s) c.in-Svc.is c.asks-in-Svc.ensures refl

pub returns-in-SetCc : goal.returns-in-SetCc
returns-in-SetCc c =
    let s : Start = search in
    arm (found s) c.in-SetCc.is (c.set_flags.ensures s.args.regs.now)

pub returns-in-ClrCc : goal.returns-in-ClrCc
returns-in-ClrCc c =
    let s : Start = search in
    arm (found s) c.in-ClrCc.is (c.clear_flags.ensures s.args.regs.now)

pub returns-in-Cex : goal.returns-in-Cex
returns-in-Cex c =
    let s : Start = search in
    arm (found s) c.in-Cex.is (c.load_cex.ensures s.args.regs.now)

pub returns-in-Ld : goal.returns-in-Ld
returns-in-Ld c = let s : Start = search in arm (found s) c.in-Ld.is c.load_indexed.ensures

pub returns-in-St : goal.returns-in-St
returns-in-St c = let s : Start = search in arm (found s) c.in-St.is c.store_indexed.ensures

pub returns-in-MovImm : goal.returns-in-MovImm
returns-in-MovImm c = let s : Start = search in arm (found s) c.in-MovImm.is c.move_immediate.ensures

pub returns-in-Ldr : goal.returns-in-Ldr
returns-in-Ldr c =
    let s : Start = search in
    let k = found s in
    let e : to_z w16 (of_z w16 c.in-Ldr.off) ≡ c.in-Ldr.off = search rules in
    arm k c.in-Ldr.is (c.load_relative.ensures ∙ ap (λ (z : ℤ). effect_of k (Instr.Ldr z c.in-Ldr.wb c.in-Ldr.src c.in-Ldr.dst)) e)

pub returns-in-Str : goal.returns-in-Str
returns-in-Str c =
    let s : Start = search in
    let k = found s in
    let e : to_z w16 (of_z w16 c.in-Str.off) ≡ c.in-Str.off = search rules in
    arm k c.in-Str.is (c.store_relative.ensures ∙ ap (λ (z : ℤ). effect_of k (Instr.Str z c.in-Str.wb c.in-Str.src c.in-Str.dst)) e)

pub arithmetic-requires : goal.arithmetic-requires
arithmetic-requires c = subst Fields c.in-Alu.is c.requires

pub mov-requires : goal.mov-requires
mov-requires c = subst Fields c.in-Mov.is c.requires

pub one_operand-requires-in-Swpb : goal.one_operand-requires-in-Swpb
one_operand-requires-in-Swpb c = (subst Fields c.in-Swpb.is c.requires).0

pub one_operand-requires-in-Sxt : goal.one_operand-requires-in-Sxt
one_operand-requires-in-Sxt c = (subst Fields c.in-Sxt.is c.requires).0

pub set_priority-requires : goal.set_priority-requires
set_priority-requires c = subst Fields c.in-SetPri.is c.requires

pub set_flags-requires : goal.set_flags-requires
set_flags-requires c = subst Fields c.in-SetCc.is c.requires

pub clear_flags-requires : goal.clear_flags-requires
clear_flags-requires c = subst Fields c.in-ClrCc.is c.requires

pub load_cex-requires : goal.load_cex-requires
load_cex-requires c = subst Fields c.in-Cex.is c.requires

pub load_indexed-requires : goal.load_indexed-requires
load_indexed-requires c = subst Fields c.in-Ld.is c.requires

pub store_indexed-requires : goal.store_indexed-requires
store_indexed-requires c = subst Fields c.in-St.is c.requires

pub move_immediate-requires : goal.move_immediate-requires
move_immediate-requires c = subst Fields c.in-MovImm.is c.requires

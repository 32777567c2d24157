-- Which instructions are legal. Assumes nothing.
use Rattle.std.specs.Prelude.{Bool, true, false}
use Rattle.isa.specs.declared.Instr.{Instr}
use Rattle.isa.specs.declared.Instr.TheVariants.{Illegal, Bl, Branch, Alu, Mov, Swap, Unary, Swpb, Sxt, SetPri}
use Rattle.isa.specs.declared.Instr.TheVariants.{Svc, SetCc, ClrCc, Cex, Ld, St, MovImm, Ldr, Str}

-- Every instruction but the illegal one. [01 Who can be turned back]
abbrev pub is_legal : Instr → Bool
is_legal Illegal = false
is_legal (Bl off) = true
is_legal (Branch cond off) = true
is_legal (Alu op rc wb src dst) = true
is_legal (Mov wb src dst) = true
is_legal (Swap src dst ignored) = true
is_legal (Unary op wb dst) = true
is_legal (Swpb dst ignored) = true
is_legal (Sxt dst ignored) = true
is_legal (SetPri level) = true
is_legal (Svc vector) = true
is_legal (SetCc flags) = true
is_legal (ClrCc flags) = true
is_legal (Cex cond onTrue onFalse) = true
is_legal (Ld prpo dec inc wb src dst) = true
is_legal (St prpo dec inc wb src dst) = true
is_legal (MovImm op byte dst) = true
is_legal (Ldr off wb src dst) = true
is_legal (Str off wb src dst) = true

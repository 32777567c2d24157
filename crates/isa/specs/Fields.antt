-- The bounds that the fields of each format keep: what a decoder gives and an encoder takes. Assumes nothing.
use Rattle.std.specs.Prelude.{◌<◌}
use Rattle.std.specs.Int.Signed.{mag}
use Rattle.isa.specs.declared.Instr.{Instr}
use Rattle.isa.specs.declared.Instr.TheVariants.{Illegal, Bl, Branch, Alu, Mov, Swap, Unary, Swpb, Sxt, SetPri}
use Rattle.isa.specs.declared.Instr.TheVariants.{Svc, SetCc, ClrCc, Cex, Ld, St, MovImm, Ldr, Str}

-- Every field of an instruction is one that its format can hold; mag z is n for n and for -(n + 1). [003 14; 02 §14]
abbrev pub Fields : Instr → Type 0
Fields Illegal = Unit {0}
Fields (Bl off) = mag off < 4096
Fields (Branch cond off) = (cond < 8) × (mag off < 512)
Fields (Alu op rc wb src dst) = (op < 12) × (rc < 2) × (wb < 2) × (src < 8) × (dst < 8)
Fields (Mov wb src dst) = (wb < 2) × (src < 8) × (dst < 8)
Fields (Swap src dst ignored) = (src < 8) × (dst < 8) × (ignored < 2)
Fields (Unary op wb dst) = (op < 3) × (wb < 2) × (dst < 8)
Fields (Swpb dst ignored) = (dst < 8) × (ignored < 2)
Fields (Sxt dst ignored) = (dst < 8) × (ignored < 2)
Fields (SetPri level) = level < 8
Fields (Svc vector) = vector < 16
Fields (SetCc flags) = flags < 32
Fields (ClrCc flags) = flags < 32
Fields (Cex cond onTrue onFalse) = (cond < 16) × (onTrue < 8) × (onFalse < 8)
Fields (Ld prpo dec inc wb src dst) = (prpo < 2) × (dec < 2) × (inc < 2) × (wb < 2) × (src < 8) × (dst < 8)
Fields (St prpo dec inc wb src dst) = (prpo < 2) × (dec < 2) × (inc < 2) × (wb < 2) × (src < 8) × (dst < 8)
Fields (MovImm op byte dst) = (op < 4) × (byte < 256) × (dst < 8)
Fields (Ldr off wb src dst) = (mag off < 64) × (wb < 2) × (src < 8) × (dst < 8)
Fields (Str off wb src dst) = (mag off < 64) × (wb < 2) × (src < 8) × (dst < 8)

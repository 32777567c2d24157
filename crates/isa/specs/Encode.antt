-- The word of each instruction; none where it is illegal or a field does not fit its format.
-- Assumes nothing.
use Rattle.std.specs.Prelude.{ℕ, ◌+◌, ◌*◌, Bool, cond, ◌&&◌, ltb, ℤ, Option, Some, None}
use Rattle.word.specs.Offset.{bits_of, off_fits}
use Rattle.isa.specs.declared.Instr.{Instr}
use Rattle.isa.specs.declared.Instr.TheVariants.{Illegal, Bl, Branch, Alu, Mov, Swap, Unary, Swpb, Sxt, SetPri}
use Rattle.isa.specs.declared.Instr.TheVariants.{Svc, SetCc, ClrCc, Cex, Ld, St, MovImm, Ldr, Str}

-- The word, where every field fits. [01 Who can be turned back]
abbrev pub when_fits : Bool → ℕ → Option ℕ
when_fits fits w = cond fits (Some w) None

-- Three fields below their limits, the last below 8: MOV, SWAP, SRA to COMP, CEX. [003 14]
abbrev pub three_word : ℕ → ℕ → ℕ → ℕ → ℕ → ℕ → Option ℕ
three_word base high middle x y z = when_fits (ltb x high && ltb y middle && ltb z 8) (base + x * 64 + y * 8 + z)

-- SWPB and SXT, which differ in the word that all fields zero have. [003 14; 02 §14]
abbrev pub register_word : ℕ → ℕ → ℕ → Option ℕ
register_word base dst ignored = when_fits (ltb dst 8 && ltb ignored 2) (base + ignored * 64 + dst)

-- LD and ST, likewise. [003 14]
abbrev pub indexed_word : ℕ → ℕ → ℕ → ℕ → ℕ → ℕ → ℕ → Option ℕ
indexed_word base prpo dec inc wb src dst =
    when_fits (ltb prpo 2 && ltb dec 2 && ltb inc 2 && ltb wb 2 && ltb src 8 && ltb dst 8)
    (base + prpo * 512 + dec * 256 + inc * 128 + wb * 64 + src * 8 + dst)

-- LDR and STR, likewise. [003 14]
abbrev pub relative_word : ℕ → ℤ → ℕ → ℕ → ℕ → Option ℕ
relative_word base off wb src dst =
    when_fits (off_fits 64 off && ltb wb 2 && ltb src 8 && ltb dst 8)
    (base + bits_of 64 off * 128 + wb * 64 + src * 8 + dst)

-- The word of an instruction, with the ignored bit that it carries. [003 14; 01 Who can be turned back; 02 §14]
unfoldable pub encode_of : Instr → Option ℕ
encode_of Illegal = None
encode_of (Bl off) = when_fits (off_fits 4096 off) (bits_of 4096 off)
encode_of (Branch cond off) = when_fits (ltb cond 8 && off_fits 512 off) (0x2000 + cond * 1024 + bits_of 512 off)
encode_of (Alu op rc wb src dst) =
    when_fits (ltb op 12 && ltb rc 2 && ltb wb 2 && ltb src 8 && ltb dst 8)
    (0x4000 + op * 256 + rc * 128 + wb * 64 + src * 8 + dst)
encode_of (Mov wb src dst) = when_fits (ltb wb 2 && ltb src 8 && ltb dst 8) (0x4C00 + wb * 64 + src * 8 + dst)
encode_of (Swap src dst ignored) =
    when_fits (ltb src 8 && ltb dst 8 && ltb ignored 2) (0x4C80 + ignored * 64 + src * 8 + dst)
encode_of (Unary op wb dst) = when_fits (ltb op 3 && ltb wb 2 && ltb dst 8) (0x4D00 + wb * 64 + op * 8 + dst)
encode_of (Swpb dst ignored) = register_word 0x4D18 dst ignored
encode_of (Sxt dst ignored) = register_word 0x4D20 dst ignored
encode_of (SetPri level) = when_fits (ltb level 8) (0x4D80 + level)
encode_of (Svc vector) = when_fits (ltb vector 16) (0x4DA0 + vector)
encode_of (SetCc flags) = when_fits (ltb flags 32) (0x4DC0 + flags)
encode_of (ClrCc flags) = when_fits (ltb flags 32) (0x4DE0 + flags)
encode_of (Cex cond onTrue onFalse) =
    when_fits (ltb cond 16 && ltb onTrue 8 && ltb onFalse 8) (0x5000 + cond * 64 + onTrue * 8 + onFalse)
encode_of (Ld prpo dec inc wb src dst) = indexed_word 0x5800 prpo dec inc wb src dst
encode_of (St prpo dec inc wb src dst) = indexed_word 0x5C00 prpo dec inc wb src dst
encode_of (MovImm op byte dst) =
    when_fits (ltb op 4 && ltb byte 256 && ltb dst 8) (0x6000 + op * 2048 + byte * 8 + dst)
encode_of (Ldr off wb src dst) = relative_word 0x8000 off wb src dst
encode_of (Str off wb src dst) = relative_word 0xC000 off wb src dst

-- What each of the 65,536 words means: table 25 of 003 by ranges of leading bits. In every definition here each row has
-- the words below its limit that the rows above it leave. In the bit patterns o is an offset with its sign, r the
-- register or constant bit, w the word or byte bit, s the source, d the destination and i the ignored bit, which the
-- instruction carries. Assumes nothing.
use Rattle.std.specs.Prelude.{ℕ, ◌/◌, ◌%◌, cond, ltb}
use Rattle.word.specs.Offset.{signed_of}
use Rattle.isa.specs.declared.Instr.{Instr}
use Rattle.isa.specs.declared.Instr.TheVariants.{Illegal, Bl, Branch, Alu, Mov, Swap, Unary, Swpb, Sxt, SetPri}
use Rattle.isa.specs.declared.Instr.TheVariants.{Svc, SetCc, ClrCc, Cex, Ld, St, MovImm, Ldr, Str}

-- 4D00 to 4D7F, by bits 5 to 3. [003 14; 02 §14]
abbrev pub unary_of : ℕ → Instr
unary_of w =
    -- SRA, RRC, COMP: 4D00-4D17, 4D40-4D57, 01001101 0 w ooo ddd with ooo 0, 1, 2
    cond (ltb (w / 8 % 8) 3) (Unary (w / 8 % 8) (w / 64 % 2) (w % 8))
    -- SWPB: 4D18-4D1F, 4D58-4D5F, 01001101 0 i 011 ddd
    (cond (ltb (w / 8 % 8) 4) (Swpb (w % 8) (w / 64 % 2))
    -- SXT: 4D20-4D27, 4D60-4D67, 01001101 0 i 100 ddd
    (cond (ltb (w / 8 % 8) 5) (Sxt (w % 8) (w / 64 % 2))
    -- none: 4D28-4D3F, 4D68-4D7F
    Illegal))

-- 4D80 to 4DFF. [003 14]
abbrev pub control_of : ℕ → Instr
control_of w =
    -- SETPRI: 4D80-4D87, 01001101 10000 ppp
    cond (ltb w 0x4D88) (SetPri (w % 8))
    -- none: 4D88-4D9F
    (cond (ltb w 0x4DA0) Illegal
    -- SVC: 4DA0-4DAF, 01001101 1010 aaaa
    (cond (ltb w 0x4DB0) (Svc (w % 16))
    -- none: 4DB0-4DBF
    (cond (ltb w 0x4DC0) Illegal
    -- SETCC: 4DC0-4DDF, 01001101 110 v s n z c
    (cond (ltb w 0x4DE0) (SetCc (w % 32))
    -- CLRCC: 4DE0-4DFF, 01001101 111 v s n z c
    (ClrCc (w % 32))))))

-- 4C00 to 4FFF. [003 14; 02 §14]
abbrev pub misc_of : ℕ → Instr
misc_of w =
    -- MOV: 4C00-4C7F, 01001100 0 w sss ddd
    cond (ltb w 0x4C80) (Mov (w / 64 % 2) (w / 8 % 8) (w % 8))
    -- SWAP: 4C80-4CFF, 01001100 1 i sss ddd
    (cond (ltb w 0x4D00) (Swap (w / 8 % 8) (w % 8) (w / 64 % 2))
    -- SRA, RRC, COMP, SWPB, SXT: 4D00-4D7F, 01001101 0 .......
    (cond (ltb w 0x4D80) (unary_of w)
    -- SETPRI, SVC, SETCC, CLRCC: 4D80-4DFF, 01001101 1 .......
    (cond (ltb w 0x4E00) (control_of w)
    -- none: 4E00-4FFF
    Illegal)))

-- 5000 to 5FFF. [003 14]
abbrev pub memory_of : ℕ → Instr
memory_of w =
    -- CEX: 5000-53FF, 010100 cccc ttt fff
    cond (ltb w 0x5400) (Cex (w / 64 % 16) (w / 8 % 8) (w % 8))
    -- none: 5400-57FF
    (cond (ltb w 0x5800) Illegal
    -- LD: 5800-5BFF, 010110 p d i w sss ddd (PRPO, DEC, INC)
    (cond (ltb w 0x5C00) (Ld (w / 512 % 2) (w / 256 % 2) (w / 128 % 2) (w / 64 % 2) (w / 8 % 8) (w % 8))
    -- ST: 5C00-5FFF, 010111 p d i w sss ddd
    (St (w / 512 % 2) (w / 256 % 2) (w / 128 % 2) (w / 64 % 2) (w / 8 % 8) (w % 8))))

-- 8000 to FFFF. [003 14]
abbrev pub relative_of : ℕ → Instr
relative_of w =
    -- LDR: 8000-BFFF, 10 ooooooo w sss ddd
    cond (ltb w 0xC000) (Ldr (signed_of 64 (w / 128 % 128)) (w / 64 % 2) (w / 8 % 8) (w % 8))
    -- STR: C000-FFFF, 11 ooooooo w sss ddd
    (Str (signed_of 64 (w / 128 % 128)) (w / 64 % 2) (w / 8 % 8) (w % 8))

-- The instruction that a word means. A printed 0 or 1 of the table is an opcode bit. [003 14]
unfoldable pub decode_of : ℕ → Instr
decode_of w =
    -- BL: 0000-1FFF, 000 ooooooooooooo
    cond (ltb w 0x2000) (Bl (signed_of 4096 (w % 8192)))
    -- BEQ, BNE, BC, BNC, BN, BGE, BLT, BRA: 2000-3FFF, 001 ccc oooooooooo
    (cond (ltb w 0x4000) (Branch (w / 1024 % 8) (signed_of 512 (w % 1024)))
    -- ADD, ADDC, SUB, SUBC, DADD, CMP, XOR, AND, OR, BIT, BIC, BIS: 4000-4BFF, 0100 oooo r w sss ddd
    (cond (ltb w 0x4C00) (Alu (w / 256 % 16) (w / 128 % 2) (w / 64 % 2) (w / 8 % 8) (w % 8))
    -- MOV, SWAP, one register, control: 4C00-4FFF, 010011 ..........
    (cond (ltb w 0x5000) (misc_of w)
    -- CEX, LD, ST: 5000-5FFF, 0101 ............
    (cond (ltb w 0x6000) (memory_of w)
    -- MOVL, MOVLZ, MOVLS, MOVH: 6000-7FFF, 011 oo bbbbbbbb ddd
    (cond (ltb w 0x8000) (MovImm (w / 2048 % 4) (w / 8 % 256) (w % 8))
    -- LDR, STR: 8000-FFFF, 1 ...............
    (relative_of w))))))

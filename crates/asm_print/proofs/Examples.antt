-- Texts at place $0100, computed. Assumes nothing.
use mathlib.Core.Path.{◌≡◌, refl}
use Rattle.text.specs.Text.{hex_of, decimal_of}
use Rattle.isa.specs.Decode.{decode_of}
use Rattle.asm_text.specs.Text.{ascii}
use Rattle.asm_words.specs.Words.{branches, operations, unaries, moves, conditions}
use Rattle.asm_print.specs.Print.{name_in, condition_text, register_names, register_text, number_text}
use Rattle.asm_print.specs.Print.{hex_text, constant_of, flags_text, address_text, phrase, word_text, branch_text, text_for, text_at}

-- each format, its ends, and words with no notation. [call text; 02 §12; 003 14]
pub texts :
    (text_at 0x100 0x0000 ≡ ascii "BL $0102")
    × (text_at 0x100 0x1FFF ≡ ascii "BL $0100")
    × (text_at 0x100 0x0FFF ≡ ascii "BL $2100")
    × (text_at 0x100 0x1000 ≡ ascii "BL $E102")
    × (text_at 0x100 0x2001 ≡ ascii "BEQ $0104")
    × (text_at 0x100 0x27FF ≡ ascii "BNE $0100")
    × (text_at 0x100 0x3E00 ≡ ascii "BRA $FD02")
    × (text_at 0x100 0x3DFF ≡ ascii "BRA $0500")
    × (text_at 0x100 0x4000 ≡ ascii "ADD R0,R0")
    × (text_at 0x100 0x4145 ≡ ascii "ADDC.B R0,LR")
    × (text_at 0x100 0x42B9 ≡ ascii "SUB #-1,R1")
    × (text_at 0x100 0x46C3 ≡ ascii "XOR.B #0,R3")
    × (text_at 0x100 0x4BFE ≡ ascii "BIS.B #-1,SP")
    × (text_at 0x100 0x4C53 ≡ ascii "MOV.B R2,R3")
    × (text_at 0x100 0x4C8A ≡ ascii "SWAP R1,R2")
    × (text_at 0x100 0x4CCA ≡ ascii "WORD $4CCA")
    × (text_at 0x100 0x4D04 ≡ ascii "SRA R4")
    × (text_at 0x100 0x4D4D ≡ ascii "RRC.B LR")
    × (text_at 0x100 0x4D57 ≡ ascii "COMP.B PC")
    × (text_at 0x100 0x4D1A ≡ ascii "SWPB R2")
    × (text_at 0x100 0x4D5A ≡ ascii "WORD $4D5A")
    × (text_at 0x100 0x4D25 ≡ ascii "SXT LR")
    × (text_at 0x100 0x4D29 ≡ ascii "WORD $4D29")
    × (text_at 0x100 0x4D87 ≡ ascii "SETPRI #7")
    × (text_at 0x100 0x4DAF ≡ ascii "SVC #15")
    × (text_at 0x100 0x4DC0 ≡ ascii "WORD $4DC0")
    × (text_at 0x100 0x4DD9 ≡ ascii "SETCC VSC")
    × (text_at 0x100 0x4DFF ≡ ascii "CLRCC VSNZC")
    × (text_at 0x100 0x4E00 ≡ ascii "WORD $4E00")
    × (text_at 0x100 0x5008 ≡ ascii "CEX EQ,#1,#0")
    × (text_at 0x100 0x53FF ≡ ascii "CEX FL,#7,#7")
    × (text_at 0x100 0x5400 ≡ ascii "WORD $5400")
    × (text_at 0x100 0x580A ≡ ascii "LD R1,R2")
    × (text_at 0x100 0x5A8D ≡ ascii "LD +R1,LR")
    × (text_at 0x100 0x5B4B ≡ ascii "LD.B -R1,R3")
    × (text_at 0x100 0x5895 ≡ ascii "LD R2+,LR")
    × (text_at 0x100 0x590A ≡ ascii "LD R1-,R2")
    × (text_at 0x100 0x5980 ≡ ascii "WORD $5980")
    × (text_at 0x100 0x5C0A ≡ ascii "ST R1,R2")
    × (text_at 0x100 0x5EC6 ≡ ascii "ST.B R0,+SP")
    × (text_at 0x100 0x5D73 ≡ ascii "ST.B SP,R3-")
    × (text_at 0x100 0x5DB0 ≡ ascii "WORD $5DB0")
    × (text_at 0x100 0x6000 ≡ ascii "MOVL $00,R0")
    × (text_at 0x100 0x67FD ≡ ascii "MOVL $FF,LR")
    × (text_at 0x100 0x7B57 ≡ ascii "MOVH $6A,PC")
    × (text_at 0x100 0x8001 ≡ ascii "LDR R0,#0,R1")
    × (text_at 0x100 0x9FC6 ≡ ascii "LDR.B R0,#63,SP")
    × (text_at 0x100 0xA00A ≡ ascii "LDR R1,#-64,R2")
    × (text_at 0x100 0xBFFF ≡ ascii "LDR.B PC,#-1,PC")
    × (text_at 0x100 0xC001 ≡ ascii "STR R0,R1,#0")
    × (text_at 0x100 0xE042 ≡ ascii "STR.B R0,R2,#-64")
    × (text_at 0x100 0xFFFF ≡ ascii "STR.B PC,PC,#-1")
    -- a branch at an odd place: WORD $2001
    × (text_at 0x101 0x2001 ≡ ascii "WORD $2001")
unfolding decode_of branches operations unaries moves conditions name_in condition_text register_names register_text number_text decimal_of
    hex_text hex_of constant_of flags_text address_text phrase word_text branch_text text_for text_at
texts = (
  refl,
  refl,
  refl,
  refl,
  refl,
  refl,
  refl,
  refl,
  refl,
  refl,
  refl,
  refl,
  refl,
  refl,
  refl,
  refl,
  refl,
  refl,
  refl,
  refl,
  refl,
  refl,
  refl,
  refl,
  refl,
  refl,
  refl,
  refl,
  refl,
  refl,
  refl,
  refl,
  refl,
  refl,
  refl,
  refl,
  refl,
  refl,
  refl,
  refl,
  refl,
  refl,
  refl,
  refl,
  refl,
  refl,
  refl,
  refl,
  refl,
  refl,
  refl,
  refl,
  refl,
)

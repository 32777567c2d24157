-- An instruction as one number of eight bytes, for hosts that pass only numbers. Byte 0, the lowest, is the format: 0
-- to 18 in the order of the enum, 0 the illegal one. Bytes 1 to 5 are the first five one-byte fields in order. Bytes
-- 6 and 7 are the sixth field, or the offset in two's complement. All else is zero. Assumes nothing.
use Rattle.std.specs.Prelude.{ℕ, ◌+◌, ◌*◌, ◌/◌, ◌%◌, cond, ltb, ℤ}
use Rattle.word.specs.Offset.{signed_of, bits_of}
use Rattle.isa.specs.declared.Instr.{Instr}
use Rattle.isa.specs.declared.Instr.TheVariants.{Illegal, Bl, Branch, Alu, Mov, Swap, Unary, Swpb, Sxt, SetPri}
use Rattle.isa.specs.declared.Instr.TheVariants.{Svc, SetCc, ClrCc, Cex, Ld, St, MovImm, Ldr, Str}

-- The number of a format, five fields, and the two bytes above them. [01 State and memory]
abbrev pub bytes_of : ℕ → ℕ → ℕ → ℕ → ℕ → ℕ → ℕ → ℕ
bytes_of format a b c d e x =
    format + a * 0x100 + b * 0x10000 + c * 0x1000000 + d * 0x100000000 + e * 0x10000000000 + x * 0x1000000000000

-- An instruction's number. The ignored bit is the field after the destination. [01 State and memory; 02 §14]
unfoldable pub number_of : Instr → ℕ
number_of Illegal = bytes_of 0 0 0 0 0 0 0
number_of (Bl off) = bytes_of 1 0 0 0 0 0 (bits_of 0x8000 off)
number_of (Branch cond off) = bytes_of 2 cond 0 0 0 0 (bits_of 0x8000 off)
number_of (Alu op rc wb src dst) = bytes_of 3 op rc wb src dst 0
number_of (Mov wb src dst) = bytes_of 4 wb src dst 0 0 0
number_of (Swap src dst ignored) = bytes_of 5 src dst ignored 0 0 0
number_of (Unary op wb dst) = bytes_of 6 op wb dst 0 0 0
number_of (Swpb dst ignored) = bytes_of 7 dst ignored 0 0 0 0
number_of (Sxt dst ignored) = bytes_of 8 dst ignored 0 0 0 0
number_of (SetPri level) = bytes_of 9 level 0 0 0 0 0
number_of (Svc vector) = bytes_of 10 vector 0 0 0 0 0
number_of (SetCc flags) = bytes_of 11 flags 0 0 0 0 0
number_of (ClrCc flags) = bytes_of 12 flags 0 0 0 0 0
number_of (Cex cond onTrue onFalse) = bytes_of 13 cond onTrue onFalse 0 0 0
number_of (Ld prpo dec inc wb src dst) = bytes_of 14 prpo dec inc wb src dst
number_of (St prpo dec inc wb src dst) = bytes_of 15 prpo dec inc wb src dst
number_of (MovImm op byte dst) = bytes_of 16 op byte dst 0 0 0
number_of (Ldr off wb src dst) = bytes_of 17 wb src dst 0 0 (bits_of 0x8000 off)
number_of (Str off wb src dst) = bytes_of 18 wb src dst 0 0 (bits_of 0x8000 off)

-- The parts of a number: its format, its fields, its offset. [01 State and memory]
abbrev pub format_in : ℕ → ℕ
format_in n = n % 256

abbrev pub field1 : ℕ → ℕ
field1 n = n / 0x100 % 256

abbrev pub field2 : ℕ → ℕ
field2 n = n / 0x10000 % 256

abbrev pub field3 : ℕ → ℕ
field3 n = n / 0x1000000 % 256

abbrev pub field4 : ℕ → ℕ
field4 n = n / 0x100000000 % 256

abbrev pub field5 : ℕ → ℕ
field5 n = n / 0x10000000000 % 256

abbrev pub field6 : ℕ → ℕ
field6 n = n / 0x1000000000000 % 256

abbrev pub offset_in : ℕ → ℤ
offset_in n = signed_of 0x8000 (n / 0x1000000000000 % 0x10000)

-- Formats 0 to 3; here and below each row has the formats below its limit that the rows above leave.
-- [01 State and memory]
abbrev pub up_to3_of : ℕ → Instr
up_to3_of n =
    cond (ltb (format_in n) 1) Illegal
    (cond (ltb (format_in n) 2) (Bl (offset_in n))
    (cond (ltb (format_in n) 3) (Branch (field1 n) (offset_in n))
    (Alu (field1 n) (field2 n) (field3 n) (field4 n) (field5 n))))

-- Formats 4 to 6. [01 State and memory]
abbrev pub up_to6_of : ℕ → Instr
up_to6_of n =
    cond (ltb (format_in n) 5) (Mov (field1 n) (field2 n) (field3 n))
    (cond (ltb (format_in n) 6) (Swap (field1 n) (field2 n) (field3 n))
    (Unary (field1 n) (field2 n) (field3 n)))

-- Formats 7 to 12. [01 State and memory]
abbrev pub up_to12_of : ℕ → Instr
up_to12_of n =
    cond (ltb (format_in n) 8) (Swpb (field1 n) (field2 n))
    (cond (ltb (format_in n) 9) (Sxt (field1 n) (field2 n))
    (cond (ltb (format_in n) 10) (SetPri (field1 n))
    (cond (ltb (format_in n) 11) (Svc (field1 n))
    (cond (ltb (format_in n) 12) (SetCc (field1 n))
    (ClrCc (field1 n))))))

-- Formats 13 to 15. [01 State and memory]
abbrev pub up_to15_of : ℕ → Instr
up_to15_of n =
    cond (ltb (format_in n) 14) (Cex (field1 n) (field2 n) (field3 n))
    (cond (ltb (format_in n) 15) (Ld (field1 n) (field2 n) (field3 n) (field4 n) (field5 n) (field6 n))
    (St (field1 n) (field2 n) (field3 n) (field4 n) (field5 n) (field6 n)))

-- Formats 16 to 18. [01 State and memory]
abbrev pub up_to18_of : ℕ → Instr
up_to18_of n =
    cond (ltb (format_in n) 17) (MovImm (field1 n) (field2 n) (field3 n))
    (cond (ltb (format_in n) 18) (Ldr (offset_in n) (field1 n) (field2 n) (field3 n))
    (Str (offset_in n) (field1 n) (field2 n) (field3 n)))

-- The instruction that a number's bytes name; unused bytes are not looked at. [01 State and memory]
unfoldable pub instr_of : ℕ → Instr
instr_of n =
    cond (ltb (format_in n) 4) (up_to3_of n)
    (cond (ltb (format_in n) 7) (up_to6_of n)
    (cond (ltb (format_in n) 13) (up_to12_of n)
    (cond (ltb (format_in n) 16) (up_to15_of n)
    (cond (ltb (format_in n) 19) (up_to18_of n)
    Illegal))))

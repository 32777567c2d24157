-- What each arithmetic and logical instruction leaves in its destination and in the PSW, over the width w.
-- d is the destination, s the source, p the PSW. Assumes nothing.
use Rattle.std.specs.Prelude.{Bool, false, cond, ℕ, ◌+◌, ◌-◌, ◌*◌, ◌/◌, ◌%◌, ◌^◌, leb, ltb, eqb}
use Rattle.std.specs.Int.Bits.{bit_and, bit_or, bit_xor}
use Rattle.word.specs.Width.{bit, low, with_low, turned}
use Rattle.word.specs.Psw.{put_bit, carry_of}
use Rattle.alu.specs.declared.Sum.{Sum}
use Rattle.alu.specs.declared.Computed.{Computed}
use Rattle.alu.specs.declared.Op.{Op}
use Rattle.alu.specs.declared.Op.TheVariants.{Add, Addc, Sub, Subc, Cmp, Dadd, And, Or, Xor}
use Rattle.alu.specs.declared.Op.TheVariants.{Bit, Bic, Bis, Sra, Rrc, Comp, Swpb, Sxt}
use Rattle.alu.specs.Sums.{add_with_carry, overflow_of, negative}
use Rattle.alu.specs.Decimal.{decimal_sum}

-- ---- flags

-- Z of a result v. [01 Arithmetic]
abbrev pub zero_flag : (p v : ℕ) → ℕ
zero_flag p v = put_bit 1 p (eqb v 0)

-- Z and N of a result v of w bits. [01 Arithmetic]
abbrev pub sign_flags : (w p v : ℕ) → ℕ
sign_flags w p v = put_bit 2 (zero_flag p v) (negative w v)

-- ---- results written to the destination

-- a logical result, with Z and N: AND, OR, XOR, COMP. [01 Arithmetic]
abbrev pub logical : (w d p v : ℕ) → Computed
logical w d p v = record { value = with_low w d v; psw = sign_flags w p v }

-- a sum, with C, Z and N; v is its V. [01 Arithmetic]
abbrev pub all_flags : (w d p : ℕ) → Sum → Bool → Computed
all_flags w d p s v =
    record { value = with_low w d s.value; psw = put_bit 4 (sign_flags w (put_bit 0 p s.carry) s.value) v }

-- the sum of the destination, the addend b and the carry c: ADD, ADDC, SUB, SUBC, CMP. [01 Arithmetic; 003 8.3]
abbrev pub summed : (w d b c p : ℕ) → Computed
summed w d b c p =
    let s = add_with_carry w (low w d) b c in
    all_flags w d p s (overflow_of w (low w d) b s.value)

-- the decimal sum of the destination, the addend b and C, with C and Z: DADD. [01 Arithmetic]
abbrev pub decimal : (w d b p : ℕ) → Computed
decimal w d b p =
    let s = decimal_sum (w / 4) (low w d) b (carry_of p) in
    record { value = with_low w d s.value; psw = zero_flag (put_bit 0 p (eqb s.carry 1)) s.value }

-- the low bits moved down by one, with t for the top one. [01 Arithmetic]
abbrev pub halved : (w d t : ℕ) → ℕ
halved w d t = low w d / 2 + t * 2 ^ (w - 1)

-- the bits so moved, with C the bit that fell out, Z and N: SRA, RRC. [01 Arithmetic]
abbrev pub shifted : (w d t p : ℕ) → Computed
shifted w d t p = logical w d (put_bit 0 p (eqb (d % 2) 1)) (halved w d t)

-- the flags alone: CMP, BIT. [01 Arithmetic]
abbrev pub tested : ℕ → Computed → Computed
tested d o = record { value = d; psw = o.psw }

-- ---- bits cleared and set

-- "the operand names the bit, 0 to 15": the mask of that one bit; byte forms take the operand's low byte. A number that
-- is no bit of the width names none, and "no bit changes". [02 §5, for 01 Arithmetic]
unfoldable pub mask_of : (w s : ℕ) → ℕ
mask_of w s = cond (ltb (low w s) w) (2 ^ low w s) 0

-- the bits of the mask m cleared, with Z of the result, changed or not: BIC. [01 Arithmetic; 02 §5]
abbrev pub cleared : (w d m p : ℕ) → Computed
cleared w d m p =
    record {
      value = with_low w d (bit_and (low w d) (turned w m));
      psw = zero_flag p (bit_and (low w d) (turned w m));
    }

-- the bits of the mask m set; Z is cleared: BIS. [01 Arithmetic; 02 §5]
abbrev pub raised : (w d m p : ℕ) → Computed
raised w d m p = record { value = with_low w d (bit_or (low w d) m); psw = put_bit 1 p false }

-- ---- bytes of a word

-- the two bytes changed about: SWPB. [003 14]
abbrev pub swapped : ℕ → ℕ
swapped d = low 8 d * 256 + d / 256

-- the low byte with its sign in the high byte: SXT. [003 14; 01 Sheet for the markers]
abbrev pub extended : ℕ → ℕ
extended d = cond (leb 128 (low 8 d)) (0xff00 + low 8 d) (low 8 d)

-- ---- the instructions

-- SUB is dst + not src + 1, SUBC dst + not src + C; SWPB and SXT keep the flags. [01 Arithmetic]
unfoldable pub alu_of : Op → (w d s p : ℕ) → Computed
alu_of Add w d s p = summed w d (low w s) 0 p
alu_of Addc w d s p = summed w d (low w s) (carry_of p) p
alu_of Sub w d s p = summed w d (turned w s) 1 p
alu_of Subc w d s p = summed w d (turned w s) (carry_of p) p
alu_of Cmp w d s p = tested d (summed w d (turned w s) 1 p)
alu_of Dadd w d s p = decimal w d (low w s) p
alu_of And w d s p = logical w d p (bit_and (low w d) (low w s))
alu_of Or w d s p = logical w d p (bit_or (low w d) (low w s))
alu_of Xor w d s p = logical w d p (bit_xor (low w d) (low w s))
alu_of Bit w d s p = tested d (logical w d p (bit_and (low w d) (low w s)))
alu_of Bic w d s p = cleared w d (mask_of w s) p
alu_of Bis w d s p = raised w d (mask_of w s) p
alu_of Sra w d s p = shifted w d (bit (negative w (low w d))) p
alu_of Rrc w d s p = shifted w d (carry_of p) p
alu_of Comp w d s p = logical w d p (turned w d)
alu_of Swpb w d s p = record { value = swapped d; psw = p }
alu_of Sxt w d s p = record { value = extended d; psw = p }

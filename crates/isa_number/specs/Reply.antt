-- What the encoder answers, as a number: the low byte is the refusal, 0 where there is none, the byte above it is zero,
-- and the 16 bits above those are the word. A refused reply is the refusal and nothing else. Assumes nothing.
use Rattle.std.specs.Prelude.{ℕ, ◌*◌, cond, eqb, Option, Some, None}
use Rattle.isa.specs.Encode.{encode_of}
use Rattle.isa_number.specs.Number.{number_of, instr_of}

-- The refusal of an answer: 8 for an instruction that is illegal or has a field its format cannot hold.
-- [01 Who can be turned back]
abbrev pub refusal_number : Option ℕ → ℕ
refusal_number (Some w) = 0
refusal_number None = 8

-- The reply that stands for an answer. [01 Who can be turned back]
abbrev pub reply_of : Option ℕ → ℕ
reply_of (Some w) = w * 65536
reply_of None = refusal_number None

-- The reply to a number. One that is no instruction's number, having an unknown format or something in an unused byte,
-- is refused like an instruction that cannot be encoded. [01 Who can be turned back]
unfoldable pub encode_number : ℕ → ℕ
encode_number n = cond (eqb (number_of (instr_of n)) n) (reply_of (encode_of (instr_of n))) (reply_of None)

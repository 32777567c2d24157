-- What holds of the instruction set, as statements; the proofs folder has a proof of each. decode_of and encode_of are
-- the decoder and the encoder, number_of and encode_number what the two calls of a C host exchange. Assumes nothing.
use Rattle.std.specs.Prelude.{ℕ, ◌/◌, ◌%◌, ◌<◌, ◌≡◌, true, not, ◌↔◌, Option, Some, None}
use Rattle.isa.specs.declared.Instr.{Instr}
use Rattle.isa.specs.declared.Instr.TheVariants.{Illegal}
use Rattle.isa.specs.Decode.{decode_of}
use Rattle.isa.specs.Encode.{encode_of}
use Rattle.isa.specs.Legal.{is_legal}
use Rattle.isa.specs.Fields.{Fields}
use Rattle.isa_ranges.specs.Ranges.{listed_illegal}
use Rattle.isa_ranges.specs.Count.{count_below}
use Rattle.isa_number.specs.Number.{number_of, instr_of}
use Rattle.isa_number.specs.Reply.{reply_of, refusal_number, encode_number}

-- ---- words and instructions

-- An instruction encoded without refusal decodes to itself. [003 14]
abbrev pub EncodeDecode : Type 0
EncodeDecode = (i : Instr) (w : ℕ) → encode_of i ≡ Some w → decode_of w ≡ i

-- "Encoding after decoding then gives back each legal word unaltered"; demand 2 zeroed the ignored bit.
-- [003 14; 02 §14]
abbrev pub DecodeEncode : Type 0
DecodeEncode = (w : ℕ) → w < 65536 → is_legal (decode_of w) ≡ true → encode_of (decode_of w) ≡ Some w

-- "two legal ones are equal exactly if their words are". [02 §14]
abbrev pub SameWord : Type 0
SameWord =
    (v w : ℕ) → v < 65536 → w < 65536 → is_legal (decode_of v) ≡ true → is_legal (decode_of w) ≡ true
    → (decode_of v ≡ decode_of w) ↔ (v ≡ w)

-- A word is illegal exactly if it lies in the listed ranges. [003 14]
abbrev pub IllegalExactly : Type 0
IllegalExactly = (w : ℕ) → w < 65536 → (decode_of w ≡ Illegal) ↔ (listed_illegal w ≡ true)

-- 1,624 words are illegal. [003 14]
abbrev pub IllegalCount : Type 0
IllegalCount = count_below 65536 (λ w. not (is_legal (decode_of w))) ≡ 1624

-- ---- numbers, as the two calls exchange them

-- An instruction whose fields fit its format is the one that its number names. [01 State and memory]
abbrev pub NumberInstr : Type 0
NumberInstr = (i : Instr) → Fields i → instr_of (number_of i) ≡ i

-- The low byte of a reply is its refusal: 0 or 8. [01 Who can be turned back]
abbrev pub ReplyRefusal : Type 0
ReplyRefusal = (x : Option ℕ) → reply_of x % 256 ≡ refusal_number x

-- A legal word's number is encoded by that word. [02 §14]
abbrev pub NumberDecodeEncode : Type 0
NumberDecodeEncode =
    (w : ℕ) → w < 65536 → is_legal (decode_of w) ≡ true → encode_number (number_of (decode_of w)) ≡ reply_of (Some w)

-- Two legal words have equal numbers exactly if they are the same word. [02 §14]
abbrev pub NumberSameWord : Type 0
NumberSameWord =
    (v w : ℕ) → v < 65536 → w < 65536 → is_legal (decode_of v) ≡ true → is_legal (decode_of w) ≡ true
    → (number_of (decode_of v) ≡ number_of (decode_of w)) ↔ (v ≡ w)

-- An illegal word's number is refused. [01 Who can be turned back]
abbrev pub NumberIllegal : Type 0
NumberIllegal = (w : ℕ) → decode_of w ≡ Illegal → encode_number (number_of (decode_of w)) ≡ reply_of None

-- A number that is not refused is that of the instruction which the word in the reply means.
-- [01 Who can be turned back]
abbrev pub NumberEncodeDecode : Type 0
NumberEncodeDecode = (n : ℕ) → encode_number n % 256 ≡ 0 → number_of (decode_of (encode_number n / 65536)) ≡ n

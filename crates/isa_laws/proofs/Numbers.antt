-- The round trips at the numbers that the two calls exchange. A number's parts are taken apart once for all formats.
-- Assumes nothing.
use Prim.Native.Nat.{ℕ, ◌/◌, ◌%◌, ◌<◌}
use mathlib.Core.Path.{◌≡◌, refl, sym, ap, ◌∙◌}
use mathlib.Core.Bool.{Bool, true, false}
use native.Mathlib.Omega.{arith}
use borrow.Author.Tests.{eqb-true, eqb-false}
use lib.Dec.{eqb}
use Rattle.word.specs.Offset.{bits_of}
use Rattle.isa.specs.declared.Instr.TheVariants.{Illegal, Bl, Branch, Alu, Mov, Swap, Unary, Swpb, Sxt, SetPri, Svc, SetCc, ClrCc, Cex, Ld}
use Rattle.isa.specs.declared.Instr.TheVariants.{St, MovImm, Ldr, Str}
use Rattle.std.specs.Prelude.{Option, Some, None}
use Rattle.isa.specs.Decode.{decode_of}
use Rattle.isa.specs.Encode.{encode_of}
use Rattle.isa.proofs.Laws.{decode-fields}
use Rattle.isa_number.specs.Number.{bytes_of, number_of, instr_of}
use Rattle.isa_number.specs.Reply.{reply_of, encode_number}
use Rattle.isa_number.proofs.Laws.{reply-other, reply-encoded}
use Rattle.isa_laws.specs.Theorems.{NumberInstr, ReplyRefusal, NumberDecodeEncode, NumberSameWord, NumberIllegal, NumberEncodeDecode}
use Rattle.isa_laws.proofs.EncodeDecode.{signed-bits, bits-lt, encode-decode}
use Rattle.isa_laws.proofs.DecodeEncode.{decode-encode, same_word}

-- ---- a number's parts

record Parts (n format a b c d e x : ℕ) : Type 0 where
  p0 : n % 256 ≡ format
  p1 : n / 0x100 % 256 ≡ a
  p2 : n / 0x10000 % 256 ≡ b
  p3 : n / 0x1000000 % 256 ≡ c
  p4 : n / 0x100000000 % 256 ≡ d
  p5 : n / 0x10000000000 % 256 ≡ e
  p6 : n / 0x1000000000000 % 256 ≡ x % 256
  p67 : n / 0x1000000000000 % 0x10000 ≡ x

parts : (format a b c d e x : ℕ) → format < 256 → a < 256 → b < 256 → c < 256 → d < 256 → e < 256 → x < 65536
    → Parts (bytes_of format a b c d e x) format a b c d e x
parts format a b c d e x hf ha hb hc hd he hx =
    record {
      p0 = omega arith;
      p1 = omega arith;
      p2 = omega arith;
      p3 = omega arith;
      p4 = omega arith;
      p5 = omega arith;
      p6 = omega arith;
      p67 = omega arith;
    }

-- ---- the instruction that a number names

pub number-instr : NumberInstr
unfolding number_of instr_of
number-instr Illegal h = refl
number-instr (Bl off) h =
    let u : bits_of 0x8000 off < 65536 = bits-lt 0x8000 off (omega arith) in
    let p = parts 1 0 0 0 0 0 (bits_of 0x8000 off)
    (omega arith) (omega arith) (omega arith) (omega arith) (omega arith) (omega arith) (omega arith) in
    simp (p.p0, p.p67, signed-bits 0x8000 off (omega arith))
number-instr (Branch cond off) h =
    let u : bits_of 0x8000 off < 65536 = bits-lt 0x8000 off (omega arith) in
    let p = parts 2 cond 0 0 0 0 (bits_of 0x8000 off)
    (omega arith) (omega arith) (omega arith) (omega arith) (omega arith) (omega arith) (omega arith) in
    simp (p.p0, p.p1, p.p67, signed-bits 0x8000 off (omega arith))
number-instr (Alu op rc wb src dst) h =
    let p = parts 3 op rc wb src dst 0 (omega arith) (omega arith) (omega arith) (omega arith) (omega arith) (omega arith) (omega arith) in
    simp (p.p0, p.p1, p.p2, p.p3, p.p4, p.p5)
number-instr (Mov wb src dst) h =
    let p = parts 4 wb src dst 0 0 0 (omega arith) (omega arith) (omega arith) (omega arith) (omega arith) (omega arith) (omega arith) in
    simp (p.p0, p.p1, p.p2, p.p3)
number-instr (Swap src dst ignored) h =
    let p = parts 5 src dst ignored 0 0 0
    (omega arith) (omega arith) (omega arith) (omega arith) (omega arith) (omega arith) (omega arith) in
    simp (p.p0, p.p1, p.p2, p.p3)
number-instr (Unary op wb dst) h =
    let p = parts 6 op wb dst 0 0 0 (omega arith) (omega arith) (omega arith) (omega arith) (omega arith) (omega arith) (omega arith) in
    simp (p.p0, p.p1, p.p2, p.p3)
number-instr (Swpb dst ignored) h =
    let p = parts 7 dst ignored 0 0 0 0 (omega arith) (omega arith) (omega arith) (omega arith) (omega arith) (omega arith) (omega arith) in
    simp (p.p0, p.p1, p.p2)
number-instr (Sxt dst ignored) h =
    let p = parts 8 dst ignored 0 0 0 0 (omega arith) (omega arith) (omega arith) (omega arith) (omega arith) (omega arith) (omega arith) in
    simp (p.p0, p.p1, p.p2)
number-instr (SetPri level) h =
    let p = parts 9 level 0 0 0 0 0 (omega arith) (omega arith) (omega arith) (omega arith) (omega arith) (omega arith) (omega arith) in
    simp (p.p0, p.p1)
number-instr (Svc vector) h =
    let p = parts 10 vector 0 0 0 0 0 (omega arith) (omega arith) (omega arith) (omega arith) (omega arith) (omega arith) (omega arith) in
    simp (p.p0, p.p1)
number-instr (SetCc flags) h =
    let p = parts 11 flags 0 0 0 0 0 (omega arith) (omega arith) (omega arith) (omega arith) (omega arith) (omega arith) (omega arith) in
    simp (p.p0, p.p1)
number-instr (ClrCc flags) h =
    let p = parts 12 flags 0 0 0 0 0 (omega arith) (omega arith) (omega arith) (omega arith) (omega arith) (omega arith) (omega arith) in
    simp (p.p0, p.p1)
number-instr (Cex cond onTrue onFalse) h =
    let p = parts 13 cond onTrue onFalse 0 0 0
    (omega arith) (omega arith) (omega arith) (omega arith) (omega arith) (omega arith) (omega arith) in
    simp (p.p0, p.p1, p.p2, p.p3)
number-instr (Ld prpo dec inc wb src dst) h =
    let p = parts 14 prpo dec inc wb src dst
    (omega arith) (omega arith) (omega arith) (omega arith) (omega arith) (omega arith) (omega arith) in
    let d : dst % 256 ≡ dst = omega arith in
    simp (p.p0, p.p1, p.p2, p.p3, p.p4, p.p5, p.p6, d)
number-instr (St prpo dec inc wb src dst) h =
    let p = parts 15 prpo dec inc wb src dst
    (omega arith) (omega arith) (omega arith) (omega arith) (omega arith) (omega arith) (omega arith) in
    let d : dst % 256 ≡ dst = omega arith in
    simp (p.p0, p.p1, p.p2, p.p3, p.p4, p.p5, p.p6, d)
number-instr (MovImm op byte dst) h =
    let p = parts 16 op byte dst 0 0 0 (omega arith) (omega arith) (omega arith) (omega arith) (omega arith) (omega arith) (omega arith) in
    simp (p.p0, p.p1, p.p2, p.p3)
number-instr (Ldr off wb src dst) h =
    let u : bits_of 0x8000 off < 65536 = bits-lt 0x8000 off (omega arith) in
    let p = parts 17 wb src dst 0 0 (bits_of 0x8000 off)
    (omega arith) (omega arith) (omega arith) (omega arith) (omega arith) (omega arith) (omega arith) in
    simp (p.p0, p.p1, p.p2, p.p3, p.p67, signed-bits 0x8000 off (omega arith))
number-instr (Str off wb src dst) h =
    let u : bits_of 0x8000 off < 65536 = bits-lt 0x8000 off (omega arith) in
    let p = parts 18 wb src dst 0 0 (bits_of 0x8000 off)
    (omega arith) (omega arith) (omega arith) (omega arith) (omega arith) (omega arith) (omega arith) in
    simp (p.p0, p.p1, p.p2, p.p3, p.p67, signed-bits 0x8000 off (omega arith))

-- ---- the replies

pub reply-refusal : ReplyRefusal
reply-refusal (Some w) = omega arith
reply-refusal None = refl

-- the reply to a decoded word's number is the encoder's answer to its instruction
reply-decoded : (w : ℕ) (x : Option ℕ) → encode_of (decode_of w) ≡ x → encode_number (number_of (decode_of w)) ≡ reply_of x
reply-decoded w x e =
    let n = number_of (decode_of w) in
    let b : instr_of n ≡ decode_of w = number-instr (decode_of w) (decode-fields w) in
    reply-encoded n n (sym (ap number_of b)) x refl (ap encode_of b ∙ e)

pub number-decode-encode : NumberDecodeEncode
number-decode-encode w h e = reply-decoded w (Some w) (decode-encode w h e)

pub number-same-word : NumberSameWord
number-same-word v w hv hw ev ew = (
  λ e. (same_word v w hv hw ev ew).0
      (sym (number-instr (decode_of v) (decode-fields v)) ∙ ap instr_of e ∙ number-instr (decode_of w) (decode-fields w)),
  λ e. ap (λ (x : ℕ). number_of (decode_of x)) e,
)

pub number-illegal : NumberIllegal
unfolding encode_of
number-illegal w e = reply-decoded w None (ap encode_of e)

-- by the answer to the instruction that n names
accepted : (n : ℕ) (x : Option ℕ) → number_of (instr_of n) ≡ n → encode_of (instr_of n) ≡ x
    → encode_number n ≡ reply_of x → encode_number n % 256 ≡ 0 → number_of (decode_of (encode_number n / 65536)) ≡ n
accepted n (Some w) k q r h =
    let e : encode_number n / 65536 ≡ w = omega arith in
    rw e (ap number_of (encode-decode (instr_of n) w q) ∙ k)
accepted n None k q r h = absurd (omega arith)

pub number-encode-decode : NumberEncodeDecode
number-encode-decode n h = go (eqb (number_of (instr_of n)) n) refl
  where
    go : (b : Bool) → eqb (number_of (instr_of n)) n ≡ b → number_of (decode_of (encode_number n / 65536)) ≡ n
    go true q =
        let k : number_of (instr_of n) ≡ n = eqb-true (number_of (instr_of n)) n q in
        accepted n (encode_of (instr_of n)) k refl (reply-encoded n (number_of (instr_of n)) refl (encode_of (instr_of n)) k refl) h
    go false q =
        let r : encode_number n ≡ 8 = reply-other n (number_of (instr_of n)) refl (eqb-false (number_of (instr_of n)) n q) in
        absurd (omega arith)

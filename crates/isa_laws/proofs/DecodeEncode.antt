-- A legal word decoded and encoded is that word, so that two legal words mean equal instructions exactly if they are one: the large
-- formats field by field, the 8,192 words from 4000 to 5FFF by one computed test. A word is illegal exactly if its operation is, and the
-- listed ranges are those of that operation. Assumes nothing.
use Prim.Native.Nat.{ℕ, zero, suc, ◌+◌, ◌-◌, ◌*◌, ◌/◌, ◌%◌, ◌<◌, ◌≤◌}
use mathlib.Core.Path.{◌≡◌, refl, sym, ap, subst, ◌∙◌}
use mathlib.Core.Bool.{Bool, true, false, cond, not, true≢false, ◌&&◌}
use mathlib.Core.List.{List, [], ◌∷◌}
use native.Mathlib.Omega.{arith}
use lib.Arith.{mod-mul}
use lib.Dec.{T, ltb, eqb, eqb→eq}
use lib.ListN.{get_or}
use lib.Signed.{mag}
use borrow.Author.Tests.{not-false, lt-ltb, le-ltb, ltb-true, ltb-false}
use Rattle.word.specs.Offset.{signed_of, bits_of}
use Rattle.word.proofs.Laws.{bool_cases}
use Rattle.isa.specs.declared.Instr.{Instr}
use Rattle.isa.specs.declared.Instr.TheVariants.{Illegal, Bl, Branch, Alu, Mov, Swap, Unary, Swpb, Sxt, SetPri, Svc, SetCc, ClrCc, Cex, Ld}
use Rattle.isa.specs.declared.Instr.TheVariants.{St, MovImm, Ldr, Str}
use Rattle.std.specs.Prelude.{Option, Some, None}
use Rattle.std.proofs.lemmas.Option.{same_Some}
use Rattle.isa.specs.Decode.{decode_of}
use Rattle.isa.specs.Encode.{relative_word, encode_of}
use Rattle.isa.specs.Legal.{is_legal}
use Rattle.isa.proofs.Laws.{signed-mag}
use Rattle.isa_ranges.specs.declared.Operation.{Operation}
use Rattle.isa_ranges.specs.declared.Operation.TheVariants as op
use Rattle.isa_ranges.specs.Operation.{operation_in, operation_of, operation_number, same_operation}
use Rattle.isa_ranges.specs.Ranges.{listed_illegal}
use Rattle.isa_ranges.proofs.All.{all_below, at, left, right}
use Rattle.isa_ranges.proofs.Rows.{row-operation}
use Rattle.isa_laws.proofs.EncodeDecode.{in-relative}
use Rattle.isa_laws.specs.Theorems.{DecodeEncode, SameWord, IllegalExactly}

abbrev is_word : Option ℕ → ℕ → Bool
is_word (Some v) w = eqb v w
is_word None w = false

-- the operation of a word is the illegal one
abbrev pub illegal? : ℕ → Bool
illegal? w = same_operation (operation_of w) op.Illegal

-- ---- the large formats

bits-signed : (half n : ℕ) → n < half + half → bits_of half (signed_of half n) ≡ n
bits-signed half n h = bool_cases (ltb n half) (λ q. rw q) (λ q. let k = ltb-false n half q in rw q (omega arith))

bl-back : (w : ℕ) → w < 0x2000 → encode_of (decode_of w) ≡ Some w
unfolding decode_of encode_of
bl-back w h =
    let z = signed_of 4096 (w % 8192) in
    let f = lt-ltb (mag z) 4096 (signed-mag 4096 (w % 8192) (omega arith)) in
    let e : w % 8192 ≡ w = omega arith in
    rw (lt-ltb w 0x2000 h, f) (ap Some (bits-signed 4096 (w % 8192) (omega arith) ∙ e))

branch_back : (w : ℕ) → 0x2000 ≤ w → w < 0x4000 → encode_of (decode_of w) ≡ Some w
unfolding decode_of encode_of
branch_back w l h =
    let z = signed_of 512 (w % 1024) in
    let f = lt-ltb (mag z) 512 (signed-mag 512 (w % 1024) (omega arith)) in
    let b = bits-signed 512 (w % 1024) (omega arith) in
    let e : 0x2000 + w / 1024 % 8 * 1024 + w % 1024 ≡ w = omega arith in
    rw (le-ltb w 0x2000 l, lt-ltb w 0x4000 h, lt-ltb (w / 1024 % 8) 8 (omega arith), f)
    (ap Some (ap (λ (n : ℕ). 0x2000 + w / 1024 % 8 * 1024 + n) b ∙ e))

-- fields that follow each other
joined : (base a b c d k m w : ℕ) → c * 8 + d ≡ k → b * 64 + k ≡ m → base + (a * 128 + m) ≡ w → base + a * 128 + b * 64 + c * 8 + d ≡ w
joined base a b c d k m w p q r = omega (arith, p, q, r)

immediate-back : (w : ℕ) → 0x6000 ≤ w → w < 0x8000 → encode_of (decode_of w) ≡ Some w
unfolding decode_of encode_of
immediate-back w l h =
    let e : 0x6000 + w / 2048 % 4 * 2048 + w / 8 % 256 * 8 + w % 8 ≡ w = omega arith in
    rw (le-ltb w 0x2000 (omega arith), le-ltb w 0x4000 (omega arith), le-ltb w 0x4C00 (omega arith), le-ltb w 0x5000 (omega arith))
    (rw (le-ltb w 0x6000 l, lt-ltb w 0x8000 h, lt-ltb (w / 2048 % 4) 4 (omega arith), lt-ltb (w / 8 % 256) 256 (omega arith))
    (rw (lt-ltb (w % 8) 8 (omega arith)) (ap Some e)))

-- LDR and STR
module _ (base w : ℕ) where
  relative-word : base + w % 16384 ≡ w
      → relative_word base (signed_of 64 (w / 128 % 128)) (w / 64 % 2) (w / 8 % 8) (w % 8) ≡ Some w
  relative-word e =
      let z = signed_of 64 (w / 128 % 128) in
      let f = lt-ltb (mag z) 64 (signed-mag 64 (w / 128 % 128) (omega arith)) in
      let b = bits-signed 64 (w / 128 % 128) (omega arith) in
      let s = joined base (w / 128 % 128) (w / 64 % 2) (w / 8 % 8) (w % 8) (w % 64) (w % 128) w
      (sym (mod-mul w (omega arith) (omega arith))) (sym (mod-mul w (omega arith) (omega arith)))
      (ap (λ (n : ℕ). base + n) (sym (mod-mul w (omega arith) (omega arith))) ∙ e) in
      rw (f, lt-ltb (w / 64 % 2) 2 (omega arith), lt-ltb (w / 8 % 8) 8 (omega arith), lt-ltb (w % 8) 8 (omega arith))
      (ap Some (ap (λ (n : ℕ). base + n * 128 + w / 64 % 2 * 64 + w / 8 % 8 * 8 + w % 8) b ∙ s))

relative-back : (w : ℕ) → 0x8000 ≤ w → w < 65536 → encode_of (decode_of w) ≡ Some w
unfolding encode_of
relative-back w l h =
    ap encode_of (in-relative w l)
    ∙ bool_cases (ltb w 0xC000) (λ q. let k = ltb-true w 0xC000 q in rw q (relative-word 0x8000 w (omega arith)))
    (λ q. let k = ltb-false w 0xC000 q in rw q (relative-word 0xC000 w (omega arith)))

-- ---- the others, by a test of each word

test : ℕ → Bool
test w = cond (is_legal (decode_of w)) (is_word (encode_of (decode_of w)) w) true

tested : T (all_below 32 (λ hi. all_below 256 (λ lo. test (0x4000 + hi * 256 + lo))))
unfolding test decode_of encode_of
tested = tt

is_word_lem : (x : Option ℕ) (w : ℕ) → T (is_word x w) → x ≡ Some w
is_word_lem (Some v) w t = ap Some (eqb→eq v w t)
is_word_lem None w t = absurd t

middle-back : (w : ℕ) → 0x4000 ≤ w → w < 0x6000 → is_legal (decode_of w) ≡ true → encode_of (decode_of w) ≡ Some w
unfolding test
middle-back w l h e =
    let n = 0x4000 + (w - 0x4000) / 256 * 256 + (w - 0x4000) % 256 in
    let s : n ≡ w = omega arith in
    let row = at 32 (λ hi. all_below 256 (λ lo. test (0x4000 + hi * 256 + lo))) tested ((w - 0x4000) / 256) (omega arith) in
    let t : T (test n) = at 256 (λ lo. test (0x4000 + (w - 0x4000) / 256 * 256 + lo)) row ((w - 0x4000) % 256) (omega arith) in
    let o : T (test w) = subst (λ (m : ℕ). T (test m)) s t in
    is_word_lem (encode_of (decode_of w)) w (rw e at o)

pub decode-encode : DecodeEncode
decode-encode w h e =
    bool_cases (ltb w 0x2000) (λ q. bl-back w (ltb-true w 0x2000 q))
    (λ q. bool_cases (ltb w 0x4000) (λ p. branch_back w (ltb-false w 0x2000 q) (ltb-true w 0x4000 p))
    (λ p. bool_cases (ltb w 0x6000) (λ o. middle-back w (ltb-false w 0x4000 p) (ltb-true w 0x6000 o) e)
    (λ o. bool_cases (ltb w 0x8000) (λ n. immediate-back w (ltb-false w 0x6000 o) (ltb-true w 0x8000 n))
    (λ n. relative-back w (ltb-false w 0x8000 n) h))))

-- ---- an instruction is legal exactly if its operation is not the illegal one

is_true : (b : Bool) → T b → true ≡ b
is_true true t = refl
is_true false t = absurd t

abbrev named : Operation → Bool
named o = not (same_operation o op.Illegal)

abbrev all_named : List Operation → Bool
all_named [] = true
all_named (o ∷ l) = named o && all_named l

named-at : (l : List Operation) (d : Operation) (n : ℕ) → T (all_named l) → true ≡ named d → true ≡ named (get_or l n d)
named-at [] d zero t e = e
named-at [] d (suc n) t e = e
named-at (o ∷ l) d zero t e = is_true (named o) (left (named o) (all_named l) t)
named-at (o ∷ l) d (suc n) t e = named-at l d n (right (named o) (all_named l) t) e

legal-named : (i : Instr) → is_legal i ≡ named (operation_in i)
unfolding operation_in operation_number
legal-named Illegal = refl
legal-named (Bl a) = refl
legal-named (Branch a b) = named-at (op.Beq ∷ op.Bne ∷ op.Bc ∷ op.Bnc ∷ op.Bn ∷ op.Bge ∷ op.Blt ∷ []) op.Bra a tt refl
legal-named (Alu a b c d f) =
    named-at (op.Add ∷ op.Addc ∷ op.Sub ∷ op.Subc ∷ op.Dadd ∷ op.Cmp ∷ op.Xor ∷ op.And ∷ op.Or ∷ op.Bit ∷ op.Bic ∷ []) op.Bis a tt refl
legal-named (Mov a b c) = refl
legal-named (Swap a b c) = refl
legal-named (Unary a b c) = named-at (op.Sra ∷ op.Rrc ∷ []) op.Comp a tt refl
legal-named (Swpb a b) = refl
legal-named (Sxt a b) = refl
legal-named (SetPri a) = refl
legal-named (Svc a) = refl
legal-named (SetCc a) = refl
legal-named (ClrCc a) = refl
legal-named (Cex a b c) = refl
legal-named (Ld a b c d f g) = refl
legal-named (St a b c d f g) = refl
legal-named (MovImm a b c) = named-at (op.Movl ∷ op.Movlz ∷ op.Movls ∷ []) op.Movh a tt refl
legal-named (Ldr a b c d) = refl
legal-named (Str a b c d) = refl

-- as an equation of tests
pub legal-operation : (w : ℕ) → is_legal (decode_of w) ≡ not (illegal? w)
legal-operation w = legal-named (decode_of w)

legal-listed : (w : ℕ) → w < 65536 → is_legal (decode_of w) ≡ not (listed_illegal w)
unfolding listed_illegal
legal-listed w h = legal-operation w ∙ ap (λ o. not (same_operation o op.Illegal)) (row-operation w h)

pub same_word : SameWord
same_word v w hv hw ev ew = (λ e. same_Some v w (sym (decode-encode v hv ev) ∙ ap encode_of e ∙ decode-encode w hw ew), λ e. ap decode_of e)

illegal-of : (i : Instr) → is_legal i ≡ false → i ≡ Illegal
illegal-of Illegal e = refl
illegal-of (Bl a) e = absurd (true≢false e)
illegal-of (Branch a b) e = absurd (true≢false e)
illegal-of (Alu a b c d f) e = absurd (true≢false e)
illegal-of (Mov a b c) e = absurd (true≢false e)
illegal-of (Swap a b c) e = absurd (true≢false e)
illegal-of (Unary a b c) e = absurd (true≢false e)
illegal-of (Swpb a b) e = absurd (true≢false e)
illegal-of (Sxt a b) e = absurd (true≢false e)
illegal-of (SetPri a) e = absurd (true≢false e)
illegal-of (Svc a) e = absurd (true≢false e)
illegal-of (SetCc a) e = absurd (true≢false e)
illegal-of (ClrCc a) e = absurd (true≢false e)
illegal-of (Cex a b c) e = absurd (true≢false e)
illegal-of (Ld a b c d f g) e = absurd (true≢false e)
illegal-of (St a b c d f g) e = absurd (true≢false e)
illegal-of (MovImm a b c) e = absurd (true≢false e)
illegal-of (Ldr a b c d) e = absurd (true≢false e)
illegal-of (Str a b c d) e = absurd (true≢false e)

pub illegal-exactly : IllegalExactly
illegal-exactly w h = (
  λ e. not-false (listed_illegal w) (sym (legal-listed w h) ∙ ap is_legal e),
  λ e. illegal-of (decode_of w) (legal-listed w h ∙ ap not e),
)

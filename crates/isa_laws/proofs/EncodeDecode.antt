-- An instruction encoded without refusal decodes to itself. A lemma for each format: the word lies in the format's range, and
-- each field is what the decoder takes from the word. Assumes nothing.
use Prim.Native.Nat.{ℕ, suc, ◌+◌, ◌-◌, ◌*◌, ◌/◌, ◌%◌, ◌<◌, ◌≤◌}
use mathlib.Core.Path.{◌≡◌, refl, ◌∙◌}
use mathlib.Core.Bool.{Bool, true, ◌&&◌}
use native.Mathlib.Omega.{arith}
use borrow.Author.Tests.{lt-ltb, le-ltb, ltb-true}
use lib.Dec.{ltb}
use lib.IntN.{ℤ, pos, negsuc}
use lib.Signed.{mag}
use Rattle.word.specs.Offset.{signed_of, bits_of, off_fits}
use Rattle.isa.specs.declared.Instr.TheVariants.{Illegal, Bl, Branch, Alu, Mov, Swap, Unary, Swpb, Sxt, SetPri, Svc, SetCc, ClrCc, Cex, Ld}
use Rattle.isa.specs.declared.Instr.TheVariants.{St, MovImm, Ldr, Str}
use Rattle.std.proofs.lemmas.Bool.{and_parts}
use Rattle.std.proofs.lemmas.Option.{cond_some}
use Rattle.isa.specs.Decode.{unary_of, control_of, misc_of, memory_of, relative_of, decode_of}
use Rattle.isa.specs.Encode.{encode_of}
use Rattle.isa_laws.specs.Theorems.{EncodeDecode}

-- ---- what an answer that is a word says of the fields

-- the last bound of a row, and the rest
last : (p : Bool) (a m : ℕ) → (p && ltb a m) ≡ true → (p ≡ true) × (a < m)
last p a m e = ((and_parts p (ltb a m) e).0, ltb-true a m (and_parts p (ltb a m) e).1)

-- ---- offsets

-- two's complement there and back
pub signed-bits : (half : ℕ) (z : ℤ) → mag z < half → signed_of half (bits_of half z) ≡ z
signed-bits half (pos n) h = simp (lt-ltb n half h)
signed-bits half (negsuc n) h =
    let e : half + half - suc (half + half - suc n) ≡ n = omega arith in
    simp (le-ltb (half + half - suc n) half (omega arith), e)

pub bits-lt : (half : ℕ) (z : ℤ) → mag z < half → bits_of half z < half + half
bits-lt half (pos n) h = omega arith
bits-lt half (negsuc n) h = omega arith

-- ---- the groups of the decoder, by range

in-misc : (w : ℕ) → 0x4C00 ≤ w → w < 0x5000 → decode_of w ≡ misc_of w
unfolding decode_of
in-misc w h k =
    simp (le-ltb w 0x2000 (omega arith), le-ltb w 0x4000 (omega arith), le-ltb w 0x4C00 (omega arith), lt-ltb w 0x5000 (omega arith))

in-unary : (w : ℕ) → 0x4D00 ≤ w → w < 0x4D80 → decode_of w ≡ unary_of w
in-unary w h k =
    in-misc w (omega arith) (omega arith)
    ∙ simp (le-ltb w 0x4C80 (omega arith), le-ltb w 0x4D00 (omega arith), lt-ltb w 0x4D80 (omega arith))

in_control : (w : ℕ) → 0x4D80 ≤ w → w < 0x4E00 → decode_of w ≡ control_of w
in_control w h k =
    in-misc w (omega arith) (omega arith)
    ∙ simp (le-ltb w 0x4C80 (omega arith), le-ltb w 0x4D00 (omega arith), le-ltb w 0x4D80 (omega arith), lt-ltb w 0x4E00 (omega arith))

in_memory : (w : ℕ) → 0x5000 ≤ w → w < 0x6000 → decode_of w ≡ memory_of w
unfolding decode_of
in_memory w h k =
    simp (
      le-ltb w 0x2000 (omega arith),
      le-ltb w 0x4000 (omega arith),
      le-ltb w 0x4C00 (omega arith),
      le-ltb w 0x5000 (omega arith),
      lt-ltb w 0x6000 (omega arith),
    )

pub in-relative : (w : ℕ) → 0x8000 ≤ w → decode_of w ≡ relative_of w
unfolding decode_of
in-relative w h =
    simp (
      le-ltb w 0x2000 (omega arith),
      le-ltb w 0x4000 (omega arith),
      le-ltb w 0x4C00 (omega arith),
      le-ltb w 0x5000 (omega arith),
      le-ltb w 0x6000 (omega arith),
      le-ltb w 0x8000 (omega arith),
    )

-- ---- a lemma for each format

bl : (off : ℤ) (w : ℕ) → mag off < 4096 → bits_of 4096 off ≡ w → decode_of w ≡ Bl off
unfolding decode_of
bl off w h0 e =
    let u : bits_of 4096 off < 8192 = bits-lt 4096 off h0 in
    let e0 : w % 8192 ≡ bits_of 4096 off = omega arith in
    simp (lt-ltb w 0x2000 (omega arith), e0, signed-bits 4096 off h0)

branch : (cond : ℕ) (off : ℤ) (w : ℕ) → cond < 8 → mag off < 512
    → 0x2000 + cond * 1024 + bits_of 512 off ≡ w → decode_of w ≡ Branch cond off
unfolding decode_of
branch cond off w h0 h1 e =
    let u : bits_of 512 off < 1024 = bits-lt 512 off h1 in
    let e0 : w / 1024 % 8 ≡ cond = omega arith in
    let e1 : w % 1024 ≡ bits_of 512 off = omega arith in
    simp (le-ltb w 0x2000 (omega arith), lt-ltb w 0x4000 (omega arith), e0, e1, signed-bits 512 off h1)

alu : (op rc wb src dst w : ℕ) → op < 12 → rc < 2 → wb < 2 → src < 8 → dst < 8
    → 0x4000 + op * 256 + rc * 128 + wb * 64 + src * 8 + dst ≡ w → decode_of w ≡ Alu op rc wb src dst
unfolding decode_of
alu op rc wb src dst w h0 h1 h2 h3 h4 e =
    let e0 : w / 256 % 16 ≡ op = omega arith in
    let e1 : w / 128 % 2 ≡ rc = omega arith in
    let e2 : w / 64 % 2 ≡ wb = omega arith in
    let e3 : w / 8 % 8 ≡ src = omega arith in
    let e4 : w % 8 ≡ dst = omega arith in
    simp (le-ltb w 0x2000 (omega arith), le-ltb w 0x4000 (omega arith), lt-ltb w 0x4C00 (omega arith), e0, e1, e2, e3, e4)

mov : (wb src dst w : ℕ) → wb < 2 → src < 8 → dst < 8 → 0x4C00 + wb * 64 + src * 8 + dst ≡ w → decode_of w ≡ Mov wb src dst
mov wb src dst w h0 h1 h2 e =
    let e0 : w / 64 % 2 ≡ wb = omega arith in
    let e1 : w / 8 % 8 ≡ src = omega arith in
    let e2 : w % 8 ≡ dst = omega arith in
    in-misc w (omega arith) (omega arith)
    ∙ simp (lt-ltb w 0x4C80 (omega arith), e0, e1, e2)

swap : (src dst ignored w : ℕ) → src < 8 → dst < 8 → ignored < 2
    → 0x4C80 + ignored * 64 + src * 8 + dst ≡ w → decode_of w ≡ Swap src dst ignored
swap src dst ignored w h0 h1 h2 e =
    let e0 : w / 64 % 2 ≡ ignored = omega arith in
    let e1 : w / 8 % 8 ≡ src = omega arith in
    let e2 : w % 8 ≡ dst = omega arith in
    in-misc w (omega arith) (omega arith)
    ∙ simp (le-ltb w 0x4C80 (omega arith), lt-ltb w 0x4D00 (omega arith), e0, e1, e2)

unary : (op wb dst w : ℕ) → op < 3 → wb < 2 → dst < 8 → 0x4D00 + wb * 64 + op * 8 + dst ≡ w → decode_of w ≡ Unary op wb dst
unary op wb dst w h0 h1 h2 e =
    let e0 : w / 8 % 8 ≡ op = omega arith in
    let e1 : w / 64 % 2 ≡ wb = omega arith in
    let e2 : w % 8 ≡ dst = omega arith in
    in-unary w (omega arith) (omega arith)
    ∙ simp (e0, e1, e2, lt-ltb op 3 h0)

swpb : (dst ignored w : ℕ) → dst < 8 → ignored < 2 → 0x4D18 + ignored * 64 + dst ≡ w → decode_of w ≡ Swpb dst ignored
swpb dst ignored w h0 h1 e =
    let e0 : w / 64 % 2 ≡ ignored = omega arith in
    let e1 : w / 8 % 8 ≡ 3 = omega arith in
    let e2 : w % 8 ≡ dst = omega arith in
    in-unary w (omega arith) (omega arith)
    ∙ simp (e0, e1, e2)

sxt : (dst ignored w : ℕ) → dst < 8 → ignored < 2 → 0x4D20 + ignored * 64 + dst ≡ w → decode_of w ≡ Sxt dst ignored
sxt dst ignored w h0 h1 e =
    let e0 : w / 64 % 2 ≡ ignored = omega arith in
    let e1 : w / 8 % 8 ≡ 4 = omega arith in
    let e2 : w % 8 ≡ dst = omega arith in
    in-unary w (omega arith) (omega arith)
    ∙ simp (e0, e1, e2)

setpri : (level w : ℕ) → level < 8 → 0x4D80 + level ≡ w → decode_of w ≡ SetPri level
setpri level w h0 e =
    let e0 : w % 8 ≡ level = omega arith in
    in_control w (omega arith) (omega arith)
    ∙ simp (lt-ltb w 0x4D88 (omega arith), e0)

svc : (vector w : ℕ) → vector < 16 → 0x4DA0 + vector ≡ w → decode_of w ≡ Svc vector
svc vector w h0 e =
    let e0 : w % 16 ≡ vector = omega arith in
    in_control w (omega arith) (omega arith)
    ∙ simp (le-ltb w 0x4D88 (omega arith), le-ltb w 0x4DA0 (omega arith), lt-ltb w 0x4DB0 (omega arith), e0)

setcc : (flags w : ℕ) → flags < 32 → 0x4DC0 + flags ≡ w → decode_of w ≡ SetCc flags
setcc flags w h0 e =
    let e0 : w % 32 ≡ flags = omega arith in
    in_control w (omega arith) (omega arith)
    ∙ simp (
      le-ltb w 0x4D88 (omega arith),
      le-ltb w 0x4DA0 (omega arith),
      le-ltb w 0x4DB0 (omega arith),
      le-ltb w 0x4DC0 (omega arith),
      lt-ltb w 0x4DE0 (omega arith),
      e0,
    )

clrcc : (flags w : ℕ) → flags < 32 → 0x4DE0 + flags ≡ w → decode_of w ≡ ClrCc flags
clrcc flags w h0 e =
    let e0 : w % 32 ≡ flags = omega arith in
    in_control w (omega arith) (omega arith)
    ∙ simp (
      le-ltb w 0x4D88 (omega arith),
      le-ltb w 0x4DA0 (omega arith),
      le-ltb w 0x4DB0 (omega arith),
      le-ltb w 0x4DC0 (omega arith),
      le-ltb w 0x4DE0 (omega arith),
      e0,
    )

cex : (cond onTrue onFalse w : ℕ) → cond < 16 → onTrue < 8 → onFalse < 8
    → 0x5000 + cond * 64 + onTrue * 8 + onFalse ≡ w → decode_of w ≡ Cex cond onTrue onFalse
cex cond onTrue onFalse w h0 h1 h2 e =
    let e0 : w / 64 % 16 ≡ cond = omega arith in
    let e1 : w / 8 % 8 ≡ onTrue = omega arith in
    let e2 : w % 8 ≡ onFalse = omega arith in
    in_memory w (omega arith) (omega arith)
    ∙ simp (lt-ltb w 0x5400 (omega arith), e0, e1, e2)

ld : (prpo dec inc wb src dst w : ℕ) → prpo < 2 → dec < 2 → inc < 2 → wb < 2 → src < 8 → dst < 8
    → 0x5800 + prpo * 512 + dec * 256 + inc * 128 + wb * 64 + src * 8 + dst ≡ w → decode_of w ≡ Ld prpo dec inc wb src dst
ld prpo dec inc wb src dst w h0 h1 h2 h3 h4 h5 e =
    let e0 : w / 512 % 2 ≡ prpo = omega arith in
    let e1 : w / 256 % 2 ≡ dec = omega arith in
    let e2 : w / 128 % 2 ≡ inc = omega arith in
    let e3 : w / 64 % 2 ≡ wb = omega arith in
    let e4 : w / 8 % 8 ≡ src = omega arith in
    let e5 : w % 8 ≡ dst = omega arith in
    in_memory w (omega arith) (omega arith)
    ∙ simp (le-ltb w 0x5400 (omega arith), le-ltb w 0x5800 (omega arith), lt-ltb w 0x5C00 (omega arith), e0, e1, e2, e3, e4, e5)

st : (prpo dec inc wb src dst w : ℕ) → prpo < 2 → dec < 2 → inc < 2 → wb < 2 → src < 8 → dst < 8
    → 0x5C00 + prpo * 512 + dec * 256 + inc * 128 + wb * 64 + src * 8 + dst ≡ w → decode_of w ≡ St prpo dec inc wb src dst
st prpo dec inc wb src dst w h0 h1 h2 h3 h4 h5 e =
    let e0 : w / 512 % 2 ≡ prpo = omega arith in
    let e1 : w / 256 % 2 ≡ dec = omega arith in
    let e2 : w / 128 % 2 ≡ inc = omega arith in
    let e3 : w / 64 % 2 ≡ wb = omega arith in
    let e4 : w / 8 % 8 ≡ src = omega arith in
    let e5 : w % 8 ≡ dst = omega arith in
    in_memory w (omega arith) (omega arith)
    ∙ simp (le-ltb w 0x5400 (omega arith), le-ltb w 0x5800 (omega arith), le-ltb w 0x5C00 (omega arith), e0, e1, e2, e3, e4, e5)

movimm : (op byte dst w : ℕ) → op < 4 → byte < 256 → dst < 8 → 0x6000 + op * 2048 + byte * 8 + dst ≡ w → decode_of w ≡ MovImm op byte dst
unfolding decode_of
movimm op byte dst w h0 h1 h2 e =
    let e0 : w / 2048 % 4 ≡ op = omega arith in
    let e1 : w / 8 % 256 ≡ byte = omega arith in
    let e2 : w % 8 ≡ dst = omega arith in
    simp (
      le-ltb w 0x2000 (omega arith),
      le-ltb w 0x4000 (omega arith),
      le-ltb w 0x4C00 (omega arith),
      le-ltb w 0x5000 (omega arith),
      le-ltb w 0x6000 (omega arith),
      lt-ltb w 0x8000 (omega arith),
      e0,
      e1,
      e2,
    )

ldr : (off : ℤ) (wb src dst w : ℕ) → mag off < 64 → wb < 2 → src < 8 → dst < 8
    → 0x8000 + bits_of 64 off * 128 + wb * 64 + src * 8 + dst ≡ w → decode_of w ≡ Ldr off wb src dst
ldr off wb src dst w h0 h1 h2 h3 e =
    let u : bits_of 64 off < 128 = bits-lt 64 off h0 in
    let e0 : w / 128 % 128 ≡ bits_of 64 off = omega arith in
    let e1 : w / 64 % 2 ≡ wb = omega arith in
    let e2 : w / 8 % 8 ≡ src = omega arith in
    let e3 : w % 8 ≡ dst = omega arith in
    in-relative w (omega arith)
    ∙ simp (lt-ltb w 0xC000 (omega arith), e0, e1, e2, e3, signed-bits 64 off h0)

str : (off : ℤ) (wb src dst w : ℕ) → mag off < 64 → wb < 2 → src < 8 → dst < 8
    → 0xC000 + bits_of 64 off * 128 + wb * 64 + src * 8 + dst ≡ w → decode_of w ≡ Str off wb src dst
str off wb src dst w h0 h1 h2 h3 e =
    let u : bits_of 64 off < 128 = bits-lt 64 off h0 in
    let e0 : w / 128 % 128 ≡ bits_of 64 off = omega arith in
    let e1 : w / 64 % 2 ≡ wb = omega arith in
    let e2 : w / 8 % 8 ≡ src = omega arith in
    let e3 : w % 8 ≡ dst = omega arith in
    in-relative w (omega arith)
    ∙ simp (le-ltb w 0xC000 (omega arith), e0, e1, e2, e3, signed-bits 64 off h0)

pub encode-decode : EncodeDecode
unfolding encode_of
encode-decode Illegal w e = cc
encode-decode (Bl off) w e =
    let s = cond_some _ _ w e in
    bl off w (ltb-true (mag off) 4096 s.0) s.1
encode-decode (Branch cond off) w e =
    let s = cond_some _ _ w e in
    let b1 = last (ltb cond 8) (mag off) 512 s.0 in
    branch cond off w (ltb-true cond 8 b1.0) b1.1 s.1
encode-decode (Alu op rc wb src dst) w e =
    let s = cond_some (ltb op 12 && ltb rc 2 && ltb wb 2 && ltb src 8 && ltb dst 8)
    (0x4000 + op * 256 + rc * 128 + wb * 64 + src * 8 + dst) w e in
    let b4 = last (ltb op 12 && ltb rc 2 && ltb wb 2 && ltb src 8) dst 8 s.0 in
    let b3 = last (ltb op 12 && ltb rc 2 && ltb wb 2) src 8 b4.0 in
    let b2 = last (ltb op 12 && ltb rc 2) wb 2 b3.0 in
    let b1 = last (ltb op 12) rc 2 b2.0 in
    alu op rc wb src dst w (ltb-true op 12 b1.0) b1.1 b2.1 b3.1 b4.1 s.1
encode-decode (Mov wb src dst) w e =
    let s = cond_some _ _ w e in
    let b2 = last (ltb wb 2 && ltb src 8) dst 8 s.0 in
    let b1 = last (ltb wb 2) src 8 b2.0 in
    mov wb src dst w (ltb-true wb 2 b1.0) b1.1 b2.1 s.1
encode-decode (Swap src dst ignored) w e =
    let s = cond_some _ _ w e in
    let b2 = last (ltb src 8 && ltb dst 8) ignored 2 s.0 in
    let b1 = last (ltb src 8) dst 8 b2.0 in
    swap src dst ignored w (ltb-true src 8 b1.0) b1.1 b2.1 s.1
encode-decode (Unary op wb dst) w e =
    let s = cond_some _ _ w e in
    let b2 = last (ltb op 3 && ltb wb 2) dst 8 s.0 in
    let b1 = last (ltb op 3) wb 2 b2.0 in
    unary op wb dst w (ltb-true op 3 b1.0) b1.1 b2.1 s.1
encode-decode (Swpb dst ignored) w e =
    let s = cond_some _ _ w e in
    let b1 = last (ltb dst 8) ignored 2 s.0 in
    swpb dst ignored w (ltb-true dst 8 b1.0) b1.1 s.1
encode-decode (Sxt dst ignored) w e =
    let s = cond_some _ _ w e in
    let b1 = last (ltb dst 8) ignored 2 s.0 in
    sxt dst ignored w (ltb-true dst 8 b1.0) b1.1 s.1
encode-decode (SetPri level) w e =
    let s = cond_some _ _ w e in
    setpri level w (ltb-true level 8 s.0) s.1
encode-decode (Svc vector) w e =
    let s = cond_some _ _ w e in
    svc vector w (ltb-true vector 16 s.0) s.1
encode-decode (SetCc flags) w e =
    let s = cond_some _ _ w e in
    setcc flags w (ltb-true flags 32 s.0) s.1
encode-decode (ClrCc flags) w e =
    let s = cond_some _ _ w e in
    clrcc flags w (ltb-true flags 32 s.0) s.1
encode-decode (Cex cond onTrue onFalse) w e =
    let s = cond_some _ _ w e in
    let b2 = last (ltb cond 16 && ltb onTrue 8) onFalse 8 s.0 in
    let b1 = last (ltb cond 16) onTrue 8 b2.0 in
    cex cond onTrue onFalse w (ltb-true cond 16 b1.0) b1.1 b2.1 s.1
encode-decode (Ld prpo dec inc wb src dst) w e =
    let s = cond_some (ltb prpo 2 && ltb dec 2 && ltb inc 2 && ltb wb 2 && ltb src 8 && ltb dst 8)
    (0x5800 + prpo * 512 + dec * 256 + inc * 128 + wb * 64 + src * 8 + dst) w e in
    let b5 = last (ltb prpo 2 && ltb dec 2 && ltb inc 2 && ltb wb 2 && ltb src 8) dst 8 s.0 in
    let b4 = last (ltb prpo 2 && ltb dec 2 && ltb inc 2 && ltb wb 2) src 8 b5.0 in
    let b3 = last (ltb prpo 2 && ltb dec 2 && ltb inc 2) wb 2 b4.0 in
    let b2 = last (ltb prpo 2 && ltb dec 2) inc 2 b3.0 in
    let b1 = last (ltb prpo 2) dec 2 b2.0 in
    ld prpo dec inc wb src dst w (ltb-true prpo 2 b1.0) b1.1 b2.1 b3.1 b4.1 b5.1 s.1
encode-decode (St prpo dec inc wb src dst) w e =
    let s = cond_some (ltb prpo 2 && ltb dec 2 && ltb inc 2 && ltb wb 2 && ltb src 8 && ltb dst 8)
    (0x5C00 + prpo * 512 + dec * 256 + inc * 128 + wb * 64 + src * 8 + dst) w e in
    let b5 = last (ltb prpo 2 && ltb dec 2 && ltb inc 2 && ltb wb 2 && ltb src 8) dst 8 s.0 in
    let b4 = last (ltb prpo 2 && ltb dec 2 && ltb inc 2 && ltb wb 2) src 8 b5.0 in
    let b3 = last (ltb prpo 2 && ltb dec 2 && ltb inc 2) wb 2 b4.0 in
    let b2 = last (ltb prpo 2 && ltb dec 2) inc 2 b3.0 in
    let b1 = last (ltb prpo 2) dec 2 b2.0 in
    st prpo dec inc wb src dst w (ltb-true prpo 2 b1.0) b1.1 b2.1 b3.1 b4.1 b5.1 s.1
encode-decode (MovImm op byte dst) w e =
    let s = cond_some _ _ w e in
    let b2 = last (ltb op 4 && ltb byte 256) dst 8 s.0 in
    let b1 = last (ltb op 4) byte 256 b2.0 in
    movimm op byte dst w (ltb-true op 4 b1.0) b1.1 b2.1 s.1
encode-decode (Ldr off wb src dst) w e =
    let s = cond_some _ _ w e in
    let b3 = last (off_fits 64 off && ltb wb 2 && ltb src 8) dst 8 s.0 in
    let b2 = last (off_fits 64 off && ltb wb 2) src 8 b3.0 in
    let b1 = last (off_fits 64 off) wb 2 b2.0 in
    ldr off wb src dst w (ltb-true (mag off) 64 b1.0) b1.1 b2.1 b3.1 s.1
encode-decode (Str off wb src dst) w e =
    let s = cond_some _ _ w e in
    let b3 = last (off_fits 64 off && ltb wb 2 && ltb src 8) dst 8 s.0 in
    let b2 = last (off_fits 64 off && ltb wb 2) src 8 b3.0 in
    let b1 = last (off_fits 64 off) wb 2 b2.0 in
    str off wb src dst w (ltb-true (mag off) 64 b1.0) b1.1 b2.1 b3.1 s.1

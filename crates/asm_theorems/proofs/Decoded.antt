-- An assembled word decodes to its statement, and encode is never refused. Assumes nothing.
use mathlib.Core.Path.{◌≡◌, refl, sym, ap, ◌∙◌, subst}
use mathlib.Core.Bool.{Bool, true, false, cond, ◌&&◌}
use mathlib.Core.List.{List}
use Prim.Native.Nat.{ℕ, ◌+◌, ◌%◌, ◌<◌}
use native.Mathlib.Omega.{arith}
use lib.Dec.{ltb}
use lib.IntN.{ℤ}
use lib.ListN.{get_or}
use lib.Signed.{mag}
use borrow.Author.Tests.{lt-ltb}
use Rattle.word.specs.Offset.{signed_of}
use Rattle.isa.specs.declared.Instr.{Instr}
use Rattle.isa.specs.declared.Instr.TheVariants as i
use Rattle.std.specs.Prelude.{Option, Some, None, Ok, Err}
use Rattle.isa.specs.Decode.{decode_of}
use Rattle.isa.specs.Encode.{encode_of, when_fits}
use Rattle.isa_laws.proofs.EncodeDecode.{encode-decode}
use Rattle.asm_value.specs.declared.Lack.TheVariants.{Unknown, Outside}
use Rattle.asm_fits.specs.Fits.{Fit, residue_of, count_fit, offset_fit, immediate_fit, constant_fit, branch_fit}
use Rattle.asm_line.specs.declared.Statement.{Statement}
use Rattle.asm_line.specs.declared.Statement.TheVariants as st
use Rattle.asm_line.proofs.Lawful.{Worded, Lawful, LawfulLine, line-lawful}
use Rattle.asm_write.specs.Written.{encoded, coded, coded_both, number_of, layout_of, size_of, misplaced?, placed, used_of}
use Rattle.asm_image.specs.Image.{Placed, placing}
use Rattle.asm_call.specs.Call.{assemble_call_of}
use Rattle.asm_theorems.specs.Theorems.{Uncovered, Means, word_in, Assembles, WordsDecode, WordHeld, ByteHeld}
use Rattle.asm_theorems.specs.Theorems.{Encodes, Coded, CodedBoth, NotRefused, NeverRefused}
use Rattle.asm_theorems.proofs.Image.{byte-held, word_held}
use Rattle.asm_theorems.proofs.Accepted.{Good, accepted-whole, assembled-good, assembled-memory}
use Rattle.asm_theorems.proofs.Values.{number-inj, lack-not, count_of, offset-of, byte_of, word_of, immediate-of}
use Rattle.asm_theorems.proofs.Values.{constant_of, branch-of}

-- ---- from a statement's number to its instruction
encoded-of : (x : Option ℕ) (n : ℕ) → encoded x ≡ Ok n → x ≡ Some n
encoded-of (Some w) n h = ap Some (number-inj w n h)
encoded-of None n h = absurd (lack-not Outside n h)

-- the word decodes to the instruction that was encoded
pub decoded : (j : Instr) (n : ℕ) → encoded (encode_of j) ≡ Ok n → decode_of n ≡ j
decoded j n h = encode-decode j n (encoded-of (encode_of j) n h)

coded-of : (f : Fit) (g : ℕ → Instr) (n : ℕ) → coded f g ≡ Ok n → (k : ℕ) × (f ≡ Ok k) × (decode_of n ≡ g k)
coded-of (Ok k) g n h = (k, refl, decoded (g k) n h)
coded-of (Err d) g n h = absurd (lack-not d n h)

both_of : (a b : Fit) (g : ℕ → ℕ → Instr) (n : ℕ) → coded_both a b g ≡ Ok n
    → (j : ℕ) × (k : ℕ) × (a ≡ Ok j) × (b ≡ Ok k) × (decode_of n ≡ g j k)
both_of (Ok j) b g n h = let c = coded-of b (g j) n h in (j, c.0, refl, c.1, c.2)
both_of (Err Unknown) b g n h = absurd (lack-not Unknown n h)
both_of (Err Outside) (Ok k) g n h = absurd (lack-not Outside n h)
both_of (Err Outside) (Err d) g n h = absurd (lack-not d n h)

means : (p : ℕ) (x : Statement) (n : ℕ) → number_of p x ≡ Ok n → Means p x (decode_of n)
unfolding number_of
means p st.Nothing n h = tt
means p (st.Org v) n h = tt
means p (st.Equ v) n h = tt
means p (st.Bss v) n h = tt
means p (st.Byte v) n h = tt
means p (st.Word v) n h = tt
means p st.End n h = tt
means p (st.Fixed j) n h = decoded j n h
means p (st.Bl v) n h =
    let c = coded-of (branch_fit 4096 p v) (λ (k : ℕ). i.Bl (signed_of 4096 k)) n h in
    let b = branch-of 4096 p v c.0 (omega arith) c.1 in
    (b.0, signed_of 4096 c.0, b.1, c.2, b.2, b.3)
means p (st.Branch cc v) n h =
    let c = coded-of (branch_fit 512 p v) (λ (k : ℕ). i.Branch cc (signed_of 512 k)) n h in
    let b = branch-of 512 p v c.0 (omega arith) c.1 in
    (b.0, signed_of 512 c.0, b.1, c.2, b.2, b.3)
means p (st.Constant op wb v dst) n h =
    let c = coded-of _ (λ (k : ℕ). i.Alu op 1 wb k dst) n h in
    let b = constant_of v c.0 c.1 in
    (c.0, b.0, b.1, c.2)
means p (st.SetPri v) n h =
    let c = coded-of (count_fit 8 v) i.SetPri n h in
    (c.0, (count_of 8 v c.0 (omega arith) c.1).0, c.2)
means p (st.Svc v) n h =
    let c = coded-of (count_fit 16 v) i.Svc n h in
    (c.0, (count_of 16 v c.0 (omega arith) c.1).0, c.2)
means p (st.Cex c t f) n h =
    let b = both_of (count_fit 8 t) (count_fit 8 f) (i.Cex c) n h in
    (b.0, b.1, (count_of 8 t b.0 (omega arith) b.2).0, (count_of 8 f b.1 (omega arith) b.3).0, b.4)
means p (st.MovImm op number v dst) n h =
    let c = coded-of (immediate_fit op number v) (λ (k : ℕ). i.MovImm op k dst) n h in
    let b = immediate-of op number v c.0 c.1 in
    (b.0, b.1, c.2 ∙ ap (λ (k : ℕ). i.MovImm op k dst) b.2)
means p (st.Ldr v wb src dst) n h =
    let c = coded-of (offset_fit v) (λ (k : ℕ). i.Ldr (signed_of 64 k) wb src dst) n h in
    let b = offset-of v c.0 c.1 in
    (b.0, b.1, c.2 ∙ ap (λ (z : ℤ). i.Ldr z wb src dst) b.2)
means p (st.Str v wb src dst) n h =
    let c = coded-of (offset_fit v) (λ (k : ℕ). i.Str (signed_of 64 k) wb src dst) n h in
    let b = offset-of v c.0 c.1 in
    (b.0, b.1, c.2 ∙ ap (λ (z : ℤ). i.Str z wb src dst) b.2)

-- ---- at its place
placed_of : (size p : ℕ) (f : Fit) (n : ℕ) → placed size p f ≡ Ok n → f ≡ Ok n
placed_of size p (Ok k) n h = go (misplaced? size p) h
  where
    go : (b : Bool) → cond b (Err Outside) (Ok k) ≡ Ok n → ◌≡◌ {A = Fit} (Ok k) (Ok n)
    go true e = absurd (lack-not Outside n e)
    go false e = e
placed_of size p (Err d) n h = absurd (lack-not d n h)

number-of : (p : ℕ) (x : Statement) (n : ℕ) → used_of p x ≡ Ok n → number_of p x ≡ Ok n
unfolding used_of
number-of p x n h = placed_of (size_of (layout_of x)) p (number_of p x) n h

-- what is said of an instruction's word, where the statement has one
by_size : (p : ℕ) (x : Statement) (j k : Instr) → (size_of (layout_of x) ≡ 2 → j ≡ k) → Means p x k → Means p x j
unfolding layout_of
by_size p st.Nothing j k h m = tt
by_size p (st.Org v) j k h m = tt
by_size p (st.Equ v) j k h m = tt
by_size p (st.Bss v) j k h m = tt
by_size p (st.Byte v) j k h m = tt
by_size p (st.Word v) j k h m = tt
by_size p st.End j k h m = tt
by_size p (st.Fixed i) j k h m = h refl ∙ m
by_size p (st.Bl v) j k h m = subst (Means p (st.Bl v)) (sym (h refl)) m
by_size p (st.Branch c v) j k h m = subst (Means p (st.Branch c v)) (sym (h refl)) m
by_size p (st.Constant op wb v dst) j k h m = subst (Means p (st.Constant op wb v dst)) (sym (h refl)) m
by_size p (st.SetPri v) j k h m = subst (Means p (st.SetPri v)) (sym (h refl)) m
by_size p (st.Svc v) j k h m = subst (Means p (st.Svc v)) (sym (h refl)) m
by_size p (st.Cex c t f) j k h m = subst (Means p (st.Cex c t f)) (sym (h refl)) m
by_size p (st.MovImm op number v dst) j k h m = subst (Means p (st.MovImm op number v dst)) (sym (h refl)) m
by_size p (st.Ldr v wb src dst) j k h m = subst (Means p (st.Ldr v wb src dst)) (sym (h refl)) m
by_size p (st.Str v wb src dst) j k h m = subst (Means p (st.Str v wb src dst)) (sym (h refl)) m

-- ---- in the image
module _ (m s : List ℕ) (x : Placed) (after : List Placed) (h : Assembles m s x after) where
  good : Good x
  good = assembled-good m s x after h

  n : ℕ
  n = good.1.0

  number : number_of x.place x.statement ≡ Ok n
  unfolding n
  number = number-of x.place x.statement n good.1.1

  byte-is : size_of (layout_of x.statement) ≡ 1 → Uncovered after x.place
      → get_or (assemble_call_of m s).memory x.place 0 ≡ n % 256
  unfolding n
  byte-is k u =
      ap (λ (l : List ℕ). get_or l x.place 0) (assembled-memory m s x after h)
      ∙ byte-held h.before after x m n good.1.1 (accepted-whole m s h.accepted).0 k u

  word-is : size_of (layout_of x.statement) ≡ 2 → Uncovered after x.place → Uncovered after (x.place + 1)
      → word_in (assemble_call_of m s).memory x.place ≡ n
  unfolding n
  word-is k u w =
      ap (λ (l : List ℕ). word_in l x.place) (assembled-memory m s x after h)
      ∙ word_held h.before after x m n good.1.1 (accepted-whole m s h.accepted).0 k u w

pub words-decode : WordsDecode
words-decode m s x after h u w =
    by_size x.place x.statement (decode_of (word_in (assemble_call_of m s).memory x.place)) (decode_of (n m s x after h))
    (λ k. ap decode_of (word-is m s x after h k u w)) (means x.place x.statement (n m s x after h) (number m s x after h))

pub word-data : WordHeld
unfolding layout_of number_of
word-data m s p v after h u w =
    let x = placing p (st.Word v) in
    let b = word_of v (n m s x after h) (number m s x after h) in
    (b.0, b.1, word-is m s x after h refl u w ∙ b.2)

pub byte-data : ByteHeld
unfolding layout_of number_of
byte-data m s p v after h u =
    let x = placing p (st.Byte v) in
    let b = byte_of v (n m s x after h) (number m s x after h) in
    let d : residue_of b.0 % 256 % 256 ≡ residue_of b.0 % 256 = omega arith in
    (b.0, b.1, byte-is m s x after h refl u ∙ ap (λ (k : ℕ). k % 256) b.2 ∙ d)

-- ---- encode is never refused
coded_by : (f : Fit) (g : ℕ → Instr) → ((k : ℕ) → f ≡ Ok k → Encodes (g k)) → Coded f g
coded_by (Ok k) g h = h k refl
coded_by (Err d) g h = tt

both_by : (a b : Fit) (g : ℕ → ℕ → Instr) → ((j k : ℕ) → a ≡ Ok j → b ≡ Ok k → Encodes (g j k)) → CodedBoth a b g
both_by (Ok j) b g h = coded_by b (g j) (λ k. h j k refl)
both_by (Err d) b g h = tt

worded : (x : Option ℕ) → Worded x → (w : ℕ) × (x ≡ Some w)
worded (Some w) h = (w, refl)
worded None h = absurd h

when : (b : Bool) (w : ℕ) → b ≡ true → (k : ℕ) × (when_fits b w ≡ Some k)
when b w h = (w, ap (λ (t : Bool). when_fits t w) h)

not_refused : (p : ℕ) (x : Statement) → Lawful x → NotRefused p x
unfolding encode_of
not_refused p st.Nothing l = tt
not_refused p (st.Org v) l = tt
not_refused p (st.Equ v) l = tt
not_refused p (st.Bss v) l = tt
not_refused p (st.Byte v) l = tt
not_refused p (st.Word v) l = tt
not_refused p st.End l = tt
not_refused p (st.Fixed j) l = worded (encode_of j) l
not_refused p (st.Bl v) l = coded_by (branch_fit 4096 p v) _
    (λ k h. let b = branch-of 4096 p v k (omega arith) h in when _ _ (lt-ltb (mag (signed_of 4096 k)) 4096 b.2))
not_refused p (st.Branch c v) l = coded_by (branch_fit 512 p v) _
    (λ k h. let b = branch-of 512 p v k (omega arith) h in
    when (ltb c 8 && ltb (mag (signed_of 512 k)) 512) _ (rw (lt-ltb c 8 l, lt-ltb (mag (signed_of 512 k)) 512 b.2)))
not_refused p (st.Constant op wb v dst) l = coded_by (constant_fit v) _
    (λ k h. let b = constant_of v k h in
    when (ltb op 12 && ltb 1 2 && ltb wb 2 && ltb k 8 && ltb dst 8) _
    (rw (lt-ltb op 12 l.0, lt-ltb wb 2 l.1, lt-ltb k 8 b.0, lt-ltb dst 8 l.2)))
not_refused p (st.SetPri v) l = coded_by (count_fit 8 v) _
    (λ k h. when (ltb k 8) _ (lt-ltb k 8 (count_of 8 v k (omega arith) h).1))
not_refused p (st.Svc v) l = coded_by (count_fit 16 v) _
    (λ k h. when (ltb k 16) _ (lt-ltb k 16 (count_of 16 v k (omega arith) h).1))
not_refused p (st.Cex c t f) l = both_by (count_fit 8 t) (count_fit 8 f) _
    (λ j k a b. when (ltb c 16 && ltb j 8 && ltb k 8) _
    (rw (lt-ltb c 16 l, lt-ltb j 8 (count_of 8 t j (omega arith) a).1, lt-ltb k 8 (count_of 8 f k (omega arith) b).1)))
not_refused p (st.MovImm op number v dst) l = coded_by (immediate_fit op number v) _
    (λ k h. when (ltb op 4 && ltb k 256 && ltb dst 8) _
    (rw (lt-ltb op 4 l.0, lt-ltb k 256 (immediate-of op number v k h).3, lt-ltb dst 8 l.1)))
not_refused p (st.Ldr v wb src dst) l = coded_by (offset_fit v) _
    (λ k h. let b = offset-of v k h in
    when (ltb (mag (signed_of 64 k)) 64 && ltb wb 2 && ltb src 8 && ltb dst 8) _
    (rw (
      lt-ltb (mag (signed_of 64 k)) 64 (subst (λ (z : ℤ). mag z < 64) (sym b.2) b.3),
      lt-ltb wb 2 l.0,
      lt-ltb src 8 l.1,
      lt-ltb dst 8 l.2,
    )))
not_refused p (st.Str v wb src dst) l = coded_by (offset_fit v) _
    (λ k h. let b = offset-of v k h in
    when (ltb (mag (signed_of 64 k)) 64 && ltb wb 2 && ltb src 8 && ltb dst 8) _
    (rw (
      lt-ltb (mag (signed_of 64 k)) 64 (subst (λ (z : ℤ). mag z < 64) (sym b.2) b.3),
      lt-ltb wb 2 l.0,
      lt-ltb src 8 l.1,
      lt-ltb dst 8 l.2,
    )))

pub never-refused : NeverRefused
never-refused look l start name x e p = not_refused p x (subst LawfulLine e (line-lawful look l))

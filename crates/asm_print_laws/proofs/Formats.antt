-- The text of a word says that word: a case for each format. Assumes nothing.
use mathlib.Core.Path.{◌≡◌, refl, ap, ◌∙◌}
use mathlib.Core.Bool.{true, false}
use mathlib.Core.List.{List}
use Prim.Native.Nat.{ℕ, zero, suc, ◌<◌}
use native.Mathlib.Omega.{arith}
use lib.IntN.{ℤ, pos}
use lib.Signed.{mag}
use borrow.Author.Tests.{ne_eqb}
use Rattle.std.specs.Prelude.{Some, Result, Ok}
use Rattle.asm_value.specs.declared.Lack.{Lack}
use Rattle.word.proofs.Laws.{bool_cases}
use Rattle.word.specs.Offset.{signed_of, bits_of}
use Rattle.isa.specs.declared.Instr.{Instr}
use Rattle.isa.specs.declared.Instr.TheVariants as i
use Rattle.isa.specs.Decode.{decode_of}
use Rattle.isa.specs.Encode.{encode_of}
use Rattle.isa.specs.Legal.{is_legal}
use Rattle.isa.specs.Fields.{Fields}
use Rattle.isa.proofs.Laws.{decode-fields}
use Rattle.isa_laws.proofs.EncodeDecode.{signed-bits}
use Rattle.isa_laws.proofs.DecodeEncode.{decode-encode}
use Rattle.text_lines.proofs.Laws.{Plain}
use Rattle.asm_text.specs.Text.{ascii, name_byte?}
use Rattle.asm_words.specs.declared.Keyword.TheVariants as key
use Rattle.asm_words.specs.declared.Valued.TheVariants as val
use Rattle.asm_words.specs.Words as words
use Rattle.asm_fits.specs.Fits.{Fit, count_fit, offset_fit, byte_fit, branch_fit, constant_fit}
use Rattle.asm_line.specs.declared.Statement.TheVariants.{Fixed, Constant, SetPri, Svc, Cex, MovImm, Ldr, Str}
use Rattle.asm_line.specs.Statement.{with_value, statement_with, statement_of}
use Rattle.asm_write.specs.Written.{coded_both, layout_of, number_of}
use Rattle.asm_print.specs.Print.{
  name_in,
  condition_text,
  register_text,
  number_text,
  hex_text,
  constant_of,
  flags_text,
  address_text,
  idle?,
}
use Rattle.asm_print.specs.Print.{with_comma, target_of, phrase, text_for, text_at}
use Rattle.asm_print_laws.specs.Theorems.{TextSays}
use Rattle.asm_print_laws.proofs.Pieces.{condition-spells, flags-spells, branch-spells, operation-spells, unary-spells}
use Rattle.asm_print_laws.proofs.Pieces.{move-spells, mnemonics}
use Rattle.asm_print_laws.proofs.Statements.{one_number, two-registers, with-constant, moves, exchanges, unaries, of-register}
use Rattle.asm_print_laws.proofs.Statements.{of-flags, conditionals, move-byte, load-relative, store-relative, loads, stores}
use Rattle.asm_print_laws.proofs.Fits.{count_fits, byte_fits, offset-fits, constant-fits, branch_fits, coded-is}
use Rattle.asm_print_laws.proofs.Lines.{mnemonic-line, name-plain, all_plain, register-plain, number-plain, hex-plain}
use Rattle.asm_print_laws.proofs.Lines.{with-comma-plain, phrase-plain}
use Rattle.asm_print_laws.proofs.Lines.{address_plain, Whole, fixed-whole, word-whole, valued-whole, branch-whole}

module _ (look : List ℕ → Result ℤ Lack) (p w : ℕ) (h : w < 65536) where
  -- ---- branches
  bl-whole : (off : ℤ) → mag off < 4096 → encode_of (i.Bl off) ≡ Some w → Whole look p w (text_for p w (i.Bl off))
  unfolding text_for layout_of number_of with_value
  bl-whole off f c =
      let v = Ok (pos (target_of p off)) in
      branch-whole look p w (ascii "BL") val.Bl off h mnemonics.bl refl
      (coded-is (branch_fit 4096 p v) (λ (n : ℕ). i.Bl (signed_of 4096 n)) (bits_of 4096 off) (i.Bl off) w
      (branch_fits 4096 p (omega arith) off f) (ap i.Bl (signed-bits 4096 off f)) c)

  branches-whole : (b : ℕ) (off : ℤ) → b < 8 → mag off < 512 → encode_of (i.Branch b off) ≡ Some w
      → Whole look p w (text_for p w (i.Branch b off))
  unfolding text_for layout_of number_of with_value
  branches-whole b off hb f c =
      let v = Ok (pos (target_of p off)) in
      branch-whole look p w (name_in words.branches b) (val.Branch b) off h (branch-spells b hb) refl
      (coded-is (branch_fit 512 p v) (λ (n : ℕ). i.Branch b (signed_of 512 n)) (bits_of 512 off) (i.Branch b off) w
      (branch_fits 512 p (omega arith) off f) (ap (i.Branch b) (signed-bits 512 off f)) c)

  -- ---- registers
  alu-registers : (op wb src dst : ℕ) → op < 12 → wb < 2 → src < 8 → dst < 8 → encode_of (i.Alu op 0 wb src dst) ≡ Some w
      → Whole look p w (text_for p w (i.Alu op 0 wb src dst))
  unfolding text_for statement_of statement_with
  alu-registers op wb src dst ho hw hs hd c =
      let t = with_comma (register_text src) (register_text dst) in
      let x = Fixed (i.Alu op 0 wb src dst) in
      fixed-whole look p w (i.Alu op 0 wb src dst) (phrase (name_in words.operations op) wb t) c
      (mnemonic-line look (name_in words.operations op) (key.Arithmetic op) wb t x (operation-spells op ho)
      (λ s k b. two-registers look s k op wb src dst hw hs hd b))
      (phrase-plain (name_in words.operations op) wb t (operation-spells op ho).names
      (with-comma-plain (register_text src) (register_text dst) (register-plain src hs) (register-plain dst hd)))

  alu-constant : (op wb src dst : ℕ) → op < 12 → wb < 2 → src < 8 → dst < 8 → encode_of (i.Alu op 1 wb src dst) ≡ Some w
      → Whole look p w (text_for p w (i.Alu op 1 wb src dst))
  unfolding text_for layout_of number_of statement_of statement_with
  alu-constant op wb src dst ho hw hs hd c =
      let z = constant_of src in
      let g = constant-fits src hs in
      let t = with_comma (number_text z) (register_text dst) in
      let x = Constant op wb (Ok z) dst in
      valued-whole look p w x (phrase (name_in words.operations op) wb t)
      (mnemonic-line look (name_in words.operations op) (key.Arithmetic op) wb t x (operation-spells op ho)
      (λ s k b. with-constant look s k op wb z dst hw g.0 hd b))
      refl
      (coded-is (constant_fit (Ok z)) (λ (n : ℕ). i.Alu op 1 wb n dst) src (i.Alu op 1 wb src dst) w g.1 refl c)
      (phrase-plain (name_in words.operations op) wb t (operation-spells op ho).names
      (with-comma-plain (number_text z) (register_text dst) (number-plain z g.0) (register-plain dst hd)))

  mov-whole : (wb src dst : ℕ) → wb < 2 → src < 8 → dst < 8 → encode_of (i.Mov wb src dst) ≡ Some w
      → Whole look p w (text_for p w (i.Mov wb src dst))
  unfolding text_for statement_of statement_with
  mov-whole wb src dst hw hs hd c =
      let t = with_comma (register_text src) (register_text dst) in
      fixed-whole look p w (i.Mov wb src dst) (phrase (ascii "MOV") wb t) c
      (mnemonic-line look (ascii "MOV") key.Mov wb t (Fixed (i.Mov wb src dst)) mnemonics.mov
      (λ s k b. moves look s k wb src dst hw hs hd b))
      (phrase-plain (ascii "MOV") wb t mnemonics.mov.names
      (with-comma-plain (register_text src) (register_text dst) (register-plain src hs) (register-plain dst hd)))

  swap-whole : (src dst ignored : ℕ) → src < 8 → dst < 8 → encode_of (i.Swap src dst ignored) ≡ Some w
      → Whole look p w (text_for p w (i.Swap src dst ignored))
  unfolding text_for statement_of statement_with
  swap-whole src dst zero hs hd c =
      let t = with_comma (register_text src) (register_text dst) in
      fixed-whole look p w (i.Swap src dst 0) (phrase (ascii "SWAP") 0 t) c
      (mnemonic-line look (ascii "SWAP") key.Swap 0 t (Fixed (i.Swap src dst 0)) mnemonics.swap
      (λ s k b. exchanges look s k src dst hs hd b))
      (phrase-plain (ascii "SWAP") 0 t mnemonics.swap.names
      (with-comma-plain (register_text src) (register_text dst) (register-plain src hs) (register-plain dst hd)))
  swap-whole src dst (suc n) hs hd c = rw (ne_eqb (suc n) 0 (λ q. omega arith)) (word-whole look p w h)

  unary-whole : (op wb dst : ℕ) → op < 3 → wb < 2 → dst < 8 → encode_of (i.Unary op wb dst) ≡ Some w
      → Whole look p w (text_for p w (i.Unary op wb dst))
  unfolding text_for statement_of statement_with
  unary-whole op wb dst ho hw hd c =
      let x = Fixed (i.Unary op wb dst) in
      fixed-whole look p w (i.Unary op wb dst) (phrase (name_in words.unaries op) wb (register_text dst)) c
      (mnemonic-line look (name_in words.unaries op) (key.Unary op) wb (register_text dst) x (unary-spells op ho)
      (λ s k b. unaries look s k op wb dst hw hd b))
      (phrase-plain (name_in words.unaries op) wb (register_text dst) (unary-spells op ho).names (register-plain dst hd))

  swpb-whole : (dst ignored : ℕ) → dst < 8 → encode_of (i.Swpb dst ignored) ≡ Some w → Whole look p w (text_for p w (i.Swpb dst ignored))
  unfolding text_for statement_of statement_with
  swpb-whole dst zero hd c =
      fixed-whole look p w (i.Swpb dst 0) (phrase (ascii "SWPB") 0 (register_text dst)) c
      (mnemonic-line look (ascii "SWPB") key.Swpb 0 (register_text dst) (Fixed (i.Swpb dst 0)) mnemonics.swpb
      (λ s k b. of-register look s k true dst hd b))
      (phrase-plain (ascii "SWPB") 0 (register_text dst) mnemonics.swpb.names (register-plain dst hd))
  swpb-whole dst (suc n) hd c = rw (ne_eqb (suc n) 0 (λ q. omega arith)) (word-whole look p w h)

  sxt-whole : (dst ignored : ℕ) → dst < 8 → encode_of (i.Sxt dst ignored) ≡ Some w → Whole look p w (text_for p w (i.Sxt dst ignored))
  unfolding text_for statement_of statement_with
  sxt-whole dst zero hd c =
      fixed-whole look p w (i.Sxt dst 0) (phrase (ascii "SXT") 0 (register_text dst)) c
      (mnemonic-line look (ascii "SXT") key.Sxt 0 (register_text dst) (Fixed (i.Sxt dst 0)) mnemonics.sxt
      (λ s k b. of-register look s k false dst hd b))
      (phrase-plain (ascii "SXT") 0 (register_text dst) mnemonics.sxt.names (register-plain dst hd))
  sxt-whole dst (suc n) hd c = rw (ne_eqb (suc n) 0 (λ q. omega arith)) (word-whole look p w h)

  -- ---- control
  level-whole : (n : ℕ) → n < 8 → encode_of (i.SetPri n) ≡ Some w → Whole look p w (text_for p w (i.SetPri n))
  unfolding text_for layout_of number_of statement_of statement_with with_value
  level-whole n f c =
      valued-whole look p w (SetPri (Ok (pos n))) (phrase (ascii "SETPRI") 0 (number_text (pos n)))
      (mnemonic-line look (ascii "SETPRI") (key.Value val.SetPri) 0 (number_text (pos n)) (SetPri (Ok (pos n))) mnemonics.setpri
      (λ s k b. one_number look s k val.SetPri n (omega arith) b))
      refl (coded-is (count_fit 8 (Ok (pos n))) i.SetPri n (i.SetPri n) w (count_fits 8 n (omega arith) f) refl c)
      (phrase-plain (ascii "SETPRI") 0 (number_text (pos n)) mnemonics.setpri.names (number-plain (pos n) (omega arith)))

  vector-whole : (n : ℕ) → n < 16 → encode_of (i.Svc n) ≡ Some w → Whole look p w (text_for p w (i.Svc n))
  unfolding text_for layout_of number_of statement_of statement_with with_value
  vector-whole n f c =
      valued-whole look p w (Svc (Ok (pos n))) (phrase (ascii "SVC") 0 (number_text (pos n)))
      (mnemonic-line look (ascii "SVC") (key.Value val.Svc) 0 (number_text (pos n)) (Svc (Ok (pos n))) mnemonics.svc
      (λ s k b. one_number look s k val.Svc n (omega arith) b))
      refl (coded-is (count_fit 16 (Ok (pos n))) i.Svc n (i.Svc n) w (count_fits 16 n (omega arith) f) refl c)
      (phrase-plain (ascii "SVC") 0 (number_text (pos n)) mnemonics.svc.names (number-plain (pos n) (omega arith)))

  flags-plain : (f : ℕ) → f < 31 → Plain (flags_text (suc f))
  flags-plain f k = all_plain name_byte? name-plain (flags_text (suc f)) (flags-spells f k).names

  set-whole : (f : ℕ) → f < 32 → encode_of (i.SetCc f) ≡ Some w → Whole look p w (text_for p w (i.SetCc f))
  unfolding text_for statement_of statement_with
  set-whole zero k c = word-whole look p w h
  set-whole (suc f) k c =
      rw (ne_eqb (suc f) 0 (λ q. omega arith)) (fixed-whole look p w (i.SetCc (suc f)) (phrase (ascii "SETCC") 0 (flags_text (suc f))) c
      (mnemonic-line look (ascii "SETCC") key.SetCc 0 (flags_text (suc f)) (Fixed (i.SetCc (suc f))) mnemonics.setcc
      (λ s j b. of-flags look s j true f (omega arith) b))
      (phrase-plain (ascii "SETCC") 0 (flags_text (suc f)) mnemonics.setcc.names (flags-plain f (omega arith))))

  clear_whole : (f : ℕ) → f < 32 → encode_of (i.ClrCc f) ≡ Some w → Whole look p w (text_for p w (i.ClrCc f))
  unfolding text_for statement_of statement_with
  clear_whole zero k c = word-whole look p w h
  clear_whole (suc f) k c =
      rw (ne_eqb (suc f) 0 (λ q. omega arith)) (fixed-whole look p w (i.ClrCc (suc f)) (phrase (ascii "CLRCC") 0 (flags_text (suc f))) c
      (mnemonic-line look (ascii "CLRCC") key.ClrCc 0 (flags_text (suc f)) (Fixed (i.ClrCc (suc f))) mnemonics.clrcc
      (λ s j b. of-flags look s j false f (omega arith) b))
      (phrase-plain (ascii "CLRCC") 0 (flags_text (suc f)) mnemonics.clrcc.names (flags-plain f (omega arith))))

  cex-whole : (q m n : ℕ) → q < 16 → m < 8 → n < 8 → encode_of (i.Cex q m n) ≡ Some w → Whole look p w (text_for p w (i.Cex q m n))
  unfolding text_for layout_of number_of statement_of statement_with
  cex-whole q m n hq hm hn c =
      let t = with_comma (condition_text q) (with_comma (number_text (pos m)) (number_text (pos n))) in
      let x = Cex q (Ok (pos m)) (Ok (pos n)) in
      valued-whole look p w x (phrase (ascii "CEX") 0 t)
      (mnemonic-line look (ascii "CEX") key.Cex 0 t x mnemonics.cex
      (λ s k b. conditionals look s k q m n hq (omega arith) (omega arith) b))
      refl
      (ap (λ (f : Fit). coded_both f (count_fit 8 (Ok (pos n))) (i.Cex q)) (count_fits 8 m (omega arith) hm)
      ∙ coded-is (count_fit 8 (Ok (pos n))) (i.Cex q m) n (i.Cex q m n) w (count_fits 8 n (omega arith) hn) refl c)
      (phrase-plain (ascii "CEX") 0 t mnemonics.cex.names
      (with-comma-plain (condition_text q) (with_comma (number_text (pos m)) (number_text (pos n)))
      (all_plain name_byte? name-plain (condition_text q) (condition-spells q hq).names)
      (with-comma-plain (number_text (pos m)) (number_text (pos n)) (number-plain (pos m) (omega arith))
      (number-plain (pos n) (omega arith)))))

  -- ---- memory
  module _ (prpo dec inc wb src dst : ℕ) (hp : prpo < 2) (hc : dec < 2) (hi : inc < 2) (hw : wb < 2) (hs : src < 8) (hd : dst < 8) where
    ld-whole : encode_of (i.Ld prpo dec inc wb src dst) ≡ Some w → Whole look p w (text_for p w (i.Ld prpo dec inc wb src dst))
    unfolding text_for statement_of statement_with
    ld-whole c =
        let t = with_comma (address_text prpo dec inc src) (register_text dst) in
        let j = i.Ld prpo dec inc wb src dst in
        bool_cases (idle? prpo dec inc) (λ q. rw q (word-whole look p w h))
        (λ q. rw q (fixed-whole look p w j (phrase (ascii "LD") wb t) c
        (mnemonic-line look (ascii "LD") key.Ld wb t (Fixed j) mnemonics.ld
        (λ s k b. loads s k prpo dec inc wb src dst hp hc hi hw hs hd q b))
        (phrase-plain (ascii "LD") wb t mnemonics.ld.names
        (with-comma-plain (address_text prpo dec inc src) (register_text dst) (address_plain prpo dec inc src hs)
        (register-plain dst hd)))))

    st-whole : encode_of (i.St prpo dec inc wb src dst) ≡ Some w → Whole look p w (text_for p w (i.St prpo dec inc wb src dst))
    unfolding text_for statement_of statement_with
    st-whole c =
        let t = with_comma (register_text src) (address_text prpo dec inc dst) in
        let j = i.St prpo dec inc wb src dst in
        bool_cases (idle? prpo dec inc) (λ q. rw q (word-whole look p w h))
        (λ q. rw q (fixed-whole look p w j (phrase (ascii "ST") wb t) c
        (mnemonic-line look (ascii "ST") key.St wb t (Fixed j) mnemonics.st
        (λ s k b. stores s k prpo dec inc wb src dst hp hc hi hw hs hd q b))
        (phrase-plain (ascii "ST") wb t mnemonics.st.names
        (with-comma-plain (register_text src) (address_text prpo dec inc dst) (register-plain src hs)
        (address_plain prpo dec inc dst hd)))))

  immediate-whole : (op n dst : ℕ) → op < 4 → n < 256 → dst < 8 → encode_of (i.MovImm op n dst) ≡ Some w
      → Whole look p w (text_for p w (i.MovImm op n dst))
  unfolding text_for layout_of number_of statement_of statement_with
  immediate-whole op n dst ho hn hd c =
      let t = with_comma (hex_text 2 n) (register_text dst) in
      let x = MovImm op true (Ok (pos n)) dst in
      valued-whole look p w x (phrase (name_in words.moves op) 0 t)
      (mnemonic-line look (name_in words.moves op) (key.MovImm op) 0 t x (move-spells op ho)
      (λ s k b. move-byte look s k op n dst hn hd b))
      refl
      (coded-is (byte_fit (Ok (pos n))) (λ (b : ℕ). i.MovImm op b dst) n (i.MovImm op n dst) w (byte_fits n hn) refl c)
      (phrase-plain (name_in words.moves op) 0 t (move-spells op ho).names
      (with-comma-plain (hex_text 2 n) (register_text dst) (hex-plain 2 n) (register-plain dst hd)))

  ldr-whole : (z : ℤ) (wb src dst : ℕ) → mag z < 64 → wb < 2 → src < 8 → dst < 8 → encode_of (i.Ldr z wb src dst) ≡ Some w
      → Whole look p w (text_for p w (i.Ldr z wb src dst))
  unfolding text_for layout_of number_of statement_of statement_with
  ldr-whole z wb src dst hz hw hs hd c =
      let t = with_comma (register_text src) (with_comma (number_text z) (register_text dst)) in
      let x = Ldr (Ok z) wb src dst in
      valued-whole look p w x (phrase (ascii "LDR") wb t)
      (mnemonic-line look (ascii "LDR") key.Ldr wb t x mnemonics.ldr
      (λ s k b. load-relative look s k z wb src dst (omega arith) hw hs hd b))
      refl
      (coded-is (offset_fit (Ok z)) (λ (n : ℕ). i.Ldr (signed_of 64 n) wb src dst) (bits_of 64 z) (i.Ldr z wb src dst) w
      (offset-fits z hz) (ap (λ (y : ℤ). i.Ldr y wb src dst) (signed-bits 64 z hz)) c)
      (phrase-plain (ascii "LDR") wb t mnemonics.ldr.names
      (with-comma-plain (register_text src) (with_comma (number_text z) (register_text dst)) (register-plain src hs)
      (with-comma-plain (number_text z) (register_text dst) (number-plain z (omega arith)) (register-plain dst hd))))

  str-whole : (z : ℤ) (wb src dst : ℕ) → mag z < 64 → wb < 2 → src < 8 → dst < 8 → encode_of (i.Str z wb src dst) ≡ Some w
      → Whole look p w (text_for p w (i.Str z wb src dst))
  unfolding text_for layout_of number_of statement_of statement_with
  str-whole z wb src dst hz hw hs hd c =
      let t = with_comma (register_text src) (with_comma (register_text dst) (number_text z)) in
      let x = Str (Ok z) wb src dst in
      valued-whole look p w x (phrase (ascii "STR") wb t)
      (mnemonic-line look (ascii "STR") key.Str wb t x mnemonics.str
      (λ s k b. store-relative look s k z wb src dst (omega arith) hw hs hd b))
      refl
      (coded-is (offset_fit (Ok z)) (λ (n : ℕ). i.Str (signed_of 64 n) wb src dst) (bits_of 64 z) (i.Str z wb src dst) w
      (offset-fits z hz) (ap (λ (y : ℤ). i.Str y wb src dst) (signed-bits 64 z hz)) c)
      (phrase-plain (ascii "STR") wb t mnemonics.str.names
      (with-comma-plain (register_text src) (with_comma (register_text dst) (number_text z)) (register-plain src hs)
      (with-comma-plain (register_text dst) (number_text z) (register-plain dst hd) (number-plain z (omega arith)))))

  -- ---- all formats
  alu-whole : (op rc wb src dst : ℕ) → op < 12 → rc < 2 → wb < 2 → src < 8 → dst < 8 → encode_of (i.Alu op rc wb src dst) ≡ Some w
      → Whole look p w (text_for p w (i.Alu op rc wb src dst))
  alu-whole op zero wb src dst ho hr hw hs hd c = alu-registers op wb src dst ho hw hs hd c
  alu-whole op (suc zero) wb src dst ho hr hw hs hd c = alu-constant op wb src dst ho hw hs hd c
  alu-whole op (suc (suc n)) wb src dst ho hr hw hs hd c = absurd (omega (arith, hr))

  illegal-whole : Whole look p w (text_for p w i.Illegal)
  unfolding text_for
  illegal-whole = word-whole look p w h

  by-format : (j : Instr) → Fields j → (is_legal j ≡ true → encode_of j ≡ Some w) → Whole look p w (text_for p w j)
  by-format i.Illegal f c = illegal-whole
  by-format (i.Bl off) f c = bl-whole off f (c refl)
  by-format (i.Branch b off) f c = branches-whole b off f.0 f.1 (c refl)
  by-format (i.Alu op rc wb src dst) f c = alu-whole op rc wb src dst f.0 f.1 f.2 f.3 f.4 (c refl)
  by-format (i.Mov wb src dst) f c = mov-whole wb src dst f.0 f.1 f.2 (c refl)
  by-format (i.Swap src dst ignored) f c = swap-whole src dst ignored f.0 f.1 (c refl)
  by-format (i.Unary op wb dst) f c = unary-whole op wb dst f.0 f.1 f.2 (c refl)
  by-format (i.Swpb dst ignored) f c = swpb-whole dst ignored f.0 (c refl)
  by-format (i.Sxt dst ignored) f c = sxt-whole dst ignored f.0 (c refl)
  by-format (i.SetPri n) f c = level-whole n f (c refl)
  by-format (i.Svc n) f c = vector-whole n f (c refl)
  by-format (i.SetCc n) f c = set-whole n f (c refl)
  by-format (i.ClrCc n) f c = clear_whole n f (c refl)
  by-format (i.Cex q m n) f c = cex-whole q m n f.0 f.1 f.2 (c refl)
  by-format (i.Ld prpo dec inc wb src dst) f c = ld-whole prpo dec inc wb src dst f.0 f.1 f.2 f.3 f.4 f.5 (c refl)
  by-format (i.St prpo dec inc wb src dst) f c = st-whole prpo dec inc wb src dst f.0 f.1 f.2 f.3 f.4 f.5 (c refl)
  by-format (i.MovImm op n dst) f c = immediate-whole op n dst f.0 f.1 f.2 (c refl)
  by-format (i.Ldr z wb src dst) f c = ldr-whole z wb src dst f.0 f.1 f.2 f.3 (c refl)
  by-format (i.Str z wb src dst) f c = str-whole z wb src dst f.0 f.1 f.2 f.3 (c refl)

  pub text-whole : Whole look p w (text_at p w)
  unfolding text_at
  text-whole = by-format (decode_of w) (decode-fields w) (λ l. decode-encode w h l)

pub text_says : TextSays
unfolding Whole
text_says look p w h = (text-whole look p w h).0

-- it is one line
pub text-plain : (p w : ℕ) → w < 65536 → Plain (text_at p w)
unfolding Whole
text-plain p w h = (text-whole (λ n. Ok (pos 0)) p w h).1

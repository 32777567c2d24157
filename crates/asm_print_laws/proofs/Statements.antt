-- Each shape of statement read from what stands behind its word, and the line that it makes. Assumes nothing.
use mathlib.Core.Path.{◌≡◌, refl, sym, ap, ◌∙◌}
use mathlib.Core.Bool.{Bool, true, false, cond, false≢true}
use mathlib.Core.List.{List, [], ◌∷◌, ◌++◌, append-nil, append_assoc}
use Prim.Native.Nat.{ℕ, suc, ◌+◌, ◌<◌}
use native.Mathlib.Omega.{arith}
use lib.Dec.{eqb}
use lib.IntN.{ℤ, pos}
use lib.ListN.{length, drop}
use lib.Signed.{mag}
use borrow.Author.Tests.{ne_eqb, lt-leb}
use Rattle.std.specs.Prelude.{Option, None, Result, Ok}
use Rattle.asm_value.specs.declared.Lack.{Lack}
use Rattle.word.proofs.Laws.{bool_cases}
use Rattle.isa.specs.declared.Instr.TheVariants as instr
use Rattle.asm_text.specs.declared.Read.{Read}
use Rattle.asm_text.specs.Text.{byte_at, blank?, name_byte?, after, word, found}
use Rattle.asm_text.proofs.Laws.{after_stop, byte-in}
use Rattle.asm_words.specs.Words.{word_of, free?}
use Rattle.asm_words.specs.declared.Word.TheVariants.{Begins}
use Rattle.asm_words.specs.declared.Keyword.{Keyword}
use Rattle.asm_words.specs.declared.Valued.{Valued}
use Rattle.asm_line.specs.declared.Statement.{Statement}
use Rattle.asm_line.specs.declared.Statement.TheVariants.{Fixed, Constant, Cex, MovImm, Ldr, Str}
use Rattle.asm_operands.specs.Operands.{over?, register_at, comma_register, comma_value, comma_address}
use Rattle.asm_line.specs.Statement.{with_value, one_value, arithmetic, move, exchange, unary, one_register}
use Rattle.asm_line.specs.Statement.{on_flags, conditional, load, store, move_byte, load_relative, store_relative, statement_of}
use Rattle.asm_line.specs.Line.{line_with, statement_at, line_from, line_of}
use Rattle.asm_print.specs.Print.{
  condition_text,
  register_text,
  number_text,
  hex_text,
  flags_text,
  address_text,
  idle?,
  with_comma,
  size_mark,
}
use Rattle.asm_print_laws.proofs.Here.{Ends, low-name, word-all, first_of, first-all, here-past, here-after, begins, begins-blank}
use Rattle.asm_print_laws.proofs.Pieces.{Spells}
use Rattle.asm_print_laws.proofs.Operands.{FoundAt, ValueAt, Clear, width_read, first-register, first-condition, first-flags}
use Rattle.asm_print_laws.proofs.Operands.{first-number, first-hex, first-hex-nameless, comma-register, comma-number, comma-read}
use Rattle.asm_print_laws.proofs.Operands.{register-none, register-solid, solid, over-end, address_read}

-- a statement is read, and the line is over
pub record StatedAs (s : List ℕ) (f : Option (Read Statement)) (x : Statement) : Type 0 where
  pub place : ℕ
  pub is : f ≡ found x place
  pub here : drop place s ≡ []

-- the last operand is a register or a number
last-register : (s : List ℕ) (i r : ℕ) → r < 8 → drop i s ≡ 44 ∷ register_text r → FoundAt s [] (comma_register s i) r
last-register s i r h b =
    comma-register s i [] (omega arith) r h (b ∙ ap (λ (l : List ℕ). 44 ∷ l) (sym (append-nil (register_text r))))

last-number : (look : List ℕ → Result ℤ Lack) (s : List ℕ) (i : ℕ) (z : ℤ) → mag z < 99 → drop i s ≡ 44 ∷ number_text z
    → ValueAt s [] (comma_value look s i) z
last-number look s i z h b =
    comma-number s i [] (omega arith) look z h (b ∙ ap (λ (l : List ℕ). 44 ∷ l) (sym (append-nil (number_text z))))

module _ (look : List ℕ → Result ℤ Lack) (s : List ℕ) (i : ℕ) where
  -- ---- V
  pub one-hex : (m : Valued) (n : ℕ) → n < 65536 → drop i s ≡ 32 ∷ hex_text 4 n
      → StatedAs s (one_value look s m i) (with_value m (Ok (pos n)))
  unfolding one_value
  one-hex m n h b =
      let v = first-hex look s i [] (omega arith) 3 n h h (b ∙ ap (λ (l : List ℕ). 32 ∷ l) (sym (append-nil (hex_text 4 n)))) in
      record { place = v.place; is = rw v.is; here = v.here }

  pub one_number : (m : Valued) (n : ℕ) → n < 99 → drop i s ≡ 32 ∷ number_text (pos n)
      → StatedAs s (one_value look s m i) (with_value m (Ok (pos n)))
  unfolding one_value
  one_number m n h b =
      let v = first-number look s i [] (omega arith) (pos n) h
      (b ∙ ap (λ (l : List ℕ). 32 ∷ l) (sym (append-nil (number_text (pos n))))) in
      record { place = v.place; is = rw v.is; here = v.here }

  -- ---- registers
  pub two-registers : (op wb src dst : ℕ) → wb < 2 → src < 8 → dst < 8
      → drop i s ≡ size_mark wb ++ (32 ∷ with_comma (register_text src) (register_text dst))
      → StatedAs s (arithmetic look s op i) (Fixed (instr.Alu op 0 wb src dst))
  unfolding arithmetic
  two-registers op wb src dst hw hs hd b =
      let w = width_read s i wb (with_comma (register_text src) (register_text dst)) hw b in
      let r = first-register s w.place (44 ∷ register_text dst) (omega arith) src hs w.here in
      let d = last-register s r.place dst hd r.here in
      record { place = d.place; is = rw (w.is, r.is, d.is); here = d.here }

  pub with-constant : (op wb : ℕ) (z : ℤ) (dst : ℕ) → wb < 2 → mag z < 99 → dst < 8
      → drop i s ≡ size_mark wb ++ (32 ∷ with_comma (number_text z) (register_text dst))
      → StatedAs s (arithmetic look s op i) (Constant op wb (Ok z) dst)
  unfolding arithmetic
  with-constant op wb z dst hw hz hd b =
      let w = width_read s i wb (with_comma (number_text z) (register_text dst)) hw b in
      let n = register-none s w.place z (44 ∷ register_text dst) w.here in
      let v = first-number look s w.place (44 ∷ register_text dst) (omega arith) z hz w.here in
      let d = last-register s v.place dst hd v.here in
      record { place = d.place; is = rw (w.is, n, v.is, d.is); here = d.here }

  pub moves : (wb src dst : ℕ) → wb < 2 → src < 8 → dst < 8
      → drop i s ≡ size_mark wb ++ (32 ∷ with_comma (register_text src) (register_text dst))
      → StatedAs s (move s i) (Fixed (instr.Mov wb src dst))
  unfolding move
  moves wb src dst hw hs hd b =
      let w = width_read s i wb (with_comma (register_text src) (register_text dst)) hw b in
      let r = first-register s w.place (44 ∷ register_text dst) (omega arith) src hs w.here in
      let d = last-register s r.place dst hd r.here in
      record { place = d.place; is = rw (w.is, r.is, d.is); here = d.here }

  pub exchanges : (src dst : ℕ) → src < 8 → dst < 8 → drop i s ≡ 32 ∷ with_comma (register_text src) (register_text dst)
      → StatedAs s (exchange s i) (Fixed (instr.Swap src dst 0))
  unfolding exchange
  exchanges src dst hs hd b =
      let r = first-register s i (44 ∷ register_text dst) (omega arith) src hs b in
      let d = last-register s r.place dst hd r.here in
      record { place = d.place; is = rw (r.is, d.is); here = d.here }

  sole-register : (j r : ℕ) → r < 8 → drop j s ≡ 32 ∷ register_text r → FoundAt s [] (register_at s j) r
  sole-register j r h b = first-register s j [] (omega arith) r h (b ∙ ap (λ (l : List ℕ). 32 ∷ l) (sym (append-nil (register_text r))))

  pub unaries : (op wb dst : ℕ) → wb < 2 → dst < 8 → drop i s ≡ size_mark wb ++ (32 ∷ register_text dst)
      → StatedAs s (unary s op i) (Fixed (instr.Unary op wb dst))
  unfolding unary
  unaries op wb dst hw hd b =
      let w = width_read s i wb (register_text dst) hw b in
      let d = sole-register w.place dst hd w.here in
      record { place = d.place; is = rw (w.is, d.is); here = d.here }

  pub of-register : (swapped : Bool) (dst : ℕ) → dst < 8 → drop i s ≡ 32 ∷ register_text dst
      → StatedAs s (one_register s swapped i) (Fixed (cond swapped (instr.Swpb dst 0) (instr.Sxt dst 0)))
  unfolding one_register
  of-register swapped dst hd b =
      let d = sole-register i dst hd b in
      record { place = d.place; is = rw d.is; here = d.here }

  -- ---- flags and conditions
  pub of-flags : (set : Bool) (f : ℕ) → f < 31 → drop i s ≡ 32 ∷ flags_text (suc f)
      → StatedAs s (on_flags s set i) (Fixed (cond set (instr.SetCc (suc f)) (instr.ClrCc (suc f))))
  unfolding on_flags
  of-flags set f h b =
      let d = first-flags s i [] (omega arith) f h (b ∙ ap (λ (l : List ℕ). 32 ∷ l) (sym (append-nil (flags_text (suc f))))) in
      record { place = d.place; is = rw d.is; here = d.here }

  pub conditionals : (c m n : ℕ) → c < 16 → m < 99 → n < 99
      → drop i s ≡ 32 ∷ with_comma (condition_text c) (with_comma (number_text (pos m)) (number_text (pos n)))
      → StatedAs s (conditional look s i) (Cex c (Ok (pos m)) (Ok (pos n)))
  unfolding conditional
  conditionals c m n hc hm hn b =
      let f = first-condition s i (44 ∷ with_comma (number_text (pos m)) (number_text (pos n))) (omega arith) c hc b in
      let t = comma-number s f.place (44 ∷ number_text (pos n)) (omega arith) look (pos m) hm f.here in
      let o = last-number look s t.place (pos n) hn t.here in
      record { place = o.place; is = rw (f.is, t.is, o.is); here = o.here }

  -- ---- memory
  pub move-byte : (op n dst : ℕ) → n < 256 → dst < 8 → drop i s ≡ 32 ∷ with_comma (hex_text 2 n) (register_text dst)
      → StatedAs s (move_byte look s op i) (MovImm op true (Ok (pos n)) dst)
  unfolding move_byte
  move-byte op n dst hn hd b =
      let v = first-hex look s i (44 ∷ register_text dst) (omega arith) 1 n hn (omega arith) b in
      let c = first-hex-nameless s i (44 ∷ register_text dst) (omega arith) 1 n hn b in
      let d = last-register s v.place dst hd v.here in
      record { place = d.place; is = rw (v.is, d.is, c); here = d.here }

  pub load-relative : (z : ℤ) (wb src dst : ℕ) → mag z < 99 → wb < 2 → src < 8 → dst < 8
      → drop i s ≡ size_mark wb ++ (32 ∷ with_comma (register_text src) (with_comma (number_text z) (register_text dst)))
      → StatedAs s (load_relative look s i) (Ldr (Ok z) wb src dst)
  unfolding load_relative
  load-relative z wb src dst hz hw hs hd b =
      let w = width_read s i wb (with_comma (register_text src) (with_comma (number_text z) (register_text dst))) hw b in
      let r = first-register s w.place (44 ∷ with_comma (number_text z) (register_text dst)) (omega arith) src hs w.here in
      let v = comma-number s r.place (44 ∷ register_text dst) (omega arith) look z hz r.here in
      let d = last-register s v.place dst hd v.here in
      record { place = d.place; is = rw (w.is, r.is, v.is, d.is); here = d.here }

  pub store-relative : (z : ℤ) (wb src dst : ℕ) → mag z < 99 → wb < 2 → src < 8 → dst < 8
      → drop i s ≡ size_mark wb ++ (32 ∷ with_comma (register_text src) (with_comma (register_text dst) (number_text z)))
      → StatedAs s (store_relative look s i) (Str (Ok z) wb src dst)
  unfolding store_relative
  store-relative z wb src dst hz hw hs hd b =
      let w = width_read s i wb (with_comma (register_text src) (with_comma (register_text dst) (number_text z))) hw b in
      let r = first-register s w.place (44 ∷ with_comma (register_text dst) (number_text z)) (omega arith) src hs w.here in
      let d = comma-register s r.place (44 ∷ number_text z) (omega arith) dst hd r.here in
      let v = last-number look s d.place z hz d.here in
      record { place = v.place; is = rw (w.is, r.is, d.is, v.is); here = v.here }

-- the address's first byte is no blank
address-solid : (prpo dec inc r : ℕ) (t : List ℕ) → r < 8 → blank? (byte_at (address_text prpo dec inc r ++ t) 0) ≡ false
unfolding address_text
address-solid prpo dec inc r t h =
    let sign : ℕ = cond {A = ℕ} (eqb dec 0) 43 45 in
    bool_cases (eqb dec inc) (λ q. rw q (register-solid r t h))
    (λ q. bool_cases (eqb prpo 0)
    (λ p. rw (q, p)
    (ap (λ (l : List ℕ). blank? (byte_at l 0)) (append_assoc (register_text r) (sign ∷ []) t) ∙ register-solid r (sign ∷ t) h))
    (λ p. bool_cases (eqb dec 0) (λ d. rw (q, p, d) (solid 43 (omega arith))) (λ d. rw (q, p, d) (solid 45 (omega arith)))))

clear-end : Clear []
unfolding blank?
clear-end = record { ends = omega arith; blank = refl; plus = refl; minus = refl }

clear-comma : (t : List ℕ) → Clear (44 ∷ t)
unfolding blank?
clear-comma t = record { ends = omega arith; blank = refl; plus = refl; minus = refl }

module _ (s : List ℕ) (i : ℕ) (prpo dec inc wb src dst : ℕ) (hp : prpo < 2) (hc : dec < 2) (hi : inc < 2) (hw : wb < 2) (hs : src < 8)
    (hd : dst < 8) (n : idle? prpo dec inc ≡ false) where
  pub loads : drop i s ≡ size_mark wb ++ (32 ∷ with_comma (address_text prpo dec inc src) (register_text dst))
      → StatedAs s (load s i) (Fixed (instr.Ld prpo dec inc wb src dst))
  unfolding load
  loads b =
      let t = with_comma (address_text prpo dec inc src) (register_text dst) in
      let w = width_read s i wb t hw b in
      let g = begins-blank s w.place t w.here (address-solid prpo dec inc src (44 ∷ register_text dst) hs) in
      let a = address_read s w.place (44 ∷ register_text dst) (clear-comma (register_text dst)) prpo dec inc src hp hc hi hs n g in
      let d = last-register s a.place dst hd a.here in
      record { place = d.place; is = rw (w.is, a.is, d.is); here = d.here }

  pub stores : drop i s ≡ size_mark wb ++ (32 ∷ with_comma (register_text src) (address_text prpo dec inc dst))
      → StatedAs s (store s i) (Fixed (instr.St prpo dec inc wb src dst))
  unfolding store comma_address
  stores b =
      let x = address_text prpo dec inc dst in
      let w = width_read s i wb (with_comma (register_text src) x) hw b in
      let r = first-register s w.place (44 ∷ x) (omega arith) src hs w.here in
      let c = comma-read s r.place x r.here in
      let j = after blank? s r.place + 1 in
      let h : drop j s ≡ x ++ [] = c.1 ∙ sym (append-nil x) in
      let g = begins s j (x ++ []) h (address-solid prpo dec inc dst [] hd) in
      let a = address_read s j [] clear-end prpo dec inc dst hp hc hi hd n g in
      record { place = a.place; is = rw (w.is, r.is, c.0, a.is); here = a.here }

-- ---- the line

-- a line that begins with a letter or a digit is not over
not-over : (s : List ℕ) → 0 < byte_at s 0 → name_byte? (byte_at s 0) ≡ true → over? s 0 ≡ false
unfolding over? name_byte?
not-over s h n =
    rw (lt-leb (length s) 0 (byte-in s 0 h), ne_eqb (byte_at s 0) 59 (λ q. false≢true (sym (ap name_byte? q) ∙ n)))

-- a line without a name whose statement is x, and that it begins with no blank
abbrev pub Reads : (List ℕ → Result ℤ Lack) → List ℕ → Statement → Type 0
Reads look l x = (line_of look l ≡ line_with 0 None x) × (after blank? l 0 ≡ 0)

-- a word of the language, and what its statement is read from
pub line_read : (look : List ℕ → Result ℤ Lack) (l t : List ℕ) (k : Keyword) (x : Statement) → Spells word_of l (Begins k) → Ends t
    → ((s : List ℕ) (i : ℕ) → drop i s ≡ t → StatedAs s (statement_of look s false (Begins k) i) x)
    → Reads look (l ++ t) x
unfolding line_of line_from statement_at free?
line_read look l t k x h e f =
    let s = l ++ t in
    let o = h.first in
    let c : byte_at s 0 ≡ byte_at l 0 = first_of l t (omega arith) in
    let a : after blank? s 0 ≡ 0 = after_stop blank? s 0 (ap blank? c ∙ solid (byte_at l 0) (omega arith)) in
    let b : over? s 0 ≡ false = not-over s (omega arith) (ap name_byte? c ∙ first-all name_byte? l h.names (omega arith)) in
    let w : word_of (word s) ≡ Begins k = ap word_of (word-all l t h.names e) ∙ h.is in
    let n : after name_byte? s 0 ≡ 0 + length l = here-after s 0 name_byte? l t refl h.names (low-name (byte_at t 0) e) in
    let g = f s (after name_byte? s 0) (ap (λ (j : ℕ). drop j s) n ∙ here-past s 0 l t refl) in
    (rw (a, b, w, g.is, over-end s g.place g.here), a)

-- The text of a word read as a line: one case for each format. Assumes nothing.
use mathlib.Core.Path.{◌≡◌, refl, sym, ap, ◌∙◌}
use mathlib.Core.Bool.{Bool, true, false, cond, true≢false}
use mathlib.Core.List.{List, [], ◌∷◌, ◌++◌}
use Prim.Native.Nat.{ℕ, suc, ◌%◌, ◌<◌, ◌≤◌}
use Prim.Native.Char.{code}
use native.Mathlib.Omega.{arith}
use lib.Dec.{T, ltb, eqb}
use lib.IntN.{ℤ, pos, negsuc}
use lib.ListN.{drop}
use lib.Signed.{mag}
use borrow.Author.Tests.{ltb-true, ltb-false}
use Rattle.std.specs.Prelude.{Some, None, Result, Ok}
use Rattle.asm_value.specs.declared.Lack.{Lack}
use Rattle.word.proofs.Laws.{bool_cases}
use Rattle.text.specs.Text.{hex_of, decimal_of}
use Rattle.text_lines.proofs.Laws.{Plain}
use Rattle.isa.specs.declared.Instr.{Instr}
use Rattle.isa.specs.Encode.{encode_of}
use Rattle.isa_ranges.proofs.All.{left, right}
use Rattle.asm_text.specs.Text.{ascii, byte_at, name_byte?, digit?}
use Rattle.asm_words.specs.declared.Word.TheVariants.{Begins}
use Rattle.asm_words.specs.declared.Keyword.{Keyword}
use Rattle.asm_words.specs.declared.Keyword.TheVariants as key
use Rattle.asm_words.specs.declared.Valued.{Valued}
use Rattle.asm_words.specs.declared.Valued.TheVariants as val
use Rattle.asm_words.specs.Words.{word_of}
use Rattle.asm_line.specs.declared.Statement.{Statement}
use Rattle.asm_line.specs.declared.Statement.TheVariants.{Word, Fixed}
use Rattle.asm_line.specs.Statement.{with_value, statement_with, statement_of}
use Rattle.asm_line.specs.Line.{line_with, line_of}
use Rattle.asm_write.specs.declared.Layout.TheVariants.{Bytes}
use Rattle.asm_write.specs.Written.{encoded, layout_of, number_of}
use Rattle.asm_print.specs.Print.{register_text, number_text, hex_text, address_text}
use Rattle.asm_print.specs.Print.{with_comma, size_mark, phrase, word_text, target_of, branch_text}
use Rattle.asm_print_laws.specs.Theorems.{Says}
use Rattle.asm_print_laws.proofs.Here.{all, is_true, low-name, low_digit, plain-append}
use Rattle.asm_print_laws.proofs.Pieces.{Spells, register-spells, mnemonics, decimal-digits, hex-all}
use Rattle.asm_print_laws.proofs.Statements.{StatedAs, Reads, one-hex, line_read}
use Rattle.asm_print_laws.proofs.Fits.{word_fits}

-- ---- the line of a mnemonic
size-mark-ends : (wb : ℕ) (t : List ℕ) → byte_at (size_mark wb ++ (32 ∷ t)) 0 < 48
size-mark-ends wb t = bool_cases (eqb wb 0) (λ q. rw q (omega arith)) (λ q. rw q (omega arith))

pub mnemonic-line : (look : List ℕ → Result ℤ Lack) (l : List ℕ) (k : Keyword) (wb : ℕ) (operands : List ℕ) (x : Statement)
    → Spells word_of l (Begins k)
    → ((s : List ℕ) (i : ℕ) → drop i s ≡ size_mark wb ++ (32 ∷ operands) → StatedAs s (statement_of look s false (Begins k) i) x)
    → Reads look (phrase l wb operands) x
unfolding phrase
mnemonic-line look l k wb operands x h f = line_read look l (size_mark wb ++ (32 ∷ operands)) k x h (size-mark-ends wb operands) f

-- ---- no control character

pub name-plain : (b : ℕ) → name_byte? b ≡ true → 31 < b
name-plain b h = bool_cases (ltb b 48)
    (λ q. absurd (true≢false (sym h ∙ low-name b (ltb-true b 48 q))))
    (λ q. let k = ltb-false b 48 q in omega arith)

digit-plain : (base b : ℕ) → base ≤ 16 → digit? base b ≡ true → 31 < b
digit-plain base b g h = bool_cases (ltb b 48)
    (λ q. absurd (true≢false (sym h ∙ low_digit base b g (ltb-true b 48 q))))
    (λ q. let k = ltb-false b 48 q in omega arith)

pub all_plain : (p : ℕ → Bool) → ((b : ℕ) → p b ≡ true → 31 < b) → (l : List ℕ) → T (all p l) → Plain l
all_plain p f [] h = tt
all_plain p f (b ∷ l) h = (f b (is_true (p b) (left (p b) (all p l) h)), all_plain p f l (right (p b) (all p l) h))

pub register-plain : (r : ℕ) → r < 8 → Plain (register_text r)
register-plain r h = all_plain name_byte? name-plain (register_text r) (register-spells r h).names

pub number-plain : (z : ℤ) → mag z < 99 → Plain (number_text z)
unfolding number_text
number-plain (pos n) h =
    (omega arith, all_plain (digit? 10) (λ b. digit-plain 10 b (omega arith)) (decimal_of 1 n) (decimal-digits n (omega arith)).digits)
number-plain (negsuc n) h =
    let g = (decimal-digits (suc n) (omega arith)).digits in
    (omega arith, (omega arith, all_plain (digit? 10) (λ b. digit-plain 10 b (omega arith)) (decimal_of 1 (suc n)) g))

pub hex-plain : (k n : ℕ) → Plain (hex_text k n)
unfolding hex_text
hex-plain k n = (omega arith, all_plain (digit? 16) (λ b. digit-plain 16 b (omega arith)) (hex_of k n) (hex-all k n))

pub with-comma-plain : (a b : List ℕ) → Plain a → Plain b → Plain (with_comma a b)
with-comma-plain a b h k = plain-append a (44 ∷ b) h (omega arith, k)

size-mark-plain : (wb : ℕ) → Plain (size_mark wb)
size-mark-plain wb = bool_cases (eqb wb 0) (λ q. rw q tt) (λ q. rw q (omega arith, (omega arith, tt)))

pub phrase-plain : (l : List ℕ) (wb : ℕ) (operands : List ℕ) → T (all name_byte? l) → Plain operands → Plain (phrase l wb operands)
unfolding phrase
phrase-plain l wb operands h g =
    plain-append l (size_mark wb ++ (32 ∷ operands)) (all_plain name_byte? name-plain l h)
    (plain-append (size_mark wb) (32 ∷ operands) (size-mark-plain wb) (omega arith, g))

pub address_plain : (prpo dec inc r : ℕ) → r < 8 → Plain (address_text prpo dec inc r)
unfolding address_text
address_plain prpo dec inc r h =
    let g = register-plain r h in
    let sign : ℕ = cond {A = ℕ} (eqb dec 0) (code "+") (code "-") in
    let k : 31 < sign = bool_cases (eqb dec 0) (λ q. rw q (omega arith)) (λ q. rw q (omega arith)) in
    bool_cases (eqb dec inc) (λ q. rw q g)
    (λ q. bool_cases (eqb prpo 0) (λ p. rw (q, p) (plain-append (register_text r) (sign ∷ []) g (k, tt))) (λ p. rw (q, p) (k, g)))

-- ---- what a text says: the line's statement, and that it is one line
unfoldable pub Whole : (look : List ℕ → Result ℤ Lack) (p w : ℕ) → List ℕ → Type 0
Whole look p w l = Says look p w l × Plain l

-- an instruction all of whose fields the text names
module _ (look : List ℕ → Result ℤ Lack) (p w : ℕ) where
  pub fixed-whole : (j : Instr) (l : List ℕ) → encode_of j ≡ Some w → Reads look l (Fixed j) → Plain l → Whole look p w l
  unfolding Whole layout_of number_of
  fixed-whole j l h r k = (record { statement = Fixed j; reads = r.0; starts = r.1; layout = refl; number = ap encoded h }, k)

  pub word-whole : w < 65536 → Whole look p w (word_text w)
  unfolding Whole layout_of number_of word_text statement_of statement_with with_value
  word-whole h =
      let r =
      line_read look (ascii "WORD") (32 ∷ hex_text 4 w) (key.Value val.Word) (Word (Ok (pos w))) mnemonics.word (omega arith)
      (λ s i b. one-hex look s i val.Word w h b) in (
        record {
          statement = Word (Ok (pos w));
          reads = r.0;
          starts = r.1;
          layout = refl;
          number = word_fits w h;
        },
        (omega arith, (omega arith, (omega arith, (omega arith, (omega arith, hex-plain 4 w))))),
      )

  -- one whose value is to fit
  pub valued-whole : (x : Statement) (l : List ℕ) → Reads look l x → layout_of x ≡ Bytes 2 → number_of p x ≡ Ok w
      → Plain l → Whole look p w l
  unfolding Whole
  valued-whole x l r a n k = (record { statement = x; reads = r.0; starts = r.1; layout = a; number = n }, k)

  branch-line : (l : List ℕ) (m : Valued) (t : ℕ) → Spells word_of l (Begins (key.Value m)) → t < 65536
      → Reads look (phrase l 0 (hex_text 4 t)) (with_value m (Ok (pos t)))
  unfolding statement_of statement_with
  branch-line l m t h g =
      mnemonic-line look l (key.Value m) 0 (hex_text 4 t) (with_value m (Ok (pos t))) h (λ s i b. one-hex look s i m t g b)

  pub branch-whole : (l : List ℕ) (m : Valued) (off : ℤ) → w < 65536 → Spells word_of l (Begins (key.Value m))
      → layout_of (with_value m (Ok (pos (target_of p off)))) ≡ Bytes 2 → number_of p (with_value m (Ok (pos (target_of p off))))
      ≡ Ok w
      → Whole look p w (branch_text l p w off)
  unfolding branch_text
  branch-whole l m off hw h a n =
      bool_cases (eqb (p % 2) 0)
      (λ c. rw c (valued-whole (with_value m (Ok (pos (target_of p off)))) (phrase l 0 (hex_text 4 (target_of p off)))
      (branch-line l m (target_of p off) h (omega arith)) a n
      (phrase-plain l 0 (hex_text 4 (target_of p off)) h.names (hex-plain 4 (target_of p off)))))
      (λ c. rw c (word-whole hw))

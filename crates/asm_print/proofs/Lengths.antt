-- A text has at most 24 bytes, whatever the word and the place: its pieces have few. Assumes nothing.
use mathlib.Core.Path.{◌≡◌, refl}
use mathlib.Core.Bool.{Bool, true, false, cond, ◌&&◌}
use mathlib.Core.List.{List, [], ◌∷◌, ◌++◌}
use Prim.Native.Nat.{ℕ, zero, suc, ◌+◌, ◌/◌, ◌%◌, ◌≤◌}
use Prim.Native.Char.{Char, code}
use Prim.Native.String.{String}
use native.Mathlib.Omega.{arith}
use lib.Dec.{leb, ltb, eqb}
use lib.IntN.{ℤ, pos, negsuc}
use lib.ListN.{length, length-append}
use borrow.Author.Tests.{ne_eqb, leb-true}
use Rattle.word.proofs.Laws.{bool_cases}
use Rattle.text.specs.Text.{glyph, hex_of, decimal_of}
use Rattle.isa.specs.declared.Instr.{Instr}
use Rattle.isa.specs.declared.Instr.TheVariants as i
use Rattle.isa.specs.Decode.{decode_of}
use Rattle.asm_text.specs.Text.{ascii}
use Rattle.asm_text.proofs.Laws.{and_parts}
use Rattle.asm_words.specs.Words.{branches, operations, unaries, moves, conditions}
use Rattle.asm_print.specs.Print.{name_in, condition_text, register_names, register_text, number_text}
use Rattle.asm_print.specs.Print.{
  hex_text,
  constant_of,
  letter_if,
  flags_text,
  address_text,
  idle?,
  with_comma,
  size_mark,
  phrase,
  word_text,
}
use Rattle.asm_print.specs.Print.{target_of, branch_text, text_for, text_at}

-- ---- pieces
abbrev short? : (k : ℕ) → List (String × ℕ) → Bool
short? k [] = true
short? k (r ∷ rows) = leb (length (ascii r.0)) k && short? k rows

name-length : (k : ℕ) (rows : List (String × ℕ)) (n : ℕ) → short? k rows ≡ true → length (name_in rows n) ≤ k
unfolding name_in
name-length k [] n h = omega arith
name-length k (r ∷ rows) n h =
    let parts = and_parts (leb (length (ascii r.0)) k) (short? k rows) h in
    bool_cases (eqb r.1 n) (λ q. rw q (leb-true (length (ascii r.0)) k parts.0)) (λ q. rw q (name-length k rows n parts.1))

register-length : (r : ℕ) → length (register_text r) ≤ 2
unfolding register_text register_names
register-length r = name-length 2 register_names r refl

condition-length : (c : ℕ) → length (condition_text c) ≤ 2
unfolding condition_text conditions
condition-length c = name-length 2 conditions c refl

branch-name : (c : ℕ) → length (name_in branches c) ≤ 6
unfolding branches
branch-name c = name-length 6 branches c refl

operation-name : (op : ℕ) → length (name_in operations op) ≤ 6
unfolding operations
operation-name op = name-length 6 operations op refl

unary-name : (op : ℕ) → length (name_in unaries op) ≤ 6
unfolding unaries
unary-name op = name-length 6 unaries op refl

move-name : (op : ℕ) → length (name_in moves op) ≤ 6
unfolding moves
move-name op = name-length 6 moves op refl

decimal-length : (n : ℕ) → length (decimal_of 1 n) ≤ 2
unfolding decimal_of
decimal-length n = bool_cases (ltb n 10) (λ e. rw e (omega arith)) (λ e. rw e (omega arith))

number-length : (z : ℤ) → length (number_text z) ≤ 4
unfolding number_text
number-length (pos n) = let d = decimal-length n in omega arith
number-length (negsuc n) = let d = decimal-length (suc n) in omega arith

hex-length : (k n : ℕ) → length (hex_of k n) ≡ k
unfolding hex_of
hex-length zero n = refl
hex-length (suc k) n = let d = hex-length k (n / 16) in omega (arith, length-append (hex_of k (n / 16)) (glyph (n % 16) ∷ []))

if-length : (bit : ℕ) (letter : Char) → length (letter_if bit letter) ≤ 1
if-length bit letter = bool_cases (eqb bit 0) (λ e. rw e (omega arith)) (λ e. rw e (omega arith))

append-length : (a b : List ℕ) (m n : ℕ) → length a ≤ m → length b ≤ n → length (a ++ b) ≤ m + n
append-length a b m n h k = omega (arith, length-append a b)

flags-length : (f : ℕ) → length (flags_text f) ≤ 5
unfolding flags_text
flags-length f =
    let v = letter_if (f / 16 % 2) "V" in
    let s = letter_if (f / 8 % 2) "S" in
    let n = letter_if (f / 4 % 2) "N" in
    let z = letter_if (f / 2 % 2) "Z" in
    append-length (((v ++ s) ++ n) ++ z) (letter_if (f % 2) "C") 4 1
    (append-length ((v ++ s) ++ n) z 3 1
    (append-length (v ++ s) n 2 1 (append-length v s 1 1 (if-length (f / 16 % 2) "V") (if-length (f / 8 % 2) "S"))
    (if-length (f / 4 % 2) "N")) (if-length (f / 2 % 2) "Z")) (if-length (f % 2) "C")

address-length : (prpo dec inc r : ℕ) → length (address_text prpo dec inc r) ≤ 3
unfolding address_text
address-length prpo dec inc r =
    let g = register-length r in
    let sign : ℕ = cond {A = ℕ} (eqb dec 0) (code "+") (code "-") in
    bool_cases (eqb dec inc) (λ q. rw q (omega arith))
    (λ q. bool_cases (eqb prpo 0) (λ p. rw (q, p) (append-length (register_text r) (sign ∷ []) 2 1 g (omega arith)))
    (λ p. rw (q, p) (omega arith)))

-- ---- statements
with-comma-length : (a b : List ℕ) (m n : ℕ) → length a ≤ m → length b ≤ n → length (with_comma a b) ≤ m + suc n
with-comma-length a b m n h k = append-length a (44 ∷ b) m (suc n) h (omega arith)

size-mark-length : (wb : ℕ) → length (size_mark wb) ≤ 2
size-mark-length wb = bool_cases (eqb wb 0) (λ e. rw e (omega arith)) (λ e. rw e (omega arith))

phrase-length : (l : List ℕ) (wb : ℕ) (t : List ℕ) (n : ℕ) → length l ≤ 6 → length t ≤ n → n ≤ 15 → length (phrase l wb t) ≤ 24
unfolding phrase
phrase-length l wb t n g h k =
    let a = append-length (size_mark wb) (32 ∷ t) 2 16 (size-mark-length wb) (omega arith) in
    append-length l (size_mark wb ++ (32 ∷ t)) 6 18 g a

word-length : (w : ℕ) → length (word_text w) ≤ 24
unfolding word_text hex_text
word-length w = let d = hex-length 4 w in omega arith

-- of two texts by a test
either : (b : Bool) (s t : List ℕ) → length s ≤ 24 → length t ≤ 24 → length (cond b s t) ≤ 24
either true s t h k = h
either false s t h k = k

registers-length : (l : List ℕ) (wb s d : ℕ) → length l ≤ 6 → length (phrase l wb (with_comma (register_text s) (register_text d))) ≤ 24
registers-length l wb s d g =
    phrase-length l wb (with_comma (register_text s) (register_text d)) 5 g
    (with-comma-length (register_text s) (register_text d) 2 2 (register-length s) (register-length d)) (omega arith)

branch-length : (l : List ℕ) (p w : ℕ) (off : ℤ) → length l ≤ 6 → length (branch_text l p w off) ≤ 24
unfolding branch_text hex_text
branch-length l p w off g =
    let d = hex-length 4 (target_of p off) in
    either (eqb (p % 2) 0) (phrase l 0 (hex_text 4 (target_of p off))) (word_text w)
    (phrase-length l 0 (hex_text 4 (target_of p off)) 5 g (omega arith) (omega arith)) (word-length w)

by-format : (p w : ℕ) (j : Instr) → length (text_for p w j) ≤ 24
unfolding text_for hex_text
by-format p w i.Illegal = word-length w
by-format p w (i.Bl off) = branch-length (ascii "BL") p w off (omega arith)
by-format p w (i.Branch c off) = branch-length (name_in branches c) p w off (branch-name c)
by-format p w (i.Alu op zero wb src dst) = registers-length (name_in operations op) wb src dst (operation-name op)
by-format p w (i.Alu op (suc rc) wb src dst) =
    let z = constant_of src in
    rw (ne_eqb (suc rc) 0 (λ q. omega arith))
    (phrase-length (name_in operations op) wb (with_comma (number_text z) (register_text dst)) 7 (operation-name op)
    (with-comma-length (number_text z) (register_text dst) 4 2 (number-length z) (register-length dst)) (omega arith))
by-format p w (i.Mov wb src dst) = registers-length (ascii "MOV") wb src dst (omega arith)
by-format p w (i.Swap src dst ignored) =
    either (eqb ignored 0) (phrase (ascii "SWAP") 0 (with_comma (register_text src) (register_text dst))) (word_text w)
    (registers-length (ascii "SWAP") 0 src dst (omega arith)) (word-length w)
by-format p w (i.Unary op wb dst) =
    phrase-length (name_in unaries op) wb (register_text dst) 2 (unary-name op) (register-length dst) (omega arith)
by-format p w (i.Swpb dst ignored) =
    either (eqb ignored 0) (phrase (ascii "SWPB") 0 (register_text dst)) (word_text w)
    (phrase-length (ascii "SWPB") 0 (register_text dst) 2 (omega arith) (register-length dst) (omega arith)) (word-length w)
by-format p w (i.Sxt dst ignored) =
    either (eqb ignored 0) (phrase (ascii "SXT") 0 (register_text dst)) (word_text w)
    (phrase-length (ascii "SXT") 0 (register_text dst) 2 (omega arith) (register-length dst) (omega arith)) (word-length w)
by-format p w (i.SetPri n) = phrase-length (ascii "SETPRI") 0 (number_text (pos n)) 4 (omega arith) (number-length (pos n)) (omega arith)
by-format p w (i.Svc n) = phrase-length (ascii "SVC") 0 (number_text (pos n)) 4 (omega arith) (number-length (pos n)) (omega arith)
by-format p w (i.SetCc f) =
    either (eqb f 0) (word_text w) (phrase (ascii "SETCC") 0 (flags_text f)) (word-length w)
    (phrase-length (ascii "SETCC") 0 (flags_text f) 5 (omega arith) (flags-length f) (omega arith))
by-format p w (i.ClrCc f) =
    either (eqb f 0) (word_text w) (phrase (ascii "CLRCC") 0 (flags_text f)) (word-length w)
    (phrase-length (ascii "CLRCC") 0 (flags_text f) 5 (omega arith) (flags-length f) (omega arith))
by-format p w (i.Cex c m n) =
    let s = with_comma (number_text (pos m)) (number_text (pos n)) in
    phrase-length (ascii "CEX") 0 (with_comma (condition_text c) s) 12 (omega arith)
    (with-comma-length (condition_text c) s 2 9 (condition-length c)
    (with-comma-length (number_text (pos m)) (number_text (pos n)) 4 4 (number-length (pos m)) (number-length (pos n)))) (omega arith)
by-format p w (i.Ld prpo dec inc wb src dst) =
    let a = address_text prpo dec inc src in
    either (idle? prpo dec inc) (word_text w) (phrase (ascii "LD") wb (with_comma a (register_text dst))) (word-length w)
    (phrase-length (ascii "LD") wb (with_comma a (register_text dst)) 6 (omega arith)
    (with-comma-length a (register_text dst) 3 2 (address-length prpo dec inc src) (register-length dst)) (omega arith))
by-format p w (i.St prpo dec inc wb src dst) =
    let a = address_text prpo dec inc dst in
    either (idle? prpo dec inc) (word_text w) (phrase (ascii "ST") wb (with_comma (register_text src) a)) (word-length w)
    (phrase-length (ascii "ST") wb (with_comma (register_text src) a) 6 (omega arith)
    (with-comma-length (register_text src) a 2 3 (register-length src) (address-length prpo dec inc dst)) (omega arith))
by-format p w (i.MovImm op n dst) =
    let d = hex-length 2 n in
    phrase-length (name_in moves op) 0 (with_comma (hex_text 2 n) (register_text dst)) 6 (move-name op)
    (with-comma-length (hex_text 2 n) (register_text dst) 3 2 (omega arith) (register-length dst)) (omega arith)
by-format p w (i.Ldr z wb src dst) =
    let s = with_comma (number_text z) (register_text dst) in
    phrase-length (ascii "LDR") wb (with_comma (register_text src) s) 10 (omega arith)
    (with-comma-length (register_text src) s 2 7 (register-length src)
    (with-comma-length (number_text z) (register_text dst) 4 2 (number-length z) (register-length dst))) (omega arith)
by-format p w (i.Str z wb src dst) =
    let s = with_comma (register_text dst) (number_text z) in
    phrase-length (ascii "STR") wb (with_comma (register_text src) s) 10 (omega arith)
    (with-comma-length (register_text src) s 2 7 (register-length src)
    (with-comma-length (register_text dst) (number_text z) 2 4 (register-length dst) (number-length z))) (omega arith)

pub text-length : (p w : ℕ) → length (text_at p w) ≤ 24
unfolding text_at
text-length p w = by-format p w (decode_of w)

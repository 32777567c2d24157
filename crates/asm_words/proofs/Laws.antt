-- Laws of the words. The code looks a word up by its spelling as one number, in tables of numbers; a table in letters says
-- the same, since no two words are spelled alike (asm_text's Spelling). Then flags, letter by letter. Assumes nothing.
use mathlib.Core.Path.{◌≡◌, refl, sym, ap, ◌∙◌, subst}
use mathlib.Core.Bool.{Bool, true, false, cond, ◌&&◌, false≢true}
use mathlib.Core.List.{List, [], ◌∷◌, map}
use Prim.Native.Nat.{ℕ, zero, suc, ◌+◌, ◌-◌, ◌*◌, ◌/◌, ◌%◌, ◌<◌, ◌≤◌}
use Prim.Native.String.{String}
use Rattle.std.specs.Prelude.{Option, Some, None}
use native.Mathlib.Numerals.{add-one}
use native.Mathlib.Omega.{arith}
use mir.Syntax.{w64}
use mir.Val.{Fits}
use lib.Dec.{leb, ltb, eqb}
use lib.ListN.{length, get_or, drop, take, drop_of_length-le}
use lib.Seq.{drop-cons}
use borrow.Author.Tests.{eq-eqb, ne_eqb, eqb-true, leb-true, ltb-true}
use Rattle.word.proofs.Laws.{bool_cases}
use Rattle.asm_text.specs.Text.{ascii, name_byte?, word, same, spelled, spelled_from}
use Rattle.asm_text.proofs.Laws.{and_parts, same-is}
use Rattle.asm_text.proofs.Spelling.{same-spelling}
use Rattle.asm_words.specs.declared.Word.{Word}
use Rattle.asm_words.specs.declared.Word.TheVariants.{Free, Reserved, Begins}
use Rattle.asm_words.specs.declared.Keyword.{Keyword}
use Rattle.asm_words.specs.declared.Keyword.TheVariants as key
use Rattle.asm_words.specs.declared.Valued.{Valued}
use Rattle.asm_words.specs.declared.Valued.TheVariants as val
use Rattle.asm_words.specs.Words.{meaning, each, branches, operations, unaries, moves, valued_words, other_words, keywords, registers}
use Rattle.asm_words.specs.Words.{conditions, emulated, words, word_of, register_of, condition_of, flags, flag_of}
use Rattle.asm_words.specs.Words.{with_bit, flags_from, flags_of, some_flag, free?}
use Rattle.asm_words.specs.Rows.{number_in, valued_at, plain_at, groups, nth_of, word_at}

-- ---- a test of each row
abbrev every : {A : Type 0} → (A → Bool) → List A → Bool
every q [] = true
every q (r ∷ rs) = q r && every q rs

every_drop : (q : ℕ → Bool) (n : ℕ) (rs : List ℕ) → every q rs ≡ true → every q (drop n rs) ≡ true
every_drop q zero rs e = e
every_drop q (suc n) [] e = refl
every_drop q (suc n) (r ∷ rs) e = every_drop q n rs (and_parts (q r) (every q rs) e).1

every_take : (q : ℕ → Bool) (n : ℕ) (rs : List ℕ) → every q rs ≡ true → every q (take n rs) ≡ true
every_take q zero rs e = refl
every_take q (suc n) [] e = refl
every_take q (suc n) (r ∷ rs) e =
    let h = and_parts (q r) (every q rs) e in
    rw (h.0, every_take q n rs h.1)

-- ---- tables in letters: by the word, and by its spelling
unfoldable pub spelled_in : {A : Type 0} → A → List (String × A) → ℕ → A
spelled_in none [] p = none
spelled_in none (r ∷ rows) p = cond (eqb (spelled (ascii r.0)) p) r.1 (spelled_in none rows p)

-- letters and digits alone, six at most
abbrev proper? : {A : Type 0} → String × A → Bool
proper? r = same (word (ascii r.0)) (ascii r.0) && ltb (spelled (ascii r.0)) 281474976710656

same_self : (l : List ℕ) → same l l ≡ true
unfolding same
same_self [] = refl
same_self (b ∷ l) = rw (eq-eqb b b refl, same_self l)

module _ {A : Type 0} (none : A) (t : List ℕ) (p : ℕ) (e : p ≡ spelled (word t)) where
  -- a row has the word of t if it has its spelling
  agree : (r : String × A) → proper? r ≡ true → eqb (spelled (ascii r.0)) p ≡ same (ascii r.0) (word t)
  agree r h =
      let l = ascii r.0 in
      let parts = and_parts (same (word l) l) (ltb (spelled l) 281474976710656) h in
      let own : word l ≡ l = same-is (word l) l parts.0 in
      bool_cases (same l (word t))
      (λ q. eq-eqb (spelled l) p (ap spelled (same-is l (word t) q) ∙ sym e) ∙ sym q) (λ q. ne_eqb (spelled l) p (λ z.
      let small : spelled (word t) < 281474976710656 =
      omega (arith, ltb-true (spelled l) 281474976710656 parts.1, sym e ∙ sym z) in
      let alike : word t ≡ l = same-spelling t l (sym e ∙ sym z ∙ ap spelled (sym own)) small ∙ own in
      false≢true (sym q ∙ ap (same l) alike ∙ same_self l)) ∙ sym q)

  pub in_letters : (rows : List (String × A)) → every proper? rows ≡ true → spelled_in none rows p ≡ meaning none rows (word t)
  unfolding spelled_in meaning
  in_letters [] h = refl
  in_letters (r ∷ rows) h =
      let parts = and_parts (proper? r) (every proper? rows) h in
      rw (agree r parts.0, in_letters rows parts.1)

-- ---- tables of numbers, row by row
module _ (rs : List ℕ) (p k : ℕ) (h : k < length rs) where
  pub number-hit : get_or rs k 0 / 256 ≡ p → number_in (drop k rs) p ≡ Some (get_or rs k 0 % 256)
  unfolding number_in
  number-hit e = rw (drop-cons rs k 0 h, eq-eqb (get_or rs k 0 / 256) p e)

  pub number-miss : (get_or rs k 0 / 256 ≡ p → ⊥) → number_in (drop (k + 1) rs) p ≡ number_in (drop k rs) p
  unfolding number_in
  number-miss e = rw (add-one k, drop-cons rs k 0 h, ne_eqb (get_or rs k 0 / 256) p e)

pub number-end : (rs : List ℕ) (p k : ℕ) → length rs ≤ k → number_in (drop k rs) p ≡ None
unfolding number_in
number-end rs p k h = rw (drop_of_length-le rs h)

-- a table in letters as numbers
unfoldable pub packed : List (String × ℕ) → List ℕ
packed [] = []
packed (r ∷ rows) = (spelled (ascii r.0) * 256 + r.1) ∷ packed rows

abbrev small? : String × ℕ → Bool
small? r = ltb r.1 256

pub number-packed : (rows : List (String × ℕ)) (p : ℕ) → every small? rows ≡ true
    → number_in (packed rows) p ≡ spelled_in None (each Some rows) p
unfolding number_in packed spelled_in
number-packed [] p h = refl
number-packed (r ∷ rows) p h =
    let parts = and_parts (small? r) (every small? rows) h in
    let k = ltb-true r.1 256 parts.0 in
    let q : (spelled (ascii r.0) * 256 + r.1) / 256 ≡ spelled (ascii r.0) = omega (arith, k) in
    let m : (spelled (ascii r.0) * 256 + r.1) % 256 ≡ r.1 = omega (arith, k) in
    rw (q, m, number-packed rows p parts.1)

-- the first row for p, and what a test says of it
record Hit (q : ℕ → Bool) (rs : List ℕ) (p : ℕ) : Type 0 where
  pub row : ℕ
  pub is : row / 256 ≡ p
  pub says : number_in rs p ≡ Some (row % 256)
  pub tested : q row ≡ true

found : {X : Type 0} (q : ℕ → Bool) (rs : List ℕ) (p : ℕ) → every q rs ≡ true
    → (Hit q rs p → X) → (number_in rs p ≡ None → X) → X
unfolding number_in
found q [] p e f g = g refl
found q (r ∷ rs) p e f g =
    let h = and_parts (q r) (every q rs) e in
    bool_cases (eqb (r / 256) p)
    (λ t. f (record { row = r; is = eqb-true (r / 256) p t; says = rw t; tested = h.0 })) (λ t. found q rs p h.1
    (λ (x : Hit q rs p). f (record { row = x.row; is = x.is; says = rw t x.says; tested = x.tested })) (λ z. g (rw t z)))

-- ---- the conditions
pub condition-is : (p : ℕ) (t : List ℕ) → p ≡ spelled (word t) → number_in (packed conditions) p ≡ condition_of (word t)
unfolding conditions condition_of word name_byte? same spelled spelled_from
condition-is p t e = number-packed conditions p refl ∙ in_letters None t p e (each Some conditions) refl

-- ---- the registers
register-is : (p : ℕ) (t : List ℕ) → p ≡ spelled (word t) → spelled_in None (each Some registers) p ≡ register_of (word t)
unfolding registers register_of word name_byte? same spelled spelled_from
register-is p t e = in_letters None t p e (each Some registers) refl

pub register-at : (p : ℕ) (n : Option ℕ) → n ≡ spelled_in None (each Some registers) p → (t : List ℕ) → p ≡ spelled (word t)
    → n ≡ register_of (word t)
register-at p n h t e = h ∙ register-is p t e

pub register-by-number : (k : ℕ) → k < 8 → Some k ≡ spelled_in None (each Some registers) (0x5230 + k)
unfolding spelled_in registers spelled spelled_from
register-by-number zero h = refl
register-by-number (suc zero) h = refl
register-by-number (suc (suc zero)) h = refl
register-by-number (suc (suc (suc zero))) h = refl
register-by-number (suc (suc (suc (suc zero)))) h = refl
register-by-number (suc (suc (suc (suc (suc zero))))) h = refl
register-by-number (suc (suc (suc (suc (suc (suc zero)))))) h = refl
register-by-number (suc (suc (suc (suc (suc (suc (suc zero))))))) h = refl
register-by-number (suc (suc (suc (suc (suc (suc (suc (suc k)))))))) h = absurd (omega (arith, h))

pub register-none : (p : ℕ) → (leb 0x5230 p && leb p 0x5237) ≡ false → (p ≡ 0x4250 → ⊥) → (p ≡ 0x4C52 → ⊥) → (p ≡ 0x5350 → ⊥)
    → (p ≡ 0x5043 → ⊥) → None ≡ spelled_in None (each Some registers) p
unfolding spelled_in registers spelled spelled_from
register-none p h bp lr sp pc =
    let out : (q : ℕ) → (leb 0x5230 q && leb q 0x5237) ≡ true → eqb q p ≡ false =
    λ q k. ne_eqb q p (λ z. false≢true (sym h ∙ sym (ap (λ (x : ℕ). leb 0x5230 x && leb x 0x5237) z) ∙ k)) in
    rw (
      out 0x5230 refl,
      out 0x5231 refl,
      out 0x5232 refl,
      out 0x5233 refl,
      out 0x5234 refl,
      out 0x5235 refl,
      out 0x5236 refl,
      out 0x5237 refl,
      ne_eqb 0x4250 p (λ z. bp (sym z)),
      ne_eqb 0x4C52 p (λ z. lr (sym z)),
      ne_eqb 0x5350 p (λ z. sp (sym z)),
      ne_eqb 0x5043 p (λ z. pc (sym z)),
    )

-- ---- the words in groups by the remainder of the spelling divided by 61
unfoldable pub table : List ℕ
table =
    0x523530 ∷ 0x4252410F ∷ 0x54535430 ∷ 0x464C30 ∷ 0x523630 ∷ 0x564330 ∷ 0x53424330 ∷ 0x523730 ∷ 0x424C4F0B
    ∷ 0x4C442C ∷ 0x42430A ∷ 0x4C4530 ∷ 0x50554C4C30 ∷ 0x474530 ∷ 0x424C540E ∷ 0x4C44522E ∷ 0x5352411C ∷ 0x4345582B
    ∷ 0x4D4F564C5321 ∷ 0x44454330 ∷ 0x434C4330 ∷ 0x45515523 ∷ 0x4441444330 ∷ 0x424C05 ∷ 0x4441444414 ∷ 0x4C4F30 ∷ 0x424E430B
    ∷ 0x424E0C ∷ 0x4249431A ∷ 0x574F524404 ∷ 0x434330 ∷ 0x565330 ∷ 0x424E4509 ∷ 0x425030 ∷ 0x4C5230 ∷ 0x4D4F564C5A20
    ∷ 0x4C5330 ∷ 0x4144444311 ∷ 0x4C5430 ∷ 0x4248530A ∷ 0x475430 ∷ 0x4D4930 ∷ 0x454E4424 ∷ 0x484930 ∷ 0x494E434430
    ∷ 0x4A554D5030 ∷ 0x434C5243432A ∷ 0x434C4E30 ∷ 0x4259544503 ∷ 0x5055534830 ∷ 0x5357504227 ∷ 0x425A08 ∷ 0x434C5230 ∷ 0x4E4530
    ∷ 0x434C5330 ∷ 0x4445434430 ∷ 0x42535302 ∷ 0x485330 ∷ 0x4249531B ∷ 0x434C5630 ∷ 0x52455430 ∷ 0x435330 ∷ 0x42495419
    ∷ 0x434C5A30 ∷ 0x53454330 ∷ 0x43414C4C30 ∷ 0x424E5A09 ∷ 0x434D5015 ∷ 0x524C4330 ∷ 0x53585428 ∷ 0x584F5216 ∷ 0x535030
    ∷ 0x5357415026 ∷ 0x53542D ∷ 0x42455108 ∷ 0x4D4F5625 ∷ 0x53554212 ∷ 0x534554434329 ∷ 0x494E4330 ∷ 0x4F524701 ∷ 0x53454E30
    ∷ 0x5252431D ∷ 0x5354522F ∷ 0x504330 ∷ 0x4D4F564822 ∷ 0x545230 ∷ 0x4F5218 ∷ 0x53455450524906 ∷ 0x455130 ∷ 0x414E4417
    ∷ 0x4247450D ∷ 0x4D4F564C1F ∷ 0x523030 ∷ 0x41444330 ∷ 0x53455630 ∷ 0x434F4D501E ∷ 0x523130 ∷ 0x41444410 ∷ 0x523230
    ∷ 0x534C4130 ∷ 0x53564307 ∷ 0x5355424313 ∷ 0x523330 ∷ 0x504C30 ∷ 0x523430 ∷ 0x4E4F5030 ∷ 0x53455A30 ∷ []

unfoldable pub starts : List ℕ
starts =
    0 ∷ 3 ∷ 7 ∷ 8 ∷ 9 ∷ 10 ∷ 13 ∷ 14 ∷ 14 ∷ 17 ∷ 17 ∷ 17 ∷ 19 ∷ 20 ∷ 23 ∷ 25 ∷ 27 ∷ 30 ∷ 33 ∷ 36 ∷ 38 ∷ 40 ∷ 43 ∷ 45
    ∷ 47 ∷ 50 ∷ 51 ∷ 51 ∷ 51 ∷ 53 ∷ 56 ∷ 57 ∷ 57 ∷ 61 ∷ 63 ∷ 63 ∷ 63 ∷ 64 ∷ 66 ∷ 71 ∷ 72 ∷ 72 ∷ 72 ∷ 73 ∷ 75 ∷ 76 ∷ 77 ∷ 78
    ∷ 79 ∷ 81 ∷ 83 ∷ 83 ∷ 85 ∷ 85 ∷ 86 ∷ 88 ∷ 92 ∷ 96 ∷ 98 ∷ 102 ∷ 103 ∷ 107 ∷ []

unfoldable pub group : ℕ → List ℕ
group h = take (get_or starts (h + 1) 0 - get_or starts h 0) (drop (get_or starts h 0) table)

-- where a group starts
ordered : List ℕ → Bool
ordered [] = true
ordered (x ∷ []) = true
ordered (x ∷ y ∷ l) = leb x y && ordered (y ∷ l)

order-at : (l : List ℕ) → ordered l ≡ true → (h : ℕ) → suc h < length l → get_or l h 0 ≤ get_or l (suc h) 0
unfolding ordered
order-at [] e h k = absurd (omega arith)
order-at (x ∷ []) e h k = absurd (omega arith)
order-at (x ∷ y ∷ l) e zero k = leb-true x y (and_parts (leb x y) (ordered (y ∷ l)) e).0
order-at (x ∷ y ∷ l) e (suc h) k = order-at (y ∷ l) (and_parts (leb x y) (ordered (y ∷ l)) e).1 h (omega arith)

bound_at : (l : List ℕ) (n : ℕ) → every (λ x. leb x n) l ≡ true → (h : ℕ) → get_or l h 0 ≤ n
bound_at [] n e zero = omega arith
bound_at [] n e (suc h) = omega arith
bound_at (x ∷ l) n e zero = leb-true x n (and_parts (leb x n) (every (λ x. leb x n) l) e).0
bound_at (x ∷ l) n e (suc h) = bound_at l n (and_parts (leb x n) (every (λ x. leb x n) l) e).1 h

starts-ordered : ordered starts ≡ true
unfolding ordered starts
starts-ordered = refl

starts-bounded : every (λ x. leb x 107) starts ≡ true
unfolding starts
starts-bounded = refl

starts-length : length starts ≡ 62
unfolding starts
starts-length = refl

pub start-le : (h : ℕ) → get_or starts h 0 ≤ 107
start-le h = bound_at starts 107 starts-bounded h

pub start_fits : (h : ℕ) → Fits w64 (get_or starts h 0 * 8)
start_fits h = omega (arith, start-le h)

pub start-step : (h : ℕ) → h < 61 → get_or starts h 0 ≤ get_or starts (h + 1) 0
start-step h k = rw (add-one h) (order-at starts starts-ordered h (omega (arith, starts-length)))

-- ---- the code's numbers of words

valued_number : Valued → ℕ
valued_number val.Org = 1
valued_number val.Bss = 2
valued_number val.Byte = 3
valued_number val.Word = 4
valued_number val.Bl = 5
valued_number val.SetPri = 6
valued_number val.Svc = 7
valued_number (val.Branch c) = 8 + c

key_number : Keyword → ℕ
key_number (key.Value v) = valued_number v
key_number (key.Arithmetic op) = 16 + op
key_number (key.Unary op) = 28 + op
key_number (key.MovImm op) = 31 + op
key_number key.Equ = 35
key_number key.End = 36
key_number key.Mov = 37
key_number key.Swap = 38
key_number key.Swpb = 39
key_number key.Sxt = 40
key_number key.SetCc = 41
key_number key.ClrCc = 42
key_number key.Cex = 43
key_number key.Ld = 44
key_number key.St = 45
key_number key.Ldr = 46
key_number key.Str = 47

number_of : Word → ℕ
number_of Free = 0
number_of Reserved = 48
number_of (Begins k) = key_number k

-- what each row says is what its number stands for
abbrev says : String × Word → Word
says r = r.1

abbrev numbered : String × Word → Word
numbered r = word_at (number_of r.1)

numbers-say : map numbered words ≡ map says words
unfolding word_at nth_of groups valued_at plain_at number_of key_number valued_number words keywords valued_words branches operations
    unaries
    moves other_words registers conditions emulated
numbers-say = refl

unfoldable pub word_by : Option ℕ → Word
word_by None = Free
word_by (Some n) = word_at n

by_number : (p : ℕ) (rows : List (String × Word)) → map numbered rows ≡ map says rows
    → word_by (spelled_in None (each Some (each number_of rows)) p) ≡ spelled_in Free rows p
unfolding spelled_in word_at word_by
by_number p [] h = refl
by_number p (r ∷ rows) h =
    bool_cases (eqb (spelled (ascii r.0)) p) (λ q. rw q (ap (λ (l : List Word). get_or l 0 Free) h))
    (λ q. rw q (by_number p rows (ap (λ (l : List Word). drop 1 l) h)))

-- all words as numbers
unfoldable rows_of : List ℕ
rows_of = packed (each number_of words)

says? : Option ℕ → ℕ → Bool
says? None n = false
says? (Some m) n = eqb m n

said : (o : Option ℕ) (n : ℕ) → says? o n ≡ true → o ≡ Some n
unfolding says?
said None n e = absurd (false≢true e)
said (Some m) n e = ap Some (eqb-true m n e)

-- each word is in its group, and each row of a group is a word's
in_group : ℕ → Bool
in_group r = says? (number_in (group (r / 256 % 61)) (r / 256)) (r % 256)

in_words : ℕ → Bool
in_words r = says? (number_in rows_of (r / 256)) (r % 256)

all-in-group : every in_group rows_of ≡ true
unfolding rows_of packed spelled spelled_from number_of key_number valued_number words keywords valued_words branches operations unaries
    moves other_words registers conditions emulated in_group says? group number_in table starts
all-in-group = refl

all-in-words : every in_words table ≡ true
unfolding rows_of packed spelled spelled_from number_of key_number valued_number words keywords valued_words branches operations unaries
    moves other_words registers conditions emulated in_words says? number_in table
all-in-words = refl

in_group_lem : (q : ℕ → Bool) (h : ℕ) → every q table ≡ true → every q (group h) ≡ true
unfolding group
in_group_lem q h e =
    every_take q (get_or starts (h + 1) 0 - get_or starts h 0) (drop (get_or starts h 0) table) (every_drop q (get_or starts h 0) table e)

group-is : (p : ℕ) → number_in (group (p % 61)) p ≡ number_in rows_of p
unfolding in_group in_words
group-is p = found in_group rows_of p all-in-group
    (λ (x : Hit in_group rows_of p).
    let t = said (number_in (group (x.row / 256 % 61)) (x.row / 256)) (x.row % 256) x.tested in
    (rw x.is at t) ∙ sym x.says) (λ z. found in_words (group (p % 61)) p (in_group_lem in_words (p % 61) all-in-words)
    (λ (x : Hit in_words (group (p % 61)) p).
    let t = said (number_in rows_of (x.row / 256)) (x.row % 256) x.tested in
    x.says ∙ sym (rw x.is at t))
    (λ y. y ∙ sym z))

all-proper : every proper? words ≡ true
unfolding words keywords valued_words branches operations unaries moves other_words registers conditions emulated word name_byte? same
    spelled spelled_from
all-proper = refl

all_small : every small? (each number_of words) ≡ true
unfolding number_of key_number valued_number words keywords valued_words branches operations unaries moves other_words registers conditions
    emulated
all_small = refl

pub word-is : (p : ℕ) (t : List ℕ) → p ≡ spelled (word t) → word_by (number_in (group (p % 61)) p) ≡ word_of (word t)
unfolding word_of rows_of
word-is p t e =
    ap word_by (group-is p ∙ number-packed (each number_of words) p all_small) ∙ by_number p words numbers-say
    ∙ in_letters Free t p e words all-proper

-- ---- the fields that words carry are within their formats
abbrev pub valued-within? : Valued → Bool
valued-within? val.Org = true
valued-within? val.Bss = true
valued-within? val.Byte = true
valued-within? val.Word = true
valued-within? val.Bl = true
valued-within? (val.Branch c) = ltb c 8
valued-within? val.SetPri = true
valued-within? val.Svc = true

abbrev pub key-within? : Keyword → Bool
key-within? (key.Value v) = valued-within? v
key-within? key.Equ = true
key-within? key.End = true
key-within? (key.Arithmetic op) = ltb op 12
key-within? key.Mov = true
key-within? key.Swap = true
key-within? (key.Unary op) = ltb op 3
key-within? key.Swpb = true
key-within? key.Sxt = true
key-within? key.SetCc = true
key-within? key.ClrCc = true
key-within? key.Cex = true
key-within? key.Ld = true
key-within? key.St = true
key-within? (key.MovImm op) = ltb op 4
key-within? key.Ldr = true
key-within? key.Str = true

abbrev pub within? : Word → Bool
within? Free = true
within? Reserved = true
within? (Begins k) = key-within? k

meaning-within : (rows : List (String × Word)) (w : List ℕ) → every (λ (r : String × Word). within? r.1) rows ≡ true
    → within? (meaning Free rows w) ≡ true
unfolding meaning
meaning-within [] w h = refl
meaning-within (r ∷ rows) w h =
    let parts = and_parts (within? r.1) (every (λ (r : String × Word). within? r.1) rows) h in
    bool_cases (same (ascii r.0) w) (λ q. rw q parts.0) (λ q. rw q (meaning-within rows w parts.1))

all-within : every (λ (r : String × Word). within? r.1) words ≡ true
unfolding words keywords valued_words branches operations unaries moves other_words registers conditions emulated
all-within = refl

pub word-within : (w : List ℕ) → within? (word_of w) ≡ true
unfolding word_of
word-within w = meaning-within words w all-within

-- 107 words
pub words_count : length words ≡ 107
unfolding words keywords valued_words branches operations unaries moves other_words registers conditions emulated
words_count = refl

-- ---- flags, letter by letter
module _ (w : List ℕ) (k f : ℕ) where
  pub flags-stop : length w ≤ k → flags_from (Some f) (drop k w) ≡ Some f
  unfolding flags_from
  flags-stop h = rw (drop_of_length-le w h)

  pub flags-fail : k < length w → None ≡ with_bit f (flag_of (get_or w k 0)) → None ≡ flags_from (Some f) (drop k w)
  unfolding flags_from
  flags-fail h e = rw (drop-cons w k 0 h) (ap (λ o. flags_from o (drop (suc k) w)) e)

  pub flags-more : k < length w → flags_from (with_bit f (flag_of (get_or w k 0))) (drop (k + 1) w) ≡ flags_from (Some f) (drop k w)
  unfolding flags_from
  flags-more h = rw (add-one k, drop-cons w k 0 h)

-- a bit that is not there yet leaves less than 32
either : {A : Type 0} (P : A → Type 0) (b : Bool) (x y : A) → P x → P y → P (cond b x y)
either P true x y f g = f
either P false x y f g = g

by_flag : (P : Option ℕ → Type 0) → P (Some 16) → P (Some 8) → P (Some 4) → P (Some 2) → P (Some 1) → P None → (b : ℕ) → P (flag_of b)
unfolding flag_of meaning flags same
by_flag P v s n z c none b =
    either P (same (ascii "V") (b ∷ [])) _ _ v
    (either P (same (ascii "S") (b ∷ [])) _ _ s
    (either P (same (ascii "N") (b ∷ [])) _ _ n
    (either P (same (ascii "Z") (b ∷ [])) _ _ z
    (either P (same (ascii "C") (b ∷ [])) _ _ c none))))

abbrev Bit : Option ℕ → Type 0
Bit None = Unit
Bit (Some x) = (0 < x) × ((f : ℕ) → f < 32 → f / x % 2 ≡ 0 → f + x < 32)

bits : (b : ℕ) → Bit (flag_of b)
bits b = by_flag Bit (omega arith, λ f h q. omega (arith, h, q)) (omega arith, λ f h q. omega (arith, h, q))
    (omega arith, λ f h q. omega (arith, h, q)) (omega arith, λ f h q. omega (arith, h, q)) (omega arith, λ f h q. omega (arith, h, q)) tt b

module _ (f b bit : ℕ) (e : Some bit ≡ flag_of b) where
  pub flag-bit : (0 < bit) × (f < 32 → f / bit % 2 ≡ 0 → f + bit < 32)
  flag-bit = let k : Bit (Some bit) = subst Bit (sym e) (bits b) in (k.0, k.1 f)

-- ---- what the tables in letters say is below their limits
abbrev pub Less : ℕ → Option ℕ → Type 0
Less limit None = Unit
Less limit (Some n) = n < limit

meaning-less : (limit : ℕ) (rows : List (String × ℕ)) (w : List ℕ) → every (λ (r : String × ℕ). ltb r.1 limit) rows ≡ true
    → Less limit (meaning None (each Some rows) w)
unfolding meaning
meaning-less limit [] w h = tt
meaning-less limit (r ∷ rows) w h =
    let parts = and_parts (ltb r.1 limit) (every (λ (r : String × ℕ). ltb r.1 limit) rows) h in
    bool_cases (same (ascii r.0) w) (λ q. rw q (ltb-true r.1 limit parts.0)) (λ q. rw q (meaning-less limit rows w parts.1))

pub register-less : (w : List ℕ) → Less 8 (register_of w)
unfolding register_of registers
register-less w = meaning-less 8 registers w refl

pub condition-less : (w : List ℕ) → Less 16 (condition_of w)
unfolding condition_of conditions
condition-less w = meaning-less 16 conditions w refl

bit-less : (f : ℕ) → f < 32 → (o : Option ℕ) → Bit o → Less 32 (with_bit f o)
unfolding with_bit
bit-less f h None k = tt
bit-less f h (Some x) k = bool_cases (eqb (f / x % 2) 0) (λ q. rw q (k.1 f h (eqb-true (f / x % 2) 0 q))) (λ q. rw q tt)

with-less : (f b : ℕ) → f < 32 → Less 32 (with_bit f (flag_of b))
with-less f b h = bit-less f h (flag_of b) (bits b)

from-less : (o : Option ℕ) (l : List ℕ) → Less 32 o → Less 32 (flags_from o l)
unfolding flags_from
from-less None l h = tt
from-less (Some f) [] h = h
from-less (Some f) (b ∷ l) h = from-less (with_bit f (flag_of b)) l (with-less f b h)

some-less : (o : Option ℕ) → Less 32 o → Less 32 (some_flag o)
unfolding some_flag
some-less None h = tt
some-less (Some zero) h = tt
some-less (Some (suc f)) h = h

pub flags-less : (w : List ℕ) → Less 32 (flags_of w)
unfolding flags_of
flags-less w = some-less (flags_from (Some 0) w) (from-less (Some 0) w (omega arith))

pub flags-none : (o : Option ℕ) (f : ℕ) → o ≡ Some f → f ≡ 0 → None ≡ some_flag o
unfolding some_flag
flags-none o f e z = rw (e, z)

pub flags-some : (o : Option ℕ) (f : ℕ) → o ≡ Some f → (f ≡ 0 → ⊥) → Some f ≡ some_flag o
unfolding some_flag
flags-some o zero e z = absurd (z refl)
flags-some o (suc f) e z = rw e

pub not-free : (w : Word) → (w ≡ Free → ⊥) → false ≡ free? w
unfolding free?
not-free Free h = absurd (h refl)
not-free Reserved h = refl
not-free (Begins k) h = refl

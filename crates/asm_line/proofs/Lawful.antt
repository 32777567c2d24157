-- Every field of a statement that was read is within its format: an instruction without a value has a word, and the
-- other fields of one with a value are below their limits. Assumes nothing.
use mathlib.Core.Path.{◌≡◌, refl}
use mathlib.Core.Bool.{Bool, true, false, cond, ◌&&◌, not, false≢true}
use mathlib.Core.List.{List}
use Prim.Native.Nat.{ℕ, ◌+◌, ◌<◌}
use native.Mathlib.Omega.{arith}
use lib.Dec.{ltb, eqb}
use lib.ListN.{drop}
use borrow.Author.Tests.{ltb-true, lt-ltb}
use Rattle.isa.specs.declared.Instr.{Instr}
use Rattle.isa.specs.declared.Instr.TheVariants as instr
use Rattle.isa.specs.Encode.{encode_of, when_fits}
use Rattle.std.specs.Prelude.{ℤ, Option, Some, None, Result}
use Rattle.asm_value.specs.declared.Lack.{Lack}
use Rattle.asm_text.specs.declared.Read.{Read}
use Rattle.asm_text.specs.Text.{byte_at, blank?, letter?, name_byte?, after, word}
use Rattle.asm_words.specs.declared.Word.{Word}
use Rattle.asm_words.specs.declared.Word.TheVariants.{Free, Reserved, Begins}
use Rattle.asm_words.specs.declared.Keyword.{Keyword}
use Rattle.asm_words.specs.declared.Keyword.TheVariants as key
use Rattle.asm_words.specs.declared.Valued.{Valued}
use Rattle.asm_words.specs.declared.Valued.TheVariants as val
use Rattle.asm_words.specs.Words.{word_of, free?, register_of, condition_of, flags_of}
use Rattle.asm_words.proofs.Laws.{valued-within?, key-within?, within?, word-within}
use Rattle.asm_words.proofs.Laws.{Less, register-less, condition-less, flags-less}
use Rattle.asm_operands.specs.declared.Address.{Address}
use Rattle.asm_operands.specs.declared.Address.{Address}
use Rattle.asm_operands.specs.Operands.{over?, up_to, word_said, register_at, condition_at, flags_at, width_at, value_at, comma?}
use Rattle.asm_operands.specs.Operands.{comma_register, comma_value, changed_before, changed_after, address_at, comma_address}
use Rattle.asm_line.specs.declared.Statement.{Statement}
use Rattle.asm_line.specs.declared.Statement.TheVariants as st
use Rattle.asm_line.specs.declared.Line.{Line}
use Rattle.asm_line.specs.Statement.{having, with_value, one_value, equate, arithmetic_from, arithmetic, move}
use Rattle.asm_line.specs.Statement.{exchange, unary, one_register, on_flags, conditional, load, store, move_byte}
use Rattle.asm_line.specs.Statement.{load_relative, store_relative, statement_with, statement_of}
use Rattle.asm_line.specs.Line.{ended, statement_at, after_name, line_from, line_of}

-- a word, not a refusal
abbrev pub Worded : Option ℕ → Type 0
Worded None = ⊥
Worded (Some w) = Unit

-- its fields are within its format
abbrev pub Lawful : Statement → Type 0
Lawful st.Nothing = Unit
Lawful (st.Org v) = Unit
Lawful (st.Equ v) = Unit
Lawful (st.Bss v) = Unit
Lawful (st.Byte v) = Unit
Lawful (st.Word v) = Unit
Lawful st.End = Unit
Lawful (st.Fixed i) = Worded (encode_of i)
Lawful (st.Bl v) = Unit
Lawful (st.Branch cond v) = cond < 8
Lawful (st.Constant op wb v dst) = (op < 12) × (wb < 2) × (dst < 8)
Lawful (st.SetPri v) = Unit
Lawful (st.Svc v) = Unit
Lawful (st.Cex cond t f) = cond < 16
Lawful (st.MovImm op plain v dst) = (op < 4) × (dst < 8)
Lawful (st.Ldr off wb src dst) = (wb < 2) × (src < 8) × (dst < 8)
Lawful (st.Str off wb src dst) = (wb < 2) × (src < 8) × (dst < 8)

abbrev Holds : Option (Read Statement) → Type 0
Holds None = Unit
Holds (Some x) = Lawful x.value

abbrev pub LawfulLine : Option Line → Type 0
LawfulLine None = Unit
LawfulLine (Some x) = Lawful x.statement

-- ---- operands
abbrev Below : ℕ → Option (Read ℕ) → Type 0
Below limit None = Unit
Below limit (Some r) = r.value < limit

abbrev Placed : Option (Read Address) → Type 0
Placed None = Unit
Placed (Some a) = (a.value.prpo < 2) × (a.value.dec < 2) × (a.value.inc < 2) × (a.value.register < 8)

below-cond : (limit : ℕ) (b : Bool) (x y : Option (Read ℕ)) → (b ≡ true → Below limit x) → (b ≡ false → Below limit y)
    → Below limit (cond b x y)
below-cond limit true x y f g = f refl
below-cond limit false x y f g = g refl

placed-cond : (b : Bool) (x y : Option (Read Address)) → (b ≡ true → Placed x) → (b ≡ false → Placed y) → Placed (cond b x y)
placed-cond true x y f g = f refl
placed-cond false x y f g = g refl

up-to-below : (limit i : ℕ) (o : Option ℕ) → Less limit o → Below limit (up_to i o)
up-to-below limit i None h = tt
up-to-below limit i (Some n) h = h

register-below : (s : List ℕ) (i : ℕ) → Below 8 (register_at s i)
unfolding register_at word_said
register-below s i = up-to-below 8 _ (register_of (word (drop (after blank? s i) s))) (register-less (word (drop (after blank? s i) s)))

condition-below : (s : List ℕ) (i : ℕ) → Below 16 (condition_at s i)
unfolding condition_at word_said
condition-below s i =
    up-to-below 16 _ (condition_of (word (drop (after blank? s i) s))) (condition-less (word (drop (after blank? s i) s)))

flags-below : (s : List ℕ) (i : ℕ) → Below 32 (flags_at s i)
unfolding flags_at word_said
flags-below s i = up-to-below 32 _ (flags_of (word (drop (after blank? s i) s))) (flags-less (word (drop (after blank? s i) s)))

width-below : (s : List ℕ) (i : ℕ) → Below 2 (width_at s i)
unfolding width_at
width-below s i = below-cond 2 (not (eqb (byte_at s i) 46)) _ _ (λ q. omega arith)
    (λ q. below-cond 2 (name_byte? (byte_at s (i + 2))) _ _ (λ q. tt) (λ q. below-cond 2 (eqb (byte_at s (i + 1)) 66) _ _ (λ q. omega arith)
    (λ q. below-cond 2 (eqb (byte_at s (i + 1)) 87) _ _ (λ q. omega arith) (λ q. tt))))

comma-register-below : (s : List ℕ) (i : ℕ) → Below 8 (comma_register s i)
unfolding comma_register
comma-register-below s i = below-cond 8 (comma? s i) _ _ (λ q. register-below s (after blank? s i + 1)) (λ q. tt)

placed-before : (dec inc : ℕ) (f : Option (Read ℕ)) → dec < 2 → inc < 2 → Below 8 f → Placed (changed_before dec inc f)
placed-before dec inc None a b h = tt
placed-before dec inc (Some r) a b h = (omega arith, a, b, h)

placed-after : (s : List ℕ) (f : Option (Read ℕ)) → Below 8 f → Placed (changed_after s f)
unfolding changed_after
placed-after s None h = tt
placed-after s (Some r) h =
    placed-cond (eqb (byte_at s (after blank? s r.next)) 43) _ _ (λ q. (omega arith, omega arith, omega arith, h))
    (λ q. placed-cond (eqb (byte_at s (after blank? s r.next)) 45) _ _ (λ q. (omega arith, omega arith, omega arith, h))
    (λ q. (omega arith, omega arith, omega arith, h)))

address-placed : (s : List ℕ) (i : ℕ) → Placed (address_at s i)
unfolding address_at
address-placed s i = placed-cond (eqb (byte_at s (after blank? s i)) 43) _ _
    (λ q. placed-before 0 1 (register_at s (after blank? s i + 1)) (omega arith) (omega arith) (register-below s (after blank? s i + 1)))
    (λ q. placed-cond (eqb (byte_at s (after blank? s i)) 45) _ _
    (λ q. placed-before 1 0 (register_at s (after blank? s i + 1)) (omega arith) (omega arith) (register-below s (after blank? s i + 1)))
    (λ q. placed-after s (register_at s i) (register-below s i)))

comma-address-placed : (s : List ℕ) (i : ℕ) → Placed (comma_address s i)
unfolding comma_address
comma-address-placed s i = placed-cond (comma? s i) _ _ (λ q. address-placed s (after blank? s i + 1)) (λ q. tt)

-- ---- one after the other
holds-cond : (b : Bool) (x y : Option (Read Statement)) → (b ≡ true → Holds x) → (b ≡ false → Holds y) → Holds (cond b x y)
holds-cond true x y f g = f refl
holds-cond false x y f g = g refl

holds-having : (limit : ℕ) (f : Option (Read ℕ)) (g : ℕ → ℕ → Option (Read Statement)) → Below limit f
    → ((n i : ℕ) → n < limit → Holds (g n i)) → Holds (having f g)
holds-having limit None g b h = tt
holds-having limit (Some r) g b h = h r.value r.next b

holds-valued : (a : Option (Read (Result ℤ Lack))) (g : Result ℤ Lack → ℕ → Option (Read Statement))
    → ((v : Result ℤ Lack) (i : ℕ) → Holds (g v i)) → Holds (having a g)
holds-valued None g h = tt
holds-valued (Some v) g h = h v.value v.next

holds-addressed : (a : Option (Read Address)) (g : Address → ℕ → Option (Read Statement)) → Placed a
    → ((a : Address) (i : ℕ) → a.prpo < 2 → a.dec < 2 → a.inc < 2 → a.register < 8 → Holds (g a i)) → Holds (having a g)
holds-addressed None g p h = tt
holds-addressed (Some a) g p h = h a.value a.next p.0 p.1 p.2 p.3

worded : (b : Bool) (w : ℕ) → b ≡ true → Worded (when_fits b w)
worded true w h = tt
worded false w h = absurd (false≢true h)

-- ---- the statements, in the order of their definitions
module _ (look : List ℕ → Result ℤ Lack) (s : List ℕ) where
  with_value_lem : (m : Valued) (v : Result ℤ Lack) → valued-within? m ≡ true → Lawful (with_value m v)
  unfolding with_value
  with_value_lem val.Org v h = tt
  with_value_lem val.Bss v h = tt
  with_value_lem val.Byte v h = tt
  with_value_lem val.Word v h = tt
  with_value_lem val.Bl v h = tt
  with_value_lem (val.Branch c) v h = ltb-true c 8 h
  with_value_lem val.SetPri v h = tt
  with_value_lem val.Svc v h = tt

  one_value_lem : (m : Valued) (i : ℕ) → valued-within? m ≡ true → Holds (one_value look s m i)
  unfolding one_value
  one_value_lem m i h = holds-valued (value_at look s i) _ (λ v j. with_value_lem m v h)

  equate-holds : (named : Bool) (i : ℕ) → Holds (equate look s named i)
  unfolding equate
  equate-holds named i = holds-cond named _ _ (λ q. holds-valued (value_at look s i) _ (λ v j. tt)) (λ q. tt)

  from-register : (op w i : ℕ) (f : Option (Read ℕ)) → op < 12 → w < 2 → Below 8 f → Holds (arithmetic_from look s op w i f)
  unfolding encode_of
  from-register op w i None a b h = holds-valued (value_at look s i) _
      (λ v j. holds-having 8 (comma_register s j) _ (comma-register-below s j) (λ d k e. (a, b, e)))
  from-register op w i (Some r) a b h = holds-having 8 (comma_register s r.next) _ (comma-register-below s r.next)
      (λ d k e. worded (ltb op 12 && ltb 0 2 && ltb w 2 && ltb r.value 8 && ltb d 8) _
      (rw (lt-ltb op 12 a, lt-ltb w 2 b, lt-ltb r.value 8 h, lt-ltb d 8 e)))

  arithmetic-holds : (op i : ℕ) → op < 12 → Holds (arithmetic look s op i)
  unfolding arithmetic
  arithmetic-holds op i a = holds-having 2 (width_at s i) _ (width-below s i)
      (λ w j b. from-register op w j (register_at s j) a b (register-below s j))

  move-holds : (i : ℕ) → Holds (move s i)
  unfolding move encode_of
  move-holds i = holds-having 2 (width_at s i) _ (width-below s i)
      (λ w j b. holds-having 8 (register_at s j) _ (register-below s j)
      (λ r k h. holds-having 8 (comma_register s k) _ (comma-register-below s k)
      (λ d l e. worded (ltb w 2 && ltb r 8 && ltb d 8) _ (rw (lt-ltb w 2 b, lt-ltb r 8 h, lt-ltb d 8 e)))))

  exchange-holds : (i : ℕ) → Holds (exchange s i)
  unfolding exchange encode_of
  exchange-holds i = holds-having 8 (register_at s i) _ (register-below s i)
      (λ r k h. holds-having 8 (comma_register s k) _ (comma-register-below s k)
      (λ d l e. worded (ltb r 8 && ltb d 8 && ltb 0 2) _ (rw (lt-ltb r 8 h, lt-ltb d 8 e))))

  unary-holds : (op i : ℕ) → op < 3 → Holds (unary s op i)
  unfolding unary encode_of
  unary-holds op i a = holds-having 2 (width_at s i) _ (width-below s i)
      (λ w j b. holds-having 8 (register_at s j) _ (register-below s j)
      (λ d k e. worded (ltb op 3 && ltb w 2 && ltb d 8) _ (rw (lt-ltb op 3 a, lt-ltb w 2 b, lt-ltb d 8 e))))

  one_of : (b : Bool) (x y : Instr) → Worded (encode_of x) → Worded (encode_of y) → Worded (encode_of (cond b x y))
  one_of true x y f g = f
  one_of false x y f g = g

  one-register : (swapped : Bool) (i : ℕ) → Holds (one_register s swapped i)
  unfolding one_register encode_of
  one-register swapped i = holds-having 8 (register_at s i) _ (register-below s i)
      (λ d j e. one_of swapped (instr.Swpb d 0) (instr.Sxt d 0) (worded (ltb d 8 && ltb 0 2) _ (rw (lt-ltb d 8 e)))
      (worded (ltb d 8 && ltb 0 2) _ (rw (lt-ltb d 8 e))))

  on-flags : (set : Bool) (i : ℕ) → Holds (on_flags s set i)
  unfolding on_flags encode_of
  on-flags set i = holds-having 32 (flags_at s i) _ (flags-below s i)
      (λ f j e. one_of set (instr.SetCc f) (instr.ClrCc f) (worded (ltb f 32) _ (lt-ltb f 32 e)) (worded (ltb f 32) _ (lt-ltb f 32 e)))

  conditional-holds : (i : ℕ) → Holds (conditional look s i)
  unfolding conditional
  conditional-holds i = holds-having 16 (condition_at s i) _ (condition-below s i)
      (λ c j e. holds-valued (comma_value look s j) _ (λ t k. holds-valued (comma_value look s k) _ (λ f l. e)))

  load-holds : (i : ℕ) → Holds (load s i)
  unfolding load encode_of
  load-holds i = holds-having 2 (width_at s i) _ (width-below s i)
      (λ w j b. holds-addressed (address_at s j) _ (address-placed s j)
      (λ a k p q n h. holds-having 8 (comma_register s k) _ (comma-register-below s k)
      (λ d l e. worded (ltb a.prpo 2 && ltb a.dec 2 && ltb a.inc 2 && ltb w 2 && ltb a.register 8 && ltb d 8) _
      (rw (lt-ltb a.prpo 2 p, lt-ltb a.dec 2 q, lt-ltb a.inc 2 n, lt-ltb w 2 b, lt-ltb a.register 8 h, lt-ltb d 8 e)))))

  store-holds : (i : ℕ) → Holds (store s i)
  unfolding store encode_of
  store-holds i = holds-having 2 (width_at s i) _ (width-below s i)
      (λ w j b. holds-having 8 (register_at s j) _ (register-below s j)
      (λ r k h. holds-addressed (comma_address s k) _ (comma-address-placed s k)
      (λ a l p q n e. worded (ltb a.prpo 2 && ltb a.dec 2 && ltb a.inc 2 && ltb w 2 && ltb r 8 && ltb a.register 8) _
      (rw (lt-ltb a.prpo 2 p, lt-ltb a.dec 2 q, lt-ltb a.inc 2 n, lt-ltb w 2 b, lt-ltb r 8 h, lt-ltb a.register 8 e)))))

  move-byte : (op i : ℕ) → op < 4 → Holds (move_byte look s op i)
  unfolding move_byte
  move-byte op i a = holds-valued (value_at look s i) _
      (λ v j. holds-having 8 (comma_register s j) _ (comma-register-below s j) (λ d k e. (a, e)))

  load-relative : (i : ℕ) → Holds (load_relative look s i)
  unfolding load_relative
  load-relative i = holds-having 2 (width_at s i) _ (width-below s i)
      (λ w j b. holds-having 8 (register_at s j) _ (register-below s j) (λ r k h. holds-valued (comma_value look s k) _
      (λ v l. holds-having 8 (comma_register s l) _ (comma-register-below s l) (λ d n e. (b, h, e)))))

  store-relative : (i : ℕ) → Holds (store_relative look s i)
  unfolding store_relative
  store-relative i = holds-having 2 (width_at s i) _ (width-below s i)
      (λ w j b. holds-having 8 (register_at s j) _ (register-below s j)
      (λ r k h. holds-having 8 (comma_register s k) _ (comma-register-below s k)
      (λ d l e. holds-valued (comma_value look s l) _ (λ v n. (b, h, e)))))

  with-holds : (named : Bool) (k : Keyword) (i : ℕ) → key-within? k ≡ true → Holds (statement_with look s named k i)
  unfolding statement_with
  with-holds named (key.Value m) i h = one_value_lem m i h
  with-holds named key.Equ i h = equate-holds named i
  with-holds named key.End i h = tt
  with-holds named (key.Arithmetic op) i h = arithmetic-holds op i (ltb-true op 12 h)
  with-holds named key.Mov i h = move-holds i
  with-holds named key.Swap i h = exchange-holds i
  with-holds named (key.Unary op) i h = unary-holds op i (ltb-true op 3 h)
  with-holds named key.Swpb i h = one-register true i
  with-holds named key.Sxt i h = one-register false i
  with-holds named key.SetCc i h = on-flags true i
  with-holds named key.ClrCc i h = on-flags false i
  with-holds named key.Cex i h = conditional-holds i
  with-holds named key.Ld i h = load-holds i
  with-holds named key.St i h = store-holds i
  with-holds named (key.MovImm op) i h = move-byte op i (ltb-true op 4 h)
  with-holds named key.Ldr i h = load-relative i
  with-holds named key.Str i h = store-relative i

  statement-holds : (named : Bool) (m : Word) (i : ℕ) → within? m ≡ true → Holds (statement_of look s named m i)
  unfolding statement_of
  statement-holds named Free i h = tt
  statement-holds named Reserved i h = tt
  statement-holds named (Begins k) i h = with-holds named k i h

  -- ---- a line
  line-cond : (b : Bool) (x y : Option Line) → (b ≡ true → LawfulLine x) → (b ≡ false → LawfulLine y) → LawfulLine (cond b x y)
  line-cond true x y f g = f refl
  line-cond false x y f g = g refl

  ended-lawful : (start : ℕ) (name : Option ℕ) (x : Option (Read Statement)) → Holds x → LawfulLine (ended s start name x)
  ended-lawful start name None h = tt
  ended-lawful start name (Some x) h = line-cond (over? s (after blank? s x.next)) _ _ (λ q. h) (λ q. tt)

  statement-lawful : (start : ℕ) (name : Option ℕ) (named : Bool) (i : ℕ) → LawfulLine (ended s start name (statement_at look s named i))
  unfolding statement_at
  statement-lawful start name named i =
      let m = word_of (word (drop i s)) in
      let k = after name_byte? s i in
      ended-lawful start name (statement_of look s named m k) (statement-holds named m k (word-within (word (drop i s))))

  after-lawful : (start i : ℕ) → LawfulLine (after_name look s start i)
  unfolding after_name
  after-lawful start i = line-cond (over? s i) _ _ (λ q. tt) (λ q. statement-lawful start (Some start) true i)

  from-lawful : (q : ℕ) → LawfulLine (line_from look s q)
  unfolding line_from
  from-lawful q = line-cond (over? s q) _ _ (λ z. tt)
      (λ z. line-cond (not (free? (word_of (word (drop q s))))) _ _ (λ z. statement-lawful q None false q)
      (λ z. line-cond (letter? (byte_at s q)) _ _ (λ z. after-lawful q (after blank? s (after name_byte? s q))) (λ z. tt)))

  pub line-lawful : LawfulLine (line_of look s)
  unfolding line_of
  line-lawful = from-lawful (after blank? s 0)

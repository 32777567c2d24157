-- A line read with other values for its names: it fits the language or does not, has a name or not, and ends, at the same places;
-- and where what it reads is related value by value, so are its statements. Assumes nothing.
use mathlib.Core.Path.{◌≡◌, refl, subst}
use mathlib.Core.Bool.{Bool, true, false, cond, not}
use mathlib.Core.List.{List}
use Prim.Native.Nat.{ℕ, ◌+◌}
use lib.ListN.{drop}
use Rattle.std.specs.Prelude.{ℤ, Option, Some, None, Result}
use Rattle.asm_value.specs.declared.Lack.{Lack}
use Rattle.asm_text.specs.declared.Read.{Read}
use Rattle.asm_text.specs.Text.{byte_at, blank?, letter?, name_byte?, after, word, found}
use Rattle.asm_words.specs.declared.Word.{Word}
use Rattle.asm_words.specs.declared.Word.TheVariants.{Free, Reserved, Begins}
use Rattle.asm_words.specs.declared.Keyword.{Keyword}
use Rattle.asm_words.specs.declared.Keyword.TheVariants as key
use Rattle.asm_words.specs.declared.Valued.{Valued}
use Rattle.asm_words.specs.Words.{word_of, free?}
use Rattle.asm_expr.specs.Grammar.{Expr, Parse, parsed, malformed, factor_of}
use Rattle.asm_expr.specs.Meaning.{value_of, answer_of}
use Rattle.asm_operands.specs.Operands.{over?, register_at, condition_at, width_at, value_at, number?, comma?, comma_register, comma_value}
use Rattle.asm_line.specs.declared.Statement.{Statement}
use Rattle.asm_line.specs.declared.Statement.TheVariants as st
use Rattle.asm_line.specs.declared.Line.{Line}
use Rattle.asm_line.specs.Statement.{having, with_value, one_value, equate, arithmetic_from, arithmetic, move, exchange}
use Rattle.asm_line.specs.Statement.{unary, one_register, on_flags, conditional, load, store, move_byte, load_relative}
use Rattle.asm_line.specs.Statement.{store_relative, statement_with, statement_of}
use Rattle.asm_line.specs.Line.{line_with, ended, statement_at, after_name, line_from, line_of}

-- U relates values, O statements
module _ (U : Result ℤ Lack → Result ℤ Lack → Type 0) (O : Statement → Statement → Type 0) where
  -- statements made alike of related values are related
  pub record Related : Type 0 where
    pub itself : (x : Statement) → O x x
    pub of_one : (m : Valued) (v w : Result ℤ Lack) → U v w → O (with_value m v) (with_value m w)
    pub of-equate : (v w : Result ℤ Lack) → U v w → O (st.Equ v) (st.Equ w)
    pub of-constant : (op b d : ℕ) (v w : Result ℤ Lack) → U v w → O (st.Constant op b v d) (st.Constant op b w d)
    pub of-counts : (c : ℕ) (t u v w : Result ℤ Lack) → U t u → U v w → O (st.Cex c t v) (st.Cex c u w)
    pub of-byte : (op : ℕ) (plain : Bool) (d : ℕ) (v w : Result ℤ Lack) → U v w → O (st.MovImm op plain v d) (st.MovImm op plain w d)
    pub of-load : (b r d : ℕ) (v w : Result ℤ Lack) → U v w → O (st.Ldr v b r d) (st.Ldr w b r d)
    pub of-store : (b r d : ℕ) (v w : Result ℤ Lack) → U v w → O (st.Str v b r d) (st.Str w b r d)

  -- both fit, of related values, and end at the same place, or neither does
  abbrev Both : {A : Type 0} → (A → A → Type 0) → Option (Read A) → Option (Read A) → Type 0
  Both R None None = Unit
  Both R None (Some y) = ⊥
  Both R (Some x) None = ⊥
  Both R (Some x) (Some y) = (x.next ≡ y.next) × R x.value y.value

  abbrev SameAnswer : Option (Read (Result ℤ Lack)) → Option (Read (Result ℤ Lack)) → Type 0
  SameAnswer = Both U

  abbrev Alike : Option (Read Statement) → Option (Read Statement) → Type 0
  Alike = Both O

  abbrev pub AlikeLines : Option Line → Option Line → Type 0
  AlikeLines None None = Unit
  AlikeLines None (Some y) = ⊥
  AlikeLines (Some x) None = ⊥
  AlikeLines (Some x) (Some y) = (x.start ≡ y.start) × (x.name ≡ y.name) × O x.statement y.statement

  alike-cond : (b : Bool) (x y x' y' : Option (Read Statement)) → Alike x x' → Alike y y' → Alike (cond b x y) (cond b x' y')
  alike-cond true x y x' y' f g = f
  alike-cond false x y x' y' f g = g

  alike-having : {A : Type 0} (f : Option (Read A)) (g g' : A → ℕ → Option (Read Statement))
      → ((n : A) (i : ℕ) → Alike (g n i) (g' n i)) → Alike (having f g) (having f g')
  alike-having None g g' h = tt
  alike-having (Some r) g g' h = h r.value r.next

  alike-valued : (a a' : Option (Read (Result ℤ Lack))) (g g' : Result ℤ Lack → ℕ → Option (Read Statement)) → SameAnswer a a'
      → ((v w : Result ℤ Lack) (i : ℕ) → U v w → Alike (g v i) (g' w i)) → Alike (having a g) (having a' g')
  alike-valued None None g g' e h = tt
  alike-valued None (Some w) g g' e h = absurd e
  alike-valued (Some v) None g g' e h = absurd e
  alike-valued (Some v) (Some w) g g' e h =
      subst (λ (k : ℕ). Alike (g v.value v.next) (g' w.value k)) e.0 (h v.value w.value v.next e.1)

  alike-lines-cond : (b : Bool) (x y x' y' : Option Line) → AlikeLines x x' → AlikeLines y y' → AlikeLines (cond b x y) (cond b x' y')
  alike-lines-cond true x y x' y' f g = f
  alike-lines-cond false x y x' y' f g = g

  -- f and f' give values to names, and related ones to every expression
  module _ (R : Related) (f f' : List ℕ → Result ℤ Lack) (values : (e : Expr) → U (value_of f e) (value_of f' e)) (s : List ℕ) where
    alike_self : (x : Option (Read Statement)) → Alike x x
    alike_self None = tt
    alike_self (Some x) = (refl, R.itself x.value)

    same-parse : (p : Parse) → SameAnswer (answer_of f p) (answer_of f' p)
    unfolding answer_of
    same-parse malformed = tt
    same-parse (parsed e i) = (refl, values e)

    same-value : (i : ℕ) → SameAnswer (value_at f s i) (value_at f' s i)
    unfolding value_at
    same-value i = same-parse (factor_of 16 s i)

    same_cond : (b : Bool) (x x' : Option (Read (Result ℤ Lack))) → SameAnswer x x' → SameAnswer (cond b x None) (cond b x' None)
    same_cond true x x' e = e
    same_cond false x x' e = tt

    same-comma : (i : ℕ) → SameAnswer (comma_value f s i) (comma_value f' s i)
    unfolding comma_value
    same-comma i = same_cond (comma? s i) _ _ (same-value (after blank? s i + 1))

    one_value_lem : (m : Valued) (i : ℕ) → Alike (one_value f s m i) (one_value f' s m i)
    unfolding one_value
    one_value_lem m i = alike-valued (value_at f s i) (value_at f' s i) _ _ (same-value i) (λ v w j h. (refl, R.of_one m v w h))

    equate-alike : (named : Bool) (i : ℕ) → Alike (equate f s named i) (equate f' s named i)
    unfolding equate
    equate-alike named i =
        alike-cond named _ _ _ _
        (alike-valued (value_at f s i) (value_at f' s i) _ _ (same-value i) (λ v w j h. (refl, R.of-equate v w h))) tt

    from-register : (op b i : ℕ) (x : Option (Read ℕ)) → Alike (arithmetic_from f s op b i x) (arithmetic_from f' s op b i x)
    from-register op b i None = alike-valued (value_at f s i) (value_at f' s i) _ _ (same-value i)
        (λ v w j h. alike-having (comma_register s j) _ _ (λ d k. (refl, R.of-constant op b d v w h)))
    from-register op b i (Some r) = alike-having (comma_register s r.next) _ _ (λ d k. (refl, R.itself _))

    arithmetic-alike : (op i : ℕ) → Alike (arithmetic f s op i) (arithmetic f' s op i)
    unfolding arithmetic
    arithmetic-alike op i = alike-having (width_at s i) _ _ (λ b j. from-register op b j (register_at s j))

    conditional-alike : (i : ℕ) → Alike (conditional f s i) (conditional f' s i)
    unfolding conditional
    conditional-alike i = alike-having (condition_at s i) _ _
        (λ c j. alike-valued (comma_value f s j) (comma_value f' s j) _ _ (same-comma j)
        (λ t u k g. alike-valued (comma_value f s k) (comma_value f' s k) _ _ (same-comma k)
        (λ v w l h. (refl, R.of-counts c t u v w g h))))

    move-byte : (op i : ℕ) → Alike (move_byte f s op i) (move_byte f' s op i)
    unfolding move_byte
    move-byte op i = alike-valued (value_at f s i) (value_at f' s i) _ _ (same-value i)
        (λ v w j h. alike-having (comma_register s j) _ _ (λ d k. (refl, R.of-byte op (number? s i) d v w h)))

    load-relative : (i : ℕ) → Alike (load_relative f s i) (load_relative f' s i)
    unfolding load_relative
    load-relative i = alike-having (width_at s i) _ _ (λ b j. alike-having (register_at s j) _ _
        (λ r k. alike-valued (comma_value f s k) (comma_value f' s k) _ _ (same-comma k)
        (λ v w l h. alike-having (comma_register s l) _ _ (λ d n. (refl, R.of-load b r d v w h)))))

    store-relative : (i : ℕ) → Alike (store_relative f s i) (store_relative f' s i)
    unfolding store_relative
    store-relative i = alike-having (width_at s i) _ _ (λ b j. alike-having (register_at s j) _ _
        (λ r k. alike-having (comma_register s k) _ _
        (λ d l. alike-valued (comma_value f s l) (comma_value f' s l) _ _ (same-comma l) (λ v w n h. (refl, R.of-store b r d v w h)))))

    with-alike : (named : Bool) (k : Keyword) (i : ℕ) → Alike (statement_with f s named k i) (statement_with f' s named k i)
    unfolding statement_with
    with-alike named (key.Value m) i = one_value_lem m i
    with-alike named key.Equ i = equate-alike named i
    with-alike named key.End i = alike_self (found st.End i)
    with-alike named (key.Arithmetic op) i = arithmetic-alike op i
    with-alike named key.Mov i = alike_self (move s i)
    with-alike named key.Swap i = alike_self (exchange s i)
    with-alike named (key.Unary op) i = alike_self (unary s op i)
    with-alike named key.Swpb i = alike_self (one_register s true i)
    with-alike named key.Sxt i = alike_self (one_register s false i)
    with-alike named key.SetCc i = alike_self (on_flags s true i)
    with-alike named key.ClrCc i = alike_self (on_flags s false i)
    with-alike named key.Cex i = conditional-alike i
    with-alike named key.Ld i = alike_self (load s i)
    with-alike named key.St i = alike_self (store s i)
    with-alike named (key.MovImm op) i = move-byte op i
    with-alike named key.Ldr i = load-relative i
    with-alike named key.Str i = store-relative i

    statement-alike : (named : Bool) (m : Word) (i : ℕ) → Alike (statement_of f s named m i) (statement_of f' s named m i)
    unfolding statement_of
    statement-alike named Free i = tt
    statement-alike named Reserved i = tt
    statement-alike named (Begins k) i = with-alike named k i

    alike-ended : (start : ℕ) (name : Option ℕ) (x y : Option (Read Statement)) → Alike x y
        → AlikeLines (ended s start name x) (ended s start name y)
    alike-ended start name None None e = tt
    alike-ended start name None (Some y) e = absurd e
    alike-ended start name (Some x) None e = absurd e
    alike-ended start name (Some x) (Some y) e =
        subst (λ (k : ℕ). AlikeLines (ended s start name (Some x)) (ended s start name (found y.value k))) e.0
        (alike-lines-cond (over? s (after blank? s x.next)) (line_with start name x.value) None (line_with start name y.value) None
        (refl, refl, e.1) tt)

    alike-statement : (start : ℕ) (name : Option ℕ) (named : Bool) (i : ℕ)
        → AlikeLines (ended s start name (statement_at f s named i)) (ended s start name (statement_at f' s named i))
    unfolding statement_at
    alike-statement start name named i =
        let m = word_of (word (drop i s)) in
        let k = after name_byte? s i in
        alike-ended start name (statement_of f s named m k) (statement_of f' s named m k) (statement-alike named m k)

    nothing-alike : (start : ℕ) (name : Option ℕ) → AlikeLines (line_with start name st.Nothing) (line_with start name st.Nothing)
    nothing-alike start name = (refl, refl, R.itself st.Nothing)

    alike-after : (q i : ℕ) → AlikeLines (after_name f s q i) (after_name f' s q i)
    unfolding after_name
    alike-after q i = alike-lines-cond (over? s i) _ _ _ _ (nothing-alike q (Some q)) (alike-statement q (Some q) true i)

    alike_from : (q : ℕ) → AlikeLines (line_from f s q) (line_from f' s q)
    unfolding line_from
    alike_from q = alike-lines-cond (over? s q) _ _ _ _ (nothing-alike q None)
        (alike-lines-cond (not (free? (word_of (word (drop q s))))) _ _ _ _ (alike-statement q None false q)
        (alike-lines-cond (letter? (byte_at s q)) _ _ _ _ (alike-after q (after blank? s (after name_byte? s q))) tt))

    pub line-related : AlikeLines (line_of f s) (line_of f' s)
    unfolding line_of
    line-related = alike_from (after blank? s 0)

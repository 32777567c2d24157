-- Laws of the grammar: what is parsed lies ahead, and a loop over parts is a chain. Assumes nothing.
use mathlib.Core.Path.{◌≡◌, refl, sym, ap, ◌∙◌, subst}
use mathlib.Core.Bool.{Bool, true, false, cond}
use Rattle.std.specs.Prelude.{ℤ, Option, None, Result, Err}
use Rattle.asm_text.specs.declared.Read.{Read}
use mathlib.Core.List.{List, [], ◌∷◌}
use Prim.Native.Nat.{ℕ, zero, suc, ◌+◌, ◌-◌, ◌<◌, ◌≤◌, min}
use native.Mathlib.Numerals.{sub-one}
use native.Mathlib.Omega.{arith}
use lib.Dec.{ltb, eqb}
use lib.ListN.{length, drop, length-drop}
use borrow.Author.Tests.{le-ltb, ltb-true, ltb-false, eq-eqb, ne_eqb, eqb-true}
use Rattle.word.proofs.Laws.{bool_cases}
use Rattle.asm_value.specs.declared.Lack.{Lack}
use Rattle.asm_value.specs.declared.Lack.TheVariants.{Outside}
use Rattle.asm_value.specs.Value.{fitted, with_sign, joined}
use Rattle.asm_text.proofs.Laws.{found-same, byte-in, kind-in, after_more, after_stop, after-le, name-zero, no_digit}
use Rattle.asm_text.specs.Text.{byte_at, blank?, letter?, name_byte?, digit?, span, after, numeral, word, found}
use Rattle.asm_words.specs.Words.{word_of, free?}
use Rattle.asm_expr.specs.Grammar.{Expr, binary, Parse, parsed, malformed, follow, digits_at, name_at, plain_at}
use Rattle.asm_expr.specs.Grammar.{closed, plus?, times?, chain, parts_of, factor_with, factor_of, term_of, expression_of}
use Rattle.asm_expr.specs.Meaning.{value_of, answer_of, shut}

-- ---- places

-- bytes of a kind end with the source
span-le : (p : ℕ → Bool) (l : List ℕ) → span p l ≤ length l
unfolding span
span-le p [] = omega arith
span-le p (b ∷ l) = bool_cases (p b) (λ q. rw q (let h = span-le p l in omega arith)) (λ q. rw q (omega arith))

pub after-in : (p : ℕ → Bool) (s : List ℕ) (i : ℕ) → i ≤ length s → after p s i ≤ length s
unfolding after
after-in p s i h = omega (arith, span-le p (drop i s), length-drop i s)

pub after-ahead : (p : ℕ → Bool) → p 0 ≡ false → (s : List ℕ) (i : ℕ) → p (byte_at s i) ≡ true
    → (i < after p s i) × (after p s i ≤ length s)
after-ahead p z s i h =
    let k = kind-in p z s i h in
    (omega (arith, after-le p s (i + 1), after_more p z s i h), after-in p s i (omega arith))

-- ---- what is parsed lies ahead
abbrev pub Reach : List ℕ → ℕ → Parse → Type 0
Reach s i malformed = Unit
Reach s i (parsed e j) = (i < j) × (j ≤ length s)

pub reach-cond : (s : List ℕ) (i : ℕ) (b : Bool) (x y : Parse) → (b ≡ true → Reach s i x) → (b ≡ false → Reach s i y)
    → Reach s i (cond b x y)
reach-cond s i true x y f g = f refl
reach-cond s i false x y f g = g refl

pub reach-later : (s : List ℕ) (i j : ℕ) (x : Parse) → i ≤ j → Reach s j x → Reach s i x
reach-later s i j malformed h r = tt
reach-later s i j (parsed e k) h r = (omega (arith, r.0), r.1)

pub reach-follow : (s : List ℕ) (i : ℕ) (x : Parse) (g : Expr → ℕ → Parse) → Reach s i x
    → ((e : Expr) (j : ℕ) → i < j → j ≤ length s → Reach s i (g e j)) → Reach s i (follow x g)
reach-follow s i malformed g r f = tt
reach-follow s i (parsed e j) g r f = f e j r.0 r.1

reach-digits : (m : Bool) (base : ℕ) → base ≤ 16 → (s : List ℕ) (i : ℕ) → Reach s i (digits_at m base s i)
unfolding digits_at
reach-digits m base h s i = reach-cond s i (digit? base (byte_at s i)) _ _ (λ q. after-ahead (digit? base) (no_digit base h) s i q)
    (λ q. tt)

-- a letter is a byte of a name
letter-name : (b : ℕ) → letter? b ≡ true → name_byte? b ≡ true
unfolding letter? name_byte?
letter-name b h = rw h

reach-name : (s : List ℕ) (i : ℕ) → letter? (byte_at s i) ≡ true → Reach s i (name_at s i)
unfolding name_at
reach-name s i h = reach-cond s i (free? (word_of (word (drop i s)))) _ _
    (λ q. after-ahead name_byte? name-zero s i (letter-name (byte_at s i) h)) (λ q. tt)

reach-plain : (s : List ℕ) (i : ℕ) → Reach s i (plain_at s i)
unfolding plain_at
reach-plain s i = reach-cond s i (letter? (byte_at s i)) _ _ (reach-name s i)
    (λ q. reach-cond s i (eqb (byte_at s i) 35) _ _
    (λ q. reach-cond s i (eqb (byte_at s (i + 1)) 45) _ _
    (λ q. reach-later s i (i + 2) (digits_at true 10 s (i + 2)) (omega arith) (reach-digits true 10 (omega arith) s (i + 2)))
    (λ q. reach-later s i (i + 1) (digits_at false 10 s (i + 1)) (omega arith) (reach-digits false 10 (omega arith) s (i + 1))))
    (λ q. reach-cond s i (eqb (byte_at s i) 36) _ _
    (λ q. reach-later s i (i + 1) (digits_at false 16 s (i + 1)) (omega arith) (reach-digits false 16 (omega arith) s (i + 1))) (λ q. tt)))

-- a byte that is b, not 0, lies in the source
pub byte-is-in : (s : List ℕ) (i b : ℕ) → byte_at s i ≡ suc b → i < length s
byte-is-in s i b e = byte-in s i (omega (arith, e))

reach-closed : (s : List ℕ) (e : Expr) (i : ℕ) → Reach s i (closed s e i)
unfolding closed
reach-closed s e i = reach-cond s i (eqb (byte_at s (after blank? s i)) 41) _ _
    (λ q. let h = byte-is-in s (after blank? s i) 40 (eqb-true (byte_at s (after blank? s i)) 41 q) in
    (omega (arith, after-le blank? s i), omega arith)) (λ q. tt)

reach-chain : (sign : ℕ → Bool) (part : ℕ → Parse) (s : List ℕ) → ((i : ℕ) → Reach s i (part i))
    → (n : ℕ) (e : Expr) (o i : ℕ) → o < i → i ≤ length s → Reach s o (chain sign part s n e i)
unfolding chain
reach-chain sign part s r zero e o i h k = (h, k)
reach-chain sign part s r (suc n) e o i h k = reach-cond s o (sign (byte_at s (after blank? s i))) _ _
    (λ q. reach-follow s o (part (after blank? s i + 1)) _
    (reach-later s o (after blank? s i + 1) (part (after blank? s i + 1)) (omega (arith, after-le blank? s i)) (r (after blank? s i + 1)))
    (λ d j a b. reach-chain sign part s r n (binary (byte_at s (after blank? s i)) e d) o j a b)) (λ q. (h, k))

pub reach-parts : (sign : ℕ → Bool) (part : ℕ → Parse) (s : List ℕ) → ((i : ℕ) → Reach s i (part i)) → (i : ℕ)
    → Reach s i (parts_of sign part s i)
unfolding parts_of
reach-parts sign part s r i = reach-follow s i (part i) _ (r i) (λ e j a b. reach-chain sign part s r (length s) e i j a b)

reach-with : (inner : ℕ → Parse) (s : List ℕ) → ((i : ℕ) → Reach s i (inner i)) → (i : ℕ) → Reach s i (factor_with inner s i)
unfolding factor_with
reach-with inner s r i = reach-cond s i (eqb (byte_at s (after blank? s i)) 40) _ _
    (λ q. reach-follow s i (inner (after blank? s i + 1)) _
    (reach-later s i (after blank? s i + 1) (inner (after blank? s i + 1)) (omega (arith, after-le blank? s i)) (r (after blank? s i + 1)))
    (λ e j a b. reach-later s i j (closed s e j) (omega arith) (reach-closed s e j)))
    (λ q. reach-later s i (after blank? s i) (plain_at s (after blank? s i)) (after-le blank? s i) (reach-plain s (after blank? s i)))

pub reach-factor : (k : ℕ) (s : List ℕ) (i : ℕ) → Reach s i (factor_of k s i)
unfolding factor_of
reach-factor zero s i = reach-with (λ j. malformed) s (λ j. tt) i
reach-factor (suc k) s i = reach-with _ s (reach-parts plus? _ s (reach-parts times? (factor_of k s) s (reach-factor k s))) i

pub reach-term : (k : ℕ) (s : List ℕ) (i : ℕ) → Reach s i (term_of k s i)
unfolding term_of
reach-term k s i = reach-parts times? (factor_of k s) s (reach-factor k s) i

-- ---- a loop over parts
pub plus-zero : plus? 0 ≡ false
unfolding plus?
plus-zero = refl

pub times_zero : times? 0 ≡ false
unfolding times?
times_zero = refl

-- an answer taken apart
pub record Answered (look : List ℕ → Result ℤ Lack) (x : Parse) (v : Result ℤ Lack) (j : ℕ) : Type 0 where
  pub tree : Expr
  pub is : x ≡ parsed tree j
  pub means : value_of look tree ≡ v

pub answered : (look : List ℕ → Result ℤ Lack) (x : Parse) (v : Result ℤ Lack) (j : ℕ) → answer_of look x ≡ found v j → Answered look x v j
unfolding answer_of
answered look malformed v j h = let z : ◌≡◌ {A = ℕ} 0 1 = cc in absurd (omega arith)
answered look (parsed e i) v j h =
    let p = found-same (value_of look e) v i j h in
    record { tree = e; is = ap (parsed e) p.1; means = p.0 }

pub unanswered : (look : List ℕ → Result ℤ Lack) (x : Parse) → answer_of look x ≡ None → x ≡ malformed
unfolding answer_of
unanswered look malformed h = refl
unanswered look (parsed e i) h = let z : ◌≡◌ {A = ℕ} 0 1 = cc in absurd (omega arith)

-- parts up to i came to v, and what is left of the chain gives the answer `goal`
pub record Going (look : List ℕ → Result ℤ Lack) (sign : ℕ → Bool) (part : ℕ → Parse) (s : List ℕ) (v : Result ℤ Lack) (i : ℕ)
    (goal : Option (Read (Result ℤ Lack))) : Type 0
  where
    pub turns : ℕ
    pub tree : Expr
    pub inside : i ≤ length s
    pub enough : length s - i ≤ turns
    pub means : value_of look tree ≡ v
    pub same : answer_of look (chain sign part s turns tree i) ≡ goal

module _ (look : List ℕ → Result ℤ Lack) (sign : ℕ → Bool) (part : ℕ → Parse) (s : List ℕ) where
  pub going-none : (i : ℕ) → answer_of look (part i) ≡ None → None ≡ answer_of look (parts_of sign part s i)
  unfolding parts_of answer_of
  going-none i h = rw (unanswered look (part i) h)

  pub going_start : (i j : ℕ) (v : Result ℤ Lack) → Reach s i (part i) → answer_of look (part i) ≡ found v j
      → Going look sign part s v j (answer_of look (parts_of sign part s i))
  unfolding parts_of
  going_start i j v r h =
      let a = answered look (part i) v j h in
      let b = subst (λ (x : Parse). Reach s i x) a.is r in
      record {
        turns = length s;
        tree = a.tree;
        inside = b.1;
        enough = omega arith;
        means = a.means;
        same = sym
            (ap (λ x. answer_of look (follow x (λ e k. chain sign part s (length s) e k))) a.is);
      }

  pub going-stop : (i : ℕ) (v : Result ℤ Lack) (goal : Option (Read (Result ℤ Lack))) → Going look sign part s v i goal
      → sign (byte_at s (after blank? s i)) ≡ false → found v i ≡ goal
  unfolding chain answer_of
  going-stop i v goal g h = ap (λ w. found w i) (sym g.means) ∙ go g.turns ∙ g.same
    where
      go : (n : ℕ) → found (value_of look g.tree) i ≡ answer_of look (chain sign part s n g.tree i)
      go zero = refl
      go (suc n) = rw h

  -- a sign at q lies in the source
  pub going-sign : sign 0 ≡ false → (q : ℕ) → sign (byte_at s q) ≡ true → q < length s
  going-sign z q h = kind-in sign z s q h

  pub going-fail : sign 0 ≡ false → (i : ℕ) (v : Result ℤ Lack) (goal : Option (Read (Result ℤ Lack))) → Going look sign part s v i goal
      → sign (byte_at s (after blank? s i)) ≡ true → answer_of look (part (after blank? s i + 1)) ≡ None → None ≡ goal
  unfolding chain answer_of
  going-fail z i v goal g h m =
      let k = kind-in sign z s (after blank? s i) h in
      go g.turns (omega (arith, g.enough, after-le blank? s i)) ∙ g.same
    where
      go : (n : ℕ) → 1 ≤ n → None ≡ answer_of look (chain sign part s n g.tree i)
      go zero p = absurd (omega arith)
      go (suc n) p = rw (h, unanswered look (part (after blank? s i + 1)) m)

  pub going_more : sign 0 ≡ false → (i j : ℕ) (v w : Result ℤ Lack) (goal : Option (Read (Result ℤ Lack))) → Going look sign part s v i goal
      → sign (byte_at s (after blank? s i)) ≡ true → Reach s (after blank? s i + 1) (part (after blank? s i + 1))
      → answer_of look (part (after blank? s i + 1)) ≡ found w j
      → Going look sign part s (joined (byte_at s (after blank? s i)) v w) j goal
  unfolding chain value_of
  going_more z i j v w goal g h r m =
      let k = kind-in sign z s (after blank? s i) h in
      go g.turns refl (omega (arith, g.enough, after-le blank? s i)) k
    where
      a : Answered look (part (after blank? s i + 1)) w j
      a = answered look (part (after blank? s i + 1)) w j m

      b : (after blank? s i + 1 < j) × (j ≤ length s)
      b = subst (λ (x : Parse). Reach s (after blank? s i + 1) x) a.is r

      go : (n : ℕ) → n ≡ g.turns → 1 ≤ n → after blank? s i < length s
          → Going look sign part s (joined (byte_at s (after blank? s i)) v w) j goal
      go zero e p k = absurd (omega arith)
      go (suc n) e p k = record {
        turns = n;
        tree = binary (byte_at s (after blank? s i)) g.tree a.tree;
        inside = b.1;
        enough = omega (arith, b.0, after-le blank? s i, g.enough, e);
        means = rw (g.means, a.means);
        same = (rw (h, a.is) at (ap (λ m. answer_of look (chain sign part s m g.tree i)) e)) ∙ g.same;
      }

  -- how far a turn goes
  pub going-ahead : (i q j : ℕ) (w : Result ℤ Lack) → q ≡ after blank? s i → Reach s (q + 1) (part (q + 1)) → answer_of look
      (part (q + 1)) ≡
      found w j → (i < j) × (j ≤ length s)
  going-ahead i q j w e r m =
      let a = answered look (part (q + 1)) w j m in
      let b = subst (λ (x : Parse). Reach s (q + 1) x) a.is r in
      (omega (arith, b.0, after-le blank? s i), b.1)

  -- the same, of a place q and a byte b that the code found
  pub turn-stop : (i q b : ℕ) (v : Result ℤ Lack) (goal : Option (Read (Result ℤ Lack))) → q ≡ after blank? s i → b ≡ byte_at s q
      → Going look sign part s v i goal
      → sign b ≡ false → found v i ≡ goal
  turn-stop i q b v goal e f g h = going-stop i v goal g (ap (λ k. sign (byte_at s k)) (sym e) ∙ ap sign (sym f) ∙ h)

  pub turn-fail : sign 0 ≡ false → (i q b : ℕ) (v : Result ℤ Lack) (goal : Option (Read (Result ℤ Lack))) → q ≡ after blank? s i
      → b ≡ byte_at s q
      → Going look sign part s v i goal
      → sign b ≡ true → answer_of look (part (q + 1)) ≡ None → None ≡ goal
  turn-fail z i q b v goal e f g h m =
      going-fail z i v goal g (ap (λ k. sign (byte_at s k)) (sym e) ∙ ap sign (sym f) ∙ h) (ap (λ k. answer_of look (part (k + 1))) (sym e)
      ∙ m)

  pub turn_more : sign 0 ≡ false → (i q b j : ℕ) (v w : Result ℤ Lack) (goal : Option (Read (Result ℤ Lack))) → q ≡ after blank? s i
      → b ≡ byte_at s q
      → Going look sign part s v i goal
      → sign b ≡ true → Reach s (q + 1) (part (q + 1)) → answer_of look (part (q + 1)) ≡ found w j
      → Going look sign part s (joined b v w) j goal
  turn_more z i q b j v w goal e f g h r m =
      let f' : b ≡ byte_at s (after blank? s i) = f ∙ ap (byte_at s) e in
      subst (λ (x : ℕ). Going look sign part s (joined x v w) j goal) (sym f')
      (going_more z i j v w goal g (ap sign (sym f') ∙ h) (subst (λ (k : ℕ). Reach s (k + 1) (part (k + 1))) e r)
      (ap (λ k. answer_of look (part (k + 1))) (sym e) ∙ m))

-- ---- brackets
pub shut-follow : (look : List ℕ → Result ℤ Lack) (s : List ℕ) (x : Parse)
    → shut s (answer_of look x) ≡ answer_of look (follow x (closed s))
unfolding shut answer_of closed
shut-follow look s malformed = refl
shut-follow look s (parsed e i) = bool_cases (eqb (byte_at s (after blank? s i)) 41) (λ q. rw q) (λ q. rw q)

pub factor-deep : (s : List ℕ) (i : ℕ) → byte_at s (after blank? s i) ≡ 40 → factor_of 0 s i ≡ malformed
unfolding factor_of factor_with
factor-deep s i h = rw (eq-eqb (byte_at s (after blank? s i)) 40 h)

pub factor-bracket : (k : ℕ) (s : List ℕ) (i : ℕ) → (k ≡ 0 → ⊥) → byte_at s (after blank? s i) ≡ 40
    → factor_of k s i ≡ follow (expression_of (k - 1) s (after blank? s i + 1)) (closed s)
unfolding factor_of factor_with expression_of term_of
factor-bracket zero s i d h = absurd (d refl)
factor-bracket (suc k) s i d h = rw (eq-eqb (byte_at s (after blank? s i)) 40 h, sub-one (suc k))

pub factor-plain : (k : ℕ) (s : List ℕ) (i : ℕ) → (byte_at s (after blank? s i) ≡ 40 → ⊥) → factor_of k s i ≡ plain_at s (after blank? s i)
unfolding factor_of factor_with
factor-plain zero s i h = rw (ne_eqb (byte_at s (after blank? s i)) 40 h)
factor-plain (suc k) s i h = rw (ne_eqb (byte_at s (after blank? s i)) 40 h)

-- ---- numbers

-- a number of 2^32 or more is outside 32 bits, whatever it is
pub fitted-cut : (m : Bool) (n : ℕ) → fitted (with_sign m (min n 4294967296)) ≡ fitted (with_sign m n)
unfolding fitted
fitted-cut m n = bool_cases (ltb n 4294967296)
    (λ q. let h : n < 4294967296 = ltb-true n 4294967296 q in
    let e : min n 4294967296 ≡ n = omega arith in ap (λ k. fitted (with_sign m k)) e)
    (λ q. let h : 4294967296 ≤ n = ltb-false n 4294967296 q in
    let e : min n 4294967296 ≡ 4294967296 = omega arith in
    ap (λ k. fitted (with_sign m k)) e ∙ out m 4294967296 (omega arith) ∙ sym (out m n h))
  where
    out : (m : Bool) (n : ℕ) → 4294967296 ≤ n → fitted (with_sign m n) ≡ Err Outside
    out false n h = rw (le-ltb n 2147483648 (omega arith))
    out true zero h = absurd (omega arith)
    out true (suc n) h = rw (le-ltb n 2147483648 (omega arith))

-- a number needs no names
pub digits-any : (look other : List ℕ → Result ℤ Lack) (m : Bool) (base : ℕ) (s : List ℕ) (i : ℕ)
    → answer_of other (digits_at m base s i) ≡ answer_of look (digits_at m base s i)
unfolding answer_of digits_at value_of
digits-any look other m base s i = bool_cases (digit? base (byte_at s i)) (λ q. rw q) (λ q. rw q)

-- ---- what the small functions find, from what their callees ensure
-- digits end where they begin, if there is none
digits-cases : {X : Type 0} (base : ℕ) → base ≤ 16 → (s : List ℕ) (i : ℕ)
    → (digit? base (byte_at s i) ≡ false → after (digit? base) s i ≡ i → X)
    → (digit? base (byte_at s i) ≡ true → i < after (digit? base) s i → X) → X
digits-cases base h s i f g = bool_cases (digit? base (byte_at s i))
    (λ q. g q (after-ahead (digit? base) (no_digit base h) s i q).0) (λ q. f q (after_stop (digit? base) s i q))

pub digits-none : (look : List ℕ → Result ℤ Lack) (m : Bool) (base : ℕ) → base ≤ 16 → (s : List ℕ) (i j : ℕ)
    → j ≡ after (digit? base) s i → j ≡ i → None ≡ answer_of look (digits_at m base s i)
unfolding digits_at answer_of
digits-none look m base h s i j e z = digits-cases base h s i (λ q r. rw q) (λ q r. absurd (omega (arith, r, e, z)))

pub digits-some : (look : List ℕ → Result ℤ Lack) (m : Bool) (base : ℕ) → base ≤ 16 → (s : List ℕ) (i n j : ℕ) (v : Result ℤ Lack)
    → j ≡ after (digit? base) s i → (j ≡ i → ⊥) → n ≡ min (numeral base 0 (drop i s)) 4294967296 → v ≡ fitted (with_sign m n)
    → found v j ≡ answer_of look (digits_at m base s i)
unfolding digits_at answer_of value_of
digits-some look m base h s i n j v ej z en ev = digits-cases base h s i (λ q r. absurd (z (ej ∙ r)))
    (λ q r. rw q (go ∙ ap (found (fitted (with_sign m (numeral base 0 (drop i s))))) ej))
  where
    go : found v j ≡ found (fitted (with_sign m (numeral base 0 (drop i s)))) j
    go = ap (λ w. found w j) (ev ∙ ap (λ k. fitted (with_sign m k)) en ∙ fitted-cut m (numeral base 0 (drop i s)))

module _ (s : List ℕ) (i b : ℕ) (e : b ≡ byte_at s i) where
  pub plain-name : letter? b ≡ true → plain_at s i ≡ name_at s i
  unfolding plain_at
  plain-name h =
      let t : letter? (byte_at s i) ≡ true = rw e at h in
      rw t

  pub plain-minus : (x : ℕ) → letter? b ≡ false → b ≡ 35 → x ≡ byte_at s (i + 1) → x ≡ 45 → plain_at s i ≡ digits_at true 10 s (i + 2)
  unfolding plain_at
  plain-minus x h k f m =
      let t : letter? (byte_at s i) ≡ false = rw e at h in
      rw (t, eq-eqb (byte_at s i) 35 (sym e ∙ k), eq-eqb (byte_at s (i + 1)) 45 (sym f ∙ m))

  pub plain-ten : (x : ℕ) → letter? b ≡ false → b ≡ 35 → x ≡ byte_at s (i + 1) → (x ≡ 45 → ⊥) → plain_at s i ≡ digits_at false 10 s (i + 1)
  unfolding plain_at
  plain-ten x h k f m =
      let t : letter? (byte_at s i) ≡ false = rw e at h in
      rw (t, eq-eqb (byte_at s i) 35 (sym e ∙ k), ne_eqb (byte_at s (i + 1)) 45 (λ z. m (f ∙ z)))

  pub plain-sixteen : letter? b ≡ false → (b ≡ 35 → ⊥) → b ≡ 36 → plain_at s i ≡ digits_at false 16 s (i + 1)
  unfolding plain_at
  plain-sixteen h k m =
      let t : letter? (byte_at s i) ≡ false = rw e at h in
      rw (t, ne_eqb (byte_at s i) 35 (λ z. k (e ∙ z)), eq-eqb (byte_at s i) 36 (sym e ∙ m))

  pub plain-none : letter? b ≡ false → (b ≡ 35 → ⊥) → (b ≡ 36 → ⊥) → plain_at s i ≡ malformed
  unfolding plain_at
  plain-none h k m =
      let t : letter? (byte_at s i) ≡ false = rw e at h in
      rw (t, ne_eqb (byte_at s i) 35 (λ z. k (e ∙ z)), ne_eqb (byte_at s i) 36 (λ z. m (e ∙ z)))

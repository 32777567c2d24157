-- The names of a source without a fault have the places of their statements. Assumes nothing.
use mathlib.Core.Path.{◌≡◌, refl, sym, ap, ◌∙◌, subst}
use mathlib.Core.Bool.{Bool, true, false, cond, ◌||◌, ◌&&◌}
use mathlib.Core.List.{List, [], ◌∷◌, ◌++◌}
use Prim.Native.Nat.{ℕ, ◌+◌}
use native.Mathlib.Omega.{arith}
use lib.Dec.{leb}
use lib.IntN.{ℤ}
use lib.ListN.{length, drop, length-append}
use borrow.Author.Tests.{eq-eqb}
use Rattle.text_lines.specs.Lines.{lines_of}
use Rattle.std.specs.Prelude.{Option, Some, None, Result, Ok, Err}
use Rattle.asm_value.specs.declared.Lack.{Lack}
use Rattle.asm_value.specs.declared.Lack.TheVariants.{Unknown, Outside}
use Rattle.asm_text.specs.Text.{word, same, look_up}
use Rattle.word.proofs.Laws.{bool_cases}
use Rattle.asm_line.specs.declared.Statement.{Statement}
use Rattle.asm_line.specs.declared.Line.{Line}
use Rattle.asm_line.specs.Line.{line_of}
use Rattle.asm_write.specs.declared.Layout.{Layout}
use Rattle.asm_write.specs.declared.Layout.TheVariants.{Bytes, Origin, Equal, Space, Stop}
use Rattle.asm_write.specs.Written.{Next, layout_of, next_of, name_value, org_next, bss_next}
use Rattle.asm_sweeps.specs.declared.Tally.{Tally}
use Rattle.asm_sweeps.specs.Form.{stops?, end?, form_of}
use Rattle.asm_sweeps.specs.Places.{Table, table, note_unknown, placed_at, note_fault, next_on, no_tally}
use Rattle.asm_sweeps.specs.Places.{known?, stored_of, one_more, named_of, maybe_named, line_after, read_above, table_from, table_of}
use Rattle.asm_sweeps.specs.Uses.{uses_of, names_of, place_after, verdict_of}
use Rattle.asm_sweeps.proofs.Laws.{Clean, first-noted}
use Rattle.asm_sweeps.proofs.Names.{note-line}
use Rattle.asm_sweeps.proofs.NoFault.{verdict-clean}
use Rattle.asm_image.specs.Image.{place_on}
use Rattle.asm_labels.specs.Labels.{Given, named_at, given_at, given_from, AllValued, NamesPlaced}
use Rattle.asm_labels.proofs.Alike.{Up, sure, Onto, AlikeLines, line-up}

-- ---- what cannot be
unknown-known : {X : Type 0} (z : ℤ) → Err Unknown ≡ Ok z → X
unknown-known z e = let k : ◌≡◌ {A = ℕ} 0 1 = ap sure e in absurd (omega arith)

true-false : {X : Type 0} → ◌≡◌ {A = Bool} true false → X
true-false e = let k : ◌≡◌ {A = ℕ} 1 0 = ap (λ (b : Bool). cond b 1 0) e in absurd (omega arith)

-- ---- look-ups in a longer table
same_self : (n : List ℕ) → same n n ≡ true
unfolding same
same_self [] = refl
same_self (b ∷ n) = ap (λ (t : Bool). t && same n n) (eq-eqb b b refl) ∙ same_self n

look-more : (ms : List (List ℕ)) (vs : List ℤ) (n m : List ℕ) (y z : ℤ) → look_up ms vs n ≡ Ok z
    → look_up (ms ++ (m ∷ [])) (vs ++ (y ∷ [])) n ≡ Ok z
unfolding look_up
look-more [] vs n m y z e = unknown-known z e
look-more (k ∷ ms) [] n m y z e = unknown-known z e
look-more (k ∷ ms) (w ∷ vs) n m y z e = bool_cases (same k n)
    (λ q. ap (λ (t : Bool). cond t (Ok w) (look_up (ms ++ (m ∷ [])) (vs ++ (y ∷ [])) n)) q
    ∙ sym (ap (λ (t : Bool). cond t (Ok w) (look_up ms vs n)) q) ∙ e)
    (λ q. ap (λ (t : Bool). cond t (Ok w) (look_up (ms ++ (m ∷ [])) (vs ++ (y ∷ [])) n)) q
    ∙ look-more ms vs n m y z (sym (ap (λ (t : Bool). cond t (Ok w) (look_up ms vs n)) q) ∙ e))

look-new : (ms : List (List ℕ)) (vs : List ℤ) (n : List ℕ) (z : ℤ) → length ms ≡ length vs → known? (look_up ms vs n) ≡ false
    → look_up (ms ++ (n ∷ [])) (vs ++ (z ∷ [])) n ≡ Ok z
unfolding look_up
look-new [] [] n z h e = ap (λ (t : Bool). cond t (Ok z) (Err Unknown)) (same_self n)
look-new [] (w ∷ vs) n z h e = absurd (omega (arith, h))
look-new (k ∷ ms) [] n z h e = absurd (omega (arith, h))
look-new (k ∷ ms) (w ∷ vs) n z h e = bool_cases (same k n)
    (λ q. true-false (sym (ap (λ (t : Bool). known? (cond t (Ok w) (look_up ms vs n))) q) ∙ e))
    (λ q. ap (λ (t : Bool). cond t (Ok w) (look_up (ms ++ (n ∷ [])) (vs ++ (z ∷ [])) n)) q
    ∙ look-new ms vs n z (omega (arith, h)) (sym (ap (λ (t : Bool). known? (cond t (Ok w) (look_up ms vs n))) q) ∙ e))

-- the names of a table
abbrev look : Table → List ℕ → Result ℤ Lack
look b = look_up b.names b.values

abbrev Even : Table → Type 0
Even b = length b.names ≡ length b.values

-- ---- one name
module _ (n : List ℕ) (v : Result ℤ Lack) (b : Table) where
  abbrev told : Bool
  told = known? (look b n) || leb 1024 (length b.names)

  abbrev refused : Table
  refused = table b.names b.values (note_unknown b.tally)

  abbrev added : Table
  added = table (b.names ++ (n ∷ [])) (b.values ++ (stored_of v ∷ [])) (one_more (note_fault v b.tally))

  named-is : (t : Bool) → told ≡ t → named_of n v b ≡ cond t refused added
  unfolding named_of
  named-is t e = ap (λ (x : Bool). cond x refused added) e

  -- names stay
  named-up : (m : List ℕ) → Up (look b m) (look (named_of n v b) m)
  named-up m z e = bool_cases told
      (λ q. ap (λ (x : Table). look x m) (named-is true q) ∙ e)
      (λ q. ap (λ (x : Table). look x m) (named-is false q) ∙ look-more b.names b.values m n (stored_of v) z e)

  named-even : Even b → Even (named_of n v b)
  named-even h = bool_cases told
      (λ q. subst Even (sym (named-is true q)) h) (λ q. subst Even (sym (named-is false q))
      (length-append b.names (n ∷ []) ∙ ap (λ (k : ℕ). k + 1) h ∙ sym (length-append b.values (stored_of v ∷ []))))

  note-place : (w : Result ℤ Lack) → (note_fault w b.tally).place ≡ b.tally.place
  note-place (Ok z) = refl
  note-place (Err Unknown) = refl
  note-place (Err Outside) = refl

  named-line : (named_of n v b).tally.line ≡ b.tally.line
  named-line = bool_cases told
      (λ q. ap (λ (x : Table). x.tally.line) (named-is true q))
      (λ q. ap (λ (x : Table). x.tally.line) (named-is false q) ∙ note-line v b.tally)

  named-place : (named_of n v b).tally.place ≡ b.tally.place
  named-place = bool_cases told
      (λ q. ap (λ (x : Table). x.tally.place) (named-is true q))
      (λ q. ap (λ (x : Table). x.tally.place) (named-is false q) ∙ note-place v)

-- a name given without a fault: its value is known, and found then
record Added (n : List ℕ) (v : Result ℤ Lack) (b : Table) : Type 0 where
  value : ℤ
  known : v ≡ Ok value
  found : look (named_of n v b) n ≡ Ok value
  clean : Clean b.tally

either-false : (x y : Bool) → x || y ≡ false → x ≡ false
either-false true y e = true-false e
either-false false y e = refl

note-clean : (t : Tally) (v : Result ℤ Lack) → Clean (note_fault v t) → (z : ℤ) × (v ≡ Ok z) × Clean t
note-clean t (Ok z) c = (z, refl, c)
note-clean t (Err Unknown) c = absurd (first-noted t.unknown t.line c.0)
note-clean t (Err Outside) c = absurd (first-noted t.outside t.line c.1)

named-clean : (n : List ℕ) (v : Result ℤ Lack) (b : Table) → Even b → Clean (named_of n v b).tally → Added n v b
named-clean n v b ev c = bool_cases (told n v b)
    (λ q. absurd (first-noted b.tally.unknown b.tally.line
    (subst (λ (x : Table). Clean x.tally) (named-is n v b true q) c).0))
    (λ q. let k = note-clean b.tally v (subst (λ (x : Table). Clean x.tally) (named-is n v b false q) c) in
    record {
      value = k.0;
      known = k.1;
      found = ap (λ (x : Table). look x n) (named-is n v b false q)
          ∙ ap (λ (w : Result ℤ Lack). look_up (b.names ++ (n ∷ [])) (b.values ++ (stored_of w ∷ [])) n) k.1
          ∙ look-new b.names b.values n k.0 ev (either-false (known? (look b n)) (leb 1024 (length b.names)) q);
      clean = k.2;
    })

-- ---- the place after a statement
placed-clean : (t : Tally) (n : Next) → Clean (placed_at t n) → (p : ℕ) × (n ≡ Ok p) × Clean t
placed-clean t (Ok p) c = (p, refl, c)
placed-clean t (Err Unknown) c = absurd (first-noted t.unknown t.line c.0)
placed-clean t (Err Outside) c = absurd (first-noted t.outside t.line c.1)

abbrev goes : Next → ℕ
goes (Ok p) = 1
goes (Err d) = 0

no_place : {X : Type 0} (n : Next) (p : ℕ) → goes n ≡ 0 → n ≡ Ok p → X
no_place n p z e = let k : ◌≡◌ {A = ℕ} 0 1 = sym z ∙ ap goes e in absurd (omega arith)

org-known : (v : Result ℤ Lack) (p : ℕ) → org_next v ≡ Ok p → (z : ℤ) × (v ≡ Ok z)
org-known (Ok z) p e = (z, refl)
org-known (Err d) p e = no_place (Err d) p refl e

bss-known : (q : ℕ) (v : Result ℤ Lack) (p : ℕ) → bss_next q v ≡ Ok p → (z : ℤ) × (v ≡ Ok z)
bss-known q (Ok z) p e = (z, refl)
bss-known q (Err d) p e = no_place (Err d) p refl e

-- with more names it is the same
onto-next : (q : ℕ) (l k : Layout) (p : ℕ) → Onto l k → next_of q l ≡ Ok p → next_of q k ≡ Ok p
unfolding next_of
onto-next q (Bytes n) (Bytes m) p o e = ap (λ (j : ℕ). next_of q (Bytes j)) (sym o) ∙ e
onto-next q (Origin v) (Origin w) p o e =
    let z = org-known v p e in
    ap org_next (o z.0 z.1) ∙ sym (ap org_next z.1) ∙ e
onto-next q (Equal v) (Equal w) p o e = e
onto-next q (Space v) (Space w) p o e =
    let z = bss-known q v p e in
    ap (bss_next q) (o z.0 z.1) ∙ sym (ap (bss_next q) z.1) ∙ e
onto-next q Stop Stop p o e = e
onto-next q (Bytes n) (Origin w) p o e = absurd o
onto-next q (Bytes n) (Equal w) p o e = absurd o
onto-next q (Bytes n) (Space w) p o e = absurd o
onto-next q (Bytes n) Stop p o e = absurd o
onto-next q (Origin v) (Bytes m) p o e = absurd o
onto-next q (Origin v) (Equal w) p o e = absurd o
onto-next q (Origin v) (Space w) p o e = absurd o
onto-next q (Origin v) Stop p o e = absurd o
onto-next q (Equal v) (Bytes m) p o e = absurd o
onto-next q (Equal v) (Origin w) p o e = absurd o
onto-next q (Equal v) (Space w) p o e = absurd o
onto-next q (Equal v) Stop p o e = absurd o
onto-next q (Space v) (Bytes m) p o e = absurd o
onto-next q (Space v) (Origin w) p o e = absurd o
onto-next q (Space v) (Equal w) p o e = absurd o
onto-next q (Space v) Stop p o e = absurd o
onto-next q Stop (Bytes m) p o e = absurd o
onto-next q Stop (Origin w) p o e = absurd o
onto-next q Stop (Equal w) p o e = absurd o
onto-next q Stop (Space w) p o e = absurd o

onto-name : (q : ℕ) (l k : Layout) → Onto l k → Up (name_value q l) (name_value q k)
unfolding name_value
onto-name q (Bytes n) (Bytes m) o z e = e
onto-name q (Origin v) (Origin w) o z e = e
onto-name q (Equal v) (Equal w) o z e = o z e
onto-name q (Space v) (Space w) o z e = e
onto-name q Stop Stop o z e = e
onto-name q (Bytes n) (Origin w) o z e = absurd o
onto-name q (Bytes n) (Equal w) o z e = absurd o
onto-name q (Bytes n) (Space w) o z e = absurd o
onto-name q (Bytes n) Stop o z e = absurd o
onto-name q (Origin v) (Bytes m) o z e = absurd o
onto-name q (Origin v) (Equal w) o z e = absurd o
onto-name q (Origin v) (Space w) o z e = absurd o
onto-name q (Origin v) Stop o z e = absurd o
onto-name q (Equal v) (Bytes m) o z e = absurd o
onto-name q (Equal v) (Origin w) o z e = absurd o
onto-name q (Equal v) (Space w) o z e = absurd o
onto-name q (Equal v) Stop o z e = absurd o
onto-name q (Space v) (Bytes m) o z e = absurd o
onto-name q (Space v) (Origin w) o z e = absurd o
onto-name q (Space v) (Equal w) o z e = absurd o
onto-name q (Space v) Stop o z e = absurd o
onto-name q Stop (Bytes m) o z e = absurd o
onto-name q Stop (Origin w) o z e = absurd o
onto-name q Stop (Equal w) o z e = absurd o
onto-name q Stop (Space w) o z e = absurd o

onto-stops : (l k : Layout) → Onto l k → stops? l ≡ stops? k
onto-stops (Bytes n) (Bytes m) o = refl
onto-stops (Origin v) (Origin w) o = refl
onto-stops (Equal v) (Equal w) o = refl
onto-stops (Space v) (Space w) o = refl
onto-stops Stop Stop o = refl
onto-stops (Bytes n) (Origin w) o = absurd o
onto-stops (Bytes n) (Equal w) o = absurd o
onto-stops (Bytes n) (Space w) o = absurd o
onto-stops (Bytes n) Stop o = absurd o
onto-stops (Origin v) (Bytes m) o = absurd o
onto-stops (Origin v) (Equal w) o = absurd o
onto-stops (Origin v) (Space w) o = absurd o
onto-stops (Origin v) Stop o = absurd o
onto-stops (Equal v) (Bytes m) o = absurd o
onto-stops (Equal v) (Origin w) o = absurd o
onto-stops (Equal v) (Space w) o = absurd o
onto-stops (Equal v) Stop o = absurd o
onto-stops (Space v) (Bytes m) o = absurd o
onto-stops (Space v) (Origin w) o = absurd o
onto-stops (Space v) (Equal w) o = absurd o
onto-stops (Space v) Stop o = absurd o
onto-stops Stop (Bytes m) o = absurd o
onto-stops Stop (Origin w) o = absurd o
onto-stops Stop (Equal w) o = absurd o
onto-stops Stop (Space w) o = absurd o

-- ---- a line
abbrev on : Statement → Table → Table
on x b = table b.names b.values (placed_at b.tally (next_of b.tally.place (layout_of x)))

abbrev value_on : Statement → Table → Result ℤ Lack
value_on x b = name_value b.tally.place (layout_of x)

-- a line with a name, or none; where it starts does not matter here
abbrev with : Option ℕ → Statement → Line
with name x = record { start = 0; name = name; statement = x }

line-names : (l : List ℕ) (r : Option Line) (b : Table) (m : List ℕ) → Up (look b m) (look (line_after l r b) m)
line-names l None b m z e = e
line-names l (Some y) b m z e = go y.name
  where
    go : (q : Option ℕ) → look (maybe_named l q (value_on y.statement b) (on y.statement b)) m ≡ Ok z
    go None = e
    go (Some q) = named-up (word (drop q l)) (value_on y.statement b) (on y.statement b) m z e

line-even : (l : List ℕ) (r : Option Line) (b : Table) → Even b → Even (line_after l r b)
line-even l None b h = h
line-even l (Some y) b h = go y.name
  where
    go : (q : Option ℕ) → Even (maybe_named l q (value_on y.statement b) (on y.statement b))
    go None = h
    go (Some q) = named-even (word (drop q l)) (value_on y.statement b) (on y.statement b) h

-- a line without a fault
record Sound (l : List ℕ) (name : Option ℕ) (x : Statement) (b : Table) : Type 0 where
  clean : Clean b.tally
  at : ℕ
  next-is : next_of b.tally.place (layout_of x) ≡ Ok at
  place_is : (line_after l (Some (with name x)) b).tally.place ≡ at
  name-is : (q : ℕ) → name ≡ Some q
      → (z : ℤ) × (value_on x b ≡ Ok z) × (look (line_after l (Some (with name x)) b) (word (drop q l)) ≡ Ok z)

abbrev some : Option ℕ → ℕ
some None = 0
some (Some q) = 1

abbrev the : Option ℕ → ℕ
the None = 0
the (Some q) = q

placed-place : (t : Tally) (n : Next) (p : ℕ) → n ≡ Ok p → (placed_at t n).place ≡ p
placed-place t n p e = ap (λ (y : Next). (placed_at t y).place) e

line-sound : (l : List ℕ) (name : Option ℕ) (x : Statement) (b : Table) → Even b
    → Clean (line_after l (Some (with name x)) b).tally → Sound l name x b
line-sound l (Some q) x b ev c =
    let a = named-clean (word (drop q l)) (value_on x b) (on x b) ev c in
    let k = placed-clean b.tally (next_of b.tally.place (layout_of x)) a.clean in
    record {
      clean = k.2;
      at = k.0;
      next-is = k.1;
      place_is = named-place (word (drop q l)) (value_on x b) (on x b)
          ∙ placed-place b.tally (next_of b.tally.place (layout_of x)) k.0 k.1;
      name-is = λ i e. (
        a.value,
        a.known,
        subst (λ (n : ℕ). look (line_after l (Some (with (Some q) x)) b) (word (drop n l)) ≡ Ok a.value) (ap the e) a.found,
      );
    }
line-sound l None x b ev c =
    let k = placed-clean b.tally (next_of b.tally.place (layout_of x)) c in
    record {
      clean = k.2;
      at = k.0;
      next-is = k.1;
      place_is = placed-place b.tally (next_of b.tally.place (layout_of x)) k.0 k.1;
      name-is = λ i e. let z : ◌≡◌ {A = ℕ} 0 1 = ap some e in absurd (omega arith);
    }

line_clean : (l : List ℕ) (r : Option Line) (b : Table) → Even b → Clean (line_after l r b).tally → Clean b.tally
line_clean l None b ev c = c
line_clean l (Some y) b ev c = (line-sound l y.name y.statement b ev c).clean

-- ---- lines
abbrev behind : List (List ℕ) → List ℕ → Option Line → Table → Table
behind ls l r b = table_from ls (next_on (line_after l r b))

table_up : (ls : List (List ℕ)) (b : Table) (m : List ℕ) → Up (look b m) (look (table_from ls b) m)
unfolding table_from
table_up [] b m z e = e
table_up (l ∷ ls) b m z e =
    let r = read_above l b in
    let u = line-names l r b m z e in
    let w = table_up ls (next_on (line_after l r b)) m z u in
    bool_cases (end? r)
    (λ q. ap (λ (t : Bool). look (cond t (line_after l r b) (behind ls l r b)) m) q ∙ u)
    (λ q. ap (λ (t : Bool). look (cond t (line_after l r b) (behind ls l r b)) m) q ∙ w)

table-clean : (ls : List (List ℕ)) (b : Table) → Even b → Clean (table_from ls b).tally → Clean b.tally
unfolding table_from
table-clean [] b ev c = c
table-clean (l ∷ ls) b ev c =
    let r = read_above l b in
    let again = table-clean ls (next_on (line_after l r b)) (line-even l r b ev) in
    bool_cases (end? r)
    (λ q. line_clean l r b ev (subst (λ (t : Bool). Clean (cond t (line_after l r b) (behind ls l r b)).tally) q c))
    (λ q. line_clean l r b ev (again (subst (λ (t : Bool). Clean (cond t (line_after l r b) (behind ls l r b)).tally) q c)))

-- ---- the names of the lines
valued-append : (f : List ℕ → Result ℤ Lack) (xs ys : List Given) → AllValued f xs → AllValued f ys → AllValued f (xs ++ ys)
valued-append f [] ys a d = d
valued-append f (x ∷ xs) ys a d = (a.0, valued-append f xs ys a.1 d)

-- f knows what the table after the line does; y is the statement as f has it
name-valued : (f : List ℕ → Result ℤ Lack) (l : List ℕ) (name : Option ℕ) (x y : Statement) (b : Table) (p : ℕ)
    → b.tally.place ≡ p → Onto (layout_of x) (layout_of y) → Sound l name x b
    → ((n : List ℕ) → Up (look (line_after l (Some (with name x)) b) n) (f n)) → AllValued f (named_at p l name y)
name-valued f l (Some q) x y b p hp o s up =
    let k = s.name-is q refl in
    let e : name_value p (layout_of x) ≡ Ok k.0 = ap (λ (j : ℕ). name_value j (layout_of x)) (sym hp) ∙ k.1 in
    (up (word (drop q l)) k.0 k.2 ∙ sym (onto-name p (layout_of x) (layout_of y) o k.0 e), tt)
name-valued f l None x y b p hp o s up = tt

module _ (f : List ℕ → Result ℤ Lack) (l : List ℕ) (ls : List (List ℕ)) (b : Table) (p : ℕ) (ev : Even b)
    (hp : b.tally.place ≡ p)
    (again : (t : Table) (q : ℕ) → Even t → t.tally.place ≡ q → Clean (table_from ls t).tally
    → ((n : List ℕ) → Up (look (table_from ls t) n) (f n)) → AllValued f (given_from f ls q)) where
  abbrev table_after : Option Line → Table
  table_after r = cond (end? r) (line_after l r b) (behind ls l r b)

  abbrev names : Option Line → List Given
  names r = given_at p l r ++ cond (end? r) [] (given_from f ls (place_on p r))

  place_after_lem : (n : Option ℕ) (x y : Statement) → Onto (layout_of x) (layout_of y) → (s : Sound l n x b)
      → (line_after l (Some (with n x)) b).tally.place ≡ place_on p (Some (with n y))
  unfolding place_after
  place_after_lem n x y o s =
      let e : next_of p (layout_of x) ≡ Ok s.at = ap (λ (k : ℕ). next_of k (layout_of x)) (sym hp) ∙ s.next-is in
      s.place_is ∙ sym (ap (place_after p) (onto-next p (layout_of x) (layout_of y) s.at o e))

  both : (n : Option ℕ) (x y : Statement) → Onto (layout_of x) (layout_of y) → Clean (table_after (Some (with n x))).tally
      → ((m : List ℕ) → Up (look (table_after (Some (with n x))) m) (f m)) → AllValued f (names (Some (with n y)))
  both n x y o c up =
      let r = Some (with n x) in
      let a = line_after l r b in
      let t = behind ls l r b in
      let rest = given_from f ls (place_on p (Some (with n y))) in
      let stop = onto-stops (layout_of x) (layout_of y) o in
      bool_cases (stops? (layout_of x))
      (λ q.
      let c1 : Clean a.tally = subst (λ (d : Bool). Clean (cond d a t).tally) q c in
      let u1 : (m : List ℕ) → Up (look a m) (f m) = subst (λ (d : Bool). (m : List ℕ) → Up (look (cond d a t) m) (f m)) q up in
      subst (λ (d : Bool). AllValued f (named_at p l n y ++ cond d [] rest)) (sym (sym stop ∙ q))
      (valued-append f (named_at p l n y) []
      (name-valued f l n x y b p hp o (line-sound l n x b ev c1) u1) tt)) (λ q.
      let c1 : Clean t.tally = subst (λ (d : Bool). Clean (cond d a t).tally) q c in
      let u1 : (m : List ℕ) → Up (look t m) (f m) = subst (λ (d : Bool). (m : List ℕ) → Up (look (cond d a t) m) (f m)) q up in
      let ca : Clean a.tally = table-clean ls (next_on a) (line-even l r b ev) c1 in
      let s = line-sound l n x b ev ca in
      let ua : (m : List ℕ) → Up (look a m) (f m) = λ m z e. u1 m z (table_up ls (next_on a) m z e) in
      subst (λ (d : Bool). AllValued f (named_at p l n y ++ cond d [] rest)) (sym (sym stop ∙ q))
      (valued-append f (named_at p l n y) rest
      (name-valued f l n x y b p hp o s ua)
      (again (next_on a) (place_on p (Some (with n y))) (line-even l r b ev) (place_after_lem n x y o s) c1 u1)))

  step : (r s : Option Line) → AlikeLines r s → Clean (table_after r).tally → ((n : List ℕ) → Up (look (table_after r) n) (f n))
      → AllValued f (names s)
  step None None a c up = again (next_on b) p ev hp c up
  step None (Some y) a c up = absurd a
  step (Some x) None a c up = absurd a
  step (Some x) (Some y) a c up =
      subst (λ (t : Option ℕ). AllValued f (names (Some (with t y.statement)))) a.1 (both x.name x.statement y.statement a.2 c up)

all-valued : (f : List ℕ → Result ℤ Lack) (ls : List (List ℕ)) (b : Table) (p : ℕ) → Even b → b.tally.place ≡ p
    → Clean (table_from ls b).tally → ((n : List ℕ) → Up (look (table_from ls b) n) (f n)) → AllValued f (given_from f ls p)
unfolding table_from given_from
all-valued f [] b p ev hp c up = tt
all-valued f (l ∷ ls) b p ev hp c up =
    let known : (n : List ℕ) → Up (look b n) (f n) = λ n z e. up n z (table_up (l ∷ ls) b n z e) in
    step f l ls b p ev hp (all-valued f ls) (read_above l b) (line_of f l) (line-up (look b) f known l) c up

-- ---- the names of a source without a fault

pub names-placed : NamesPlaced
unfolding verdict_of
names-placed s e =
    all-valued (names_of s) (lines_of s) (table [] [] no_tally) 0 refl refl
    (verdict-clean (form_of s) (table_of s).tally (uses_of (names_of s) s) e).1 (λ n z h. h)

-- The listing tells what the assembler does: both go line by line through the same lines with the same names, so their statements,
-- places and sizes agree line by line; a statement without bytes leaves the image as it is. Assumes nothing.
use mathlib.Core.Path.{◌≡◌, refl, sym, ap, ◌∙◌, subst}
use mathlib.Core.Bool.{Bool, true, false, cond}
use mathlib.Core.List.{List, [], ◌∷◌, ◌++◌}
use Prim.Native.Nat.{ℕ, ◌+◌, ◌*◌, ◌/◌, ◌%◌, ◌<◌}
use native.Mathlib.Omega.{arith}
use lib.Dec.{eqb, ltb}
use lib.IntN.{ℤ, pos}
use lib.ListN.{length, drop}
use lib.Seq.{sets, sets-eq}
use borrow.Author.Tests.{eqb-true, eqb-false}
use Rattle.word.proofs.Laws.{bool_cases}
use Rattle.text_lines.specs.Lines.{lines_of}
use Rattle.std.specs.Prelude.{Option, Some, None, Result, Ok, Err, is_ok}
use Rattle.asm_value.specs.declared.Lack.{Lack}
use Rattle.asm_value.specs.declared.Lack.TheVariants.{Unknown, Outside}
use Rattle.asm_text.specs.Text.{same, look_up}
use Rattle.asm_fits.specs.Fits.{Fit}
use Rattle.asm_line.specs.declared.Statement.{Statement}
use Rattle.asm_line.specs.declared.Statement.TheVariants.{Nothing, Org, Equ, Bss, Byte, Word, End, Fixed, Bl, Branch}
use Rattle.asm_line.specs.declared.Statement.TheVariants.{Constant, SetPri, Svc, Cex, MovImm, Ldr, Str}
use Rattle.asm_line.specs.declared.Line.{Line}
use Rattle.asm_line.specs.Line.{line_of}
use Rattle.asm_write.specs.declared.Layout.{Layout}
use Rattle.asm_write.specs.declared.Layout.TheVariants.{Bytes, Origin, Equal, Space, Stop}
use Rattle.asm_write.specs.Written.{layout_of, size_of, used_of, bytes_for, bytes_with, bytes_of, place_value, name_value}
use Rattle.asm_sweeps.specs.Form.{no_names, faulty?, end?, form_from, form_of}
use Rattle.asm_sweeps.specs.Places.{table_of}
use Rattle.asm_sweeps.specs.Uses.{names_of, uses_of, verdict_of}
use Rattle.asm_sweeps.specs.declared.Refusal.{Refusal}
use Rattle.asm_sweeps.proofs.NoFault.{verdict-clean}
use Rattle.asm_sweeps.proofs.Alike.{form-alike}
use Rattle.asm_image.specs.Image.{Placed, placing, statements_at, place_on, placed_from, image_of}
use Rattle.asm_image.proofs.Laws.{used-room}
use Rattle.asm_call.specs.Call.{assemble_reply, assemble_call_of}
use Rattle.asm_call.proofs.Laws.{verdict-whole}
use Rattle.asm_places.specs.Call.{Recorded, recorded, places_verdict, places_reply, places_call_of}
use Rattle.asm_theorems.specs.Theorems.{Accepted}
use Rattle.asm_theorems.proofs.Accepted.{Good, AllGood, accepted-memory, accepted-whole}
use Rattle.asm_labels.specs.Labels.{Given, named_at, given_at, given_from, given_of, AllValued}
use Rattle.asm_labels.proofs.Labels.{names-placed}
use Rattle.asm_places.specs.Listing.{
  Listed,
  listed_at,
  listed_from,
  listed_of,
  bits_of,
  value_bits,
  number_at,
  eight_of,
  record_of,
  records_of,
}
use Rattle.asm_places.proofs.Laws.{length-records, one-listed, true-false, places-refused, places-accepted}
use Rattle.asm_places_laws.specs.Theorems.{placed_all, SameStatements, up_to_end, RecordEach, number_in, size_in, written, WritesTold}
use Rattle.asm_places_laws.specs.Theorems.{AllSized, SizesTold, SameRefusal, RecordsThenKept, AllNumbered, NamesTold}
use Rattle.asm_places_laws.specs.Theorems.{named_in, named_all, given_all, SameNames}

-- ---- the same statements

placed-append : (xs ys : List Listed) → placed_all (xs ++ ys) ≡ placed_all xs ++ placed_all ys
placed-append [] ys = refl
placed-append (x ∷ xs) ys = ap (λ (l : List Placed). placing x.place x.statement ∷ l) (placed-append xs ys)

placed_one : (p : ℕ) (r : Option Line) → placed_all (listed_at p r) ≡ statements_at p r
placed_one p None = refl
placed_one p (Some y) = refl

placed-cond : (b : Bool) (xs : List Listed) → placed_all (cond b [] xs) ≡ cond b [] (placed_all xs)
placed-cond true xs = refl
placed-cond false xs = refl

same_from : (look : List ℕ → Result ℤ Lack) (ls : List (List ℕ)) (p : ℕ) → placed_all (listed_from look ls p) ≡ placed_from look ls p
unfolding listed_from placed_from
same_from look [] p = refl
same_from look (l ∷ ls) p =
    let r = line_of look l in
    let rest = listed_from look ls (place_on p r) in
    placed-append (listed_at p r) (cond (end? r) [] rest)
    ∙ ap (λ (xs : List Placed). xs ++ placed_all (cond (end? r) [] rest)) (placed_one p r)
    ∙ ap (λ (xs : List Placed). statements_at p r ++ xs) (placed-cond (end? r) rest)
    ∙ ap (λ (xs : List Placed). statements_at p r ++ cond (end? r) [] xs) (same_from look ls (place_on p r))

pub same-statements : SameStatements
same-statements look s = same_from look (lines_of s) 0

-- ---- the number of records

form-right : (s : List ℕ) → verdict_of s ≡ Ok tt → form_of s ≡ None
unfolding verdict_of
form-right s e = (verdict-clean (form_of s) (table_of s).tally (uses_of (names_of s) s) e).0

-- 1 for a line at fault
abbrev faults : Option ℕ → ℕ
faults None = 0
faults (Some n) = 1

each_from : (look : List ℕ → Result ℤ Lack) (ls : List (List ℕ)) (k p : ℕ) → form_from k ls ≡ None
    → length (listed_from look ls p) ≡ length (up_to_end ls)
unfolding form_from listed_from up_to_end
each_from look [] k p e = refl
each_from look (l ∷ ls) k p e =
    let n = line_of no_names l in
    let r = line_of look l in
    let f = form-alike no_names look l in
    let more = listed_from look ls (place_on p r) in
    let on = up_to_end ls in
    bool_cases (faulty? n)
    (λ q.
    let z : 1 ≡ 0 = ap faults (ap (λ (b : Bool). cond b (Some k) (cond (end? n) None (form_from (k + 1) ls))) (sym q) ∙ e) in
    absurd (omega (arith, z)))
    (λ q.
    let w : cond (end? n) None (form_from (k + 1) ls) ≡ None =
    ap (λ (b : Bool). cond b (Some k) (cond (end? n) None (form_from (k + 1) ls))) (sym q) ∙ e in
    let fits : faulty? r ≡ false = sym f.0 ∙ q in
    bool_cases (end? n)
    (λ s.
    let d = ap (λ (b : Bool). length (listed_at p r ++ cond b [] more)) (sym f.1 ∙ s) in
    let a = ap (λ (b : Bool). length (l ∷ cond b [] on)) s in
    let g = one-listed r p [] fits in
    omega (arith, a, d, g))
    (λ s.
    let d = ap (λ (b : Bool). length (listed_at p r ++ cond b [] more)) (sym f.1 ∙ s) in
    let a = ap (λ (b : Bool). length (l ∷ cond b [] on)) s in
    let g = one-listed r p more fits in
    let i = each_from look ls (k + 1) (place_on p r) (ap (λ (b : Bool). cond b None (form_from (k + 1) ls)) (sym s) ∙ w) in
    omega (arith, a, d, g, i)))

pub record-each : RecordEach
record-each s e =
    let n = each_from (names_of s) (lines_of s) 1 0 (form-right s e) in
    (n, length-records (listed_of s) ∙ ap (λ (x : ℕ). 8 * x) n)

-- ---- records with bytes

pub size-told : (x : Listed) → size_in (record_of x) ≡ size_of (layout_of x.statement)
unfolding eight_of
size-told x = refl

four-of : (p : ℕ) → p < 65536
    → p % 256 + 256 * (p / 256 % 256) + 65536 * (p / 65536 % 256) + 16777216 * (p / 16777216 % 256) ≡ p
four-of p h =
    let a : p / 65536 ≡ 0 = omega arith in
    let b : p / 16777216 ≡ 0 = omega arith in
    let c : p / 256 < 256 = omega arith in
    let d : p / 256 % 256 ≡ p / 256 = omega arith in
    omega (arith, a, b, d)

-- what has bytes has the place for its number
number-of : (p : ℕ) (l : Layout) → (size_of l ≡ 0 → ⊥) → number_at p l ≡ p
number-of p (Bytes n) h = refl
number-of p (Origin x) h = refl
number-of p (Equal x) h = absurd (h refl)
number-of p (Space x) h = refl
number-of p Stop h = refl

place-told : (x : Listed) → Good (placing x.place x.statement) → (size_of (layout_of x.statement) ≡ 0 → ⊥)
    → number_in (record_of x) ≡ x.place
unfolding eight_of
place-told x g h =
    let l = layout_of x.statement in
    let r = used-room x.place x.statement l (size_of l) (used_of x.place x.statement) refl refl refl g.1.0 g.1.1 h in
    ap (λ (n : ℕ). n % 256 + 256 * (n / 256 % 256) + 65536 * (n / 65536 % 256) + 16777216 * (n / 16777216 % 256))
    (number-of x.place l h)
    ∙ four-of x.place (omega (arith, r, h))

none-for : (n : ℕ) → bytes_for 0 n ≡ []
unfolding bytes_for
none-for n = refl

none-with : (f : Fit) → bytes_with 0 f ≡ []
none-with (Ok n) = none-for n
none-with (Err d) = refl

image-written : (xs : List Listed) → AllGood (placed_all xs) → (m : List ℕ) → image_of (placed_all xs) m ≡ image_of (written xs) m
unfolding image_of
image-written [] g m = refl
image-written (x ∷ xs) g m =
    let p = x.place in
    let y = x.statement in
    let s = size_of (layout_of y) in
    let rest = written xs in
    let next = sets m p (bytes_of p y) in
    bool_cases (eqb s 0)
    (λ q.
    let none : bytes_of p y ≡ [] = ap (λ (n : ℕ). bytes_with n (used_of p y)) (eqb-true s 0 q) ∙ none-with (used_of p y) in
    ap (λ (b : List ℕ). image_of (placed_all xs) (sets m p b)) none
    ∙ image-written xs g.1 m
    ∙ sym (ap (λ (b : Bool). image_of (cond b rest (placing (number_in (record_of x)) y ∷ rest)) m)
    (ap (λ (n : ℕ). eqb n 0) (size-told x) ∙ q)))
    (λ q.
    image-written xs g.1 next
    ∙ sym (ap (λ (b : Bool). image_of (cond b rest (placing (number_in (record_of x)) y ∷ rest)) m)
    (ap (λ (n : ℕ). eqb n 0) (size-told x) ∙ q)
    ∙ ap (λ (n : ℕ). image_of rest (sets m n (bytes_of n y))) (place-told x g.0 (eqb-false s 0 q))))

pub good-listed : (m s : List ℕ) → Accepted m s → AllGood (placed_all (listed_of s))
good-listed m s h = subst AllGood (sym (same-statements (names_of s) s)) (accepted-whole m s h).1

pub writes-told : WritesTold
writes-told m s h =
    accepted-memory m s h
    ∙ ap (λ (xs : List Placed). image_of xs m) (sym (same-statements (names_of s) s))
    ∙ image-written (listed_of s) (good-listed m s h) m

-- a statement has no, one or two bytes
size-bytes : (x : Statement) (n : ℕ) → length (bytes_for (size_of (layout_of x)) n) ≡ size_of (layout_of x)
unfolding bytes_for layout_of
size-bytes Nothing n = refl
size-bytes (Org v) n = refl
size-bytes (Equ v) n = refl
size-bytes (Bss v) n = refl
size-bytes (Byte v) n = refl
size-bytes (Word v) n = refl
size-bytes End n = refl
size-bytes (Fixed j) n = refl
size-bytes (Bl v) n = refl
size-bytes (Branch c v) n = refl
size-bytes (Constant op wb v dst) n = refl
size-bytes (SetPri v) n = refl
size-bytes (Svc v) n = refl
size-bytes (Cex c t f) n = refl
size-bytes (MovImm op plain v dst) n = refl
size-bytes (Ldr v wb src dst) n = refl
size-bytes (Str v wb src dst) n = refl

all-sized : (xs : List Listed) → AllGood (placed_all xs) → AllSized xs
all-sized [] g = tt
all-sized (x ∷ xs) g =
    let p = x.place in
    let y = x.statement in (
      ap (λ (f : Fit). length (bytes_with (size_of (layout_of y)) f)) g.0.1.1 ∙ size-bytes y g.0.1.0 ∙ sym (size-told x),
      all-sized xs g.1,
    )

pub sizes-told : SizesTold
sizes-told m s h = all-sized (listed_of s) (good-listed m s h)

-- ---- the call

-- the call's answer, by its verdict
pub call-is : (s b : List ℕ) (v : Result ℕ Refusal) → v ≡ places_verdict s b
    → places_call_of s b ≡ recorded (places_reply v) (cond (is_ok v) (sets b 0 (records_of (listed_of s))) b)
unfolding places_call_of
call-is s b v e =
    sym (ap (λ (x : Result ℕ Refusal). recorded (places_reply x) (cond (is_ok x) (sets b 0 (records_of (listed_of s))) b)) e)

assembled-reply : (m s : List ℕ) (v : Result Unit Refusal) → length m ≡ 65536 → verdict_of s ≡ v
    → (assemble_call_of m s).reply ≡ assemble_reply v
unfolding assemble_call_of
assembled-reply m s v hm e = ap assemble_reply (sym (verdict-whole m s hm) ∙ e)

one-reply : (r : Refusal) → places_reply (Err r) ≡ assemble_reply (Err r)
unfolding places_reply assemble_reply
one-reply r = refl

pub same-refusal : SameRefusal
same-refusal m s b hm h = go (verdict_of s) refl
  where
    go : (v : Result Unit Refusal) → verdict_of s ≡ v
        → ((places_call_of s b).reply ≡ (assemble_call_of m s).reply) × ((places_call_of s b).places ≡ b)
    go (Ok tt) e = absurd (h e)
    go (Err r) e =
        let c = call-is s b (Err r) (places-refused s b r (sym e)) in (
          ap (λ (x : Recorded). x.reply) c ∙ one-reply r ∙ sym (assembled-reply m s (Err r) hm e),
          ap (λ (x : Recorded). x.places) c,
        )

pub records-then-kept : RecordsThenKept
records-then-kept s b h k =
    let n = length (listed_of s) in
    let rs = records_of (listed_of s) in
    let e = call-is s b (Ok n) (places-accepted s b (sym h) k) in
    let z : 0 + length rs ≡ length rs = omega arith in
    ap (λ (x : Recorded). x.places) e ∙ sets-eq rs b 0 (omega (arith, k)) ∙ ap (λ (i : ℕ). rs ++ drop i b) z

-- ---- names

abbrev outside? : Result ℤ Lack → Bool
outside? (Ok z) = false
outside? (Err Unknown) = false
outside? (Err Outside) = true

look-inside : (ns : List (List ℕ)) (vs : List ℤ) (n : List ℕ) → outside? (look_up ns vs n) ≡ false
unfolding look_up
look-inside [] vs n = refl
look-inside (k ∷ ns) [] n = refl
look-inside (k ∷ ns) (w ∷ vs) n = bool_cases (same k n)
    (λ q. ap (λ (b : Bool). outside? (cond b (Ok w) (look_up ns vs n))) q)
    (λ q. ap (λ (b : Bool). outside? (cond b (Ok w) (look_up ns vs n))) q ∙ look-inside ns vs n)

place-bits : (p : ℕ) → outside? (place_value p) ≡ false → p ≡ value_bits (place_value p)
unfolding place_value bits_of
place-bits p h = bool_cases (ltb p 2147483648)
    (λ q. sym (ap (λ (b : Bool). value_bits (cond b (Ok (pos p)) (Err Outside))) q))
    (λ q. true-false (sym (ap (λ (b : Bool). outside? (cond b (Ok (pos p)) (Err Outside))) q) ∙ h))

number-bits : (p : ℕ) (l : Layout) → outside? (name_value p l) ≡ false → number_at p l ≡ value_bits (name_value p l)
unfolding name_value
number-bits p (Bytes n) h = place-bits p h
number-bits p (Origin x) h = place-bits p h
number-bits p (Equal x) h = refl
number-bits p (Space x) h = place-bits p h
number-bits p Stop h = place-bits p h

all-numbered : (s : List ℕ) (ys : List Given) → AllValued (names_of s) ys → AllNumbered (names_of s) ys
all-numbered s [] h = tt
all-numbered s (y ∷ ys) h =
    let e = h.0 in (
      number-bits y.place (layout_of y.statement)
          (ap outside? (sym e) ∙ look-inside (table_of s).names (table_of s).values y.name)
          ∙ ap value_bits (sym e),
      all-numbered s ys h.1,
    )

pub names-told : NamesTold
names-told s h = all-numbered s (given_of s) (names-placed s h)

one-onto : (b : Bool) (y : Placed) (xs ys zs : List Placed) → zs ≡ xs ++ ys → cond b (y ∷ zs) zs ≡ cond b (y ∷ xs) xs ++ ys
one-onto true y xs ys zs e = ap (λ (l : List Placed). y ∷ l) e
one-onto false y xs ys zs e = e

named-append : (xs ys : List Listed) → named_all (xs ++ ys) ≡ named_all xs ++ named_all ys
named-append [] ys = refl
named-append (x ∷ xs) ys =
    one-onto (eqb (named_in (record_of x)) 1) (placing x.place x.statement) (named_all xs) (named_all ys) (named_all (xs ++ ys))
    (named-append xs ys)

given-append : (xs ys : List Given) → given_all (xs ++ ys) ≡ given_all xs ++ given_all ys
given-append [] ys = refl
given-append (y ∷ xs) ys = ap (λ (l : List Placed). placing y.place y.statement ∷ l) (given-append xs ys)

named-one : (p : ℕ) (l : List ℕ) (r : Option Line) → named_all (listed_at p r) ≡ given_all (given_at p l r)
unfolding eight_of
named-one p l None = refl
named-one p l (Some y) = go y.name
  where
    go : (q : Option ℕ)
        → named_all (listed_at p (Some record { start = y.start; name = q; statement = y.statement }))
        ≡ given_all (named_at p l q y.statement)
    go None = refl
    go (Some q) = refl

named-cond : (b : Bool) (xs : List Listed) → named_all (cond b [] xs) ≡ cond b [] (named_all xs)
named-cond true xs = refl
named-cond false xs = refl

given-cond : (b : Bool) (xs : List Given) → given_all (cond b [] xs) ≡ cond b [] (given_all xs)
given-cond true xs = refl
given-cond false xs = refl

names-from : (look : List ℕ → Result ℤ Lack) (ls : List (List ℕ)) (p : ℕ)
    → named_all (listed_from look ls p) ≡ given_all (given_from look ls p)
unfolding listed_from given_from
names-from look [] p = refl
names-from look (l ∷ ls) p =
    let r = line_of look l in
    let rest = listed_from look ls (place_on p r) in
    let more = given_from look ls (place_on p r) in
    named-append (listed_at p r) (cond (end? r) [] rest)
    ∙ ap (λ (xs : List Placed). xs ++ named_all (cond (end? r) [] rest)) (named-one p l r)
    ∙ ap (λ (xs : List Placed). given_all (given_at p l r) ++ xs) (named-cond (end? r) rest)
    ∙ ap (λ (xs : List Placed). given_all (given_at p l r) ++ cond (end? r) [] xs) (names-from look ls (place_on p r))
    ∙ ap (λ (xs : List Placed). given_all (given_at p l r) ++ xs) (sym (given-cond (end? r) more))
    ∙ sym (given-append (given_at p l r) (cond (end? r) [] more))

pub same_names : SameNames
same_names s = names-from (names_of s) (lines_of s) 0

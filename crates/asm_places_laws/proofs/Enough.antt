-- Room that is always enough: a line that is not the last ends in a line feed, and each line has at most one record of eight bytes.
-- And what a line puts into memory is in memory, since no statement of an accepted source is at fault. Assumes nothing.
use mathlib.Core.Path.{◌≡◌, refl, sym, ap, ◌∙◌}
use mathlib.Core.Bool.{cond}
use mathlib.Core.List.{List, [], ◌∷◌}
use Prim.Native.Nat.{ℕ, ◌+◌, ◌*◌, ◌≤◌}
use native.Mathlib.Omega.{arith}
use lib.Dec.{eqb}
use lib.ListN.{length, length-append}
use Rattle.word.proofs.Laws.{bool_cases}
use Rattle.text_lines.specs.Lines.{starts_cr_lf, onto, lines_of}
use Rattle.std.specs.Prelude.{ℤ, Option, Some, None, Result, Ok, Err}
use Rattle.std.specs.Result.{result_err}
use Rattle.asm_value.specs.declared.Lack.{Lack}
use Rattle.asm_line.specs.declared.Line.{Line}
use Rattle.asm_line.specs.Line.{line_of}
use Rattle.asm_write.specs.Written.{layout_of, size_of, used_of}
use Rattle.asm_sweeps.specs.declared.Refusal.{Refusal}
use Rattle.asm_sweeps.specs.Form.{end?}
use Rattle.asm_sweeps.specs.Uses.{names_of, verdict_of}
use Rattle.asm_image.specs.Image.{place_on}
use Rattle.asm_image.proofs.Laws.{used-room}
use Rattle.asm_theorems.proofs.Accepted.{AllGood}
use Rattle.asm_places.specs.Listing.{Listed, listed_at, listed_from, listed_of, records_of}
use Rattle.asm_places.specs.Call.{places_verdict}
use Rattle.asm_places.proofs.Laws.{length-records, places-refused, places-accepted}
use Rattle.asm_places_laws.specs.Theorems.{placed_all, feeds, EnoughRoom, AllInside, BytesInside}
use Rattle.asm_places_laws.proofs.Told.{call-is, size-told, good-listed}

-- ---- lines and records

onto-few : (b : ℕ) (ls : List (List ℕ)) (n : ℕ) → length ls ≤ n + 1 → length (onto b ls) ≤ n + 1
onto-few b [] n h = omega arith
onto-few b (l ∷ ls) n h = h

-- a line for each line feed, and one more where the last line's ending is absent
lines-few : (s : List ℕ) → length (lines_of s) ≤ feeds s + 1
unfolding lines_of feeds
lines-few [] = omega arith
lines-few (b ∷ t) =
    let h = lines-few t in
    bool_cases (eqb b 10)
    (λ q. rw q (omega arith))
    (λ q. rw q
    (bool_cases (starts_cr_lf (b ∷ t))
    (λ r. rw r (omega arith))
    (λ r. let o = onto-few b (lines_of t) (feeds t) h in rw r (omega arith))))

one-few : (p : ℕ) (r : Option Line) → length (listed_at p r) ≤ 1
one-few p None = omega arith
one-few p (Some y) = omega arith

-- each line is listed once at most
listed-few : (look : List ℕ → Result ℤ Lack) (ls : List (List ℕ)) (p : ℕ) → length (listed_from look ls p) ≤ length ls
unfolding listed_from
listed-few look [] p = omega arith
listed-few look (l ∷ ls) p =
    let r = line_of look l in
    let rest = listed_from look ls (place_on p r) in
    let h = listed-few look ls (place_on p r) in
    let o = one-few p r in
    let a = length-append (listed_at p r) (cond (end? r) [] rest) in
    let c : length (cond (end? r) [] rest) ≤ length ls = bool_cases (end? r) (λ q. rw q (omega arith)) (λ q. rw q h) in
    omega (arith, a, c, o)

records-few : (s b : List ℕ) → 8 * feeds s + 8 ≤ length b → length (records_of (listed_of s)) ≤ length b
records-few s b h =
    let r = length-records (listed_of s) in
    let l = listed-few (names_of s) (lines_of s) 0 in
    let f = lines-few s in
    omega (arith, r, l, f, h)

-- ---- the call

-- where the records fit, the refusal is the assembler's
refusal-same : (s b : List ℕ) → length (records_of (listed_of s)) ≤ length b
    → result_err (places_verdict s b) ≡ result_err (verdict_of s)
refusal-same s b h = go (verdict_of s) refl
  where
    go : (v : Result Unit Refusal) → verdict_of s ≡ v → result_err (places_verdict s b) ≡ result_err (verdict_of s)
    go (Ok tt) e = sym (ap (λ (x : Result ℕ Refusal). result_err x) (places-accepted s b (sym e) h))
        ∙ sym (ap (λ (x : Result Unit Refusal). result_err x) e)
    go (Err r) e = sym (ap (λ (x : Result ℕ Refusal). result_err x) (places-refused s b r (sym e)))
        ∙ sym (ap (λ (x : Result Unit Refusal). result_err x) e)

pub enough-room : EnoughRoom
enough-room s b h =
    let fits = records-few s b h in
    record {
      fits = fits;
      refusal = refusal-same s b fits;
      accepted = λ e. call-is s b (Ok (length (listed_of s))) (places-accepted s b (sym e) fits);
    }

-- ---- bytes in memory

all-inside : (xs : List Listed) → AllGood (placed_all xs) → AllInside xs
all-inside [] g = tt
all-inside (x ∷ xs) g =
    let y = x.statement in
    let l = layout_of y in
    let u = g.0.1 in (
      λ h.
          let s = size-told x in
          let r = used-room x.place y l (size_of l) (used_of x.place y) refl refl refl u.0 u.1 (λ z. h (s ∙ z)) in
          omega (arith, r, s),
      all-inside xs g.1,
    )

pub bytes_inside : BytesInside
bytes_inside m s h = all-inside (listed_of s) (good-listed m s h)

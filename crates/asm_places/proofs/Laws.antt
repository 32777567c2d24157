-- Laws of the listing: a line's eight bytes stored one by one are its record, records of lines follow one another as the lines do, the
-- third sweep counts as many lines as are listed, and the call is refused, too short or whole by its tests. Assumes nothing.
use mathlib.Core.Path.{◌≡◌, refl, sym, ap, ◌∙◌}
use mathlib.Core.Bool.{Bool, true, false, cond}
use mathlib.Core.List.{List, [], ◌∷◌, ◌++◌, append-nil, append_assoc}
use Prim.Native.Nat.{ℕ, ◌+◌, ◌*◌, ◌/◌, ◌<◌, ◌≤◌}
use native.Mathlib.Omega.{arith}
use lib.Dec.{ltb}
use lib.IntN.{ℤ}
use lib.ListN.{length, drop, take, length-append}
use lib.Seq.{sets, drop-drop}
use borrow.Rule.Slice.PartMut.{put_mid}
use borrow.Author.Tests.{lt-ltb, le-ltb}
use Rattle.std.specs.Prelude.{Option, Some, None, Result, Ok, Err, is_ok}
use Rattle.std.specs.Result.{result_and}
use Rattle.std.proofs.lemmas.List.Edits.{sets-eq}
use Rattle.stores.proofs.Laws.{sets-append}
use Rattle.word.proofs.Laws.{bool_cases}
use Rattle.text_lines.specs.Lines.{lines_of, LineAt}
use Rattle.text_lines.proofs.Laws.{lines_end}
use Rattle.asm_value.specs.declared.Lack.{Lack}
use Rattle.asm_text.specs.declared.Name.{Name}
use Rattle.asm_text.specs.Text.{look_up_at}
use Rattle.asm_line.specs.declared.Line.{Line}
use Rattle.asm_line.specs.Line.{line_of}
use Rattle.asm_write.specs.Written.{used_of}
use Rattle.asm_sweeps.specs.declared.Tally.{Tally}
use Rattle.asm_sweeps.specs.declared.Fault.TheVariants.{Room}
use Rattle.asm_sweeps.specs.declared.Refusal.{Refusal}
use Rattle.asm_sweeps.specs.Form.{no_names, faulty?, end?, form_from, form_of}
use Rattle.asm_sweeps.specs.Places.{next_line, no_tally, table_of}
use Rattle.asm_sweeps.specs.Uses.{use_after, uses_from, uses_of, names_of, refusal, verdict_of}
use Rattle.asm_sweeps.specs.Held.{table_at, Holds, line_at}
use Rattle.asm_sweeps.proofs.Names.{note-line}
use Rattle.asm_sweeps.proofs.Alike.{form-alike}
use Rattle.asm_image.specs.Image.{place_on}
use Rattle.asm_call.proofs.Laws.{names-are}
use Rattle.asm_places.specs.Listing.{Listed, listed_at, listed_from, listed_with, listed_of, eight_of, record_of, records_of}
use Rattle.asm_places.specs.Call.{places_verdict, places_call_of}

-- ---- eight bytes
pub put-eight : (m : List ℕ) (i n kind size : ℕ) (named : Bool) (k : ℕ) → k ≡ 8 → i + 8 ≤ length m
    → put_mid i k m (eight_of n kind size named) ≡ sets m i (eight_of n kind size named)
unfolding eight_of
put-eight m i n kind size named k e h =
    let bytes = eight_of n kind size named in
    let end : i + 8 ≡ i + length bytes = omega arith in
    ap (λ (j : ℕ). put_mid i j m bytes) e
    ∙ ap (λ (l : List ℕ). take i m ++ (bytes ++ l)) (drop-drop 8 i m)
    ∙ ap (λ (j : ℕ). take i m ++ (bytes ++ drop j m)) end
    ∙ sym (append_assoc (take i m) bytes (drop (i + length bytes) m))
    ∙ sym (sets-eq bytes m i h)

-- ---- records one after the other

pub records-append : (xs ys : List Listed) → records_of (xs ++ ys) ≡ records_of xs ++ records_of ys
unfolding records_of
records-append [] ys = refl
records-append (x ∷ xs) ys =
    ap (λ (l : List ℕ). record_of x ++ l) (records-append xs ys) ∙ sym (append_assoc (record_of x) (records_of xs) (records_of ys))

-- eight bytes a line
pub length-records : (xs : List Listed) → length (records_of xs) ≡ 8 * length xs
unfolding records_of eight_of
length-records [] = refl
length-records (x ∷ xs) = let h = length-records xs in omega (arith, h)

-- ---- the loop

pub list-last : (look : List ℕ → Result ℤ Lack) (t : List ℕ) (at p : ℕ) (b : List ℕ) (i : ℕ) → length t ≤ at
    → b ≡ sets b i (records_of (listed_from look (lines_of (drop at t)) p))
unfolding listed_from records_of
list-last look t at p b i h = sym (ap (λ (ls : List (List ℕ)). sets b i (records_of (listed_from look ls p))) (lines_end t at h))

module _ (look : List ℕ → Result ℤ Lack) (t : List ℕ) (at stop next p : ℕ) (here : LineAt t at stop next) where
  abbrev read : Option Line
  read = line_of look (line_at t at stop)

  abbrev one : List ℕ
  one = records_of (listed_at p read)

  abbrev rest : List Listed
  rest = listed_from look (lines_of (drop next t)) (place_on p read)

  cut : (e : Bool) → end? read ≡ e → records_of (listed_from look (lines_of (drop at t)) p) ≡ one ++ records_of (cond e [] rest)
  unfolding listed_from
  cut e h =
      ap (λ (ls : List (List ℕ)). records_of (listed_from look ls p)) here.split
      ∙ ap (λ (b : Bool). records_of (listed_at p read ++ cond b [] rest)) h
      ∙ records-append (listed_at p read) (cond e [] rest)

  pub list-room : (i m : ℕ) → i + length (records_of (listed_from look (lines_of (drop at t)) p)) ≤ m → i + length one ≤ m
  list-room i m h =
      let e = ap (λ (l : List ℕ). length l) (cut (end? read) refl) in
      let k = length-append one (records_of (cond (end? read) [] rest)) in
      omega (arith, h, e, k)

  cut-end : end? read ≡ true → records_of (listed_from look (lines_of (drop at t)) p) ≡ one
  unfolding records_of
  cut-end h = cut true h ∙ append-nil one

  module _ (b c : List ℕ) (i : ℕ) (ec : c ≡ sets b i one) (e : Bool) (ee : e ≡ end? read) where
    pub list-end : e ≡ true → c ≡ sets b i (records_of (listed_from look (lines_of (drop at t)) p))
    list-end h = ec ∙ sym (ap (sets b i) (cut-end (sym ee ∙ h)))

    module _ (h : e ≡ false) (q : ℕ) (eq : q ≡ place_on p read) (j : ℕ) (ej : j ≡ i + length one) where
      pub list-more : sets c j (records_of (listed_from look (lines_of (drop next t)) q))
          ≡ sets b i (records_of (listed_from look (lines_of (drop at t)) p))
      list-more =
          ap (λ (x : ℕ). sets c j (records_of (listed_from look (lines_of (drop next t)) x))) eq
          ∙ ap (λ (x : List ℕ). sets x j (records_of rest)) ec
          ∙ ap (λ (x : ℕ). sets (sets b i one) x (records_of rest)) ej
          ∙ sym (sets-append b i one (records_of rest))
          ∙ sym (ap (sets b i) (cut false (sym ee ∙ h)))

      pub list_left : (m : ℕ) → i + length (records_of (listed_from look (lines_of (drop at t)) p)) ≤ m
          → j + length (records_of (listed_from look (lines_of (drop next t)) q)) ≤ m
      list_left m k =
          let a = ap (λ (l : List ℕ). length l) (cut false (sym ee ∙ h)) in
          let d = length-append one (records_of rest) in
          let g = ap (λ (x : ℕ). length (records_of (listed_from look (lines_of (drop next t)) x))) eq in
          omega (arith, k, a, d, g, ej)

-- ---- the number of lines

use-line-kept : (r : Option Line) (t : Tally) → (use_after r t).line ≡ t.line
use-line-kept None t = refl
use-line-kept (Some y) t = note-line (used_of t.place y.statement) t

pub true-false : {X : Type 0} → ◌≡◌ {A = Bool} true false → X
true-false e = let k : ◌≡◌ {A = ℕ} 1 0 = ap (λ (b : Bool). cond b 1 0) e in absurd (omega arith)

pub one-listed : (r : Option Line) (p : ℕ) (ys : List Listed) → faulty? r ≡ false → length (listed_at p r ++ ys) ≡ 1 + length ys
one-listed None p ys h = true-false h
one-listed (Some y) p ys h = omega arith

-- 1 for a line at fault
abbrev faults : Option ℕ → ℕ
faults None = 0
faults (Some n) = 1

-- where the form is right, the third sweep ends at END's line: as many lines as are listed
count-from : (look : List ℕ → Result ℤ Lack) (ls : List (List ℕ)) (k p : ℕ) (t : Tally) → form_from k ls ≡ None
    → (uses_from look ls t).line + 1 ≡ t.line + length (listed_from look ls p)
unfolding form_from uses_from listed_from
count-from look [] k p t e = let z : 1 ≡ 0 = ap faults e in absurd (omega (arith, z))
count-from look (l ∷ ls) k p t e =
    let f = form-alike no_names look l in
    let r = line_of look l in
    let after = use_after r t in
    let more = listed_from look ls (place_on p r) in
    let on = uses_from look ls (next_line after) in
    let kept = use-line-kept r t in
    bool_cases (faulty? (line_of no_names l))
    (λ q.
    let z : 1 ≡ 0 = ap faults
    (ap (λ (b : Bool). cond b (Some k) (cond (end? (line_of no_names l)) None (form_from (k + 1) ls))) (sym q) ∙ e) in
    absurd (omega (arith, z)))
    (λ q.
    let w : cond (end? (line_of no_names l)) None (form_from (k + 1) ls) ≡ None =
    ap (λ (b : Bool). cond b (Some k) (cond (end? (line_of no_names l)) None (form_from (k + 1) ls))) (sym q) ∙ e in
    let fits : faulty? r ≡ false = sym f.0 ∙ q in
    bool_cases (end? (line_of no_names l))
    (λ s.
    let a = ap (λ (b : Bool). (cond b after on).line) (sym f.1 ∙ s) in
    let d = ap (λ (b : Bool). length (listed_at p r ++ cond b [] more)) (sym f.1 ∙ s) in
    let g = one-listed r p [] fits in
    omega (arith, a, d, g, kept))
    (λ s.
    let a = ap (λ (b : Bool). (cond b after on).line) (sym f.1 ∙ s) in
    let d = ap (λ (b : Bool). length (listed_at p r ++ cond b [] more)) (sym f.1 ∙ s) in
    let g = one-listed r p more fits in
    let i = count-from look ls (k + 1) (place_on p r) (next_line after)
    (ap (λ (b : Bool). cond b None (form_from (k + 1) ls)) (sym s) ∙ w) in
    omega (arith, a, d, g, kept, i)))

pub count-lines : (look : List ℕ → Result ℤ Lack) (s : List ℕ) → form_of s ≡ None → (u : Tally) → u ≡ uses_of look s
    → u.line ≡ length (listed_with look s)
count-lines look s h u e =
    let c = count-from look (lines_of s) 1 0 no_tally h in
    let d : u.line ≡ (uses_of look s).line = ap (λ (t : Tally). t.line) e in
    omega (arith, c, d)

-- ---- the call

-- refused, or listed where there is room
abbrev roomy : (s b : List ℕ) → Bool → Result ℕ Refusal
roomy s b short = cond short (Err (refusal Room 0)) (Ok (length (listed_of s)))

module _ (s b : List ℕ) where
  verdict-with : (v : Result Unit Refusal) → v ≡ verdict_of s
      → places_verdict s b ≡ result_and v (roomy s b (ltb (length b) (length (records_of (listed_of s)))))
  unfolding places_verdict
  verdict-with v e =
      ap (λ (w : Result Unit Refusal). result_and w (roomy s b (ltb (length b) (length (records_of (listed_of s)))))) (sym e)

  -- refused as the assembler refuses
  pub places-refused : (r : Refusal) → Err r ≡ verdict_of s → Err r ≡ places_verdict s b
  places-refused r e = sym (verdict-with (Err r) e)

  module _ (h : Ok tt ≡ verdict_of s) where
    -- a buffer too short
    pub places-short : length b < length (records_of (listed_of s)) → Err (refusal Room 0) ≡ places_verdict s b
    places-short k = sym (verdict-with (Ok tt) h ∙ ap (roomy s b) (lt-ltb (length b) (length (records_of (listed_of s))) k))

    -- accepted
    pub places-accepted : length (records_of (listed_of s)) ≤ length b → Ok (length (listed_of s)) ≡ places_verdict s b
    places-accepted k = sym (verdict-with (Ok tt) h ∙ ap (roomy s b) (le-ltb (length b) (length (records_of (listed_of s))) k))

  -- the buffer, by the verdict
  module _ (v : Result ℕ Refusal) (e : v ≡ places_verdict s b) where
    buffer-is : (places_call_of s b).places ≡ cond (is_ok v) (sets b 0 (records_of (listed_of s))) b
    unfolding places_call_of
    buffer-is = sym (ap (λ (x : Result ℕ Refusal). cond (is_ok x) (sets b 0 (records_of (listed_of s))) b) e)

    pub buffer-kept : is_ok v ≡ false → b ≡ (places_call_of s b).places
    buffer-kept h = sym (buffer-is ∙ ap (λ (x : Bool). cond x (sets b 0 (records_of (listed_of s))) b) h)

    pub buffer-done : is_ok v ≡ true → sets b 0 (records_of (listed_of s)) ≡ (places_call_of s b).places
    buffer-done h = sym (buffer-is ∙ ap (λ (x : Bool). cond x (sets b 0 (records_of (listed_of s))) b) h)

-- the table that the second sweep left, and the tally that the third did
module _ (s : List ℕ) (ms : List Name) (t : Tally) (h : Holds s ms t) (et : table_at s ms t ≡ table_of s)
    (hf : form_of s ≡ None) (u : Tally) (eu : u ≡ uses_of (look_up_at s (take t.count ms)) s) where
  abbrev held : List ℕ → Result ℤ Lack
  held = look_up_at s (take t.count ms)

  held-is : held ≡ names_of s
  held-is = names-are s ms t h et

  pub found-count : u.line ≡ length (listed_of s)
  found-count = count-lines held s hf u eu ∙ ap (λ (f : List ℕ → Result ℤ Lack). length (listed_with f s)) held-is

  pub found-short : (b : List ℕ) → length b / 8 < u.line → length b < length (records_of (listed_of s))
  found-short b k = let l = length-records (listed_of s) in omega (arith, found-count, l, k)

  pub found-room : (b : List ℕ) → u.line ≤ length b / 8 → length (records_of (listed_of s)) ≤ length b
  found-room b k = let l = length-records (listed_of s) in omega (arith, found-count, l, k)

  pub held-room : (b : List ℕ) → u.line ≤ length b / 8 → length (records_of (listed_with held s)) ≤ length b
  held-room b k =
      let l = length-records (listed_with held s) in
      let n = count-lines held s hf u eu in
      omega (arith, n, l, k)

  pub found-list : (b c : List ℕ) → c ≡ sets b 0 (records_of (listed_with held s)) → c ≡ sets b 0 (records_of (listed_of s))
  found-list b c e = e ∙ ap (λ (f : List ℕ → Result ℤ Lack). sets b 0 (records_of (listed_with f s))) held-is

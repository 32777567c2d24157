-- The text of a span, loaded into any memory, restores the span, sets the PC and touches no other byte.
-- Assumes nothing.
use Prim.Native.Nat.{ℕ, zero, suc, ◌+◌, ◌-◌, ◌*◌, ◌/◌, ◌≤◌, ◌<◌, min}
use mathlib.Core.Path.{◌≡◌, refl, sym, ap, ◌∙◌}
use mathlib.Core.List.{List, [], ◌∷◌, ◌++◌}
use native.Mathlib.Omega.{arith}
use lib.Dec.{ltb}
use lib.ListN.{length, get_or, take, drop, length-drop}
use lib.Seq.{sets, length-sets, length-take-le, take-add, drop-drop, get_or-drop, get_or-take}
use borrow.Author.Tests.{ltb-true, ltb-false}
use Rattle.word.proofs.Laws.{bool_cases}
use Rattle.text_lines.specs.Lines.{lines_of, none}
use Rattle.text_lines.proofs.Laws.{AllPlain, lines-text}
use Rattle.std.specs.Prelude.{Ok}
use Rattle.srec.specs.Load.{verdict_from, verdict_of, stored_of, memory_after, pc_at, pc_after}
use Rattle.srec.specs.Write.{line_of, data_lines, span_lines, span_text}
use Rattle.stores.proofs.Laws.{sets-append, sets_below, sets-above, sets-in}
use Rattle.srec.proofs.Laws.{verdict-end, verdict-more}
use Rattle.srec_trip.specs.Trip.{Bytes, Restored}
use Rattle.srec_trip.proofs.Digits.{bytes_take, bytes_drop}
use Rattle.srec_trip.proofs.Line.{line_plain, line-address, data-clean, end_clean, data-stored}

-- the bytes of a line
abbrev chunk : List ℕ → ℕ → ℕ → List ℕ
chunk m a n = take (min n 16) (drop a m)

-- a span's stores, those of its first line first
span-split : (m m' : List ℕ) (a n : ℕ) → a + n ≤ length m
    → sets (sets m' a (chunk m a n)) (a + 16) (take (n - 16) (drop (a + 16) m)) ≡ sets m' a (take n (drop a m))
span-split m m' a n h =
    bool_cases (ltb 16 n)
    (λ q.
    let k : 16 < n = ltb-true 16 n q in
    let e : min n 16 ≡ 16 = omega arith in
    let f : 16 + (n - 16) ≡ n = omega arith in
    let l : length (take 16 (drop a m)) ≡ 16 = length-take-le 16 (drop a m) (simp length-drop (omega arith)) in
    let t : take n (drop a m) ≡ take 16 (drop a m) ++ take (n - 16) (drop (a + 16) m) =
    ap (λ (x : ℕ). take x (drop a m)) (sym f) ∙ take-add 16 (n - 16) (drop a m)
    ∙ ap (λ (s : List ℕ). take 16 (drop a m) ++ take (n - 16) s) (drop-drop 16 a m) in
    ap (λ (x : ℕ). sets (sets m' a (take x (drop a m))) (a + 16) (take (n - 16) (drop (a + 16) m))) e
    ∙ ap (λ (x : ℕ). sets (sets m' a (take 16 (drop a m))) (a + x) (take (n - 16) (drop (a + 16) m))) (sym l)
    ∙ sym (sets-append m' a (take 16 (drop a m)) (take (n - 16) (drop (a + 16) m)))
    ∙ ap (sets m' a) (sym t))
    (λ q.
    let k : n ≤ 16 = ltb-false 16 n q in
    let e : min n 16 ≡ n = omega arith in
    let f : n - 16 ≡ 0 = omega arith in
    rw (e, f))

module _ (m : List ℕ) (long : length m ≡ 65536) (bytes : Bytes m) where
  -- k lines are as many as n bytes need, and a span that is not empty ends in memory
  abbrev Fit : ℕ → ℕ → ℕ → Type 0
  Fit k a n = (n ≤ 16 * k) × (16 * k < n + 16) × (0 < n → a + n ≤ 65536)

  fit_next : (k a n : ℕ) → Fit (suc k) a n → Fit k (a + 16) (n - 16)
  fit_next k a n h =
      let f : a + n ≤ 65536 = h.2 (omega arith) in
      (omega arith, omega arith, λ (p : 0 < n - 16). omega arith)

  -- the facts of the first of suc k lines
  record First (a n : ℕ) : Type 0 where
    high : a < 65536
    inside : a + n ≤ 65536
    size : length (chunk m a n) ≡ min n 16
    short : length (chunk m a n) ≤ 252
    ends : a + length (chunk m a n) ≤ 65536
    ok : Bytes (chunk m a n)

  first : (k a n : ℕ) → Fit (suc k) a n → First a n
  first k a n h =
      let f : a + n ≤ 65536 = h.2 (omega arith) in
      let l : length (chunk m a n) ≡ min n 16 = length-take-le (min n 16) (drop a m) (simp length-drop (omega arith)) in
      record {
        high = omega arith;
        inside = f;
        size = l;
        short = omega arith;
        ends = omega arith;
        ok = bytes_take (min n 16) (drop a m) (bytes_drop a m bytes);
      }

  plain-data : (k a n : ℕ) (rest : List (List ℕ)) → Fit k a n → AllPlain rest → AllPlain (data_lines k m a n ++ rest)
  unfolding data_lines
  plain-data zero a n rest h r = r
  plain-data (suc k) a n rest h r =
      let f = first k a n h in
      (line_plain 49 a (chunk m a n) f.high f.short f.ok (omega arith), plain-data k (a + 16) (n - 16) rest (fit_next k a n h) r)

  verdict-data : (k a n j : ℕ) (rest : List (List ℕ)) → Fit k a n → verdict_from j (data_lines k m a n ++ rest) ≡ verdict_from (j + k) rest
  unfolding data_lines line_of
  verdict-data zero a n j rest h = ap (λ (x : ℕ). verdict_from x rest) (omega arith)
  verdict-data (suc k) a n j rest h =
      let f = first k a n h in
      let ls = data_lines k m (a + 16) (n - 16) ++ rest in
      verdict-more j (line_of 49 a (chunk m a n)) ls
      (data-clean a (chunk m a n) f.high f.short f.ok f.ends (none ls)) (λ (e : 49 ≡ 57). omega arith)
      ∙ verdict-data k (a + 16) (n - 16) (j + 1) rest (fit_next k a n h)
      ∙ ap (λ (x : ℕ). verdict_from x rest) (omega arith)

  memory-data : (k a n : ℕ) (rest : List (List ℕ)) (m' : List ℕ) → Fit k a n
      → memory_after (data_lines k m a n ++ rest) m' ≡ memory_after rest (sets m' a (take n (drop a m)))
  unfolding data_lines memory_after
  memory-data zero a n rest m' h = let e : n ≡ 0 = omega arith in rw e
  memory-data (suc k) a n rest m' h =
      let f = first k a n h in
      ap (memory_after (data_lines k m (a + 16) (n - 16) ++ rest)) (data-stored a (chunk m a n) m' f.high f.short f.ok)
      ∙ memory-data k (a + 16) (n - 16) rest (sets m' a (chunk m a n)) (fit_next k a n h)
      ∙ ap (memory_after rest) (span-split m m' a n (let g = f.inside in omega arith))

  pc-data : (k a n pc : ℕ) (rest : List (List ℕ)) → pc_after (data_lines k m a n ++ rest) pc ≡ pc_after rest pc
  unfolding data_lines pc_after pc_at line_of
  pc-data zero a n pc rest = refl
  pc-data (suc k) a n pc rest = pc-data k (a + 16) (n - 16) pc rest

  module _ (a n pc : ℕ) (fits : a + n ≤ 65536) (low : pc < 65536) where
    fit : Fit ((n + 15) / 16) a n
    fit = (omega arith, omega arith, λ (p : 0 < n). fits)

    -- the text's lines are those that it was made of
    pub span_lines_lem : lines_of (span_text m a n pc) ≡ span_lines m a n pc
    span_lines_lem =
        lines-text (span_lines m a n pc)
        (plain-data ((n + 15) / 16) a n (line_of 57 pc [] ∷ []) fit (line_plain 57 pc [] low (omega arith) tt (omega arith), tt))

    pub span-accepted : verdict_of (span_text m a n pc) ≡ Ok tt
    unfolding line_of
    span-accepted =
        ap (verdict_from 1) span_lines_lem
        ∙ verdict-data ((n + 15) / 16) a n 1 (line_of 57 pc [] ∷ []) fit
        ∙ sym (verdict-end (1 + (n + 15) / 16) (line_of 57 pc []) [] (end_clean pc low) refl)

    pub span-memory : (m' : List ℕ) → memory_after (lines_of (span_text m a n pc)) m' ≡ sets m' a (take n (drop a m))
    unfolding memory_after stored_of line_of
    span-memory m' =
        ap (λ (ls : List (List ℕ)). memory_after ls m') span_lines_lem
        ∙ memory-data ((n + 15) / 16) a n (line_of 57 pc [] ∷ []) m' fit

    pub span-pc : (pc' : ℕ) → pc_after (lines_of (span_text m a n pc)) pc' ≡ pc
    unfolding pc_after pc_at line_of
    span-pc pc' =
        ap (λ (ls : List (List ℕ)). pc_after ls pc') span_lines_lem
        ∙ pc-data ((n + 15) / 16) a n pc' (line_of 57 pc [] ∷ [])
        ∙ line-address 57 pc [] low (omega arith) tt

    -- byte by byte
    pub span-restored : (m' : List ℕ) → length m' ≡ 65536 → Restored m a n m' (memory_after (lines_of (span_text m a n pc)) m')
    span-restored m' l =
        let size : length (take n (drop a m)) ≡ n = length-take-le n (drop a m) (simp length-drop (omega arith)) in
        rw (span-memory m')
        (record {
          length_kept = length-sets m' a (take n (drop a m));
          span = λ i h k. inside m' l size i h k;
          below = λ i h. sets_below (take n (drop a m)) m' a i h;
          above = λ i h. sets-above (take n (drop a m)) m' a i (rw size h);
        })
      where
        inside : (m' : List ℕ) → length m' ≡ 65536 → length (take n (drop a m)) ≡ n
            → (i : ℕ) → a ≤ i → i < a + n → get_or (sets m' a (take n (drop a m))) i 0 ≡ get_or m i 0
        inside m' l size i h k =
            let e : a + (i - a) ≡ i = omega arith in
            ap (λ (x : ℕ). get_or (sets m' a (take n (drop a m))) x 0) (sym e)
            ∙ sets-in (take n (drop a m)) m' a (i - a) (omega arith) (omega arith)
            ∙ get_or-take n (drop a m) (i - a) 0 (omega arith)
            ∙ get_or-drop a m (i - a) 0
            ∙ ap (λ (x : ℕ). get_or m x 0) e

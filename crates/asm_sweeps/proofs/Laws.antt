-- Laws of the sweeps: lines, one after the other. Assumes nothing.
use mathlib.Core.Path.{◌≡◌, refl, sym, ap, ◌∙◌, fun_ext}
use mathlib.Core.Bool.{Bool, true, false, cond}
use mathlib.Core.List.{List, [], map}
use Prim.Native.Nat.{ℕ, ◌+◌, ◌≤◌}
use native.Mathlib.Omega.{arith}
use lib.IntN.{ℤ}
use lib.ListN.{length, take, drop}
use Rattle.std.specs.Prelude.{Option, Some, None, Result, Ok, Err}
use Rattle.text_lines.specs.Lines.{lines_of, LineAt}
use Rattle.text_lines.proofs.Laws.{lines_end}
use Rattle.asm_value.specs.declared.Lack.{Lack}
use Rattle.asm_value.specs.declared.Lack.TheVariants.{Unknown, Outside}
use Rattle.asm_text.specs.declared.Name.{Name}
use Rattle.asm_text.specs.Text.{look_up_at, word, names_at}
use Rattle.asm_line.specs.declared.Line.{Line}
use Rattle.asm_line.specs.Line.{line_of}
use Rattle.asm_write.specs.declared.Layout.{Layout}
use Rattle.asm_write.specs.Written.{Next, layout_of, next_of, name_value}
use Rattle.asm_sweeps.specs.declared.Tally.{Tally}
use Rattle.asm_sweeps.specs.Form.{no_names, faulty?, stops?, end?, form_from}
use Rattle.asm_sweeps.specs.Places.{Table, table, first_of, placed_at, next_line, next_on, no_tally}
use Rattle.asm_sweeps.specs.Places.{named_of, maybe_named, line_after, read_above, table_from}
use Rattle.asm_sweeps.specs.Uses.{use_after, uses_from}
use Rattle.asm_sweeps.specs.Held.{table_at, Holds, line_at}
use Rattle.asm_sweeps.proofs.Names.{look-held}

-- ---- a tally that notes no fault
abbrev pub Clean : Tally → Type 0
Clean t = (t.unknown ≡ None) × (t.outside ≡ None)

-- 1 for a line
abbrev lines : Option ℕ → ℕ
lines None = 0
lines (Some n) = 1

pub first-noted : (f : Option ℕ) (k : ℕ) → first_of f k ≡ None → ⊥
unfolding first_of
first-noted None k e = let z : 1 ≡ 0 = ap lines e in absurd (omega (arith, z))
first-noted (Some n) k e = let z : 1 ≡ 0 = ap lines e in absurd (omega (arith, z))

-- a list without a name
no_names_lem : (s : List ℕ) → look_up_at s [] ≡ no_names
unfolding look_up_at
no_names_lem s = fun_ext (λ (n : List ℕ). refl)

-- ---- one line at a time
module _ (t : List ℕ) (at stop next : ℕ) (here : LineAt t at stop next) where
  -- the first sweep
  module _ (k : ℕ) where
    pub form-fault : faulty? (line_of no_names (line_at t at stop)) ≡ true → Some k ≡ form_from k (lines_of (drop at t))
    unfolding form_from
    form-fault e =
        sym (ap (form_from k) here.split
        ∙ ap (λ (b : Bool). cond b (Some k)
        (cond (end? (line_of no_names (line_at t at stop))) None (form_from (k + 1) (lines_of (drop next t))))) e)

    pub form-end : faulty? (line_of no_names (line_at t at stop)) ≡ false → end? (line_of no_names (line_at t at stop)) ≡ true
        → None ≡ form_from k (lines_of (drop at t))
    unfolding form_from
    form-end e f =
        sym (ap (form_from k) here.split
        ∙ ap (λ (b : Bool). cond b (Some k)
        (cond (end? (line_of no_names (line_at t at stop))) None (form_from (k + 1) (lines_of (drop next t))))) e
        ∙ ap (λ (b : Bool). cond b None (form_from (k + 1) (lines_of (drop next t)))) f)

    pub form-more : faulty? (line_of no_names (line_at t at stop)) ≡ false → end? (line_of no_names (line_at t at stop)) ≡ false
        → form_from (k + 1) (lines_of (drop next t)) ≡ form_from k (lines_of (drop at t))
    unfolding form_from
    form-more e f =
        sym (ap (form_from k) here.split
        ∙ ap (λ (b : Bool). cond b (Some k)
        (cond (end? (line_of no_names (line_at t at stop))) None (form_from (k + 1) (lines_of (drop next t))))) e
        ∙ ap (λ (b : Bool). cond b None (form_from (k + 1) (lines_of (drop next t)))) f)

  -- the second sweep
  module _ (b : Table) where
    pub table-end : end? (read_above (line_at t at stop) b) ≡ true
        → line_after (line_at t at stop) (read_above (line_at t at stop) b) b ≡ table_from (lines_of (drop at t)) b
    unfolding table_from
    table-end e =
        sym (ap (λ (ls : List (List ℕ)). table_from ls b) here.split
        ∙ ap (λ (x : Bool). cond x (line_after (line_at t at stop) (read_above (line_at t at stop) b) b)
        (table_from (lines_of (drop next t)) (next_on (line_after (line_at t at stop) (read_above (line_at t at stop) b) b)))) e)

    pub table_more : end? (read_above (line_at t at stop) b) ≡ false
        → table_from (lines_of (drop next t)) (next_on (line_after (line_at t at stop) (read_above (line_at t at stop) b) b))
        ≡ table_from (lines_of (drop at t)) b
    unfolding table_from
    table_more e =
        sym (ap (λ (ls : List (List ℕ)). table_from ls b) here.split
        ∙ ap (λ (x : Bool). cond x (line_after (line_at t at stop) (read_above (line_at t at stop) b) b)
        (table_from (lines_of (drop next t)) (next_on (line_after (line_at t at stop) (read_above (line_at t at stop) b) b)))) e)

  -- the third sweep
  module _ (look : List ℕ → Result ℤ Lack) (u : Tally) where
    pub uses-end : end? (line_of look (line_at t at stop)) ≡ true
        → use_after (line_of look (line_at t at stop)) u ≡ uses_from look (lines_of (drop at t)) u
    unfolding uses_from
    uses-end e =
        sym (ap (λ (ls : List (List ℕ)). uses_from look ls u) here.split
        ∙ ap (λ (x : Bool). cond x (use_after (line_of look (line_at t at stop)) u)
        (uses_from look (lines_of (drop next t)) (next_line (use_after (line_of look (line_at t at stop)) u)))) e)

    pub uses-more : end? (line_of look (line_at t at stop)) ≡ false
        → uses_from look (lines_of (drop next t)) (next_line (use_after (line_of look (line_at t at stop)) u))
        ≡ uses_from look (lines_of (drop at t)) u
    unfolding uses_from
    uses-more e =
        sym (ap (λ (ls : List (List ℕ)). uses_from look ls u) here.split
        ∙ ap (λ (x : Bool). cond x (use_after (line_of look (line_at t at stop)) u)
        (uses_from look (lines_of (drop next t)) (next_line (use_after (line_of look (line_at t at stop)) u)))) e)

-- where no line is left
module _ (t : List ℕ) (at : ℕ) (h : length t ≤ at) where
  pub form-last : (k : ℕ) → Some k ≡ form_from k (lines_of (drop at t))
  unfolding form_from
  form-last k = sym (ap (form_from k) (lines_end t at h))

  pub table-last : (b : Table) → b ≡ table_from (lines_of (drop at t)) b
  unfolding table_from
  table-last b = sym (ap (λ (ls : List (List ℕ)). table_from ls b) (lines_end t at h))

  pub uses-last : (look : List ℕ → Result ℤ Lack) (u : Tally) → u ≡ uses_from look (lines_of (drop at t)) u
  unfolding uses_from
  uses-last look u = sym (ap (λ (ls : List (List ℕ)). uses_from look ls u) (lines_end t at h))

-- ---- a line of the first sweep, as the code reads it
module _ (s l : List ℕ) (r : Option Line) (e : r ≡ line_of (look_up_at s []) l) where
  bare : r ≡ line_of no_names l
  bare = e ∙ ap (λ (f : List ℕ → Result ℤ Lack). line_of f l) (no_names_lem s)

  pub bare-fault : r ≡ None → faulty? (line_of no_names l) ≡ true
  bare-fault k = ap faulty? (sym bare ∙ k)

  module _ (y : Line) (k : r ≡ Some y) where
    pub bare-line : faulty? (line_of no_names l) ≡ false
    bare-line = ap faulty? (sym bare ∙ k)

    pub bare-end : (lay : Layout) → lay ≡ layout_of y.statement → (b : Bool) → b ≡ stops? lay → end? (line_of no_names l) ≡ b
    bare-end lay el b eb = ap end? (sym bare ∙ k) ∙ sym (eb ∙ ap stops? el)

-- ---- a line of the second sweep
pub placed-count : (t : Tally) (n : Next) → (placed_at t n).count ≡ t.count
placed-count t (Ok p) = refl
placed-count t (Err Unknown) = refl
placed-count t (Err Outside) = refl

pub placed-line : (t : Tally) (n : Next) → (placed_at t n).line ≡ t.line
placed-line t (Ok p) = refl
placed-line t (Err Unknown) = refl
placed-line t (Err Outside) = refl

module _ (s : List ℕ) (ms : List Name) (t : Tally) (h : Holds s ms t) (l : List ℕ) (r : Option Line)
    (er : r ≡ line_of (look_up_at s (take t.count ms)) l) where
  reading : r ≡ read_above l (table_at s ms t)
  reading = er ∙ ap (λ (f : List ℕ → Result ℤ Lack). line_of f l) (look-held s ms t h)

  pub name-fault : r ≡ None → table_at s ms t ≡ line_after l (read_above l (table_at s ms t)) (table_at s ms t)
  name-fault e = sym (ap (λ (y : Option Line). line_after l y (table_at s ms t)) (sym reading ∙ e))

  pub end-fault : r ≡ None → false ≡ end? (read_above l (table_at s ms t))
  end-fault e = sym (ap end? (sym reading ∙ e))

  module _ (y : Line) (e : r ≡ Some y) (lay : Layout) (el : lay ≡ layout_of y.statement) where
    pub end_line : (b : Bool) → b ≡ stops? lay → b ≡ end? (read_above l (table_at s ms t))
    end_line b eb = eb ∙ ap stops? el ∙ sym (ap end? (sym reading ∙ e))

    module _ (nx : Next) (en : nx ≡ next_of t.place lay) (u : Tally) (eu : u ≡ placed_at t nx) where
      count-on : u.count ≡ t.count
      count-on = ap (λ (z : Tally). z.count) eu ∙ placed-count t nx

      on : Table
      on = table (table_at s ms t).names (table_at s ms t).values (placed_at t (next_of t.place (layout_of y.statement)))

      table_on : table_at s ms u ≡ on
      unfolding on
      table_on =
          ap (λ (n : ℕ). table (names_at s (map (λ (m : Name). m.place) (take n ms))) (map (λ (m : Name). m.value) (take n ms)) u) count-on
          ∙ ap (λ (z : Tally). table (table_at s ms t).names (table_at s ms t).values z)
          (eu ∙ ap (placed_at t) (en ∙ ap (next_of t.place) el))

      pub name-none : y.name ≡ None
          → table_at s ms u ≡ line_after l (read_above l (table_at s ms t)) (table_at s ms t)
      unfolding on
      name-none k =
          table_on
          ∙ sym (ap (λ (z : Option Line). line_after l z (table_at s ms t)) (sym reading ∙ e)
          ∙ ap (λ (q : Option ℕ). maybe_named l q (name_value t.place (layout_of y.statement)) on) k)

      pub name-some : (q : ℕ) → y.name ≡ Some q → (v : Result ℤ Lack) → v ≡ name_value t.place lay
          → (w : List ℕ) → w ≡ word (drop q l)
          → (b : Table) → b ≡ named_of w v (table_at s ms u)
          → b ≡ line_after l (read_above l (table_at s ms t)) (table_at s ms t)
      unfolding on
      name-some q k v ev w ew b eb =
          eb ∙ ap (λ (z : List ℕ). named_of z v (table_at s ms u)) ew
          ∙ ap (λ (z : Result ℤ Lack). named_of (word (drop q l)) z (table_at s ms u)) (ev ∙ ap (name_value t.place) el)
          ∙ ap (named_of (word (drop q l)) (name_value t.place (layout_of y.statement))) table_on
          ∙ sym (ap (λ (z : Option Line). line_after l z (table_at s ms t)) (sym reading ∙ e)
          ∙ ap (λ (z : Option ℕ). maybe_named l z (name_value t.place (layout_of y.statement)) on) k)

-- ---- the loops
module _ (s : List ℕ) (at stop next : ℕ) (here : LineAt s at stop next) where
  module _ (ms ns : List Name) (t w : Tally)
      (e : table_at s ns w
      ≡ line_after (line_at s at stop) (read_above (line_at s at stop) (table_at s ms t)) (table_at s ms t)) where
    pub collect-end : (b : Bool) → b ≡ end? (read_above (line_at s at stop) (table_at s ms t)) → b ≡ true
        → table_at s ns w ≡ table_from (lines_of (drop at s)) (table_at s ms t)
    collect-end b eb h = e ∙ table-end s at stop next here (table_at s ms t) (sym eb ∙ h)

    pub collect-more : (b : Bool) → b ≡ end? (read_above (line_at s at stop) (table_at s ms t)) → b ≡ false
        → (u : Tally) → u ≡ next_line w
        → table_from (lines_of (drop next s)) (table_at s ns u) ≡ table_from (lines_of (drop at s)) (table_at s ms t)
    collect-more b eb h u eu =
        ap (λ (x : Tally). table_from (lines_of (drop next s)) (table_at s ns x)) eu
        ∙ ap (λ (x : Table). table_from (lines_of (drop next s)) (next_on x)) e
        ∙ table_more s at stop next here (table_at s ms t) (sym eb ∙ h)

  module _ (look : List ℕ → Result ℤ Lack) (t w : Tally) (e : w ≡ use_after (line_of look (line_at s at stop)) t)
      (b : Bool) (eb : b ≡ end? (line_of look (line_at s at stop))) where
    pub use-all-end : b ≡ true → w ≡ uses_from look (lines_of (drop at s)) t
    use-all-end h = e ∙ uses-end s at stop next here look t (sym eb ∙ h)

    pub use-all-more : b ≡ false → (u : Tally) → u ≡ next_line w
        → uses_from look (lines_of (drop next s)) u ≡ uses_from look (lines_of (drop at s)) t
    use-all-more h u eu =
        ap (uses_from look (lines_of (drop next s))) (eu ∙ ap next_line e)
        ∙ uses-more s at stop next here look t (sym eb ∙ h)

-- the table is empty at first
pub table-start : (s : List ℕ) (ms : List Name) → table_at s ms no_tally ≡ table [] [] no_tally
unfolding names_at
table-start s ms = refl

pub holds-start : (s : List ℕ) (ms : List Name) → length ms ≡ 1024 → Holds s ms no_tally
holds-start s ms a = record { size = a; within = omega arith; keyed = refl }

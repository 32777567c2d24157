-- What the loops of judging and loading keep. The lines from a place on are the line there and the lines from the next place on; so what
-- the lines that are left make of what is held is, turn by turn, what all lines make of what was lent. Assumes nothing.
use Prim.Native.Nat.{ℕ, zero, suc, ◌+◌, ◌-◌, ◌*◌, ◌≤◌, ◌<◌}
use mathlib.Core.Path.{◌≡◌, refl, sym, ap, ◌∙◌, subst}
use mathlib.Core.Bool.{Bool}
use mathlib.Core.List.{List, [], ◌∷◌}
use native.Mathlib.Omega.{arith}
use lib.Dec.{eqb, ltb, leb}
use lib.ListN.{length, get_or, take, drop, set, length-drop, drop_of_length-le}
use lib.Seq.{sets, get_or-drop, get_or-take, length-take-le}
use borrow.Author.Tests.{eq-eqb, ne_eqb}
use Rattle.text_lines.specs.Lines.{lines_of, none, LineAt}
use Rattle.text_lines.proofs.Laws.{lines_end, lines_none}
use Rattle.std.specs.Prelude.{⊤, Result, Ok, Err}
use Rattle.srec.specs.declared.Refusal.{Refusal}
use Rattle.srec.specs.Record.{bytes_of, kind_of, count_of, address_of, fault_of, Loadable}
use Rattle.srec.specs.Load.{verdict, verdict_from, stored_of, memory_after, pc_at, pc_after, Sound}
use Rattle.stores.proofs.Laws.{sets_more}
use Rattle.srec.proofs.Laws.{verdict-fault, verdict-end, verdict-more, bytes-length}

-- ---- a line's data

-- the data that a line of n data bytes stores
abbrev pub stored : List ℕ → ℕ → List ℕ
stored l n = take n (drop 3 (bytes_of l))

stored-length : (l : List ℕ) (n : ℕ) → length l ≡ 10 + 2 * n → length (stored l n) ≡ n
stored-length l n h =
    let b = bytes-length l (n + 3) (omega arith) in
    length-take-le n (drop 3 (bytes_of l)) (simp length-drop (omega arith))

pub store-more : (m₀ m l : List ℕ) (a n k : ℕ) → length l ≡ 10 + 2 * n → k < n
    → sets m (a + k) (drop k (stored l n)) ≡ sets m₀ a (stored l n)
    → (b : ℕ) → b ≡ get_or (bytes_of l) (3 + k) 0
    → sets (set m (a + k) b) (a + (k + 1)) (drop (k + 1) (stored l n)) ≡ sets m₀ a (stored l n)
store-more m₀ m l a n k h lt e b eb =
    let s = stored-length l n h in
    let v : get_or (stored l n) k 0 ≡ b = get_or-take n (drop 3 (bytes_of l)) k 0 lt ∙ get_or-drop 3 (bytes_of l) k 0 ∙ sym eb in
    ap (λ (x : ℕ). sets (set m (a + k) x) (a + (k + 1)) (drop (k + 1) (stored l n))) (sym v)
    ∙ sym (sets_more m (stored l n) a k (omega arith)) ∙ e

pub store-end : (m₀ m l : List ℕ) (a n k : ℕ) → length l ≡ 10 + 2 * n → n ≤ k
    → sets m (a + k) (drop k (stored l n)) ≡ sets m₀ a (stored l n) → m ≡ sets m₀ a (stored l n)
store-end m₀ m l a n k h le e =
    let s = stored-length l n h in
    let d : drop k (stored l n) ≡ [] = drop_of_length-le (stored l n) {i = k} (omega arith) in
    sym (ap (sets m (a + k)) d) ∙ e

-- ---- lines from a place on

none-drop : (t : List ℕ) (i : ℕ) → i ≤ length t → eqb i (length t) ≡ none (drop i t)
none-drop [] zero h = refl
none-drop [] (suc i) h = let z : ⊥ = omega arith in absurd z
none-drop (x ∷ t) zero h = ne_eqb 0 (suc (length t)) (λ (e : 0 ≡ suc (length t)). omega arith)
none-drop (x ∷ t) (suc i) h = lib.Dec.eqb-suc-suc i (length t) ∙ none-drop t i (omega arith)

-- the line at a place
abbrev pub line_from : List ℕ → ℕ → ℕ → List ℕ
line_from t at stop = take (stop - at) (drop at t)

module _ (t : List ℕ) (at stop next : ℕ) (here : LineAt t at stop next) where
  rest : List (List ℕ)
  rest = lines_of (drop next t)

  last_line : eqb next (length t) ≡ none (lines_of (drop next t))
  last_line = none-drop t next here.within ∙ sym (lines_none (drop next t))

  -- the fault as the code works it out
  fault-here : (f : Result ⊤ Refusal) → f ≡ fault_of (eqb next (length t)) (line_from t at stop)
      → fault_of (none (lines_of (drop next t))) (line_from t at stop) ≡ f
  fault-here f e = sym (e ∙ ap (λ (x : Bool). fault_of x (line_from t at stop)) last_line)

  pub judge-fault : (k : ℕ) (r : Refusal) → Err r ≡ fault_of (eqb next (length t)) (line_from t at stop)
      → verdict r k ≡ verdict_from k (lines_of (drop at t))
  judge-fault k r e =
      verdict-fault k (line_from t at stop) (lines_of (drop next t)) r (fault-here (Err r) e)
      ∙ ap (verdict_from k) (sym here.split)

  pub judge-end : (k : ℕ) → Ok tt ≡ fault_of (eqb next (length t)) (line_from t at stop)
      → kind_of (line_from t at stop) ≡ 57 → Ok tt ≡ verdict_from k (lines_of (drop at t))
  judge-end k e h =
      verdict-end k (line_from t at stop) (lines_of (drop next t)) (fault-here (Ok tt) e) h
      ∙ ap (verdict_from k) (sym here.split)

  pub judge-more : (k : ℕ) → Ok tt ≡ fault_of (eqb next (length t)) (line_from t at stop)
      → (kind_of (line_from t at stop) ≡ 57 → ⊥) → verdict_from (k + 1) (lines_of (drop next t)) ≡ verdict_from k (lines_of (drop at t))
  judge-more k e h =
      sym (verdict-more k (line_from t at stop) (lines_of (drop next t)) (fault-here (Ok tt) e) h)
      ∙ ap (verdict_from k) (sym here.split)

  pub sound-here : Sound (lines_of (drop at t)) → Loadable (line_from t at stop) × Sound (lines_of (drop next t))
  sound-here s = subst Sound here.split s

  pub memory-here : (m : List ℕ)
      → memory_after (lines_of (drop next t)) (stored_of (line_from t at stop) m) ≡ memory_after (lines_of (drop at t)) m
  unfolding memory_after
  memory-here m = sym (ap (λ (ls : List (List ℕ)). memory_after ls m) here.split)

  pub pc-here : (pc : ℕ) → pc_after (lines_of (drop next t)) (pc_at (line_from t at stop) pc) ≡ pc_after (lines_of (drop at t)) pc
  unfolding pc_after
  pc-here pc = sym (ap (λ (ls : List (List ℕ)). pc_after ls pc) here.split)

-- ---- what a line stores

pub store-none : (l m : List ℕ) (k : ℕ) → k ≡ kind_of l → (k ≡ 49 → ⊥) → m ≡ stored_of l m
unfolding stored_of
store-none l m k e h = rw (← e, ne_eqb k 49 h)

pub store-some : (l m x : List ℕ) (k a n : ℕ) → k ≡ kind_of l → k ≡ 49 → a ≡ address_of l → n ≡ count_of l
    → x ≡ sets m a (take (n - 3) (drop 3 (bytes_of l))) → x ≡ stored_of l m
unfolding stored_of
store-some l m x k a n e h ea en ex = rw (← e, eq-eqb k 49 h, ← ea, ← en) ex

-- memory and PC once no line is left
pub memory-end : (t : List ℕ) (at : ℕ) (m : List ℕ) → length t ≤ at → memory_after (lines_of (drop at t)) m ≡ m
unfolding memory_after
memory-end t at m h = ap (λ (ls : List (List ℕ)). memory_after ls m) (lines_end t at h)

pub pc-end : (t : List ℕ) (at pc : ℕ) → length t ≤ at → pc_after (lines_of (drop at t)) pc ≡ pc
unfolding pc_after
pc-end t at pc h = ap (λ (ls : List (List ℕ)). pc_after ls pc) (lines_end t at h)

-- Records as the code writes them: eight bytes and eight more are the sixteen of a record, and that of an act is there where its kind is
-- asked for. Assumes nothing.
use Prim.Native.Nat.{ℕ, ◌+◌, ◌*◌, ◌/◌, ◌%◌, ◌≤◌}
use native.Mathlib.Nat.{div-div-eq-div-mul}
use native.Mathlib.Numerals.{unary_clauses}
use native.Mathlib.Omega.{arith}
use mathlib.Core.Bool.{Bool, true, false, cond}
use mathlib.Core.List.{List, [], ◌∷◌}
use mathlib.Core.Path.{◌≡◌, refl, sym, ap, ◌∙◌}
use lib.ListN.{length, set}
use lib.Seq.{sets}
use Rattle.word.specs.Psw.{bit_of}
use Rattle.std.proofs.Common.{◌⊎◌, ⊎_elim}
use Rattle.machine.specs.declared.Act.{Act}
use Rattle.machine.specs.declared.Act.TheVariants as act
use Rattle.machine.specs.Record.{count_byte}
use Rattle.stores.proofs.Laws.{sets_then}
use Rattle.little_endian.specs.Bytes.{two_put, four_put}
use Rattle.trace.specs.Trace.{Entry, entry_bytes, trace_bytes, kind_of}
use Rattle.trace_record.specs.declared.Before.{Before}
use Rattle.trace_record.specs.declared.Told.{Told}
use Rattle.trace_record.specs.Written.{entry_with, head_bytes, tail_bytes, told, told_of, act_written}

-- ---- bytes

pub head_bytes_lem : (m : List ℕ) (i n k d a : ℕ)
    → two_put (set (set (four_put m i n) (i + 4) k) (i + 5) d) (i + 6) a ≡ sets m i (head_bytes n k d a)
head_bytes_lem m i n k d a =
    let b0 : n % 65536 % 256 ≡ count_byte n 1 = omega arith in
    let b1 : n % 65536 / 256 % 256 ≡ count_byte n 0x100 = omega arith in
    let b3 : n / 65536 / 256 % 256 ≡ count_byte n 0x1000000 = ap (λ (q : ℕ). q % 256) (div-div-eq-div-mul n 65536 256) in
    rw (b0, b1, b3) (simp unary_clauses refl)

pub tail-bytes : (m : List ℕ) (i v p s w : ℕ)
    → two_put (two_put (two_put (two_put m i v) (i + 2) p) (i + 4) s) (i + 6) w ≡ sets m i (tail_bytes v p s w)
tail-bytes m i v p s w = simp unary_clauses refl

pub whole-bytes : (m m' m'' : List ℕ) (i : ℕ) (b : Before) (k d a v : ℕ)
    → m' ≡ sets m i (head_bytes b.step k d a) → m'' ≡ sets m' (i + 8) (tail_bytes v b.pc b.sp b.psw)
    → m'' ≡ sets m i (entry_bytes (entry_with b k d a v))
whole-bytes m m' m'' i b k d a v e f =
    f
    ∙ ap (λ x. sets x (i + 8) (tail_bytes v b.pc b.sp b.psw)) e
    ∙ sets_then m i (i + 8) (head_bytes b.step k d a) (tail_bytes v b.pc b.sp b.psw) refl

-- ---- an act

-- an entry's number is its device or its vector
pub told-entry : (a : Act) (v x p w : ℕ) → (a ≡ act.Chain v) ⊎ ((a ≡ act.Accept v) ⊎ ((a ≡ act.Fault v) ⊎ (a ≡ act.Trap v)))
    → told v p w ≡ told_of a x p w
told-entry a v x p w h =
    ⊎_elim
    (λ (e : a ≡ act.Chain v). ap (λ k. told_of k x p w) (sym e))
    (λ (i : (a ≡ act.Accept v) ⊎ ((a ≡ act.Fault v) ⊎ (a ≡ act.Trap v))).
    ⊎_elim
    (λ (e : a ≡ act.Accept v). ap (λ k. told_of k x p w) (sym e))
    (λ (j : (a ≡ act.Fault v) ⊎ (a ≡ act.Trap v)).
    ⊎_elim
    (λ (e : a ≡ act.Fault v). ap (λ k. told_of k x p w) (sym e))
    (λ (e : a ≡ act.Trap v). ap (λ k. told_of k x p w) (sym e)) j) i) h

module _ (b : Before) (ks : ℕ) (a : Act) (x p w kind : ℕ) (k-is : kind ≡ kind_of a) (asks : Bool) (test : asks ≡ bit_of kind ks) where
  abbrev its : Entry
  its = entry_with b (kind_of a) (told_of a x p w).number (told_of a x p w).address (told_of a x p w).value

  pub act-none : asks ≡ false → [] ≡ act_written b ks a x p w
  act-none q = sym (ap (λ c. cond c (its ∷ []) []) (ap (λ k. bit_of k ks) (sym k-is) ∙ sym test ∙ q))

  act-there : asks ≡ true → its ∷ [] ≡ act_written b ks a x p w
  act-there q = sym (ap (λ c. cond c (its ∷ []) []) (ap (λ k. bit_of k ks) (sym k-is) ∙ sym test ∙ q))

  pub act-fits : asks ≡ true → (k n : ℕ) → 16 * (k + length (act_written b ks a x p w)) ≤ n → 16 * k + 16 ≤ n
  act-fits q k n h = let l = ap length (act-there q) in omega arith

  pub act-one : asks ≡ true → (t : Told) → t ≡ told_of a x p w
      → entry_with b kind t.number t.address t.value ∷ [] ≡ act_written b ks a x p w
  act-one q t e = (λ i. entry_with b (k-is i) (e i).number (e i).address (e i).value ∷ []) ∙ act-there q

-- a list of records added after k
pub added_is : (k n : ℕ) (xs ys : List Entry) → xs ≡ ys → length xs ≡ n → k + n ≡ k + length ys
added_is k n xs ys e l = ap (λ j. k + j) (sym l ∙ ap length e)

pub stored-none : (m : List ℕ) (i : ℕ) (ys : List Entry) → [] ≡ ys → m ≡ sets m i (trace_bytes ys)
unfolding trace_bytes
stored-none m i ys e = ap (λ xs. sets m i (trace_bytes xs)) e

pub stored_one : (m m' : List ℕ) (i : ℕ) (x : Entry) (ys : List Entry) → x ∷ [] ≡ ys → m' ≡ sets m i (entry_bytes x)
    → m' ≡ sets m i (trace_bytes ys)
unfolding trace_bytes
stored_one m m' i x ys e f = f ∙ ap (λ xs. sets m i (trace_bytes xs)) e

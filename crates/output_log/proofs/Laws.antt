-- The log's parts: what is shown, a record's bytes, and the device bytes kept and put back. A store shows its byte where that lies in the
-- data register of an enabled output device; bytes are copied one by one, so what is copied is a beginning. Assumes nothing.
use Prim.Native.Nat.{ℕ, ◌+◌, ◌/◌, ◌%◌, ◌<◌, ◌≤◌}
use native.Mathlib.Nat.{div-div-eq-div-mul, min-eq_left}
use native.Mathlib.Numerals.{add-one, unary_clauses}
use native.Mathlib.Omega.{arith}
use mathlib.Core.Bool.{Bool, true, false, cond, not, ◌&&◌, ◌||◌, true≢false, false≢true}
use mathlib.Core.List.{List, [], ◌∷◌}
use mathlib.Core.Logic.{◌≢◌}
use mathlib.Core.Path.{◌≡◌, refl, sym, ap, ◌∙◌}
use lib.Dec.{eqb, ltb}
use lib.ListN.{length, set, take, get_or, length-take}
use lib.Seq.{sets, take-suc, take-suc-set, take_all}
use borrow.Author.Tests.{not-true}
use Rattle.machine.specs.declared.Act.TheVariants as act
use Rattle.machine.specs.declared.ByteAddr.{ByteAddr}
use Rattle.machine.specs.State.{State}
use Rattle.machine.specs.Memory.{byte_at, word_number}
use Rattle.machine.specs.Record.{count_byte}
use Rattle.machine.specs.Devices.{status_of, ena?, input?}
use Rattle.machine.specs.Log.{shown, shown_on, logged_of, shown_bytes}
use Rattle.machine_laws.proofs.Cases.{bool_cases, is_lt, not-lt, eq_of, neq-of}
use Rattle.run_laws.proofs.LogBytes.{sets-append}
use Rattle.little_endian.specs.Bytes.{four_put}
use Rattle.std.specs.Prelude.{Option, None, Some, is_some}
use Rattle.output_log.specs.declared.Showing.{Showing}
use Rattle.output_log.specs.Showing.{stored_of, listed}

-- ---- what is shown

hidden : (b e i : Bool) → not e || i ≡ true → b && e && not i ≡ false
hidden true true true h = refl
hidden true true false h = absurd (false≢true h)
hidden true false i h = refl
hidden false e i h = refl

seen : (b e i : Bool) → b ≡ true → not e || i ≡ false → b && e && not i ≡ true
seen true true true h k = absurd (true≢false k)
seen true true false h k = refl
seen true false i h k = absurd (true≢false k)
seen false e i h k = absurd (false≢true h)

module _ (n : ℕ) (m : List ℕ) (d v : ℕ) where
  pub shown-far : 8 ≤ d → [] ≡ shown_on n m d v
  unfolding shown_on
  shown-far h =
      let t = byte_at m (status_of d) in
      sym (ap (λ b. cond (b && ena? t && not (input? t)) (shown n d v ∷ []) []) (not-lt h))

  pub shown-hidden : not (ena? (byte_at m (status_of d))) || input? (byte_at m (status_of d)) ≡ true → [] ≡ shown_on n m d v
  unfolding shown_on
  shown-hidden h =
      let t = byte_at m (status_of d) in
      sym (ap (λ b. cond b (shown n d v ∷ []) []) (hidden (ltb d 8) (ena? t) (input? t) h))

  pub shown-seen : d < 8 → not (ena? (byte_at m (status_of d))) || input? (byte_at m (status_of d)) ≡ false
      → shown n d v ∷ [] ≡ shown_on n m d v
  unfolding shown_on
  shown-seen l h =
      let t = byte_at m (status_of d) in
      sym (ap (λ b. cond b (shown n d v ∷ []) []) (seen (ltb d 8) (ena? t) (input? t) (is_lt l) h))

-- a store: nothing at an even byte, else what its byte at the odd address shows
pub store-even : (byte : Bool) (a : ByteAddr) (v : ℕ) (s : State) → byte && not (eqb (a.0 % 2) 1) ≡ true
    → [] ≡ logged_of (act.Stores byte a v) s
store-even true a v s h =
    bool_cases (eqb (a.0 % 2) 1)
    (λ q. absurd (false≢true (ap not (sym q) ∙ h))) (λ q. rw q refl)
store-even false a v s h = absurd (false≢true h)

pub store-odd : (byte : Bool) (a : ByteAddr) (v : ℕ) (s : State) → byte && not (eqb (a.0 % 2) 1) ≡ false
    → shown_on s.count s.mem (word_number a.0) (stored_of byte v) ≡ logged_of (act.Stores byte a v) s
store-odd true a v s h =
    bool_cases (eqb (a.0 % 2) 1)
    (λ q. rw q refl) (λ q. absurd (true≢false (ap not (sym q) ∙ h)))
store-odd false a v s h = refl

-- one record more passes the room exactly where it is full
pub full_is : (added room : ℕ) → added ≤ room → eqb added room ≡ ltb room (added + 1)
full_is added room h =
    bool_cases (eqb added room)
    (λ q. let e : added ≡ room = eq_of q in let l : room < added + 1 = omega arith in q ∙ sym (is_lt l)) (λ q.
    let n : added ≢ room = neq-of q in
    let l : added + 1 ≤ room = omega (arith, n) in
    q ∙ sym (not-lt l))

-- what is shown finds no room exactly where something is shown and the room is full
pub lacks_is : (x : Option Showing) (added room n : ℕ) → added ≤ room
    → is_some x && eqb added room ≡ ltb room (added + length (listed n x))
lacks_is None added room n h =
    let k : added + 0 ≤ room = omega arith in
    sym (not-lt k)
lacks_is (Some x) added room n h = full_is added room h

-- ---- the bytes of a record

pub record_bytes : (log : List ℕ) (i n d v : ℕ)
    → set (set (set (set (four_put log i n) (i + 4) d) (i + 5) v) (i + 6) 0) (i + 7) 0 ≡ sets log i (shown_bytes (shown n d v))
record_bytes log i n d v =
    let b0 : n % 65536 % 256 ≡ count_byte n 1 = omega arith in
    let b1 : n % 65536 / 256 % 256 ≡ count_byte n 0x100 = omega arith in
    let b3 : n / 65536 / 256 % 256 ≡ count_byte n 0x1000000 = ap (λ (q : ℕ). q % 256) (div-div-eq-div-mul n 65536 256) in
    rw (b0, b1, b3) (simp unary_clauses refl)

-- ---- the device bytes

pub not-both {ℓ} : {R : Type ℓ} (b : Bool) → b ≡ true → not b ≡ true → R
not-both b h k = absurd (true≢false (sym h ∙ not-true b k))

-- one byte more copied out, and all of them
pub keep-more : (m kept : List ℕ) (i : ℕ) → i < length kept → i < length m → take i kept ≡ take i m
    → take (i + 1) (set kept i (get_or m i 0)) ≡ take (i + 1) m
keep-more m kept i hk hm e = rw (add-one i, take-suc-set kept i (get_or m i 0) hk, take-suc m i 0 hm, e)

pub keep_all : (m kept : List ℕ) (i : ℕ) → length kept ≡ 16 → i ≡ 16 → take i kept ≡ take i m → kept ≡ take 16 m
keep_all m kept i hk hi e = sym (take_all 16 kept (omega arith)) ∙ ap (λ j. take j kept) (sym hi) ∙ e ∙ ap (λ j. take j m) hi

-- one byte more put back, and all of them
pub put-more : (m₀ m kept : List ℕ) (i : ℕ) → i < length kept → m ≡ sets m₀ 0 (take i kept)
    → set m i (get_or kept i 0) ≡ sets m₀ 0 (take (i + 1) kept)
put-more m₀ m kept i h e =
    let l : length (take i kept) ≡ i = length-take i kept ∙ min-eq_left (omega arith) in
    let z : i ≡ 0 + length (take i kept) = omega arith in
    ap (λ b. set b i (get_or kept i 0)) e
    ∙ ap (λ j. set (sets m₀ 0 (take i kept)) j (get_or kept i 0)) z
    ∙ sym (sets-append m₀ 0 (take i kept) (get_or kept i 0 ∷ []))
    ∙ ap (sets m₀ 0) (sym (take-suc kept i 0 h))
    ∙ ap (λ j. sets m₀ 0 (take j kept)) (sym (add-one i))

pub put_all : (m₀ m kept : List ℕ) (i : ℕ) → length kept ≡ 16 → i ≡ 16 → m ≡ sets m₀ 0 (take i kept) → m ≡ sets m₀ 0 kept
put_all m₀ m kept i hk hi e = e ∙ ap (sets m₀ 0) (ap (λ j. take j kept) hi ∙ take_all 16 kept (omega arith))

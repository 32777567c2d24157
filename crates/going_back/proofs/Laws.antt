-- Bytes copied one by one: what is still to be copied, over what is copied, is at each turn what the whole part writes. A part of a record
-- is a part of the journal, 64 bytes a place; and a record copied out is one step of `back_of`. Assumes nothing.
use Rattle.std.specs.Prelude.{Err}
use Rattle.machine.specs.declared.Refusal.{Refusal}
use Rattle.std.proofs.Common.{◌≡◌, ℕ, zero, suc, ◌+◌, ◌-◌, ◌*◌, ◌%◌, ◌<◌, ◌≤◌, List, length, get_or, take, drop, set}
use Rattle.std.proofs.Common.{sym, ap, ◌∙◌, add-zero, arith, length-drop, length-take-le, get_or-drop, get_or-take}
use Rattle.std.proofs.Common.{take-take, ext_get_or}
use lib.Seq.{slice, slice-cons, slice_empty, length-slice}
use Rattle.machine.specs.Memory.{byte_at, commit}
use Rattle.machine.specs.Record.{two_at}
use Rattle.journal.specs.Record.{placed, state_out, memory_out}
use Rattle.journal.specs.Ring.{journal_of, places_of, record_at, preceding}
use Rattle.journal.specs.Back.{Lent, lent_of, one_back, back_of}
use Rattle.journal.specs.Call.{back_verdict, back_call_of}
use Rattle.machine.specs.Refusal.{refusal_number, accepted?}
use Rattle.journal.proofs.Calls.{back-zero, back-suc, back-refused}

abbrev pub rest : (m j : List ℕ) (from a n i : ℕ) → List ℕ
rest m j from a n i = commit (placed (a + i) (slice (from + i) (from + n) j)) m

pub bytes-start : (m j : List ℕ) (from a n : ℕ) → rest m j from a n 0 ≡ commit (placed a (slice from (from + n) j)) m
bytes-start m j from a n = λ i. commit (placed (add-zero a i) (slice (add-zero from i) (from + n) j)) m

pub bytes-turn : (m j : List ℕ) (from a n i at : ℕ) → from + n ≤ length j → i < n → at ≡ (a + i) % 65536
    → rest (set m at (byte_at j (from + i))) j from a n (i + 1) ≡ rest m j from a n i
unfolding placed commit
bytes-turn m j from a n i at h k e =
    let x : a + (i + 1) ≡ suc (a + i) = omega arith in
    let y : from + (i + 1) ≡ suc (from + i) = omega arith in
    (λ o. commit (placed (x o) (slice (y o) (from + n) j)) (set m (e o) (byte_at j (from + i))))
    ∙ sym (ap (λ l. commit (placed (a + i) l) m) (slice-cons (from + i) (from + n) j 0 (omega arith) h))

pub bytes-end : (m j : List ℕ) (from a n : ℕ) → rest m j from a n n ≡ m
unfolding placed commit
bytes-end m j from a n = ap (λ l. commit (placed (a + n) l) m) (slice_empty (from + n) j)

-- ---- a part of a record is a part of the journal

pub part : (j : List ℕ) (p f t : ℕ) → t ≤ 64 → 64 * p + 64 ≤ length j → slice f t (record_at j p) ≡ slice (64 * p + f) (64 * p + t) j
part j p f t h k =
    let o = 64 * p in
    ap (drop f) (take-take t 64 (drop o j) h)
    ∙ ext_get_or 0 (drop f (take t (drop o j))) (slice (o + f) (o + t) j)
    (length-drop f (take t (drop o j)) ∙ ap (λ n. n - f) (length-take-le t (drop o j) (rw (length-drop o j) (omega arith)))
    ∙ size o ∙ sym (length-slice (o + f) (o + t) j (omega arith)))
    (λ i q.
    let l = length-drop f (take t (drop o j)) in
    let m = length-take-le t (drop o j) (rw (length-drop o j) (omega arith)) in
    let r : f + i < t = omega arith in
    let e : o + (f + i) ≡ o + f + i = omega arith in
    get_or-drop f (take t (drop o j)) i 0 ∙ get_or-take t (drop o j) (f + i) 0 r ∙ get_or-drop o j (f + i) 0
    ∙ ap (λ n. get_or j n 0) e
    ∙ sym (get_or-drop (o + f) (take (o + t) j) i 0 ∙ get_or-take (o + t) j (o + f + i) 0 (omega arith)))
  where
    size : (o : ℕ) → t - f ≡ o + t - (o + f)
    size o = omega arith

pub part-byte : (j : List ℕ) (p i : ℕ) → i < 64 → byte_at (record_at j p) i ≡ byte_at j (64 * p + i)
part-byte j p i h = get_or-take 64 (drop (64 * p) j) i 0 h ∙ get_or-drop (64 * p) j i 0

pub part-two : (j : List ℕ) (p i : ℕ) → i + 1 < 64 → two_at (record_at j p) i ≡ two_at j (64 * p + i)
part-two j p i h =
    let e : 64 * p + (i + 1) ≡ 64 * p + i + 1 = omega arith in
    let lo = part-byte j p i (omega arith) in
    let hi = part-byte j p (i + 1) h ∙ ap (byte_at j) e in
    λ o. lo o + 256 * hi o

-- the two parts of memory, written one after the other
pub memory_copied : (m j : List ℕ) (p a : ℕ) → 64 * p + 64 ≤ length j → a ≡ two_at j (64 * p + 48)
    → commit (placed a (slice (64 * p + 50) (64 * p + 50 + 8) j)) (commit (placed 0 (slice (64 * p + 32) (64 * p + 32 + 16) j)) m)
    ≡ memory_out (record_at j p) m
unfolding memory_out
memory_copied m j p a h e =
    let x : 64 * p + 50 + 8 ≡ 64 * p + 58 = omega arith in
    let y : 64 * p + 32 + 16 ≡ 64 * p + 48 = omega arith in
    let u = ap (λ t. slice (64 * p + 50) t j) x ∙ sym (part j p 50 58 (omega arith) h) in
    let v = ap (λ t. slice (64 * p + 32) t j) y ∙ sym (part j p 32 48 (omega arith) h) in
    let w = e ∙ sym (part-two j p 48 (omega arith)) in
    λ i. commit (placed (w i) (u i)) (commit (placed 0 (v i)) m)

-- ---- going back

-- one record copied out, and one less to go back
pub back-turn : (m s j : List ℕ) (n p left q : ℕ) (m' s' : List ℕ) → 0 < left → q ≡ preceding (places_of j) p
    → m' ≡ memory_out (record_at j q) m → s' ≡ state_out (record_at j q)
    → back_of (left - 1) (lent_of m' s' (journal_of j (n - 1) q)) ≡ back_of left (lent_of m s (journal_of j n p))
unfolding one_back
back-turn m s j n p zero q m' s' h e f g = absurd (omega arith)
back-turn m s j n p (suc k) q m' s' h e f g =
    let l : suc k - 1 ≡ k = omega arith in
    (λ i. back_of (l i) (lent_of (f i) (g i) (journal_of j (n - 1) q)))
    ∙ (λ i. back_of k (lent_of (memory_out (record_at j (e i)) m) (state_out (record_at j (e i))) (journal_of j (n - 1) (e i))))
    ∙ sym (back-suc k (lent_of m s (journal_of j n p)))

pub back_end : (x : Lent) (left : ℕ) → left ≡ 0 → back_of left x ≡ x
back_end x left e = ap (λ k. back_of k x) e ∙ back-zero x

-- ---- the call

abbrev pub lent_at : (memory state journal : List ℕ) (kept place : ℕ) → Lent
lent_at memory state journal kept place = lent_of memory state (journal_of journal kept place)

pub refused-answer : (k : ℕ) (l : Lent) (x : Refusal) (r : ℕ) → back_verdict k l ≡ Err x → r ≡ refusal_number (Err x)
    → (r ≡ (back_call_of k l).reply) × (l ≡ (back_call_of k l).lent)
refused-answer k l x r e f =
    let a = back-refused k l (ap accepted? e) in
    (f ∙ sym (ap (λ y. y.reply) a ∙ ap refusal_number e), sym (ap (λ y. y.lent) a))

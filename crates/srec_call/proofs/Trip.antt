-- Loading what was written, of the calls. An accepted write call leaves the span's text and behind it the old bytes; the reply's length
-- cuts off the text, and the text of a span loads back into the span (srec_trip). Assumes nothing.
use Prim.Native.Nat.{ℕ, suc, ◌+◌, ◌*◌, ◌/◌, ◌%◌, ◌≤◌, ◌<◌}
use mathlib.Core.Path.{◌≡◌, refl, sym, ap, ◌∙◌, subst}
use mathlib.Core.Bool.{Bool, true, false, cond}
use mathlib.Core.List.{List, [], ◌∷◌, ◌++◌}
use native.Mathlib.Omega.{arith}
use lib.Dec.{eqb, ltb}
use lib.ListN.{length, get_or, take, drop}
use lib.Seq.{sets, sets-eq, take_at, drop_at}
use borrow.Author.Tests.{eqb-true, ltb-false}
use Rattle.text_lines.specs.Lines.{lines_of}
use Rattle.std.specs.Prelude.{⊤, Result, Ok, Err}
use Rattle.srec.specs.declared.Refusal.{Refusal}
use Rattle.srec.specs.declared.Refusal.TheVariants.{MemoryLength, Form, Checksum, Room}
use Rattle.srec.specs.Load.{memory_after}
use Rattle.srec.specs.Write.{span_text}
use Rattle.srec_trip.specs.Trip.{Bytes, Restored}
use Rattle.srec_trip.proofs.Trip.{span-accepted, span-pc, span-restored}
use Rattle.srec_call.specs.Call.{Loaded, loaded, load_reply, load_call_of, Written, written, write_refusal, write_answer, write_call_of}
use Rattle.srec_call.specs.Trip.{LoadsBack, Restores}
use Rattle.srec_call.proofs.Laws.{load-done}

-- ---- an accepted write call

-- what it was lent
record Fitting (m : List ℕ) (a n pc : ℕ) (t : List ℕ) : Type 0 where
  whole : length m ≡ 65536
  inside : a + n ≤ 65536
  room : length (span_text m a n pc) ≤ length t

-- the refusal of a call by its three tests
abbrev tried : (x y z : Bool) → Result ⊤ Refusal
tried x y z = cond x (cond y (Err Room) (cond z (Err Room) (Ok tt))) (Err MemoryLength)

three : (x y z : Bool) → tried x y z ≡ Ok tt → (x ≡ true) × (y ≡ false) × (z ≡ false)
three true false false e = (refl, refl, refl)
three true false true e = cc
three true true z e = cc
three false y z e = cc

fitting : (m : List ℕ) (a n pc : ℕ) (t : List ℕ) → write_refusal m a n pc t ≡ Ok tt → Fitting m a n pc t
unfolding write_refusal
fitting m a n pc t h =
    let f = three (eqb (length m) 65536) (ltb 65536 (a + n)) (ltb (length t) (length (span_text m a n pc))) h in
    record { whole = eqb-true _ _ f.0; inside = ltb-false _ _ f.1; room = ltb-false _ _ f.2 }

-- the low byte of a reply is 0 where nothing is refused, and there alone
accepted-of : (f : Result ⊤ Refusal) (s t : List ℕ) → (write_answer f s t).reply % 256 ≡ 0 → f ≡ Ok tt
accepted-of (Ok x) s t e = refl
accepted-of (Err MemoryLength) s t e = absurd (omega arith)
accepted-of (Err Form) s t e = absurd (omega arith)
accepted-of (Err Checksum) s t e = absurd (omega arith)
accepted-of (Err Room) s t e = absurd (omega arith)

reply-accepted : (m : List ℕ) (a n pc : ℕ) (t : List ℕ) → (write_call_of m a n pc t).reply % 256 ≡ 0 → write_refusal m a n pc t ≡ Ok tt
unfolding write_call_of
reply-accepted m a n pc t e = accepted-of (write_refusal m a n pc t) (span_text m a n pc) t e

-- ---- the text that it left

module _ (m : List ℕ) (a n pc : ℕ) (t : List ℕ) (ok : write_refusal m a n pc t ≡ Ok tt) where
  abbrev text : List ℕ
  text = span_text m a n pc

  -- the buffer is the text and the old bytes past it
  buffer : sets t 0 text ≡ text ++ drop (length text) t
  buffer =
      let f = fitting m a n pc t ok in
      let z : 0 + length text ≡ length text = omega arith in
      sets-eq text t 0 (let r = f.room in omega arith) ∙ ap (λ (k : ℕ). text ++ drop k t) z

  done : write_call_of m a n pc t ≡ written (256 * length text) (sets t 0 text)
  unfolding write_call_of
  done = rw ok

  count : (write_call_of m a n pc t).reply / 256 ≡ length text
  count = ap (λ (w : Written). w.reply / 256) done ∙ quot (length text)
    where
      quot : (k : ℕ) → 256 * k / 256 ≡ k
      quot k = omega arith

  left : (write_call_of m a n pc t).text ≡ text ++ drop (length text) t
  left = ap (λ (w : Written). w.text) done ∙ buffer

  wrote-text : take ((write_call_of m a n pc t).reply / 256) (write_call_of m a n pc t).text ≡ text
  wrote-text =
      ap (λ (k : ℕ). take k (write_call_of m a n pc t).text) count
      ∙ ap (take (length text)) left
      ∙ take_at text (drop (length text) t) (length text) refl

  kept-past : drop ((write_call_of m a n pc t).reply / 256) (write_call_of m a n pc t).text
      ≡ drop ((write_call_of m a n pc t).reply / 256) t
  kept-past =
      ap (λ (k : ℕ). drop k (write_call_of m a n pc t).text) count
      ∙ ap (drop (length text)) left
      ∙ drop_at text (drop (length text) t) (length text) refl
      ∙ ap (λ (k : ℕ). drop k t) (sym count)

  -- ---- loaded back

  module _ (bytes : Bytes m) (low : pc < 65536) (m' : List ℕ) (pc' : ℕ) (size : length m' ≡ 65536) where
    -- what a load call of the text answers
    answer : load_call_of m' text pc' ≡ loaded (load_reply 0 pc 0) (memory_after (lines_of text) m')
    answer =
        let f = fitting m a n pc t ok in
        let v = span-accepted m f.whole bytes a n pc f.inside low in
        sym (load-done m' text pc' size (sym v))
        ∙ ap (λ (x : ℕ). loaded (load_reply 0 x 0) (memory_after (lines_of text) m'))
        (span-pc m f.whole bytes a n pc f.inside low pc')

    restored_by : Restored m a n m' (load_call_of m' text pc').memory
    restored_by =
        let f = fitting m a n pc t ok in
        subst (Restored m a n m') (sym (ap (λ (x : Loaded). x.memory) answer))
        (span-restored m f.whole bytes a n pc f.inside low m' size)

    loads-back : LoadsBack m a n pc t (write_call_of m a n pc t).reply (write_call_of m a n pc t).text m' pc'
    loads-back =
        record {
          accepted = ap (λ (s : List ℕ). (load_call_of m' s pc').reply) wrote-text ∙ ap (λ (x : Loaded). x.reply) answer;
          restored =
              subst (λ (s : List ℕ). Restored m a n m' (load_call_of m' s pc').memory) (sym wrote-text) restored_by;
        }

-- ---- the promise of the write call

-- a buffer whose every element is a byte
bytes_of : (m : List ℕ) → ((i : ℕ) → get_or m i 0 < 256) → Bytes m
bytes_of [] h = tt
bytes_of (x ∷ m) h = (h 0, bytes_of m (λ i. h (suc i)))

-- "loading them restores that span and touches no other byte; the buffer past the text is kept". [02 §2]
pub call-restores : (m : List ℕ) (a n pc : ℕ) (t : List ℕ) → ((i : ℕ) → get_or m i 0 < 256) → pc < 65536
    → Restores m a n pc t (write_call_of m a n pc t).reply (write_call_of m a n pc t).text
call-restores m a n pc t bytes low e =
    let ok = reply-accepted m a n pc t e in
    record { kept = kept-past m a n pc t ok; back = λ m' pc' l. loads-back m a n pc t ok (bytes_of m bytes) low m' pc' l }

-- the same of what a function gave and left
pub restores : (m : List ℕ) (a n pc : ℕ) (t : List ℕ) (r : ℕ) (t' : List ℕ) → ((i : ℕ) → get_or m i 0 < 256) → pc < 65536
    → r ≡ (write_call_of m a n pc t).reply → t' ≡ (write_call_of m a n pc t).text → Restores m a n pc t r t'
restores m a n pc t r t' bytes low er et = rw (er, et) (call-restores m a n pc t bytes low)

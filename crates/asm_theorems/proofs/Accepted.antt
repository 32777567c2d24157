-- What acceptance says: every statement of an accepted source has its number. Assumes nothing.
use mathlib.Core.Path.{◌≡◌, refl, sym, ap, ◌∙◌, subst}
use mathlib.Core.Bool.{Bool, true, false, cond}
use mathlib.Core.List.{List, [], ◌∷◌, ◌++◌}
use Prim.Native.Nat.{ℕ, ◌+◌, ◌%◌, min}
use native.Mathlib.Omega.{arith}
use lib.Dec.{eqb}
use lib.IntN.{ℤ}
use lib.ListN.{length, get_or}
use borrow.Author.Tests.{eqb-true}
use Rattle.std.specs.Prelude.{Option, Some, None, Result, Ok, Err, is_ok}
use Rattle.word.proofs.Laws.{bool_cases}
use Rattle.asm_value.specs.declared.Lack.{Lack}
use Rattle.asm_value.specs.declared.Lack.TheVariants.{Unknown, Outside}
use Rattle.asm_fits.specs.Fits.{Fit}
use Rattle.asm_line.specs.declared.Line.{Line}
use Rattle.asm_line.specs.Line.{line_of}
use Rattle.asm_line.proofs.Lawful.{Lawful, LawfulLine, line-lawful}
use Rattle.asm_write.specs.Written.{used_of}
use Rattle.asm_sweeps.specs.declared.Tally.{Tally}
use Rattle.asm_sweeps.specs.declared.Fault.{Fault}
use Rattle.asm_sweeps.specs.declared.Fault.TheVariants as fault
use Rattle.asm_sweeps.specs.declared.Refusal.{Refusal}
use Rattle.asm_sweeps.specs.Form.{end?, form_of}
use Rattle.asm_sweeps.specs.Places.{note_fault, next_line, no_tally, table_of}
use Rattle.asm_sweeps.specs.Uses.{use_after, uses_from, uses_of, names_of, refusal, verdict_of}
use Rattle.asm_sweeps.proofs.Laws.{Clean, first-noted}
use Rattle.asm_sweeps.proofs.NoFault.{refused-not, verdict-clean}
use Rattle.asm_image.specs.Image.{Placed, statements_at, place_on, placed_from, placed_of, image_of}
use Rattle.asm_call.specs.Call.{refusal_number, upper_bits, assemble_reply, assemble_verdict, assemble_call_of}
use Rattle.asm_theorems.specs.Theorems.{Accepted, CallKeeps, CallLength, RefusedKeeps, Assembles}
use Rattle.asm_theorems.proofs.Image.{others-kept, length_kept}

-- ---- the statements of a source

-- its fields are within its format, and it is not at fault
abbrev pub Good : Placed → Type 0
Good x = Lawful x.statement × ((n : ℕ) × (used_of x.place x.statement ≡ Ok n))

abbrev pub AllGood : List Placed → Type 0
AllGood [] = Unit
AllGood (x ∷ xs) = Good x × AllGood xs

good-append : (xs ys : List Placed) → AllGood xs → AllGood ys → AllGood (xs ++ ys)
good-append [] ys a b = b
good-append (x ∷ xs) ys a b = (a.0, good-append xs ys a.1 b)

good-among : (xs ys : List Placed) (x : Placed) → AllGood (xs ++ (x ∷ ys)) → Good x
good-among [] ys x a = a.0
good-among (y ∷ xs) ys x a = good-among xs ys x a.1

-- ---- a tally that notes no fault

use-clean : (t : Tally) (f : Fit) → Clean (note_fault f t) → Clean t × ((n : ℕ) × (f ≡ Ok n))
use-clean t (Ok n) c = (c, (n, refl))
use-clean t (Err Unknown) c = absurd (first-noted t.unknown t.line c.0)
use-clean t (Err Outside) c = absurd (first-noted t.outside t.line c.1)

line_clean : (r : Option Line) (t : Tally) → LawfulLine r → Clean (use_after r t) → Clean t × AllGood (statements_at t.place r)
line_clean None t w c = (c, tt)
line_clean (Some y) t w c =
    let u = use-clean t (used_of t.place y.statement) c in
    (u.0, ((w, u.1), tt))

place-on : (r : Option Line) (t : Tally) → (use_after r t).place ≡ place_on t.place r
place-on None t = refl
place-on (Some y) t = refl

-- the third sweep noted no fault: every statement is good
sweep-good : (look : List ℕ → Result ℤ Lack) (ls : List (List ℕ)) (t : Tally) → Clean (uses_from look ls t)
    → Clean t × AllGood (placed_from look ls t.place)
unfolding uses_from placed_from
sweep-good look [] t c = (c, tt)
sweep-good look (l ∷ ls) t c =
    let r = line_of look l in
    let after = use_after r t in
    let rest = uses_from look ls (next_line after) in
    let more = placed_from look ls (place_on t.place r) in
    bool_cases (end? r)
    (λ q.
    let u = line_clean r t (line-lawful look l) (subst (λ (b : Bool). Clean (cond b after rest)) q c) in (
      u.0,
      subst (λ (b : Bool). AllGood (statements_at t.place r ++ cond b [] more)) (sym q)
          (good-append (statements_at t.place r) [] u.1 tt),
    ))
    (λ q.
    let v = sweep-good look ls (next_line after) (subst (λ (b : Bool). Clean (cond b after rest)) q c) in
    let u = line_clean r t (line-lawful look l) v.0 in (
      u.0,
      subst (λ (b : Bool). AllGood (statements_at t.place r ++ cond b [] more)) (sym q)
          (good-append (statements_at t.place r) more u.1 (subst (λ (p : ℕ). AllGood (placed_from look ls p)) (place-on r t) v.1)),
    ))

-- every statement of a source without a fault is good
placed-good : (s : List ℕ) → verdict_of s ≡ Ok tt → AllGood (placed_of (names_of s) s)
unfolding verdict_of
placed-good s e =
    (sweep-good (names_of s) _ no_tally (verdict-clean (form_of s) (table_of s).tally (uses_of (names_of s) s) e).2).1

-- ---- the call

number-not : (k : Fault) (n : ℕ) → (refusal_number k + upper_bits n) % 256 ≡ 0 → ⊥
unfolding upper_bits
number-not fault.Memory n e = let m = min n 4294967295 in omega (arith, e)
number-not fault.Form n e = let m = min n 4294967295 in omega (arith, e)
number-not fault.Unknown n e = let m = min n 4294967295 in omega (arith, e)
number-not fault.Outside n e = let m = min n 4294967295 in omega (arith, e)
number-not fault.Room n e = let m = min n 4294967295 in omega (arith, e)

-- a reply that tells no refusal is that of no refusal
reply-accepted : (v : Result Unit Refusal) → assemble_reply v % 256 ≡ 0 → v ≡ Ok tt
unfolding assemble_reply
reply-accepted (Ok tt) e = refl
reply-accepted (Err r) e = absurd (number-not r.kind r.line e)

reply-done : (v : Result Unit Refusal) → v ≡ Ok tt → assemble_reply v % 256 ≡ 0
unfolding assemble_reply
reply-done v e = ap (λ (x : Result Unit Refusal). assemble_reply x % 256) e

module _ (m s : List ℕ) where
  v : Result Unit Refusal
  v = assemble_verdict m s

  reply-is : (assemble_call_of m s).reply ≡ assemble_reply v
  unfolding v assemble_call_of
  reply-is = refl

  memory-is : (b : Bool) → is_ok v ≡ b → (assemble_call_of m s).memory ≡ cond b (image_of (placed_of (names_of s) s) m) m
  unfolding v assemble_call_of
  memory-is b q = ap (λ (x : Bool). cond x (image_of (placed_of (names_of s) s) m) m) q

  pub refusal-accepted : assemble_verdict m s ≡ Ok tt → Accepted m s
  unfolding v
  refusal-accepted h = ap (λ (n : ℕ). n % 256) reply-is ∙ reply-done v h

  done : Accepted m s → v ≡ Ok tt
  done h = reply-accepted v (sym (ap (λ (n : ℕ). n % 256) reply-is) ∙ h)

  pub accepted-memory : Accepted m s → (assemble_call_of m s).memory ≡ image_of (placed_of (names_of s) s) m
  accepted-memory h = memory-is true (ap is_ok (done h))

  -- its memory is whole and its source without a fault
  pub accepted-whole : Accepted m s → (length m ≡ 65536) × AllGood (placed_of (names_of s) s)
  unfolding v assemble_verdict
  accepted-whole h =
      let z : v ≡ Ok tt = done h in
      bool_cases (eqb (length m) 65536)
      (λ q. (
        eqb-true (length m) 65536 q,
        placed-good s (ap (λ (b : Bool). cond b (verdict_of s) (Err (refusal fault.Memory 0))) (sym q) ∙ z),
      ))
      (λ q. absurd (refused-not (refusal fault.Memory 0)
      (ap (λ (b : Bool). cond b (verdict_of s) (Err (refusal fault.Memory 0))) (sym q) ∙ z)))

ok-done : (x : Result Unit Refusal) → is_ok x ≡ true → x ≡ Ok tt
ok-done (Ok tt) q = refl
ok-done (Err r) q = let z : ◌≡◌ {A = ℕ} 0 1 = ap (λ (b : Bool). cond b 1 0) q in absurd (omega (arith, z))

pub refused-keeps : RefusedKeeps
refused-keeps m s h =
    bool_cases (is_ok (v m s))
    (λ q. absurd (h (ap (λ (n : ℕ). n % 256) (reply-is m s) ∙ reply-done (v m s) (ok-done (v m s) q)))) (λ q. memory-is m s false q)

pub call-keeps : CallKeeps
call-keeps m s a h =
    bool_cases (is_ok (v m s))
    (λ q. ap (λ (l : List ℕ). get_or l a 0) (memory-is m s true q) ∙ others-kept (placed_of (names_of s) s) m a h)
    (λ q. ap (λ (l : List ℕ). get_or l a 0) (memory-is m s false q))

pub call_length : CallLength
call_length m s =
    bool_cases (is_ok (v m s))
    (λ q. ap (λ (l : List ℕ). length l) (memory-is m s true q) ∙ length_kept (placed_of (names_of s) s) m)
    (λ q. ap (λ (l : List ℕ). length l) (memory-is m s false q))

-- a statement of an accepted source
pub assembled-good : (m s : List ℕ) (x : Placed) (after : List Placed) → Assembles m s x after → Good x
assembled-good m s x after h =
    good-among h.before after x (subst AllGood h.among (accepted-whole m s h.accepted).1)

pub assembled-memory : (m s : List ℕ) (x : Placed) (after : List Placed) (h : Assembles m s x after)
    → (assemble_call_of m s).memory ≡ image_of (h.before ++ (x ∷ after)) m
assembled-memory m s x after h =
    accepted-memory m s h.accepted ∙ ap (λ (xs : List Placed). image_of xs m) h.among

-- Laws of the call: what the sweeps found is the definition's verdict. Assumes nothing.
use mathlib.Core.Path.{◌≡◌, sym, ap, ◌∙◌}
use mathlib.Core.Bool.{Bool, true, false, cond}
use mathlib.Core.List.{List}
use Prim.Native.Nat.{ℕ}
use lib.IntN.{ℤ}
use lib.ListN.{length, take}
use borrow.Author.Tests.{eq-eqb, ne_eqb}
use Rattle.std.specs.Prelude.{Option, Some, None, Result, Err, is_ok}
use Rattle.asm_value.specs.declared.Lack.{Lack}
use Rattle.asm_text.specs.declared.Name.{Name}
use Rattle.asm_text.specs.Text.{look_up, look_up_at}
use Rattle.asm_sweeps.specs.declared.Tally.{Tally}
use Rattle.asm_sweeps.specs.declared.Fault.TheVariants.{Memory, Form}
use Rattle.asm_sweeps.specs.declared.Refusal.{Refusal}
use Rattle.asm_sweeps.specs.Form.{form_of}
use Rattle.asm_sweeps.specs.Places.{Table, table_of}
use Rattle.asm_sweeps.specs.Uses.{uses_of, names_of, refusal, verdict_for, verdict_of}
use Rattle.asm_sweeps.specs.Held.{table_at, Holds}
use Rattle.asm_sweeps.proofs.Names.{look-held}
use Rattle.asm_image.specs.Image.{placed_of, image_of}
use Rattle.asm_call.specs.Call.{assemble_verdict, assemble_call_of}

-- ---- the verdict, by memory's length
pub verdict-short : (m s : List ℕ) → (length m ≡ 65536 → ⊥) → Err (refusal Memory 0) ≡ assemble_verdict m s
unfolding assemble_verdict
verdict-short m s h = sym (ap (λ (b : Bool). cond b (verdict_of s) (Err (refusal Memory 0))) (ne_eqb (length m) 65536 h))

pub verdict-whole : (m s : List ℕ) → length m ≡ 65536 → verdict_of s ≡ assemble_verdict m s
unfolding assemble_verdict
verdict-whole m s h = sym (ap (λ (b : Bool). cond b (verdict_of s) (Err (refusal Memory 0))) (eq-eqb (length m) 65536 h))

-- ---- memory, by the verdict
module _ (m s : List ℕ) (v : Result Unit Refusal) (e : v ≡ assemble_verdict m s) where
  memory-is : (assemble_call_of m s).memory ≡ cond (is_ok v) (image_of (placed_of (names_of s) s) m) m
  unfolding assemble_call_of
  memory-is = sym (ap (λ (x : Result Unit Refusal). cond (is_ok x) (image_of (placed_of (names_of s) s) m) m) e)

  pub memory-kept : is_ok v ≡ false → m ≡ (assemble_call_of m s).memory
  memory-kept h = sym (memory-is ∙ ap (λ (b : Bool). cond b (image_of (placed_of (names_of s) s) m) m) h)

  pub memory-done : is_ok v ≡ true → image_of (placed_of (names_of s) s) m ≡ (assemble_call_of m s).memory
  memory-done h = sym (memory-is ∙ ap (λ (b : Bool). cond b (image_of (placed_of (names_of s) s) m) m) h)

-- ---- the verdict on a source
pub verdict-form : (s : List ℕ) (f : Option ℕ) (n : ℕ) → f ≡ form_of s → f ≡ Some n → Err (refusal Form n) ≡ verdict_of s
unfolding verdict_of verdict_for
verdict-form s f n e h =
    ap (λ (x : Option ℕ). verdict_for x (table_of s).tally (uses_of (names_of s) s)) (sym h ∙ e)

-- the table that the second sweep left
module _ (s : List ℕ) (ms : List Name) (t : Tally) (h : Holds s ms t) (et : table_at s ms t ≡ table_of s) where
  pub names-are : look_up_at s (take t.count ms) ≡ names_of s
  names-are = look-held s ms t h ∙ ap (λ (b : Table). look_up b.names b.values) et

  pub verdict-found : form_of s ≡ None → (u : Tally) → u ≡ uses_of (look_up_at s (take t.count ms)) s
      → (v : Result Unit Refusal) → v ≡ verdict_for None t u → v ≡ verdict_of s
  unfolding verdict_of
  verdict-found hf u eu v ev =
      ev ∙ ap (λ (x : Option ℕ). verdict_for x t u) (sym hf)
      ∙ ap (λ (b : Table). verdict_for (form_of s) b.tally u) et
      ∙ ap (verdict_for (form_of s) (table_of s).tally) (eu ∙ ap (λ (f : List ℕ → Result ℤ Lack). uses_of f s) names-are)

  pub image-found : (m k : List ℕ) → k ≡ image_of (placed_of (look_up_at s (take t.count ms)) s) m
      → k ≡ image_of (placed_of (names_of s) s) m
  image-found m k ek = ek ∙ ap (λ (f : List ℕ → Result ℤ Lack). image_of (placed_of f s) m) names-are

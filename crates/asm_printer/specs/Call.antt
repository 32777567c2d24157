-- The whole answer of the call: its reply and the text that it leaves, for every word, place and length (document 02,
-- §12; document 01, "Who can be turned back"). Assumes nothing.
use Rattle.std.specs.Prelude.{ℕ, ◌*◌, ◌≤◌, ◌≡◌, cond, List, ltb, length, take}
use Rattle.std.proofs.lemmas.List.Edits.{sets}
use Rattle.asm_print.specs.Print.{text_at}

pub record Printed : Type 0 where
  pub reply : ℕ
  pub text : List ℕ

abbrev pub printed : ℕ → List ℕ → Printed
printed r t = record { reply = r; text = t }

-- The word's text stands at the start of the buffer, all other bytes are as they were. The reply: bits 7-0 the refusal
-- (0: none), 31-8 the length of the text. A buffer of under 24 bytes is refused with 22 and left as it was.
unfoldable pub text_call_of : (word place : ℕ) (text : List ℕ) → Printed
text_call_of w p t =
    cond (ltb (length t) 24) (printed 22 t) (printed (256 * length (text_at p w)) (sets t 0 (text_at p w)))

-- In a buffer of 24 bytes or more the whole text stands at the start, and the reply has its length. [call text]
abbrev pub TextStands : Type 0
TextStands =
    (w p : ℕ) (t : List ℕ) → 24 ≤ length t
    → ((text_call_of w p t).reply ≡ 256 * length (text_at p w))
    × (take (length (text_at p w)) (text_call_of w p t).text ≡ text_at p w)

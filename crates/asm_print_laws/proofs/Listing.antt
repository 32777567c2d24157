-- A listing through the assembler's four sweeps. Assumes nothing.
use mathlib.Core.Path.{◌≡◌, refl, ap, ◌∙◌}
use mathlib.Core.Bool.{false}
use mathlib.Core.List.{List, [], ◌∷◌}
use Prim.Native.Nat.{ℕ, suc, ◌+◌, ◌*◌, ◌/◌, ◌%◌, ◌<◌, ◌≤◌}
use native.Mathlib.Omega.{arith}
use lib.IntN.{ℤ, pos}
use lib.ListN.{length, set}
use lib.Seq.{sets}
use borrow.Author.Tests.{le-ltb, ne_eqb}
use Rattle.std.specs.Prelude.{None, Result, Ok}
use Rattle.asm_value.specs.declared.Lack.{Lack}
use Rattle.text_lines.specs.Lines as lines
use Rattle.text_lines.specs.Lines.{lines_of}
use Rattle.text_lines.proofs.Laws.{Plain, AllPlain, lines-text}
use Rattle.asm_text.specs.Text.{ascii, look_up}
use Rattle.asm_words.specs.declared.Keyword.TheVariants as key
use Rattle.asm_words.specs.declared.Valued.TheVariants as val
use Rattle.asm_fits.specs.Fits.{Fit}
use Rattle.asm_line.specs.declared.Statement.{Statement}
use Rattle.asm_line.specs.declared.Statement.TheVariants.{Org, End}
use Rattle.asm_line.specs.Statement.{with_value, statement_with, statement_of}
use Rattle.asm_line.specs.Line.{line_with, line_of}
use Rattle.asm_write.specs.declared.Layout.{Layout}
use Rattle.asm_write.specs.declared.Layout.TheVariants.{Bytes}
use Rattle.asm_write.specs.Written.{
  number_of,
  layout_of,
  size_of,
  misplaced?,
  placed,
  used_of,
  bytes_for,
  bytes_with,
  bytes_of,
  onward,
  next_of,
}
use Rattle.asm_sweeps.specs.declared.Tally.{Tally}
use Rattle.asm_sweeps.specs.Form.{no_names, form_from}
use Rattle.asm_sweeps.specs.Places.{Table, table_from}
use Rattle.asm_sweeps.specs.Uses.{place_after, uses_from}
use Rattle.asm_image.specs.Image.{placed_from, image_of}
use Rattle.asm_print.specs.Print.{hex_text, origin_text}
use Rattle.asm_print_laws.specs.Theorems.{listing_of, word_bytes, Words}
use Rattle.asm_print_laws.proofs.Pieces.{mnemonics}
use Rattle.asm_print_laws.proofs.Statements.{one-hex, line_read}
use Rattle.asm_print_laws.proofs.Lines.{hex-plain}
use Rattle.asm_print_laws.proofs.Formats.{text_says, text-plain}

-- ---- the first line and the last
abbrev pub ending : List ℕ
ending = ascii "END"

pub origin-reads : (look : List ℕ → Result ℤ Lack) (p : ℕ) → p < 65536 → line_of look (origin_text p) ≡ line_with 0 None (Org (Ok (pos p)))
unfolding origin_text statement_of statement_with with_value
origin-reads look p h =
    (line_read look (ascii "ORG") (32 ∷ hex_text 4 p) (key.Value val.Org) (Org (Ok (pos p))) mnemonics.org (omega arith)
    (λ s i b. one-hex look s i val.Org p h b)).0

pub end_reads : (look : List ℕ → Result ℤ Lack) → line_of look ending ≡ line_with 0 None End
unfolding statement_of statement_with
end_reads look =
    (line_read look ending [] key.End End mnemonics.end (omega arith) (λ s i b. record { place = i; is = refl; here = b })).0

-- ---- the lines
listing-plain : (p : ℕ) (ws : List ℕ) → Words ws → AllPlain (listing_of p ws)
unfolding listing_of
listing-plain p [] h = ((omega arith, (omega arith, (omega arith, tt))), tt)
listing-plain p (w ∷ ws) h = (text-plain p w h.0, listing-plain (p + 2) ws h.1)

origin-plain : (p : ℕ) → Plain (origin_text p)
unfolding origin_text
origin-plain p = (omega arith, (omega arith, (omega arith, (omega arith, hex-plain 4 p))))

pub source_lines : (p : ℕ) (ws : List ℕ) → Words ws → lines_of (lines.text_of (origin_text p ∷ listing_of p ws))
    ≡ origin_text p ∷ listing_of p ws
source_lines p ws h = lines-text (origin_text p ∷ listing_of p ws) (origin-plain p, listing-plain p ws h)

-- ---- the first sweep
form-listing : (k p : ℕ) (ws : List ℕ) → Words ws → form_from k (listing_of p ws) ≡ None
unfolding form_from listing_of layout_of
form-listing k p [] h = rw (end_reads no_names)
form-listing k p (w ∷ ws) h =
    let x = text_says no_names p w h.0 in
    rw (x.reads, x.layout) (form-listing (k + 1) (p + 2) ws h.1)

pub form-none : (p : ℕ) (ws : List ℕ) → p < 65536 → Words ws → form_from 1 (origin_text p ∷ listing_of p ws) ≡ None
unfolding form_from layout_of
form-none p ws g h = rw (origin-reads no_names p g) (form-listing 2 p ws h)

-- ---- the second sweep

-- no line is at fault
abbrev pub Faultless : Tally → Type 0
Faultless t = (t.unknown ≡ None) × (t.outside ≡ None)

table-listing : (p : ℕ) (ws : List ℕ) (b : Table) → Words ws → Faultless b.tally → Faultless (table_from (listing_of p ws) b).tally
unfolding table_from listing_of layout_of next_of
table-listing p [] b h f = rw (end_reads (look_up b.names b.values)) f
table-listing p (w ∷ ws) b h f =
    let x = text_says (look_up b.names b.values) p w h.0 in
    rw (x.reads, x.layout) (table-listing (p + 2) ws _ h.1 f)

pub table-faultless : (p : ℕ) (ws : List ℕ) (b : Table) → p < 65536 → Words ws → Faultless b.tally
    → Faultless (table_from (origin_text p ∷ listing_of p ws) b).tally
unfolding table_from layout_of next_of
table-faultless p ws b g h f = rw (origin-reads (look_up b.names b.values) p g) (table-listing p ws _ h f)

-- ---- a word at its place

-- where it may stand
module _ (p : ℕ) (even : p % 2 ≡ 0) (room : p + 2 ≤ 65536) where
  well-placed : misplaced? 2 p ≡ false
  unfolding misplaced?
  well-placed = rw (ne_eqb (p % 2) 1 (λ q. omega arith), le-ltb 65536 (p + 2) room)

  onward-two : onward p 2 ≡ p + 2
  unfolding onward
  onward-two = omega arith

  used-word : (x : Statement) (w : ℕ) → layout_of x ≡ Bytes 2 → number_of p x ≡ Ok w → used_of p x ≡ Ok w
  unfolding used_of
  used-word x w l n = ap (λ (y : Layout). placed (size_of y) p (number_of p x)) l ∙ ap (placed 2 p) n ∙ rw well-placed

  bytes_word : (x : Statement) (w : ℕ) → layout_of x ≡ Bytes 2 → number_of p x ≡ Ok w → bytes_of p x ≡ w % 256 ∷ w / 256 ∷ []
  unfolding bytes_for
  bytes_word x w l n =
      ap (λ (f : Fit). bytes_with (size_of (layout_of x)) f) (used-word x w l n) ∙ ap (λ (y : Layout). bytes_with (size_of y) (Ok w)) l

-- ---- the third sweep
uses-listing : (look : List ℕ → Result ℤ Lack) (p : ℕ) (ws : List ℕ) (t : Tally) → p % 2 ≡ 0 → p + 2 * length ws ≤ 65536 → Words ws
    → t.place ≡ p → Faultless t → Faultless (uses_from look (listing_of p ws) t)
unfolding uses_from listing_of layout_of next_of used_of number_of misplaced? place_after
uses-listing look p [] t even room h e f = rw (end_reads look) f
uses-listing look p (w ∷ ws) t even room h e f =
    let x = text_says look p w h.0 in
    let u : used_of t.place x.statement ≡ Ok w =
    ap (λ (q : ℕ). used_of q x.statement) e ∙ used-word p even (omega arith) x.statement w x.layout x.number in
    let o : onward t.place 2 ≡ p + 2 = ap (λ (q : ℕ). onward q 2) e ∙ onward-two p even (omega arith) in
    rw (x.reads, u, x.layout) (uses-listing look (p + 2) ws _ (omega arith) (omega arith) h.1 o f)

pub uses-faultless : (look : List ℕ → Result ℤ Lack) (p : ℕ) (ws : List ℕ) (t : Tally) → p < 65536 → p % 2 ≡ 0 → p + 2 * length ws ≤ 65536
    → Words ws → Faultless t → Faultless (uses_from look (origin_text p ∷ listing_of p ws) t)
unfolding uses_from layout_of next_of used_of number_of misplaced? place_after
uses-faultless look p ws t g even room h f = rw (origin-reads look p g) (uses-listing look p ws _ even room h refl f)

-- ---- the fourth sweep
image-listing : (look : List ℕ → Result ℤ Lack) (p : ℕ) (ws m : List ℕ) → p % 2 ≡ 0 → p + 2 * length ws ≤ 65536 → Words ws
    → image_of (placed_from look (listing_of p ws) p) m ≡ sets m p (word_bytes ws)
unfolding placed_from listing_of image_of layout_of next_of used_of number_of misplaced? bytes_for place_after
image-listing look p [] m even room h = rw (end_reads look)
image-listing look p (w ∷ ws) m even room h =
    let x = text_says look p w h.0 in
    let o : onward p 2 ≡ p + 2 = onward-two p even (omega arith) in
    let b = bytes_word p even (omega arith) x.statement w x.layout x.number in
    let y = set (set m p (w % 256)) (suc p) (w / 256) in
    let e : p + 2 ≡ suc (suc p) = omega arith in
    rw (x.reads, x.layout, o)
    (ap (λ (bs : List ℕ). image_of (placed_from look (listing_of (p + 2) ws) (p + 2)) (sets m p bs)) b
    ∙ image-listing look (p + 2) ws y (omega arith) (omega arith) h.1
    ∙ ap (λ (q : ℕ). sets y q (word_bytes ws)) e)

pub image-source : (look : List ℕ → Result ℤ Lack) (p : ℕ) (ws m : List ℕ) → p < 65536 → p % 2 ≡ 0 → p + 2 * length ws ≤ 65536 → Words ws
    → image_of (placed_from look (origin_text p ∷ listing_of p ws) 0) m ≡ sets m p (word_bytes ws)
unfolding placed_from image_of layout_of next_of used_of number_of misplaced? bytes_for place_after
image-source look p ws m g even room h = rw (origin-reads look p g) (image-listing look p ws m even room h)

-- Texts worked out: three bytes at #0000 written, read, judged and loaded. Assumes nothing.
use Prim.Native.Nat.{ℕ}
use mathlib.Core.Path.{◌≡◌, refl}
use mathlib.Core.List.{List, [], ◌∷◌, ◌++◌}
use Rattle.std.specs.Prelude.{Ok}
use Rattle.text_lines.specs.Lines.{lines_of}
use Rattle.srec.specs.declared.Refusal.TheVariants.{Form}
use Rattle.srec.specs.Load.{verdict, verdict_of, verdict_from, stored_of, memory_after}
use Rattle.srec.specs.Digits.{digits_of, is_digit, digit_of, all_digits, pairs_of, sum_of}
use Rattle.srec.specs.Record.{bytes_of, shaped_of, fault_of}
use Rattle.srec.specs.Write.{line_of, data_lines, span_text}

-- `S1060000010203F3`, `S9030100FB`
first : List ℕ
first = 83 ∷ 49 ∷ 48 ∷ 54 ∷ 48 ∷ 48 ∷ 48 ∷ 48 ∷ 48 ∷ 49 ∷ 48 ∷ 50 ∷ 48 ∷ 51 ∷ 70 ∷ 51 ∷ []

second : List ℕ
second = 83 ∷ 57 ∷ 48 ∷ 51 ∷ 48 ∷ 49 ∷ 48 ∷ 48 ∷ 70 ∷ 66 ∷ []

later : List ℕ
later = 83 ∷ 49 ∷ 48 ∷ 52 ∷ 48 ∷ 48 ∷ 48 ∷ 48 ∷ 48 ∷ 57 ∷ 70 ∷ 50 ∷ []

text-of-three : span_text (1 ∷ 2 ∷ 3 ∷ 4 ∷ []) 0 3 256 ≡ first ++ (10 ∷ second) ++ (10 ∷ [])
unfolding first second line_of data_lines digits_of sum_of Rattle.text_lines.specs.Lines.text_of
text-of-three = refl

-- CR LF, and no ending of the last line
accepted : verdict_of (first ++ (13 ∷ 10 ∷ second)) ≡ Ok tt
unfolding first second lines_of verdict_from fault_of shaped_of bytes_of pairs_of digit_of is_digit all_digits sum_of
accepted = refl

loaded : memory_after (lines_of (first ++ (13 ∷ 10 ∷ second))) (9 ∷ 9 ∷ 9 ∷ 9 ∷ []) ≡ 1 ∷ 2 ∷ 3 ∷ 9 ∷ []
unfolding first second lines_of memory_after stored_of bytes_of pairs_of digit_of
loaded = refl

-- S9 not last is a fault of its own line, before its checksum
not_last : verdict_of (second ++ (10 ∷ first)) ≡ verdict Form 1
unfolding first second lines_of verdict_from fault_of shaped_of bytes_of pairs_of digit_of is_digit all_digits sum_of
not_last = refl

-- no S9: the line after the last
missing : verdict_of (first ++ (10 ∷ [])) ≡ verdict Form 2
unfolding first lines_of verdict_from fault_of shaped_of bytes_of pairs_of digit_of is_digit all_digits sum_of
missing = refl

-- a later line wins: `S104000009F2` after the first
wins : memory_after (lines_of (first ++ (10 ∷ later))) (9 ∷ 9 ∷ 9 ∷ 9 ∷ []) ≡ 9 ∷ 2 ∷ 3 ∷ 9 ∷ []
unfolding first later lines_of memory_after stored_of bytes_of pairs_of digit_of
wins = refl

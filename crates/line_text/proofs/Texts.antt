-- The printed line from its parts. Assumes nothing.
use Prim.Native.Nat.{ℕ, ◌+◌}
use mathlib.Core.Path.{◌≡◌, refl, ap, ◌∙◌}
use mathlib.Core.Bool.{Bool, true, false, cond}
use mathlib.Core.List.{List, [], ◌∷◌, ◌++◌, append_assoc}
use lib.ListN.{get_or}
use mir.Syntax.{w8}
use mir.Val.{Fits, bool_byte}
use mir.Facts.{Fits-lit}
use Rattle.machine.specs.declared.Machine.{Machine}
use Rattle.machine.specs.declared.Reason.TheVariants.{Done, Halted}
use Rattle.machine.specs.State.{state_of}
use Rattle.machine.specs.Run.{ran, reason_number}
use Rattle.text.specs.Text.{hex_of, decimal_of}
use Rattle.line_text.specs.Line.{spaced, line_of}
use Rattle.line_text.specs.Parts.{words_text, machine_text}

-- ---- parts of a line

flat : (a b c d e f g h : List ℕ) → a ++ b ++ c ++ d ++ (e ++ f ++ g ++ h) ≡ a ++ b ++ c ++ d ++ e ++ f ++ g ++ h
flat a b c d e f g h = simp append_assoc

line : (r n a b c d e f g h i j k l m : List ℕ)
    → (((r ++ n) ++ (a ++ b ++ c ++ d ++ e ++ f ++ g ++ h ++ i ++ j ++ k)) ++ l) ++ m
    ≡ r ++ n ++ a ++ b ++ c ++ d ++ e ++ f ++ g ++ h ++ i ++ j ++ k ++ l ++ m
line r n a b c d e f g h i j k l m = simp append_assoc

-- register i of a machine, as it is printed
abbrev field : Machine → ℕ → List ℕ
field m i = spaced (hex_of 4 (get_or m.regs i 0))

pub machine-parts : (m : Machine)
    → words_text (get_or m.regs 0 0) (get_or m.regs 1 0) (get_or m.regs 2 0) (get_or m.regs 3 0)
    ++ words_text (get_or m.regs 4 0) (get_or m.regs 5 0) (get_or m.regs 6 0) (get_or m.regs 7 0)
    ++ spaced (hex_of 4 m.rest.psw)
    ++ spaced (hex_of 2 m.rest.cex)
    ++ spaced (hex_of 8 m.rest.lines)
    ≡ machine_text m
unfolding machine_text
machine-parts m =
    ap (λ (t : List ℕ). t ++ spaced (hex_of 4 m.rest.psw) ++ spaced (hex_of 2 m.rest.cex) ++ spaced (hex_of 8 m.rest.lines))
    (flat (field m 0) (field m 1) (field m 2) (field m 3) (field m 4) (field m 5) (field m 6) (field m 7))

reason-text : (b : Bool) → (48 + bool_byte b) ∷ [] ≡ decimal_of 6 (reason_number (cond b Halted Done))
unfolding decimal_of
reason-text true = refl
reason-text false = refl

pub reason-fits : (b : Bool) → Fits w8 (48 + bool_byte b)
reason-fits true = Fits-lit tt
reason-fits false = Fits-lit tt

pub line-parts : (m : Machine) (steps deepest : ℕ) (mem : List ℕ)
    → ((48 + bool_byte m.rest.halted) ∷ []) ++ spaced (decimal_of 6 steps) ++ machine_text m ++ spaced (decimal_of 6 deepest) ++ (10 ∷ [])
    ≡ line_of (ran (state_of m mem) steps) deepest
unfolding line_of machine_text
line-parts m steps deepest mem =
    ap (λ (t : List ℕ). t ++ spaced (decimal_of 6 steps) ++ machine_text m ++ spaced (decimal_of 6 deepest) ++ (10 ∷ []))
    (reason-text m.rest.halted)
    ∙ line (decimal_of 6 (reason_number (cond m.rest.halted Halted Done))) (spaced (decimal_of 6 steps))
    (field m 0) (field m 1) (field m 2) (field m 3) (field m 4) (field m 5) (field m 6) (field m 7)
    (spaced (hex_of 4 m.rest.psw)) (spaced (hex_of 2 m.rest.cex)) (spaced (hex_of 8 m.rest.lines))
    (spaced (decimal_of 6 deepest)) (10 ∷ [])

-- Conditional execution (document 01, "CEX"). CEX state: false count bits 2-0, true count 5-3, condition held bit 6.
-- Assumes nothing.
use Rattle.std.specs.Prelude.{ℕ, ◌+◌, ◌*◌, ◌-◌, ◌/◌, ◌%◌, Bool, true, false, cond, not, ◌&&◌, ◌||◌, [], ◌∷◌, eqb, ltb, get_or}
use Rattle.std.specs.Bool.{beq}
use Rattle.word.specs.Width.{bit}
use Rattle.word.specs.Psw.{bit_of, carry?, zero?, negative?, overflow?}

abbrev pub false_count : ℕ → ℕ
false_count x = x % 8

abbrev pub true_count : ℕ → ℕ
true_count x = x / 8 % 8

abbrev pub held? : ℕ → Bool
held? x = bit_of 6 x

-- N = V: the last comparison was "greater or equal". [003 tables 14, 24]
abbrev pub at_least? : ℕ → Bool
at_least? p = beq (negative? p) (overflow? p)

-- the conditions by number, 0 to 15. [003 tables 14, 24]
unfoldable pub condition_of : (n p : ℕ) → Bool
condition_of n p =
    get_or
    (zero? p
    ∷ not (zero? p)
    ∷ carry? p
    ∷ not (carry? p)
    ∷ negative? p
    ∷ not (negative? p)
    ∷ overflow? p
    ∷ not (overflow? p)
    ∷ (carry? p && not (zero? p))
    ∷ (not (carry? p) || zero? p)
    ∷ at_least? p
    ∷ not (at_least? p)
    ∷ (not (zero? p) && at_least? p)
    ∷ (zero? p || not (at_least? p))
    ∷ true
    ∷ [])
    n
    false

-- CEX loads both counts and the condition's outcome. [01 CEX]
abbrev pub loaded_cex : (n t f p : ℕ) → ℕ
loaded_cex n t f p = f + 8 * t + 64 * bit (condition_of n p)

-- Does the block skip the next instruction? True-count instructions come first, then false-count ones; the part not
-- chosen is skipped. [01 CEX]
abbrev pub skips? : ℕ → Bool
skips? x =
    cond (eqb (true_count x) 0)
    (ltb 0 (false_count x) && held? x)
    (not (held? x))

-- Each instruction covered, skipped or not, lowers its count by one before it acts. [01 CEX]
abbrev pub lowered : ℕ → ℕ
lowered x =
    cond (eqb (true_count x) 0)
    (cond (eqb (false_count x) 0) x (x - 1))
    (x - 8)

-- Which values fit which place, and the number that then stands in the word (document 02, §12; 003 chapters 4, 6 and
-- 14). Assumes nothing.
use Rattle.std.specs.Prelude.{ℕ, ◌+◌, ◌-◌, ◌/◌, ◌%◌, Bool, cond, ltb, eqb, ℤ, pos, negsuc, Result, Ok, Err}
use Rattle.asm_value.specs.declared.Lack.{Lack}
use Rattle.asm_value.specs.declared.Lack.TheVariants.{Outside}

-- a number for a field, or why there is none
abbrev pub Fit : Type 0
Fit = Result ℕ Lack

infixl 10 ◌>>=◌
-- f of what there is; an unknown name stays 18, a value that has no number 19. [02 §12]
abbrev pub ◌>>=◌ : {A B : Type 0} → Result A Lack → (A → Result B Lack) → Result B Lack
Ok x >>= f = f x
Err e >>= f = Err e

-- z modulo 65,536: its 16 bits. [02 §12]
unfoldable pub residue_of : ℤ → ℕ
residue_of (pos n) = n % 65536
residue_of (negsuc n) = 65535 - n % 65536

-- z is from -below to limit - 1. [02 §12]
unfoldable pub within_of : (below limit : ℕ) → ℤ → Bool
within_of below limit (pos n) = ltb n limit
within_of below limit (negsuc n) = ltb n below

-- the 16 bits of a value from -below to limit - 1. "does not fit its place". [02 §12]
unfoldable pub fit_of : (below limit : ℕ) → Result ℤ Lack → Fit
fit_of below limit v = do
  z ← v
  cond (within_of below limit z) (Ok (residue_of z)) (Err Outside)

-- "a word −32,768 to 65,535". [02 §12]
abbrev pub word_fit : Result ℤ Lack → Fit
word_fit = fit_of 32768 65536

-- "a byte −128 to 255". [02 §12]
abbrev pub byte_fit : Result ℤ Lack → Fit
byte_fit v = do
  n ← fit_of 128 256 v
  Ok (n % 256)

-- SETPRI and CEX counts below 8, SVC vectors below 16. [003 14]
abbrev pub count_fit : (limit : ℕ) → Result ℤ Lack → Fit
count_fit limit = fit_of 0 limit

-- LDR and STR: an offset from -64 to 63, in 7 bits. [003 14]
abbrev pub offset_fit : Result ℤ Lack → Fit
offset_fit v = do
  n ← fit_of 64 64 v
  Ok (n % 128)

-- MOVL, MOVLZ, MOVLS (op 0, 1, 2) and MOVH (op 3): a number is the byte itself; of a value in which a name stands, a
-- word, "the lower 8-bits of Value for MOVL, MOVLZ, and MOVLS and the higher 8-bits for MOVH". [02 §12; 003 6]
abbrev pub word_byte : (op : ℕ) → Result ℤ Lack → Fit
word_byte op v = do
  n ← word_fit v
  Ok (cond (eqb op 3) (n / 256) (n % 256))

abbrev pub immediate_fit : (op : ℕ) (number : Bool) → Result ℤ Lack → Fit
immediate_fit op number v = cond number (byte_fit v) (word_byte op v)

-- The constants of ADD to BIS by their fields: 0, 1, 2, 4, 8, 16, 32 and -1. [003 14]
unfoldable pub constant_number : ℤ → Fit
constant_number (pos n) =
    cond (ltb n 3) (Ok n)
    (cond (eqb n 4) (Ok 3)
    (cond (eqb n 8) (Ok 4)
    (cond (eqb n 16) (Ok 5)
    (cond (eqb n 32) (Ok 6)
    (Err Outside)))))
constant_number (negsuc n) = cond (eqb n 0) (Ok 7) (Err Outside)

abbrev pub constant_fit : Result ℤ Lack → Fit
constant_fit v = v >>= constant_number

-- the way from the place after an instruction at p to the target n, modulo 65,536. "offsets wrap". [02 §12; 003 6]
unfoldable pub way_of : (p n : ℕ) → ℕ
way_of p n = (n + 65536 - (p + 2) % 65536) % 65536

-- A way of d bytes as an offset in words, in the 2 × half numbers that the format holds: even, and less than half up or
-- at most half down. [02 §12; 003 6, 14]
unfoldable pub steps_of : (half d : ℕ) → Fit
steps_of half d =
    cond (eqb (d % 2) 0)
    (cond (ltb (d / 2) half) (Ok (d / 2))
    (cond (ltb (d / 2) (32768 - half)) (Err Outside) (Ok (d / 2 - (32768 - half - half)))))
    (Err Outside)

-- BL (half 4,096) and the other branches (half 512): the target is a word. "branches naming their target". [02 §12]
abbrev pub branch_fit : (half p : ℕ) → Result ℤ Lack → Fit
branch_fit half p v = do
  n ← word_fit v
  steps_of half (way_of p n)

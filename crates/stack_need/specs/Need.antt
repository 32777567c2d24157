-- Stack bytes that a paper will need (document 02, §9): from the 64 bytes of vectors, a byte of devices, eight uses
-- and a priority, the largest total over all 256 choices of devices.
-- Assumes nothing.
use Rattle.std.specs.Prelude.{ℕ, zero, suc, ◌+◌, ◌*◌, ◌<◌, Bool, true, cond, not, ◌&&◌, ◌||◌, List, [], ◌∷◌, ◌++◌, ◌≡◌, eqb, ltb, length}
use Rattle.word.specs.Psw.{bit_of, current}
use Rattle.machine.specs.Record.{two_at}
use Rattle.machine.specs.Depth.{greater}

-- "bit d = device d". [02 §9]
abbrev pub given? : (devices d : ℕ) → Bool
given? devices d = bit_of d devices

-- The priority of device d in its vector: bits 7-5 of the PSW at 4 × d of the 64 bytes. [02 §9; 01 Entry]
unfoldable pub level_of : (vectors : List ℕ) → ℕ → ℕ
level_of vectors d = current (two_at vectors (4 * d))

-- "eight handlers' own stack uses (16 bits each, device 0 first ..)". [02 §9]
unfoldable pub use_of : (uses : List ℕ) → ℕ → ℕ
use_of uses d = two_at uses (2 * d)

-- "each costing 8 plus its own use". [02 §9]
abbrev pub cost_of : (uses : List ℕ) → ℕ → ℕ
cost_of uses d = 8 + use_of uses d

-- The total of a choice: a list of devices. [02 §9]
unfoldable pub total : (uses : List ℕ) → List ℕ → ℕ
total uses [] = 0
total uses (d ∷ c) = cost_of uses d + total uses c

-- No device of the choice has the level l. [02 §9]
unfoldable pub free? : (vectors : List ℕ) (l : ℕ) → List ℕ → Bool
free? vectors l [] = true
free? vectors l (d ∷ c) = not (eqb (level_of vectors d) l) && free? vectors l c

-- All choices among the devices below n, each put before c; `choices 8 []` has the 256. [02 §9]
unfoldable pub choices : ℕ → List ℕ → List (List ℕ)
choices zero c = c ∷ []
choices (suc d) c = choices d c ++ choices d (d ∷ c)

module _ (vectors : List ℕ) (devices : ℕ) (uses : List ℕ) where
  -- "choices of these devices with strictly rising vector priorities above p": given devices, above p, no two of one
  -- priority, so that some order of them rises strictly. [02 §9]
  unfoldable pub allowed? : ℕ → List ℕ → Bool
  allowed? p [] = true
  allowed? p (d ∷ c) =
      given? devices d && ltb p (level_of vectors d) && free? vectors (level_of vectors d) c && allowed? p c

  -- The largest total of those that are allowed; the empty choice is among them and costs 0. [02 §9]
  unfoldable pub largest : ℕ → List (List ℕ) → ℕ
  largest p [] = 0
  largest p (c ∷ cs) = greater (cond (allowed? p c) (total uses c) 0) (largest p cs)

  -- "the largest total over choices of these devices". [02 §9]
  unfoldable pub need_of : ℕ → ℕ
  need_of p = largest p (choices 8 [])

  -- What code computes: the dearest of the given devices below n that have the level l, and the sum of these over the
  -- levels above p up to n. [02 §9]
  unfoldable pub dearest : (n l : ℕ) → ℕ
  dearest zero l = 0
  dearest (suc d) l =
      cond (given? devices d && eqb (level_of vectors d) l) (greater (dearest d l) (cost_of uses d)) (dearest d l)

  unfoldable pub sum_above : (n p : ℕ) → ℕ
  sum_above zero p = 0
  sum_above (suc l) p = cond (ltb p (suc l)) (dearest 8 (suc l)) 0 + sum_above l p

-- The same choices in the order in which handlers nest: given devices whose levels rise strictly, the first above p.
-- [02 §9]
module _ (vectors : List ℕ) (devices : ℕ) where
  abbrev pub Rises : ℕ → List ℕ → Type 0
  Rises p [] = Unit {0}
  Rises p (d ∷ c) =
      (d < 8) × (given? devices d ≡ true) × (p < level_of vectors d) × Rises (level_of vectors d) c

-- "16 when a use is above 1,024, p above 7 or a buffer of another length": any of the eight, given or not. [02 §9]
unfoldable pub uses_fit : List ℕ → ℕ → Bool
uses_fit uses zero = true
uses_fit uses (suc d) = not (ltb 1024 (two_at uses (2 * d))) && uses_fit uses d

unfoldable pub need_refused? : (vectors uses : List ℕ) (p : ℕ) → Bool
need_refused? vectors uses p =
    not (eqb (length vectors) 64) || not (eqb (length uses) 16) || ltb 7 p || not (uses_fit uses 8)

-- The reply as one number: bits 7-0 the refusal (0: none), 31-8 the bytes. [02 §9]
unfoldable pub need_reply : (vectors : List ℕ) (devices : ℕ) (uses : List ℕ) (p : ℕ) → ℕ
need_reply vectors devices uses p =
    cond (need_refused? vectors uses p) 16 (256 * need_of vectors devices uses p)

-- The log as bytes: eight a record, from the start, the rest as it was. Records stored one behind the other are one run of stores, and what
-- lies behind a run of stores is not touched. Assumes nothing.
use Prim.Native.Nat.{ℕ, zero, suc, ◌+◌, ◌-◌, ◌*◌, ◌<◌, ◌≤◌}
use native.Mathlib.Omega.{arith}
use mathlib.Core.List.{List, [], ◌∷◌, ◌++◌}
use mathlib.Core.Path.{◌≡◌, refl, sym, ap, ◌∙◌}
use lib.ListN.{length, get_or, drop, get_or-append}
use lib.Seq.{sets, sets-eq, get_or-append-add, get_or-drop}
pub use Rattle.stores.proofs.Laws.{sets-append}
use Rattle.machine.specs.Memory.{byte_at}
use Rattle.machine.specs.Log.{Shown, shown_bytes, log_bytes}

pub log-length : (xs : List Shown) → length (log_bytes xs) ≡ 8 * length xs
unfolding log_bytes
log-length [] = omega arith
log-length (x ∷ xs) = let h = log-length xs in omega arith

pub log-append : (xs ys : List Shown) → log_bytes (xs ++ ys) ≡ log_bytes xs ++ log_bytes ys
unfolding log_bytes
log-append [] ys = refl
log-append (x ∷ xs) ys = ap (λ l. shown_bytes x ++ l) (log-append xs ys)

-- ---- the log that a run leaves

-- records stored behind those that the log has
pub log-stored : (log : List ℕ) (xs ys : List Shown)
    → sets (sets log 0 (log_bytes xs)) (8 * length xs) (log_bytes ys) ≡ sets log 0 (log_bytes (xs ++ ys))
log-stored log xs ys =
    let l = log-length xs in
    let e : 8 * length xs ≡ 0 + length (log_bytes xs) = omega arith in
    sym (ap (sets log 0) (log-append xs ys)
    ∙ sets-append log 0 (log_bytes xs) (log_bytes ys)
    ∙ ap (λ n. sets (sets log 0 (log_bytes xs)) n (log_bytes ys)) (sym e))

module _ (log : List ℕ) (xs : List Shown) (fits : 8 * length xs ≤ length log) where
  log_is : sets log 0 (log_bytes xs) ≡ log_bytes xs ++ drop (0 + length (log_bytes xs)) log
  log_is = let l = log-length xs in sets-eq (log_bytes xs) log 0 (omega arith)

  -- bytes past the last record keep what they held
  pub log-tail : (i : ℕ) → 8 * length xs ≤ i → byte_at (sets log 0 (log_bytes xs)) i ≡ byte_at log i
  log-tail i h =
      let l = log-length xs in
      let j = i - length (log_bytes xs) in
      let e : length (log_bytes xs) + j ≡ i = omega arith in
      let d : 0 + length (log_bytes xs) + j ≡ i = omega arith in
      ap (λ m. byte_at m i) log_is
      ∙ ap (λ n. byte_at (log_bytes xs ++ drop (0 + length (log_bytes xs)) log) n) (sym e)
      ∙ get_or-append-add (log_bytes xs) (drop (0 + length (log_bytes xs)) log) j 0
      ∙ get_or-drop (0 + length (log_bytes xs)) log j 0
      ∙ ap (byte_at log) d

-- byte i of record k of what stands before a tail
record-byte : (xs : List Shown) (tail : List ℕ) (x0 : Shown) (k i : ℕ) → k < length xs → i < 8
    → byte_at (log_bytes xs ++ tail) (8 * k + i) ≡ byte_at (shown_bytes (get_or xs k x0)) i
unfolding log_bytes
record-byte [] tail x0 k i h l = absurd (omega arith)
record-byte (x ∷ xs) tail x0 zero i h l =
    let e : 8 * 0 + i ≡ i = omega arith in
    ap (λ n. byte_at (shown_bytes x ++ (log_bytes xs ++ tail)) n) e ∙ get_or-append (shown_bytes x) (log_bytes xs ++ tail) 0 i l
record-byte (x ∷ xs) tail x0 (suc k) i h l =
    let e : 8 * suc k + i ≡ 8 + (8 * k + i) = omega arith in
    ap (λ n. byte_at (shown_bytes x ++ (log_bytes xs ++ tail)) n) e
    ∙ get_or-append-add (shown_bytes x) (log_bytes xs ++ tail) (8 * k + i) 0
    ∙ record-byte xs tail x0 k i (omega arith) l

-- record k stands at bytes 8 × k to 8 × k + 7
pub log-record : (log : List ℕ) (xs : List Shown) → 8 * length xs ≤ length log → (x0 : Shown) (k i : ℕ) → k < length xs → i < 8
    → byte_at (sets log 0 (log_bytes xs)) (8 * k + i) ≡ byte_at (shown_bytes (get_or xs k x0)) i
log-record log xs f x0 k i h l =
    ap (λ m. byte_at m (8 * k + i)) (log_is log xs f)
    ∙ record-byte xs (drop (0 + length (log_bytes xs)) log) x0 k i h l

-- The first byte says what a finding tells: whether there is one, and which; and whether a byte has either of two properties. Assumes
-- nothing.
use Rattle.std.proofs.Common.{◌≡◌, ℕ, ◌≤◌, ◌<◌, Bool, true, false, cond, ◌||◌, ltb, List, [], ◌∷◌, length, Some, None}
use Rattle.std.proofs.Common.{refl, sym, ap, ◌∙◌, subst, arith}
use Rattle.std.specs.Option.{is_some}
use Rattle.machine.specs.Memory.{byte_at}
use Rattle.machine.specs.Devices.{device?}
use Rattle.machine_laws.proofs.Cases.{bool_cases, lt_of, ge-of, eq_of}
use Rattle.soundness.specs.Findings.{some?, first_of}
use Rattle.soundness.proofs.Writers.{past}
use Rattle.writers.specs.First.{first_in, foreign_in}

-- there is one exactly if one of the bytes has the property, and it then is the one that is told
pub first_is : (p : ℕ → Bool) (l : List ℕ) → first_in p l ≡ cond (some? p l) (Some (first_of p l)) None
first_is p [] = refl
first_is p (a ∷ l) = by-test (p a) (first_is p l)
  where
    by-test : (b : Bool) → first_in p l ≡ cond (some? p l) (Some (first_of p l)) None
        → cond b (Some a) (first_in p l) ≡ cond (b || some? p l) (Some (cond b a (first_of p l))) None
    by-test true rest = refl
    by-test false rest = rest

-- whether there is one
pub is_found : (p : ℕ → Bool) (l : List ℕ) → is_some (first_in p l) ≡ some? p l
is_found p l = ap is_some (first_is p l) ∙ by-test (some? p l)
  where
    by-test : (b : Bool) → is_some (cond b (Some (first_of p l)) None) ≡ b
    by-test true = refl
    by-test false = refl

-- what has the property lies within memory
pub foreign-within : (w : List ℕ) → length w ≡ 65536 → (a : ℕ) → foreign_in w a ≡ true → a < 65536
foreign-within w size a e =
    bool_cases (ltb a 65536)
    (λ q. lt_of q)
    (λ q.
    let h : 65536 ≤ a = ge-of q in
    let z = past w a (subst (λ (k : ℕ). k ≤ a) (sym size) h) in
    let two : byte_at w a ≡ 2 = eq_of e in
    absurd (omega (arith, z, two)))

pub device-within : (a : ℕ) → device? a ≡ true → a < 65536
device-within a e = let h : a < 16 = lt_of e in omega (arith, h)

-- ---- either of two properties

pub either-within : (p q : ℕ → Bool) → ((a : ℕ) → p a ≡ true → a < 65536) → ((a : ℕ) → q a ≡ true → a < 65536)
    → (a : ℕ) → (p a || q a) ≡ true → a < 65536
either-within p q f g a = by-test (p a) (f a)
  where
    by-test : (b : Bool) → (b ≡ true → a < 65536) → (b || q a) ≡ true → a < 65536
    by-test true h e = h e
    by-test false h e = g a e

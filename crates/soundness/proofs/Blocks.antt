-- The nine blocks of sixteen bytes in which findings stand, and the bits of their kinds. Assumes nothing.
use Prim.Native.Nat.{ℕ, zero, suc, ◌+◌, ◌*◌, ◌/◌, ◌%◌, ◌<◌, ◌≤◌}
use native.Mathlib.Nat.{add-mul-div_left, div-eq_of_lt, zero-add}
use native.Mathlib.Omega.{arith}
use mathlib.Core.Bool.{Bool, true, false, false≢true}
use mathlib.Core.List.{List, [], ◌∷◌, ◌++◌, append-nil, append_assoc}
use mathlib.Core.Path.{◌≡◌, refl, ap, ◌∙◌}
use lib.ListN.{length, get_or, get_or-append}
use lib.Seq.{get_or-append-add}
use Rattle.word.specs.Width.{bit}
use Rattle.word.proofs.Laws.{bit_le}
use Rattle.machine.specs.Memory.{byte_at}
use Rattle.machine.specs.Record.{four_at}
use Rattle.machine_laws.specs.Bounds.{Each}
use Rattle.machine_laws.proofs.Records.{four-back}
use Rattle.soundness.specs.Findings.{Kind, started, faulted, unopened, trapped, unclosed, changed, slept, device, foreign}
use Rattle.soundness.specs.Findings.{Handler, Finding, kinds_found}
use Rattle.soundness.specs.Judge.{finding_bytes, findings_bytes}
use Rattle.soundness.specs.Verdict.{number_of, bit_in, count_in}

-- ---- blocks joined

abbrev pub joined : List (List ℕ) → List ℕ
joined [] = []
joined (b ∷ bs) = b ++ joined bs

abbrev pub Sixteen : List (List ℕ) → Type 0
Sixteen bs = Each (λ b. length b ≡ 16) bs

-- byte j of block i
pub joined_at : (bs : List (List ℕ)) → Sixteen bs → (i j : ℕ) → j < 16 → i < length bs
    → get_or (joined bs) (16 * i + j) 0 ≡ get_or (get_or bs i []) j 0
joined_at [] s i j k h = absurd (omega (arith, h))
joined_at (b ∷ bs) s zero j k h =
    let p : 16 * 0 + j ≡ j = omega arith in
    ap (λ n. get_or (b ++ joined bs) n 0) p ∙ get_or-append b (joined bs) 0 j (omega (arith, s.0, k))
joined_at (b ∷ bs) s (suc i) j k h =
    let p : 16 * suc i + j ≡ length b + (16 * i + j) = omega (arith, s.0) in
    ap (λ n. get_or (b ++ joined bs) n 0) p
    ∙ get_or-append-add b (joined bs) (16 * i + j) 0
    ∙ joined_at bs s.1 i j k (omega (arith, h))

-- its first four bytes
joined-four : (bs : List (List ℕ)) → Sixteen bs → (i : ℕ) → i < length bs → four_at (joined bs) (16 * i) ≡ four_at (get_or bs i []) 0
joined-four bs s i h =
    let at : (j n : ℕ) → n ≡ 16 * i + j → j < 16 → byte_at (joined bs) n ≡ byte_at (get_or bs i []) j =
    λ j n e l. ap (byte_at (joined bs)) e ∙ joined_at bs s i j l h in
    let a = at 0 (16 * i) (omega arith) (omega arith) in
    let b = at 1 (16 * i + 1) refl (omega arith) in
    let c = at 2 (16 * i + 2) refl (omega arith) in
    let d = at 3 (16 * i + 2 + 1) (omega arith) (omega arith) in
    λ t. a t + 256 * b t + 65536 * (c t + 256 * d t)

-- ---- the findings' blocks

abbrev pub blocks : ℕ → (Kind → Finding) → List (List ℕ)
blocks c f =
    finding_bytes c (f started) ∷ finding_bytes c (f faulted) ∷ finding_bytes c (f unopened) ∷ finding_bytes c (f trapped)
    ∷ finding_bytes c (f unclosed) ∷ finding_bytes c (f changed) ∷ finding_bytes c (f slept) ∷ finding_bytes c (f device)
    ∷ finding_bytes c (f foreign) ∷ []

block-sixteen' : (c : ℕ) (b : Bool) (k x a : ℕ) (h : Handler)
    → length (finding_bytes c (record { found = b; step = k; detail = x; address = a; by = h })) ≡ 16
block-sixteen' c true k x a h = refl
block-sixteen' c false k x a h = refl

pub block-sixteen : (c : ℕ) (x : Finding) → length (finding_bytes c x) ≡ 16
block-sixteen c x = block-sixteen' c x.found x.step x.detail x.address x.by

join-nine : (a b c d e f g h i : List ℕ)
    → a ++ b ++ c ++ d ++ e ++ f ++ g ++ h ++ i ≡ a ++ (b ++ (c ++ (d ++ (e ++ (f ++ (g ++ (h ++ (i ++ []))))))))
join-nine a b c d e f g h i = simp (append_assoc, append-nil)

pub joined-blocks : (c : ℕ) (f : Kind → Finding) → findings_bytes c f ≡ joined (blocks c f)
joined-blocks c f =
    join-nine (finding_bytes c (f started)) (finding_bytes c (f faulted)) (finding_bytes c (f unopened)) (finding_bytes c (f trapped))
    (finding_bytes c (f unclosed)) (finding_bytes c (f changed)) (finding_bytes c (f slept)) (finding_bytes c (f device))
    (finding_bytes c (f foreign))

pub blocks-sixteen : (c : ℕ) (f : Kind → Finding) → Sixteen (blocks c f)
blocks-sixteen c f = (
  block-sixteen c (f started),
  (
    block-sixteen c (f faulted),
    (
      block-sixteen c (f unopened),
      (
        block-sixteen c (f trapped),
        (
          block-sixteen c (f unclosed),
          (
            block-sixteen c (f changed),
            (
              block-sixteen c (f slept),
              (block-sixteen c (f device), (block-sixteen c (f foreign), tt)),
            ),
          ),
        ),
      ),
    ),
  ),
)

-- the block of a kind
block_of : (c : ℕ) (f : Kind → Finding) (κ : Kind) → get_or (blocks c f) (number_of κ) [] ≡ finding_bytes c (f κ)
block_of c f started = refl
block_of c f faulted = refl
block_of c f unopened = refl
block_of c f trapped = refl
block_of c f unclosed = refl
block_of c f changed = refl
block_of c f slept = refl
block_of c f device = refl
block_of c f foreign = refl

number_lt : (κ : Kind) → number_of κ < 9
number_lt started = omega arith
number_lt faulted = omega arith
number_lt unopened = omega arith
number_lt trapped = omega arith
number_lt unclosed = omega arith
number_lt changed = omega arith
number_lt slept = omega arith
number_lt device = omega arith
number_lt foreign = omega arith

-- the step count that a block tells
block-count' : (c : ℕ) (b : Bool) (k x a : ℕ) (h : Handler) → b ≡ true → c + k ≤ 4294967295
    → four_at (finding_bytes c (record { found = b; step = k; detail = x; address = a; by = h })) 0 ≡ c + k
block-count' c true k x a h e l = four-back (c + k) l
block-count' c false k x a h e l = absurd (false≢true e)

block-count : (c : ℕ) (x : Finding) → x.found ≡ true → c + x.step ≤ 4294967295 → four_at (finding_bytes c x) 0 ≡ c + x.step
block-count c x e l = block-count' c x.found x.step x.detail x.address x.by e l

pub count-told : (c : ℕ) (f : Kind → Finding) (κ : Kind) → (f κ).found ≡ true → c + (f κ).step ≤ 4294967295
    → count_in (findings_bytes c f) κ ≡ c + (f κ).step
count-told c f κ e l =
    ap (λ z. four_at z (16 * number_of κ)) (joined-blocks c f)
    ∙ joined-four (blocks c f) (blocks-sixteen c f) (number_of κ) (number_lt κ)
    ∙ ap (λ z. four_at z 0) (block_of c f κ)
    ∙ block-count c (f κ) e l

-- ---- the bits of the kinds

-- the bit that counts w, lower ones in low, higher ones in high
middle : (w low b high : ℕ) → low < w → b ≤ 1 → (low + w * (b + 2 * high)) / w % 2 ≡ b
middle w low b high l h =
    let e : (low + w * (b + 2 * high)) / w ≡ b + 2 * high =
    add-mul-div_left low (b + 2 * high) (omega (arith, l))
    ∙ ap (λ (x : ℕ). x + (b + 2 * high)) (div-eq_of_lt l)
    ∙ zero-add (b + 2 * high) in
    ap (λ (x : ℕ). x % 2) e ∙ omega (arith, h)

module _ (f : Kind → Finding) where
  abbrev b : Kind → ℕ
  b κ = bit (f κ).found

  small : (κ : Kind) → b κ ≤ 1
  small κ = bit_le (f κ).found

  -- the kinds found, those below one apart
  apart : (w low : ℕ) (κ : Kind) (high : ℕ) → kinds_found f ≡ low + w * (b κ + 2 * high) → low < w → kinds_found f / w % 2 ≡ b κ
  apart w low κ high e l = ap (λ (x : ℕ). x / w % 2) e ∙ middle w low (b κ) high l (small κ)

  pub bit-told : (κ : Kind) → bit_in (kinds_found f) κ ≡ bit (f κ).found
  bit-told started =
      apart 1 0 started
      (b faulted + 2 * b unopened + 4 * b trapped + 8 * b unclosed + 16 * b changed + 32 * b slept + 64 * b device + 128 * b foreign)
      (omega arith) (omega arith)
  bit-told faulted =
      apart 2 (b started) faulted
      (b unopened + 2 * b trapped + 4 * b unclosed + 8 * b changed + 16 * b slept + 32 * b device + 64 * b foreign)
      (omega arith) (omega (arith, small started))
  bit-told unopened =
      apart 4 (b started + 2 * b faulted) unopened
      (b trapped + 2 * b unclosed + 4 * b changed + 8 * b slept + 16 * b device + 32 * b foreign)
      (omega arith) (omega (arith, small started, small faulted))
  bit-told trapped =
      apart 8 (b started + 2 * b faulted + 4 * b unopened) trapped
      (b unclosed + 2 * b changed + 4 * b slept + 8 * b device + 16 * b foreign)
      (omega arith) (omega (arith, small started, small faulted, small unopened))
  bit-told unclosed =
      apart 16 (b started + 2 * b faulted + 4 * b unopened + 8 * b trapped) unclosed
      (b changed + 2 * b slept + 4 * b device + 8 * b foreign)
      (omega arith) (omega (arith, small started, small faulted, small unopened, small trapped))
  bit-told changed =
      apart 32 (b started + 2 * b faulted + 4 * b unopened + 8 * b trapped + 16 * b unclosed) changed
      (b slept + 2 * b device + 4 * b foreign)
      (omega arith) (omega (arith, small started, small faulted, small unopened, small trapped, small unclosed))
  bit-told slept =
      apart 64 (b started + 2 * b faulted + 4 * b unopened + 8 * b trapped + 16 * b unclosed + 32 * b changed) slept
      (b device + 2 * b foreign)
      (omega arith) (omega (arith, small started, small faulted, small unopened, small trapped, small unclosed, small changed))
  bit-told device =
      apart 128 (b started + 2 * b faulted + 4 * b unopened + 8 * b trapped + 16 * b unclosed + 32 * b changed + 64 * b slept) device
      (b foreign)
      (omega arith)
      (omega (arith, small started, small faulted, small unopened, small trapped, small unclosed, small changed, small slept))
  bit-told foreign =
      apart 256
      (b started + 2 * b faulted + 4 * b unopened + 8 * b trapped + 16 * b unclosed + 32 * b changed + 64 * b slept + 128 * b device)
      foreign 0 (omega arith)
      (omega (arith, small started, small faulted, small unopened, small trapped, small unclosed, small changed, small slept, small device))

-- a bit that is clear, or set
pub bit_found : (b : Bool) → bit b ≡ 1 → b ≡ true
bit_found true e = refl
bit_found false e = absurd (omega (arith, e))

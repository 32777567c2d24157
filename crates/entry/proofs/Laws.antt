-- Vectors, the best line, frames and returns over plain lists and numbers: each law takes what the code's calls give, in
-- their order. Assumes nothing.
use Rattle.std.proofs.Common.{
  ◌≡◌,
  ℕ,
  suc,
  ◌+◌,
  ◌-◌,
  ◌*◌,
  ◌/◌,
  ◌%◌,
  ◌<◌,
  ◌≤◌,
  Bool,
  cond,
  ◌||◌,
  List,
  ◌++◌,
  get_or,
  set,
  sym,
  refl,
  ap,
  ◌∙◌,
  arith,
}
use Rattle.word.specs.Psw.{current, faulted?}
use Rattle.machine.specs.State.{Core, core_of, lr, sp, pc, wrap, down}
use Rattle.machine.specs.Memory.{byte_at, word_at, first_byte, low_byte, high_byte, word_writes, commit}
use Rattle.machine.specs.Devices.{waiting}
use Rattle.machine.specs.Entry.{
  vector_psw,
  vector_pc,
  better,
  best_from,
  entered_psw,
  vectored,
  pushed,
  pushes,
  pulled_psw,
  pulled_cex,
  pulled,
}
use Rattle.machine.specs.Step.{entered}
use Rattle.machine_laws.proofs.Memory.{commit-append}

-- ---- words

pub word-numbered : (m : List ℕ) (w a : ℕ) → w ≡ a / 2 → byte_at m (first_byte w) + 256 * byte_at m (first_byte w + 1) ≡ word_at m a
word-numbered m w a e = ap (λ (x : ℕ). byte_at m (first_byte x) + 256 * byte_at m (first_byte x + 1)) e

-- ---- the best line

pub best_none : (d l : ℕ) (m : List ℕ) → best_from 0 d l m ≡ 8
unfolding best_from
best_none d l m = refl

-- one line more, below those looked at
pub best-turn :
    (d l : ℕ) (m : List ℕ) → 0 < d → d ≤ 8 →
    best_from (8 - (d - 1)) (d - 1) l m ≡ cond (waiting l (d - 1)) (better m (d - 1) (best_from (8 - d) d l m)) (best_from (8 - d) d l m)
unfolding best_from
best-turn d l m h k =
    let n : 8 - (d - 1) ≡ suc (8 - d) = omega arith in
    let e : suc (d - 1) ≡ d = omega arith in
    ap (λ (x : ℕ). best_from x (d - 1) l m) n
    ∙ ap (λ (x : ℕ). cond (waiting l (d - 1)) (better m (d - 1) (best_from (8 - d) x l m)) (best_from (8 - d) x l m)) e

-- ---- frames

-- a difference that wraps
pub wrapped-down : (r a k : ℕ) → r < 65536 → k ≤ 65536 → (r + k) % 65536 ≡ a → r ≡ down a k
wrapped-down r a k h l e = omega arith

pub push-law :
    (m : List ℕ) (n : List ℕ) (s to w v : ℕ) → to ≡ down s 2 → w ≡ to / 2 →
    n ≡ set (set m (first_byte w) (low_byte v)) (first_byte w + 1) (high_byte v) → n ≡ commit (word_writes (down s 2) v) m
unfolding commit
push-law m n s to w v e f g =
    g ∙ ap (λ (x : ℕ). set (set m (first_byte x) (low_byte v)) (first_byte x + 1) (high_byte v)) (f ∙ ap (λ (x : ℕ). x / 2) e)

down-more : (s t j k : ℕ) → t ≡ down s j → j + k ≤ 65536 → down t k ≡ down s (j + k)
down-more s t j k e h = omega arith

pub frame-law :
    (c : Core) (m m₁ m₂ m₃ m₄ : List ℕ) (s₁ s₂ s₃ s₄ : ℕ) →
    s₁ ≡ down (sp c) 2 → m₁ ≡ commit (word_writes (down (sp c) 2) (pc c)) m →
    s₂ ≡ down s₁ 2 → m₂ ≡ commit (word_writes (down s₁ 2) (lr c)) m₁ →
    s₃ ≡ down s₂ 2 → m₃ ≡ commit (word_writes (down s₂ 2) c.psw) m₂ →
    s₄ ≡ down s₃ 2 → m₄ ≡ commit (word_writes (down s₃ 2) c.cex) m₃ →
    (s₄ ≡ pushed c) × (m₄ ≡ commit (pushes c) m)
unfolding pushes
frame-law c m m₁ m₂ m₃ m₄ s₁ s₂ s₃ s₄ e₁ f₁ e₂ f₂ e₃ f₃ e₄ f₄ =
    let s = sp c in
    let d₂ : down s₁ 2 ≡ down s 4 = down-more s s₁ 2 2 e₁ (omega arith) in
    let d₃ : down s₂ 2 ≡ down s 6 = down-more s s₂ 4 2 (e₂ ∙ d₂) (omega arith) in
    let d₄ : down s₃ 2 ≡ down s 8 = down-more s s₃ 6 2 (e₃ ∙ d₃) (omega arith) in
    let w₁ = word_writes (down s 2) (pc c) in
    let w₂ = word_writes (down s 4) (lr c) in
    let w₃ = word_writes (down s 6) c.psw in
    let w₄ = word_writes (down s 8) c.cex in
    let g₂ : m₂ ≡ commit w₂ m₁ = f₂ ∙ ap (λ (x : ℕ). commit (word_writes x (lr c)) m₁) d₂ in
    let g₃ : m₃ ≡ commit w₃ m₂ = f₃ ∙ ap (λ (x : ℕ). commit (word_writes x c.psw) m₂) d₃ in
    let g₄ : m₄ ≡ commit w₄ m₃ = f₄ ∙ ap (λ (x : ℕ). commit (word_writes x c.cex) m₃) d₄ in
    let all = commit-append w₁ (w₂ ++ w₃ ++ w₄) m ∙ commit-append w₂ (w₃ ++ w₄) (commit w₁ m) ∙ commit-append w₃ w₄ _ in
    (e₄ ∙ d₄, g₄ ∙ ap (commit w₄) (g₃ ∙ ap (commit w₃) (g₂ ∙ ap (commit w₂) f₁)) ∙ sym all)

-- ---- entries and returns

pub vectored-law :
    (c : Core) (m l : List ℕ) (v q s p a r : ℕ) (flt : Bool) → p ≡ vector_psw m v → a ≡ vector_pc m v →
    l ≡ set (set (set c.regs 5 0xFFFF) 6 s) 7 a → r ≡ entered_psw p q flt → core_of l r 0 ≡ vectored c m v q flt s
unfolding vectored
vectored-law c m l v q s p a r flt e f g h =
    let g' = g ∙ ap (set (set (set c.regs 5 0xFFFF) 6 s) 7) f in
    let h' = h ∙ ap (λ (x : ℕ). entered_psw x q flt) e in
    λ i. core_of (g' i) (h' i) 0

-- an entry that pushes, its SP as the frame left it
pub entered-law :
    (c : Core) (m l : List ℕ) (v s p a q r : ℕ) (fault flt : Bool) → p ≡ vector_psw m v → a ≡ vector_pc m v → s ≡ pushed c →
    l ≡ set (set (set c.regs 5 0xFFFF) 6 s) 7 a → q ≡ current c.psw → flt ≡ faulted? c.psw →
    r ≡ entered_psw p q (fault || flt) → core_of l r 0 ≡ entered c m v fault
entered-law c m l v s p a q r fault flt e f d g k b h =
    vectored-law c m l v q s p a r (fault || flt) e f g h ∙ (λ i. vectored c m v (k i) (fault || b i) (d i))

-- a return: the four words at SP, each address a sum that wraps
pub pulled-law :
    (regs m l : List ℕ) (x p r t q₂ q₄ q₆ q₈ : ℕ) → x ≡ word_at m (get_or regs 6 0) →
    q₂ ≡ wrap (get_or regs 6 0 + 2) → p ≡ word_at m q₂ → q₄ ≡ wrap (get_or regs 6 0 + 4) → r ≡ word_at m q₄ →
    q₆ ≡ wrap (get_or regs 6 0 + 6) → t ≡ word_at m q₆ → q₈ ≡ wrap (get_or regs 6 0 + 8) →
    l ≡ set (set (set regs 5 r) 6 q₈) 7 t → (o y : ℕ) → core_of l (pulled_psw p) (pulled_cex x) ≡ pulled (core_of regs o y) m
unfolding pulled
pulled-law regs m l x p r t q₂ q₄ q₆ q₈ hx h₂ hp h₄ hr h₆ ht h₈ hl o y =
    let hr' = hr ∙ ap (word_at m) h₄ in
    let ht' = ht ∙ ap (word_at m) h₆ in
    let hl' = hl ∙ (λ j. set (set (set regs 5 (hr' j)) 6 (h₈ j)) 7 (ht' j)) in
    let hp' = hp ∙ ap (word_at m) h₂ in
    λ i. core_of (hl' i) (pulled_psw (hp' i)) (pulled_cex (hx i))

-- A frame that is found as entry left it gives back the core that was interrupted, and a pull gives the same core from two
-- states of which one has R0 to R4, SP and the frame's bytes as the other. Assumes nothing.
use Prim.Native.Nat.{ℕ, zero, suc, ◌+◌, ◌*◌, ◌-◌, ◌/◌, ◌%◌, ◌<◌, ◌≤◌}
use mathlib.Core.Bool.{Bool, false}
use mathlib.Core.List.{List, [], ◌∷◌, ◌++◌}
use mathlib.Core.Logic.{◌≢◌}
use mathlib.Core.Path.{◌≡◌, refl, sym, ap, ◌∙◌}
use native.Mathlib.Omega.{arith}
use lib.Dec.{lit<}
use lib.ListN.{length, set, get_or}
use Rattle.word.specs.Psw.{asleep?}
use Rattle.machine.specs.State.{State, Core, reg, lr, pc, sp, wrap, down}
use Rattle.machine.specs.Memory.{byte_at, word_at, even, commit, word_writes}
use Rattle.machine.specs.Entry.{pushed, pushes, frame_byte, pulled, pulled_psw, vectored}
use Rattle.machine_laws.specs.Bounds.{TidyCore}
use Rattle.machine_laws.proofs.Cases.{neq-of}
use Rattle.machine_laws.proofs.Records.{eight_cells}
use Rattle.machine_laws.proofs.Memory.{commit-append, commit-length, word-written, word-unwritten}
use Rattle.resume.specs.Frames.{FrameFound}
use Rattle.resume.specs.Resume.{Found}

-- LR, SP and PC set
pub three : (l : List ℕ) (x y z : ℕ) → length l ≡ 8
    → set (set (set l 5 x) 6 y) 7 z ≡ get_or l 0 0 ∷ get_or l 1 0 ∷ get_or l 2 0 ∷ get_or l 3 0 ∷ get_or l 4 0 ∷ x ∷ y ∷ z ∷ []
three l x y z h = ap (λ k. set (set (set k 5 x) 6 y) 7 z) (eight_cells l h)

kept : (l : List ℕ) (x y z : ℕ) → length l ≡ 8 → (i : ℕ) → i < 5 → get_or (set (set (set l 5 x) 6 y) 7 z) i 0 ≡ get_or l i 0
kept l x y z h zero k = ap (λ t. get_or t 0 0) (three l x y z h)
kept l x y z h (suc zero) k = ap (λ t. get_or t 1 0) (three l x y z h)
kept l x y z h (suc (suc zero)) k = ap (λ t. get_or t 2 0) (three l x y z h)
kept l x y z h (suc (suc (suc zero))) k = ap (λ t. get_or t 3 0) (three l x y z h)
kept l x y z h (suc (suc (suc (suc zero)))) k = ap (λ t. get_or t 4 0) (three l x y z h)
kept l x y z h (suc (suc (suc (suc (suc i))))) k = absurd (omega arith)

-- The state s holds, in the frame at its SP, the core c that an entry interrupted.
pub record Saved (s : State) (c : Core) : Type 0 where
  pub registers : (i : ℕ) → i < 5 → reg s.core i ≡ reg c i
  pub stack : sp s.core ≡ pushed c
  pub cex-word : word_at s.mem (pushed c) ≡ c.cex
  pub psw_word : word_at s.mem (wrap (pushed c + 2)) ≡ c.psw
  pub lr-word : word_at s.mem (wrap (pushed c + 4)) ≡ lr c
  pub pc-word : word_at s.mem (wrap (pushed c + 6)) ≡ pc c

-- ---- an entry from c leaves a frame that holds c

-- SP less 2 before each push: the four addresses, counted from the last
up-two : (x : ℕ) → x < 65536 → wrap (down x 8 + 2) ≡ down x 6
up-two x h = omega arith

up-four : (x : ℕ) → x < 65536 → wrap (down x 8 + 4) ≡ down x 4
up-four x h = omega arith

up-six : (x : ℕ) → x < 65536 → wrap (down x 8 + 6) ≡ down x 2
up-six x h = omega arith

module _ (c : Core) (m : List ℕ) (t : TidyCore c) (size : length m ≡ 65536) where
  m₁ : List ℕ
  m₁ = commit (word_writes (down (sp c) 2) (pc c)) m

  m₂ : List ℕ
  m₂ = commit (word_writes (down (sp c) 4) (lr c)) m₁

  m₃ : List ℕ
  m₃ = commit (word_writes (down (sp c) 6) c.psw) m₂

  m₄ : List ℕ
  m₄ = commit (word_writes (down (sp c) 8) c.cex) m₃

  size₁ : length m₁ ≡ 65536
  unfolding m₁
  size₁ = commit-length (word_writes (down (sp c) 2) (pc c)) m ∙ size

  size₂ : length m₂ ≡ 65536
  unfolding m₂
  size₂ = commit-length (word_writes (down (sp c) 4) (lr c)) m₁ ∙ size₁

  size₃ : length m₃ ≡ 65536
  unfolding m₃
  size₃ = commit-length (word_writes (down (sp c) 6) c.psw) m₂ ∙ size₂

  pushes-are : commit (pushes c) m ≡ m₄
  unfolding pushes m₁ m₂ m₃ m₄
  pushes-are =
      let w₁ = word_writes (down (sp c) 2) (pc c) in
      let w₂ = word_writes (down (sp c) 4) (lr c) in
      let w₃ = word_writes (down (sp c) 6) c.psw in
      let w₄ = word_writes (down (sp c) 8) c.cex in
      commit-append (w₁ ++ w₂ ++ w₃) w₄ m
      ∙ ap (commit w₄) (commit-append (w₁ ++ w₂) w₃ m ∙ ap (commit w₃) (commit-append w₁ w₂ m))

  apart : (i j : ℕ) → i < j → 2 ≤ j - i → j ≤ 8 → even (down (sp c) j) ≢ even (down (sp c) i)
  apart i j h k l = let w = t.words 6 in omega arith

  cex-is : word_at m₄ (pushed c) ≡ c.cex
  unfolding m₄
  cex-is = word-written m₃ (pushed c) c.cex size₃ (omega arith) (let x = t.cex_small in omega arith)

  psw_is : word_at m₄ (down (sp c) 6) ≡ c.psw
  unfolding m₄ m₃
  psw_is =
      word-unwritten m₃ (down (sp c) 8) (down (sp c) 6) c.cex (apart 6 8 (lit< tt) (omega arith) (omega arith))
      ∙ word-written m₂ (down (sp c) 6) c.psw size₂ (omega arith) t.psw_word

  lr-is : word_at m₄ (down (sp c) 4) ≡ lr c
  unfolding m₄ m₃ m₂
  lr-is =
      word-unwritten m₃ (down (sp c) 8) (down (sp c) 4) c.cex (apart 4 8 (lit< tt) (omega arith) (omega arith))
      ∙ word-unwritten m₂ (down (sp c) 6) (down (sp c) 4) c.psw (apart 4 6 (lit< tt) (omega arith) (omega arith))
      ∙ word-written m₁ (down (sp c) 4) (lr c) size₁ (omega arith) (t.words 5)

  pc_is : word_at m₄ (down (sp c) 2) ≡ pc c
  unfolding m₄ m₃ m₂ m₁
  pc_is =
      word-unwritten m₃ (down (sp c) 8) (down (sp c) 2) c.cex (apart 2 8 (lit< tt) (omega arith) (omega arith))
      ∙ word-unwritten m₂ (down (sp c) 6) (down (sp c) 2) c.psw (apart 2 6 (lit< tt) (omega arith) (omega arith))
      ∙ word-unwritten m₁ (down (sp c) 4) (down (sp c) 2) (lr c) (apart 2 4 (lit< tt) (omega arith) (omega arith))
      ∙ word-written m (down (sp c) 2) (pc c) size (omega arith) (t.words 7)

  pub saves : (v q : ℕ) (f : Bool) (s : State) → s.core ≡ vectored c m v q f (pushed c) → s.mem ≡ commit (pushes c) m → Saved s c
  unfolding vectored
  saves v q f s ec em =
      let h = t.words 6 in
      let em' = em ∙ pushes-are in
      record {
        registers = λ i k. ap (λ x. reg x i) ec ∙ kept c.regs _ _ _ t.eight i k;
        stack = ap (λ x. reg x 6) ec ∙ ap (λ x. get_or x 6 0) (three c.regs _ _ _ t.eight);
        cex-word = ap (λ x. word_at x (pushed c)) em' ∙ cex-is;
        psw_word = ap (λ x. word_at x (wrap (pushed c + 2))) em' ∙ ap (word_at m₄) (up-two (sp c) h) ∙ psw_is;
        lr-word = ap (λ x. word_at x (wrap (pushed c + 4))) em' ∙ ap (word_at m₄) (up-four (sp c) h) ∙ lr-is;
        pc-word = ap (λ x. word_at x (wrap (pushed c + 6))) em' ∙ ap (word_at m₄) (up-six (sp c) h) ∙ pc_is;
      }

-- ---- a pull from a frame as it was left

-- the four words of a frame are its eight bytes
frame-low : (s k : ℕ) → s < 65536 → k % 2 ≡ 0 → k < 8 → even (wrap (s + k)) ≡ wrap (even s + k)
frame-low s k h e l = omega arith

frame-high : (s k : ℕ) → s < 65536 → k % 2 ≡ 0 → k < 8 → even (wrap (s + k)) + 1 ≡ wrap (even s + (k + 1))
frame-high s k h e l = omega arith

frame-word : (m : List ℕ) (s k : ℕ) → s < 65536 → k % 2 ≡ 0 → k < 8
    → word_at m (wrap (s + k)) ≡ frame_byte m s k + 256 * frame_byte m s (k + 1)
frame-word m s k h e l = λ i. byte_at m (frame-low s k h e l i) + 256 * byte_at m (frame-high s k h e l i)

-- a word of the frame is as entry left it
pub found_word : (s t : State) → FrameFound s t → sp s.core < 65536 → (k : ℕ) → k % 2 ≡ 0 → k < 7
    → word_at t.mem (wrap (sp t.core + k)) ≡ word_at s.mem (wrap (sp s.core + k))
found_word s t f h k e l =
    let x = sp s.core in
    ap (λ y. word_at t.mem (wrap (y + k))) f.stack
    ∙ frame-word t.mem x k h e (omega arith)
    ∙ (λ i. f.bytes k (omega arith) i + 256 * f.bytes (k + 1) (omega arith) i)
    ∙ sym (frame-word s.mem x k h e (omega arith))

psw-sum : (p q r t u x y w : ℕ) → p ≡ q * 8 + x → q ≡ r * 2 + 0 → r ≡ t * 32 + y → t ≡ u * 16 + 0 → w ≡ u → x + y * 16 + w * 8192 ≡ p
psw-sum p q r t u x y w e1 e2 e3 e4 e5 = omega arith

-- an awake PSW is pulled as it was pushed
psw-back : (p : ℕ) → p < 65536 → p / 512 % 16 ≡ 0 → p / 8 % 2 ≢ 1 → pulled_psw p ≡ p
psw-back p h k e =
    let a : p / 8 ≡ p / 16 * 2 + p / 8 % 2 = omega arith in
    let b : p / 16 ≡ p / 512 * 32 + p / 16 % 32 = omega arith in
    let c : p / 512 ≡ p / 8192 * 16 + p / 512 % 16 = omega arith in
    let z : p / 8 % 2 ≡ 0 = omega arith in
    let g : p / 8192 % 8 ≡ p / 8192 = omega arith in
    let f : p ≡ p / 8 * 8 + p % 8 = omega arith in
    psw-sum p (p / 8) (p / 16) (p / 512) (p / 8192) (p % 8) (p / 16 % 32) (p / 8192 % 8) f (rw z at a) b (rw k at c) g

pub sp_back : (x : ℕ) → x < 65536 → wrap (down x 8 + 8) ≡ x
sp_back x h = omega arith

cex-back : (x : ℕ) → x < 128 → x % 128 ≡ x
cex-back x h = omega arith

no_step : (x : ℕ) → x < 65536 → wrap (x + 0) ≡ x
no_step x h = omega arith

module _ (c : Core) (s t : State) (tidy : TidyCore c) (awake : asleep? c.psw ≡ false) (sv : Saved s c) (fd : Found s t)
    (h8 : length t.core.regs ≡ 8) where
  stack_is : sp t.core ≡ pushed c
  stack_is = fd.frame.stack ∙ sv.stack

  stack-word : sp s.core < 65536
  stack-word = rw sv.stack (omega arith)

  word-is : (k : ℕ) → k % 2 ≡ 0 → k < 7 → word_at t.mem (wrap (sp t.core + k)) ≡ word_at s.mem (wrap (pushed c + k))
  word-is k e l = found_word s t fd.frame stack-word k e l ∙ ap (λ x. word_at s.mem (wrap (x + k))) sv.stack

  cex-found : word_at t.mem (sp t.core) ≡ c.cex
  cex-found =
      let a : sp t.core < 65536 = rw stack_is (omega arith) in
      ap (word_at t.mem) (sym (no_step (sp t.core) a)) ∙ word-is 0 (omega arith) (lit< tt)
      ∙ ap (word_at s.mem) (no_step (pushed c) (omega arith)) ∙ sv.cex-word

  register-is : (i : ℕ) → i < 5 → reg t.core i ≡ reg c i
  register-is i h = fd.registers i h ∙ sv.registers i h

  pub restores : pulled t.core t.mem ≡ c
  unfolding pulled
  restores =
      let e0 = register-is 0 (lit< tt) in
      let e1 = register-is 1 (lit< tt) in
      let e2 = register-is 2 (lit< tt) in
      let e3 = register-is 3 (lit< tt) in
      let e4 = register-is 4 (lit< tt) in
      let lr-back = word-is 4 (omega arith) (lit< tt) ∙ sv.lr-word in
      let pc-back = word-is 6 (omega arith) (lit< tt) ∙ sv.pc-word in
      let psw_is = ap pulled_psw (word-is 2 (omega arith) (lit< tt) ∙ sv.psw_word)
      ∙ psw-back c.psw tidy.psw_word tidy.psw_zeros (neq-of awake) in
      let cex-is = ap (λ x. x % 128) cex-found ∙ cex-back c.cex tidy.cex_small in
      let sp_is = ap (λ x. wrap (x + 8)) stack_is ∙ sp_back (sp c) (tidy.words 6) in
      let regs = three t.core.regs _ _ _ h8
      ∙ (λ i. e0 i ∷ e1 i ∷ e2 i ∷ e3 i ∷ e4 i ∷ lr-back i ∷ sp_is i ∷ pc-back i ∷ [])
      ∙ sym (eight_cells c.regs tidy.eight) in
      λ i. record { regs = regs i; psw = psw_is i; cex = cex-is i }

-- ---- a pull from two states

pub found-refl : (s : State) → Found s s
found-refl s = record { registers = λ i h. refl; frame = record { stack = refl; bytes = λ i h. refl } }

module _ (s t : State) (fd : Found s t) (tidy : TidyCore s.core) (h8 : length t.core.regs ≡ 8) where
  held_word : sp s.core < 65536
  held_word = tidy.words 6

  same_word : (k : ℕ) → k % 2 ≡ 0 → k < 7 → word_at t.mem (wrap (sp t.core + k)) ≡ word_at s.mem (wrap (sp s.core + k))
  same_word k e l = found_word s t fd.frame held_word k e l

  same-cex : word_at t.mem (sp t.core) ≡ word_at s.mem (sp s.core)
  same-cex =
      let a : sp t.core < 65536 = rw fd.frame.stack held_word in
      ap (word_at t.mem) (sym (no_step (sp t.core) a)) ∙ same_word 0 (omega arith) (lit< tt)
      ∙ ap (word_at s.mem) (no_step (sp s.core) held_word)

  -- a pull from a frame as it was held gives what a pull from the held state gives
  pub pulled-found : pulled t.core t.mem ≡ pulled s.core s.mem
  unfolding pulled
  pulled-found =
      let e0 = fd.registers 0 (lit< tt) in
      let e1 = fd.registers 1 (lit< tt) in
      let e2 = fd.registers 2 (lit< tt) in
      let e3 = fd.registers 3 (lit< tt) in
      let e4 = fd.registers 4 (lit< tt) in
      let lr-is = same_word 4 (omega arith) (lit< tt) in
      let pc_is = same_word 6 (omega arith) (lit< tt) in
      let sp_is = ap (λ x. wrap (x + 8)) fd.frame.stack in
      let regs = three t.core.regs _ _ _ h8
      ∙ (λ i. e0 i ∷ e1 i ∷ e2 i ∷ e3 i ∷ e4 i ∷ lr-is i ∷ sp_is i ∷ pc_is i ∷ [])
      ∙ sym (three s.core.regs _ _ _ tidy.eight) in
      let psw_is = ap pulled_psw (same_word 2 (omega arith) (lit< tt)) in
      let cex-is = ap (λ x. x % 128) same-cex in
      λ i. record { regs = regs i; psw = psw_is i; cex = cex-is i }

-- a chained entry keeps R0 to R4, SP and memory
pub chained-found : (s t : State) (v q : ℕ) (b : Bool) → length s.core.regs ≡ 8
    → t.core ≡ vectored s.core s.mem v q b (sp s.core)
    → t.mem ≡ s.mem
    → Found s t
unfolding vectored
chained-found s t v q b h ec em =
    record {
      registers = λ i k. ap (λ c. reg c i) ec ∙ kept s.core.regs _ _ _ h i k;
      frame =
          record {
            stack = ap (λ c. reg c 6) ec ∙ ap (λ l. get_or l 6 0) (three s.core.regs _ _ _ h);
            bytes = λ i k. ap (λ m. frame_byte m (sp s.core) i) em;
          };
    }

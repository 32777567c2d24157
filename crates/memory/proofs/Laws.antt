-- What loads and stores do to a memory, as equations over plain lists and numbers, one for each way through the code.
-- Assumes nothing.
use mathlib.Core.Path.{◌≡◌, refl, sym, ap, ◌∙◌}
use mathlib.Core.Bool.{true, false, and-false}
use mathlib.Core.List.{List}
use Prim.Native.Nat.{ℕ, ◌+◌, ◌-◌, ◌*◌, ◌/◌, ◌%◌, ◌≤◌, ◌<◌}
use native.Mathlib.Omega.{arith}
use lib.Bits.{bit_and, bit_or, and_block, and_high, and_mask, or_block, or_shifted}
use lib.Dec.{ltb, lit<}
use lib.ListN.{set}
use borrow.Author.Tests.{lt-ltb, le-ltb, eq-eqb, ne_eqb}
use Rattle.word.specs.Psw.{put_bit, bit_of}
use Rattle.word.proofs.Laws.{bit-back}
use Rattle.machine.specs.Memory.{first_byte, byte_at, even, low_byte, high_byte, commit, value_at}
use Rattle.machine.specs.Devices.{cleared_status, stored_status, load_writes, byte_writes, store_writes}
use Rattle.machine_laws.proofs.Memory.{commit-append}

-- ---- status bytes, as the code works them

halves : (n : ℕ) → n ≡ n / 16 * 16 + n % 16
halves n = omega arith

-- the bits that a store to status keeps, and those that it brings
kept : (t : ℕ) → bit_and t 0xEE ≡ t / 16 / 2 % 8 * 2 * 16 + t % 16 / 2 % 8 * 2
kept t =
    ap (λ (x : ℕ). bit_and x 0xEE) (halves t) ∙ and_block 4 (t / 16) 14 (t % 16) 14 (omega arith) (lit< tt)
    ∙ (λ i. and_high (t / 16) 3 1 i * 16 + and_high (t % 16) 3 1 i)

brought : (v : ℕ) → bit_and v 0x11 ≡ v / 16 % 2 * 16 + v % 16 % 2
brought v =
    ap (λ (x : ℕ). bit_and x 0x11) (halves v) ∙ and_block 4 (v / 16) 1 (v % 16) 1 (omega arith) (lit< tt)
    ∙ (λ i. and_mask (v / 16) 1 i * 16 + and_mask (v % 16) 1 i)

-- the two put together
joined : (t v : ℕ) → bit_or (bit_and t 0xEE) (bit_and v 0x11) ≡ (t / 16 / 2 % 8 * 2 + v / 16 % 2) * 16 + (t % 16 / 2 % 8 * 2 + v % 16 % 2)
joined t v =
    (λ i. bit_or (kept t i) (brought v i))
    ∙ or_block 4 (t / 16 / 2 % 8 * 2) (v / 16 % 2) (t % 16 / 2 % 8 * 2) (v % 16 % 2) (omega arith) (omega arith)
    ∙ (λ i. or_shifted (t / 16 / 2 % 8) 1 (v / 16 % 2) (omega arith) i * 16 + or_shifted (t % 16 / 2 % 8) 1 (v % 16 % 2) (omega arith) i)

-- the same, bit by bit
placed : (t x y q : ℕ) → t < 256 → x < 2 → y < 2 → q ≡ t / 2 * 2 + x
    → (t / 16 / 2 % 8 * 2 + y) * 16 + (t % 16 / 2 % 8 * 2 + x) ≡ q / 32 * 32 + y * 16 + q % 16
placed t x y q h hx hy e =
    let high : t / 16 / 2 % 8 ≡ t / 32 = omega arith in
    let low : t % 16 / 2 % 8 ≡ t % 16 / 2 = omega arith in
    let q-high : q / 32 ≡ t / 32 = omega arith in
    let q-low : q % 16 ≡ t % 16 / 2 * 2 + x = omega arith in
    rw (high, low, q-high, q-low) (omega arith)

stored_low : (t v : ℕ) → t / 2 * 2 + v % 2 ≡ put_bit 0 t (bit_of 0 v)
stored_low t v = rw (bit-back (v / 1 % 2) (omega arith)) (omega arith)

pub stored-law : (t v : ℕ) → t < 256 → bit_or (bit_and t 0xEE) (bit_and v 0x11) ≡ stored_status t v
stored-law t v h =
    let q = t / 2 * 2 + v % 2 in
    let e : v % 16 % 2 ≡ v % 2 = omega arith in
    joined t v
    ∙ ap (λ (x : ℕ). (t / 16 / 2 % 8 * 2 + v / 16 % 2) * 16 + (t % 16 / 2 % 8 * 2 + x)) e
    ∙ placed t (v % 2) (v / 16 % 2) q h (omega arith) (omega arith) refl
    ∙ ap (λ (x : ℕ). q / 32 * 32 + x * 16 + q % 16) (sym (bit-back (v / 16 % 2) (omega arith)))
    ∙ ap (λ (x : ℕ). put_bit 4 x (bit_of 4 v)) (stored_low t v)

pub cleared-law : (t : ℕ) → put_bit 2 (t / 16 * 16 + t % 8) false ≡ cleared_status t
cleared-law t =
    let e : t / 16 * 16 + t % 8 ≡ put_bit 3 t false = omega arith in
    ap (λ (x : ℕ). put_bit 2 x false) e

-- ---- loads

module _ (m : List ℕ) (a : ℕ) where
  pub touch-status : (v : ℕ) → a < 16 → a % 2 ≡ 0 → v ≡ cleared_status (byte_at m a) → set m a v ≡ commit (load_writes true m a) m
  unfolding commit
  touch-status v h e s = rw (lt-ltb a 16 h, eq-eqb (a % 2) 0 e) (ap (set m a) s)

  pub touch-data : (a % 2 ≡ 0 → ⊥) → m ≡ commit (load_writes true m a) m
  unfolding commit
  touch-data e = rw (ne_eqb (a % 2) 0 e, and-false (ltb a 16))

  pub touch_plain : 16 ≤ a → m ≡ commit (load_writes true m a) m
  unfolding commit
  touch_plain h = rw (le-ltb a 16 h)

pub load_value : (m : List ℕ) {r : ℕ} (w a : ℕ) → w ≡ a / 2 → r ≡ byte_at m (2 * w) + 256 * byte_at m (2 * w + 1) → r ≡ value_at false m a
load_value m w a e s = s ∙ ap (λ (x : ℕ). byte_at m (2 * x) + 256 * byte_at m (2 * x + 1)) e

-- a word's load is that of its first byte, as far as memory goes
pub load_word :
    (m l : List ℕ) (w b a : ℕ) → w ≡ a / 2 → b ≡ first_byte w → l ≡ commit (load_writes true m b) m → l ≡ commit (load_writes false m a) m
load_word m l w b a e f s = s ∙ ap (λ (x : ℕ). commit (load_writes true m x) m) (f ∙ ap first_byte e)

-- ---- stores

module _ (m : List ℕ) (a v : ℕ) where
  pub store-status : (t : ℕ) → a < 16 → a % 2 ≡ 0 → t ≡ stored_status (byte_at m a) v → set m a t ≡ commit (byte_writes m a v) m
  unfolding commit
  store-status t h e s = rw (lt-ltb a 16 h, eq-eqb (a % 2) 0 e) (ap (set m a) s)

  -- the data byte of an output device, whose status byte t has its DBA cleared, and of an input device
  pub store-output :
      (t : ℕ) → a < 16 → (a % 2 ≡ 0 → ⊥) → (byte_at m (a - 1) / 2 % 2 ≡ 1 → ⊥) → t ≡ put_bit 2 (byte_at m (a - 1)) false →
      set (set m a v) (a - 1) t ≡ commit (byte_writes m a v) m
  unfolding commit
  store-output t h e i s = rw (lt-ltb a 16 h, ne_eqb (a % 2) 0 e, ne_eqb (byte_at m (a - 1) / 2 % 2) 1 i) (ap (set (set m a v) (a - 1)) s)

  pub store-input : a < 16 → (a % 2 ≡ 0 → ⊥) → byte_at m (a - 1) / 2 % 2 ≡ 1 → set m a v ≡ commit (byte_writes m a v) m
  unfolding commit
  store-input h e i = rw (lt-ltb a 16 h, ne_eqb (a % 2) 0 e, eq-eqb (byte_at m (a - 1) / 2 % 2) 1 i)

  pub store-plain : 16 ≤ a → set m a v ≡ commit (byte_writes m a v) m
  unfolding commit
  store-plain h = rw (le-ltb a 16 h)

-- a word stored from byte a on: two bytes, the second into the memory that the first left
abbrev two-stored : List ℕ → ℕ → ℕ → List ℕ
two-stored m a v =
    let n = commit (byte_writes m a (low_byte v)) m in
    commit (byte_writes n (a + 1) (high_byte v)) n

word-stored : (m : List ℕ) (a v : ℕ) → two-stored m (even a) v ≡ commit (store_writes false m a v) m
word-stored m a v =
    sym
    (commit-append
    (byte_writes m (even a) (low_byte v)) (byte_writes (commit (byte_writes m (even a) (low_byte v)) m) (even a + 1) (high_byte v))
    m)

module _ (m : List ℕ) {l : List ℕ} (w v : ℕ) where
  word-at : l ≡ two-stored m (2 * w) v → l ≡ commit (store_writes false m (2 * w) v) m
  word-at e =
      let b : 2 * w ≡ even (2 * w) = omega arith in
      e ∙ ap (λ (x : ℕ). two-stored m x v) b ∙ word-stored m (2 * w) v

  pub store_two :
      {n : List ℕ} {a : ℕ} → a ≡ first_byte w → n ≡ commit (byte_writes m a (low_byte v)) m →
      l ≡ commit (byte_writes n (a + 1) (high_byte v)) n → l ≡ commit (store_writes false m (2 * w) v) m
  store_two {n} {a} b e f =
      word-at (
      f
      ∙ ap (λ (x : List ℕ). commit (byte_writes x (a + 1) (high_byte v)) x) e
      ∙ ap (λ (i : ℕ). let k = commit (byte_writes m i (low_byte v)) m in commit (byte_writes k (i + 1) (high_byte v)) k) b
      )

  -- above the devices
  pub store-above :
      8 ≤ w → l ≡ set (set m (2 * w) (low_byte v)) (2 * w + 1) (high_byte v) → l ≡ commit (store_writes false m (2 * w) v) m
  store-above h e =
      store_two {a = 2 * w} refl
      (store-plain m (2 * w) (low_byte v) (omega arith)) (e ∙ store-plain (set m (2 * w) (low_byte v)) (2 * w + 1) (high_byte v)
      (omega arith))

  pub store-even : (a : ℕ) → w ≡ a / 2 → l ≡ commit (store_writes false m (2 * w) v) m → l ≡ commit (store_writes false m a v) m
  store-even a e s =
      let b : even (2 * w) ≡ even a = omega arith in
      s ∙ sym (word-stored m (2 * w) v) ∙ ap (λ (x : ℕ). two-stored m x v) b ∙ word-stored m a v

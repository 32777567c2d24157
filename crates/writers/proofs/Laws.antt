-- Marks after the writes of an entry and of a word, as equations over plain lists and numbers: marks go down a list of writes as memory
-- does. Assumes nothing.
use Rattle.std.proofs.Common.{◌≡◌, ℕ, ◌+◌, ◌-◌, ◌*◌, ◌/◌, ◌%◌, ◌<◌, Bool, true, false, cond, eqb, List, [], ◌∷◌, ◌++◌, length, set}
use Rattle.std.proofs.Common.{sym, refl, ap, ◌∙◌, subst, arith, lit<, lt-ltb, eq-eqb}
use Rattle.word.specs.Width.{bit}
use Rattle.word.specs.Psw.{put_bit, bit_of}
use Rattle.machine.specs.State.{Core, sp, lr, pc, down}
use Rattle.machine.specs.Memory.{Write, word_writes, byte_at, even, commit, low_byte, high_byte}
use Rattle.machine.specs.Devices.{device?, input?, stored_status, byte_writes, store_writes}
use Rattle.machine.specs.Entry.{pushes, pushed}
use Rattle.machine_laws.proofs.Cases.{lt_of}
use Rattle.machine_laws.proofs.Memory.{set_at}
use Rattle.soundness.specs.Watch.{marked}

-- ---- marks

pub marked_append : (who : ℕ) (ws vs : List Write) (l : List ℕ) → marked who (ws ++ vs) l ≡ marked who vs (marked who ws l)
unfolding marked
marked_append who [] vs l = refl
marked_append who (x ∷ ws) vs l = marked_append who ws vs (set l x.addr who)

pub push-law : (c : Core) (s : ℕ) (who : ℕ) (l : List ℕ) {l₁ l₂ l₃ l₄ : List ℕ} {a b d e : ℕ} → sp c ≡ s
    → a ≡ down s 2 → b ≡ down s 4 → d ≡ down s 6 → e ≡ down s 8
    → ((v : ℕ) → l₁ ≡ marked who (word_writes a v) l) → ((v : ℕ) → l₂ ≡ marked who (word_writes b v) l₁)
    → ((v : ℕ) → l₃ ≡ marked who (word_writes d v) l₂) → ((v : ℕ) → l₄ ≡ marked who (word_writes e v) l₃)
    → l₄ ≡ marked who (pushes c) l
unfolding pushes
push-law c s who l {a = a} {b = b} {d = d} {e = e} q ha hb hd he m₁ m₂ m₃ m₄ =
    let w₁ = word_writes (down (sp c) 2) (pc c) in
    let w₂ = word_writes (down (sp c) 4) (lr c) in
    let w₃ = word_writes (down (sp c) 6) c.psw in
    let w₄ = word_writes (pushed c) c.cex in
    let at : (x k : ℕ) → x ≡ down s k → x ≡ down (sp c) k = λ x k h. h ∙ ap (λ (y : ℕ). down y k) (sym q) in
    let n₁ = m₁ (pc c) ∙ ap (λ (x : ℕ). marked who (word_writes x (pc c)) l) (at a 2 ha) in
    let n₂ = m₂ (lr c) ∙ (λ i. marked who (word_writes (at b 4 hb i) (lr c)) (n₁ i)) in
    let n₃ = m₃ c.psw ∙ (λ i. marked who (word_writes (at d 6 hd i) c.psw) (n₂ i)) in
    let n₄ = m₄ c.cex ∙ (λ i. marked who (word_writes (at e 8 he i) c.cex) (n₃ i)) in
    n₄
    ∙ ap (marked who w₄) (ap (marked who w₃) (sym (marked_append who w₁ w₂ l)) ∙ sym (marked_append who (w₁ ++ w₂) w₃ l))
    ∙ sym (marked_append who ((w₁ ++ w₂) ++ w₃) w₄ l)

-- ---- a word stored: the status byte that the low byte may have changed has its input bit

input-kept : (t v : ℕ) → input? (stored_status t v) ≡ input? t
input-kept t v =
    let q = put_bit 0 t (bit_of 0 v) in
    let low : put_bit 4 q (bit_of 4 v) / 2 % 2 ≡ q / 2 % 2 = bit-one q (bit (bit_of 4 v)) in
    let none : q / 2 % 2 ≡ t / 2 % 2 = bit-zero t (bit (bit_of 0 v)) (bit-small (bit_of 0 v)) in
    ap (λ (x : ℕ). eqb x 1) (low ∙ none)
  where
    bit-small : (b : Bool) → bit b < 2
    bit-small true = lit< tt
    bit-small false = lit< tt

    bit-one : (q b : ℕ) → (q / 32 * 32 + b * 16 + q % 16) / 2 % 2 ≡ q / 2 % 2
    bit-one q b = omega arith

    bit-zero : (t b : ℕ) → b < 2 → (t / 2 * 2 + b * 1 + t % 1) / 2 % 2 ≡ t / 2 % 2
    bit-zero t b h = omega arith

status-input : (m : List ℕ) (a v : ℕ) → a < length m → a < 16 → a % 2 ≡ 0
    → input? (byte_at (commit (byte_writes m a v) m) a) ≡ input? (byte_at m a)
unfolding commit
status-input m a v h s z =
    rw (lt-ltb a 16 s, eq-eqb (a % 2) 0 z)
    (ap input? (set_at m a (stored_status (byte_at m a) v) a h
    ∙ ap (λ b. cond b (stored_status (byte_at m a) v) (byte_at m a)) (eq-eqb a a refl))
    ∙ input-kept (byte_at m a) v)

pub store-law : (who : ℕ) (l : List ℕ) {l₁ l₂ : List ℕ} (m : List ℕ) (a v : ℕ) → length m ≡ 65536 → a < 65536
    → ((m' : List ℕ) (x : ℕ)
    → (device? (a / 2 * 2) ≡ true → input? (byte_at m' (a / 2 * 2 - 1)) ≡ input? (byte_at m (a / 2 * 2 - 1)))
    → l₁ ≡ marked who (byte_writes m' (a / 2 * 2) x) l)
    → ((m' : List ℕ) (x : ℕ)
    → (device? (a / 2 * 2 + 1) ≡ true → input? (byte_at m' (a / 2 * 2 + 1 - 1)) ≡ input? (byte_at m (a / 2 * 2 + 1 - 1)))
    → l₂ ≡ marked who (byte_writes m' (a / 2 * 2 + 1) x) l₁)
    → l₂ ≡ marked who (store_writes false m a v) l
store-law who l m a v size h p q =
    let b = a / 2 * 2 in
    let e : b ≡ even a = omega arith in
    let n = commit (byte_writes m b (low_byte v)) m in
    let one = p m (low_byte v) (λ d. refl) in
    let back : b + 1 - 1 ≡ b = omega arith in
    let same : device? (b + 1) ≡ true → input? (byte_at n (b + 1 - 1)) ≡ input? (byte_at m (b + 1 - 1)) =
    λ d.
    let s : b + 1 < 16 = lt_of d in
    subst (λ (i : ℕ). input? (byte_at n i) ≡ input? (byte_at m i)) (sym back)
    (status-input m b (low_byte v) (subst (λ (k : ℕ). b < k) (sym size) (omega arith)) (omega (arith, s)) (omega arith)) in
    let two = q n (high_byte v) same in
    two
    ∙ ap (marked who (byte_writes n (b + 1) (high_byte v))) one
    ∙ sym (marked_append who (byte_writes m b (low_byte v)) (byte_writes n (b + 1) (high_byte v)) l)
    ∙ ap (λ (x : ℕ). marked who (byte_writes m x (low_byte v) ++ byte_writes (commit (byte_writes m x (low_byte v)) m) (x + 1)
    (high_byte v)) l) e

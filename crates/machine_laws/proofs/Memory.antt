-- Memory after a list of writes, byte by byte and word by word: a byte is the last value that was written to it, or what it was (`over`),
-- and each law goes down the list of writes by that. Assumes nothing.
use Prim.Native.Nat.{ℕ, zero, suc, ◌+◌, ◌*◌, ◌<◌}
use mathlib.Core.Bool.{true, false, cond, ◌||◌, true≢false, false≢true}
use mathlib.Core.List.{List, [], ◌∷◌, ◌++◌}
use mathlib.Core.Logic.{◌≢◌}
use mathlib.Core.Path.{◌≡◌, refl, sym, ap, subst, ◌∙◌}
use native.Mathlib.Omega.{arith}
use lib.Dec.{eqb}
use lib.ListN.{length, set, length-set}
use lib.Seq.{get_or-set_same, get_or-set_other}
use Rattle.machine.specs.Memory.{Write, write, commit, writes?, byte_at, word_at, word_writes, even, low_byte, high_byte}
use Rattle.machine_laws.specs.Bounds.{Each, Bytes}
use Rattle.machine_laws.proofs.Cases.{bool_cases, eq_of, neq-of}

-- the byte at a after the writes, which was x before
unfoldable pub over : List Write → ℕ → ℕ → ℕ
over [] a x = x
over (w ∷ ws) a x = over ws a (cond (eqb w.addr a) w.value x)

pub set_at : (m : List ℕ) (b v a : ℕ) → a < length m → byte_at (set m b v) a ≡ cond (eqb b a) v (byte_at m a)
set_at m b v a h =
    bool_cases (eqb b a)
    (λ e. rw e (subst (λ x. byte_at (set m b v) x ≡ v) (eq_of e) (get_or-set_same m b v 0 (subst (λ x. x < length m) (sym (eq_of e)) h))))
    (λ e. rw e (get_or-set_other m b a v 0 (λ q. neq-of e (sym q))))

-- writes keep the length
pub commit-length : (ws : List Write) (m : List ℕ) → length (commit ws m) ≡ length m
unfolding commit
commit-length [] m = refl
commit-length (w ∷ ws) m = commit-length ws (set m w.addr w.value) ∙ length-set m w.addr w.value

-- one write, and two lists of writes, one after the other
pub commit-none : (m : List ℕ) → commit [] m ≡ m
unfolding commit
commit-none m = refl

pub commit-one : (a v : ℕ) (m : List ℕ) → commit (write a v ∷ []) m ≡ set m a v
unfolding commit
commit-one a v m = refl

pub commit-append : (ws vs : List Write) (m : List ℕ) → commit (ws ++ vs) m ≡ commit vs (commit ws m)
unfolding commit
commit-append [] vs m = refl
commit-append (w ∷ ws) vs m = commit-append ws vs (set m w.addr w.value)

-- a byte after writes
pub commit-at : (ws : List Write) (m : List ℕ) (a : ℕ) → a < length m → byte_at (commit ws m) a ≡ over ws a (byte_at m a)
unfolding commit over
commit-at [] m a h = refl
commit-at (w ∷ ws) m a h =
    commit-at ws (set m w.addr w.value) a (rw length-set h) ∙ ap (over ws a) (set_at m w.addr w.value a h)

pub over-unwritten : (ws : List Write) (a x : ℕ) → writes? ws a ≡ false → over ws a x ≡ x
unfolding over writes?
over-unwritten [] a x e = refl
over-unwritten (w ∷ ws) a x e =
    bool_cases (eqb w.addr a)
    (λ q. absurd (true≢false (rw q at e))) (λ q. rw q (over-unwritten ws a x (rw q at e)))

pub over-written : (ws : List Write) (a x y : ℕ) → writes? ws a ≡ true → over ws a x ≡ over ws a y
unfolding over writes?
over-written [] a x y e = absurd (false≢true e)
over-written (w ∷ ws) a x y e =
    bool_cases (eqb w.addr a)
    (λ q. rw q refl) (λ q. rw q (over-written ws a x y (rw q at e)))

pub over-append : (ws vs : List Write) (a x : ℕ) → over (ws ++ vs) a x ≡ over vs a (over ws a x)
unfolding over
over-append [] vs a x = refl
over-append (w ∷ ws) vs a x = over-append ws vs a (cond (eqb w.addr a) w.value x)

pub writes-append : (ws vs : List Write) (a : ℕ) → writes? (ws ++ vs) a ≡ (writes? ws a || writes? vs a)
unfolding writes?
writes-append [] vs a = refl
writes-append (w ∷ ws) vs a =
    bool_cases (eqb w.addr a) (λ q. rw q refl) (λ q. rw q (writes-append ws vs a))

pub unwritten : (ws : List Write) (m : List ℕ) (a : ℕ) → a < length m → writes? ws a ≡ false → byte_at (commit ws m) a ≡ byte_at m a
unwritten ws m a h e = commit-at ws m a h ∙ over-unwritten ws a (byte_at m a) e

-- bytes stay bytes if bytes are written
bytes-set : (m : List ℕ) (a v : ℕ) → v < 256 → Bytes m → Bytes (set m a v)
bytes-set [] a v h b i = b i
bytes-set (x ∷ m) zero v h b zero = h
bytes-set (x ∷ m) zero v h b (suc i) = b (suc i)
bytes-set (x ∷ m) (suc a) v h b zero = b zero
bytes-set (x ∷ m) (suc a) v h b (suc i) = bytes-set m a v h (λ j. b (suc j)) i

pub commit-bytes : (ws : List Write) (m : List ℕ) → Each (λ w. w.value < 256) ws → Bytes m → Bytes (commit ws m)
unfolding commit
commit-bytes [] m h b = b
commit-bytes (w ∷ ws) m h b = commit-bytes ws (set m w.addr w.value) h.1 (bytes-set m w.addr w.value h.0 b)

-- a word of bytes is below 65,536
pub word_lt : (m : List ℕ) (a : ℕ) → Bytes m → word_at m a < 65536
word_lt m a b = let l = b (even a) in let h = b (even a + 1) in omega arith

pub word_back : (v : ℕ) → v < 65536 → low_byte v + 256 * high_byte v ≡ v
word_back v h = omega arith

-- a word that was written reads back; every other word stays
pub word-written : (m : List ℕ) (a v : ℕ) → length m ≡ 65536 → a < 65536 → v < 65536 → word_at (commit (word_writes a v) m) a ≡ v
unfolding commit
word-written m a v l h k =
    let m₁ = set m (even a) (low_byte v) in
    let lo : byte_at (set m₁ (even a + 1) (high_byte v)) (even a) ≡ low_byte v =
    get_or-set_other m₁ (even a + 1) (even a) (high_byte v) 0 (omega arith) ∙ get_or-set_same m (even a) (low_byte v) 0 (omega arith) in
    let hi : byte_at (set m₁ (even a + 1) (high_byte v)) (even a + 1) ≡ high_byte v =
    get_or-set_same m₁ (even a + 1) (high_byte v) 0 (rw length-set (omega arith)) in
    (λ i. lo i + 256 * hi i) ∙ word_back v k

pub word-unwritten : (m : List ℕ) (a b v : ℕ) → even a ≢ even b → word_at (commit (word_writes a v) m) b ≡ word_at m b
unfolding commit
word-unwritten m a b v h =
    let m₁ = set m (even a) (low_byte v) in
    let lo : byte_at (set m₁ (even a + 1) (high_byte v)) (even b) ≡ byte_at m (even b) =
    get_or-set_other m₁ (even a + 1) (even b) (high_byte v) 0 (omega arith)
    ∙ get_or-set_other m (even a) (even b) (low_byte v) 0 (λ q. h (sym q)) in
    let hi : byte_at (set m₁ (even a + 1) (high_byte v)) (even b + 1) ≡ byte_at m (even b + 1) =
    get_or-set_other m₁ (even a + 1) (even b + 1) (high_byte v) 0 (omega arith)
    ∙ get_or-set_other m (even a) (even b + 1) (low_byte v) 0 (omega arith) in
    λ i. lo i + 256 * hi i

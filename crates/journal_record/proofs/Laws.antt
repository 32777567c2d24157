-- One record of the journal, filled part by part, and put into the ring: its parts lie side by side, so stores one behind the other are its
-- bytes. A byte from before the events is a device byte that was kept, or else memory's own. Assumes nothing.
use Rattle.std.proofs.Common.{
  ◌≡◌,
  ℕ,
  zero,
  suc,
  ◌+◌,
  ◌-◌,
  ◌*◌,
  ◌/◌,
  ◌%◌,
  ◌^◌,
  ◌<◌,
  ◌≤◌,
  Bool,
  true,
  false,
  cond,
  ◌&&◌,
  leb,
  ◌≢◌,
  List,
  [],
  ◌∷◌,
  ◌++◌,
  length,
  take,
  drop,
  sym,
  refl,
  ap,
  ◌∙◌,
  subst,
  append_assoc,
  append-nil,
  arith,
  length-append,
  drop_of_length-le,
  drop-cons,
  get_or-take,
  drop-drop,
  take_at,
}
use lib.Seq.{sets, sets-eq}
use Rattle.machine.specs.State.{State, wrap}
use Rattle.machine.specs.Memory.{byte_at, even, low_byte, high_byte}
use Rattle.machine.specs.Record.{record_of}
use Rattle.machine.specs.Devices.{device?}
use Rattle.machine_laws.proofs.Cases.{is_lt, not-lt, is_eq, not-eq, le_of, and_left, and_right}
use Rattle.run_laws.proofs.LogBytes.{sets-append}
use Rattle.little_endian.specs.Bytes.{two_put}
use Rattle.journal.specs.Ring.{journal_of, places_of, following, one_more, keep}
use Rattle.journal.proofs.Ring.{RingFits, keep-fits}
use Rattle.journal_record.specs.declared.Ring.{Ring}
use Rattle.journal_record.specs.Ring.{journal_with, Lends, kept_in}
use Rattle.journal.proofs.Record.{bytes-length, record-length}
use Rattle.journal.specs.Record.{first_stored, bytes_from, fields_of}
use Rattle.journal_record.specs.Before.{Before}

-- ---- the address of a store

pub stored-device : (byte : Bool) (a : ℕ) → a < 16 → 0 ≡ cond (device? (first_stored byte a)) 0 (first_stored byte a)
stored-device true a h = sym (ap (λ b. cond b 0 a) (is_lt h))
stored-device false a h = let l : even a < 16 = omega arith in sym (ap (λ b. cond b 0 (even a)) (is_lt l))

pub stored-byte : (byte : Bool) (a : ℕ) → 16 ≤ a → byte ≡ true → a ≡ cond (device? (first_stored byte a)) 0 (first_stored byte a)
stored-byte true a h e = sym (ap (λ b. cond b 0 a) (not-lt h))
stored-byte false a h e = absurd (true-false e)
  where
    true-false : false ≡ true → ⊥
    true-false q = subst (λ (b : Bool). cond b ⊥ (Unit {0})) q tt

pub stored-word : (byte : Bool) (a : ℕ) → 16 ≤ a → byte ≡ false
    → even a ≡ cond (device? (first_stored byte a)) 0 (first_stored byte a)
stored-word true a h e = absurd (subst (λ (b : Bool). cond b (Unit {0}) ⊥) e tt)
stored-word false a h e =
    let l : 16 ≤ even a = omega arith in
    sym (ap (λ b. cond b 0 (even a)) (not-lt l))

-- ---- the two numbers

pub one-more-below : (r kept : ℕ) → kept < r → kept + 1 ≡ one_more r kept
one-more-below r kept h = let q : kept + 1 ≡ suc kept = omega arith in q ∙ sym (ap (λ b. cond b (suc kept) kept) (is_lt h))

pub one-more-full : (r kept : ℕ) → r ≤ kept → kept ≡ one_more r kept
one-more-full r kept h = sym (ap (λ b. cond b (suc kept) kept) (not-lt h))

pub following-last : (r p : ℕ) → p + 1 ≡ r → 0 ≡ following r p
following-last r p h = sym (ap (λ b. cond b 0 (p + 1)) (is_eq h))

pub following-next : (r p : ℕ) → p + 1 ≢ r → p + 1 ≡ following r p
following-next r p h = sym (ap (λ b. cond b 0 (p + 1)) (not-eq h))

-- ---- bytes before the events

pub between : (a : ℕ) → leb 16 a && leb a 65528 ≡ true → (16 ≤ a) × (a ≤ 65528)
between a h = (le_of (and_left (leb 16 a) (leb a 65528) h), le_of (and_right (leb 16 a) (leb a 65528) h))

pub device-byte : (b d m : List ℕ) → Before b d m → (a : ℕ) → a < 16 → byte_at d a ≡ byte_at b a
device-byte b d m w a h = ap (λ l. byte_at l a) w.devices ∙ get_or-take 16 b a 0 h

module _ (b : List ℕ) (a : ℕ) where
  -- eight bytes, one by one
  listed : (x0 x1 x2 x3 x4 x5 x6 x7 : ℕ) → x0 ≡ byte_at b (wrap a) → x1 ≡ byte_at b (wrap (suc a))
      → x2 ≡ byte_at b (wrap (suc (suc a))) → x3 ≡ byte_at b (wrap (suc (suc (suc a))))
      → x4 ≡ byte_at b (wrap (suc (suc (suc (suc a))))) → x5 ≡ byte_at b (wrap (suc (suc (suc (suc (suc a))))))
      → x6 ≡ byte_at b (wrap (suc (suc (suc (suc (suc (suc a)))))))
      → x7 ≡ byte_at b (wrap (suc (suc (suc (suc (suc (suc (suc a))))))))
      → (x0 ∷ x1 ∷ x2 ∷ x3 ∷ x4 ∷ x5 ∷ x6 ∷ x7 ∷ []) ≡ bytes_from b a 8
  unfolding bytes_from
  listed x0 x1 x2 x3 x4 x5 x6 x7 q0 q1 q2 q3 q4 q5 q6 q7 = λ i. q0 i ∷ q1 i ∷ q2 i ∷ q3 i ∷ q4 i ∷ q5 i ∷ q6 i ∷ q7 i ∷ []

  -- a byte at an address that is n further on, wrapped or not
  there : (x p n : ℕ) → x ≡ byte_at b p → p ≡ wrap n → x ≡ byte_at b (wrap n)
  there x p n e q = e ∙ ap (byte_at b) q

  -- past the device bytes, with no wrap
  pub eight-plain : (d m : List ℕ) → Before b d m → 16 ≤ a → a ≤ 65528
      → (byte_at m a ∷ byte_at m (a + 1) ∷ byte_at m (a + 2) ∷ byte_at m (a + 3) ∷ byte_at m (a + 4) ∷ byte_at m (a + 5)
      ∷ byte_at m (a + 6) ∷ byte_at m (a + 7) ∷ []) ≡ bytes_from b a 8
  eight-plain d m w h k =
      listed _ _ _ _ _ _ _ _
      (there _ a a (w.others a h (omega arith)) (omega arith))
      (there _ (a + 1) (suc a) (w.others (a + 1) (omega arith) (omega arith)) (omega arith))
      (there _ (a + 2) (suc (suc a)) (w.others (a + 2) (omega arith) (omega arith)) (omega arith))
      (there _ (a + 3) (suc (suc (suc a))) (w.others (a + 3) (omega arith) (omega arith)) (omega arith))
      (there _ (a + 4) (suc (suc (suc (suc a)))) (w.others (a + 4) (omega arith) (omega arith)) (omega arith))
      (there _ (a + 5) (suc (suc (suc (suc (suc a))))) (w.others (a + 5) (omega arith) (omega arith)) (omega arith))
      (there _ (a + 6) (suc (suc (suc (suc (suc (suc a)))))) (w.others (a + 6) (omega arith) (omega arith)) (omega arith))
      (there _ (a + 7) (suc (suc (suc (suc (suc (suc (suc a))))))) (w.others (a + 7) (omega arith) (omega arith)) (omega arith))

  -- anywhere, the addresses wrapped
  pub eight-wrapped : (x0 x1 x2 x3 x4 x5 x6 x7 p1 p2 p3 p4 p5 p6 p7 : ℕ) → a < 65536
      → x0 ≡ byte_at b a
      → p1 ≡ (a + 1) % 2 ^ 16 → x1 ≡ byte_at b p1
      → p2 ≡ (a + 2) % 2 ^ 16 → x2 ≡ byte_at b p2
      → p3 ≡ (a + 3) % 2 ^ 16 → x3 ≡ byte_at b p3
      → p4 ≡ (a + 4) % 2 ^ 16 → x4 ≡ byte_at b p4
      → p5 ≡ (a + 5) % 2 ^ 16 → x5 ≡ byte_at b p5
      → p6 ≡ (a + 6) % 2 ^ 16 → x6 ≡ byte_at b p6
      → p7 ≡ (a + 7) % 2 ^ 16 → x7 ≡ byte_at b p7
      → (x0 ∷ x1 ∷ x2 ∷ x3 ∷ x4 ∷ x5 ∷ x6 ∷ x7 ∷ []) ≡ bytes_from b a 8
  eight-wrapped x0 x1 x2 x3 x4 x5 x6 x7 p1 p2 p3 p4 p5 p6 p7 h e0 q1 e1 q2 e2 q3 e3 q4 e4 q5 e5 q6 e6 q7 e7 =
      listed x0 x1 x2 x3 x4 x5 x6 x7
      (there x0 a a e0 (omega arith)) (there x1 p1 (suc a) e1 (omega arith)) (there x2 p2 (suc (suc a)) e2 (omega arith))
      (there x3 p3 (suc (suc (suc a))) e3 (omega arith)) (there x4 p4 (suc (suc (suc (suc a)))) e4 (omega arith))
      (there x5 p5 (suc (suc (suc (suc (suc a))))) e5 (omega arith)) (there x6 p6 (suc (suc (suc (suc (suc (suc a)))))) e6 (omega arith))
      (there x7 p7 (suc (suc (suc (suc (suc (suc (suc a))))))) e7 (omega arith))

-- the first eight device bytes are those from address 0 on
pub eight-first : (b d m : List ℕ) → Before b d m
    → (byte_at d 0 ∷ byte_at d 1 ∷ byte_at d 2 ∷ byte_at d 3 ∷ byte_at d 4 ∷ byte_at d 5 ∷ byte_at d 6 ∷ byte_at d 7 ∷ [])
    ≡ bytes_from b 0 8
eight-first b d m w =
    listed b 0 _ _ _ _ _ _ _ _
    (there b 0 _ 0 0 (device-byte b d m w 0 (omega arith)) (omega arith))
    (there b 0 _ 1 1 (device-byte b d m w 1 (omega arith)) (omega arith))
    (there b 0 _ 2 2 (device-byte b d m w 2 (omega arith)) (omega arith))
    (there b 0 _ 3 3 (device-byte b d m w 3 (omega arith)) (omega arith))
    (there b 0 _ 4 4 (device-byte b d m w 4 (omega arith)) (omega arith))
    (there b 0 _ 5 5 (device-byte b d m w 5 (omega arith)) (omega arith))
    (there b 0 _ 6 6 (device-byte b d m w 6 (omega arith)) (omega arith))
    (there b 0 _ 7 7 (device-byte b d m w 7 (omega arith)) (omega arith))

-- bytes of a list in their place are those from its address on
part-is : (b : List ℕ) (n k : ℕ) → k + n ≤ length b → k + n ≤ 65536 → take n (drop k b) ≡ bytes_from b k n
unfolding bytes_from
part-is b zero k h l = refl
part-is b (suc n) k h l =
    let q : k ≡ wrap k = omega arith in
    let e = part-is b n (suc k) (omega arith) (omega arith) in
    ap (take (suc n)) (drop-cons b k 0 (omega arith)) ∙ (λ i. byte_at b (q i) ∷ e i)

-- the device bytes are the first sixteen
pub sixteen : (b d m : List ℕ) → Before b d m → d ≡ bytes_from b 0 16
sixteen b d m w = w.devices ∙ part-is b 16 0 (let h = w.size in omega arith) (omega arith)

-- ---- the record filled

abbrev pub zeros : List ℕ
zeros = 0 ∷ 0 ∷ 0 ∷ 0 ∷ 0 ∷ 0 ∷ []

-- a state record in front of 32 bytes, which the other fields then fill
module _ (state rest devices eight : List ℕ) (a : ℕ) (ls : length state ≡ 32) (lr : length rest ≡ 32) (ld : length devices ≡ 16)
    (le : length eight ≡ 8) where
  abbrev address : List ℕ
  address = low_byte a ∷ high_byte a ∷ []

  abbrev fields : List ℕ
  fields = devices ++ (address ++ (eight ++ zeros))

  fields-length : length fields ≡ 32
  fields-length = simp length-append (rw (ld, le) refl)

  as_one : sets (sets (two_put (sets (state ++ rest) 32 devices) 48 a) 50 eight) 58 zeros ≡ sets (state ++ rest) 32 fields
  as_one =
      let m = state ++ rest in
      let e1 : 32 + length devices ≡ 48 = omega arith in
      let e2 : 50 + length eight ≡ 58 = omega arith in
      sym (sets-append m 32 devices (address ++ (eight ++ zeros))
      ∙ ap (λ n. sets (sets m 32 devices) n (address ++ (eight ++ zeros))) e1
      ∙ sets-append (sets m 32 devices) 48 address (eight ++ zeros)
      ∙ sets-append (two_put (sets m 32 devices) 48 a) 50 eight zeros
      ∙ ap (λ n. sets (sets (two_put (sets m 32 devices) 48 a) 50 eight) n zeros) e2)

  pub filled : sets (sets (two_put (sets (state ++ rest) 32 devices) 48 a) 50 eight) 58 zeros ≡ fields_of state devices a eight
  unfolding fields_of
  filled =
      let m = state ++ rest in
      let l = length-append state rest in
      let f = fields-length in
      let past : length m ≤ 32 + length fields = omega arith in
      as_one
      ∙ sets-eq fields m 32 (omega arith)
      ∙ (λ i. (take_at state rest 32 ls i ++ fields) ++ drop_of_length-le m past i)
      ∙ append-nil (state ++ fields)

-- the same of the state and the memory before the events
pub filled-before : (s : State) (b d m rest eight : List ℕ) (a : ℕ) → Before b d m → length rest ≡ 32 → eight ≡ bytes_from b a 8
    → sets (sets (two_put (sets (record_of s ++ rest) 32 d) 48 a) 50 eight) 58 zeros
    ≡ fields_of (record_of s) (bytes_from b 0 16) a (bytes_from b a 8)
filled-before s b d m rest eight a w l e =
    let q = sixteen b d m w in
    filled (record_of s) rest d eight a (record-length s) l (ap length q ∙ bytes-length b 0 16) (ap length e ∙ bytes-length b a 8)
    ∙ (λ i. fields_of (record_of s) (q i) a (e i))

pub fields-whole : (s : State) (b : List ℕ) (a : ℕ)
    → length (fields_of (record_of s) (bytes_from b 0 16) a (bytes_from b a 8)) ≡ 64
unfolding fields_of
fields-whole s b a = simp length-append (rw (record-length s, bytes-length b 0 16, bytes-length b a 8) refl)

-- ---- the record in the journal

-- the part of a list from byte o on, 64 bytes, replaced
pub part-put : (j e : List ℕ) (o : ℕ) → o + 64 ≤ length j → length e ≡ 64 → take o j ++ (e ++ drop (o + 64 - o) (drop o j)) ≡ sets j o e
part-put j e o h l =
    let n : o + 64 - o ≡ length e = omega arith in
    ap (λ k. take o j ++ (e ++ drop k (drop o j))) n
    ∙ ap (λ d. take o j ++ (e ++ d)) (drop-drop (length e) o j)
    ∙ sym (sets-eq e j o (omega arith) ∙ append_assoc (take o j) e (drop (o + length e) j))

pub none_kept : (b : List ℕ) (r : Ring) (e : List ℕ) → length b ≡ 0 → journal_with b r ≡ kept_in b r e
none_kept b r e h = sym (ap (λ t. cond t (journal_with b r) (keep e (journal_with b r))) (is_eq h))

pub one_kept : (b b' : List ℕ) (r x : Ring) (e : List ℕ) → length b ≢ 0 → b' ≡ sets b (64 * r.place) e
    → x.kept ≡ one_more (places_of b) r.kept → x.place ≡ following (places_of b) r.place → journal_with b' x ≡ kept_in b r e
unfolding keep
one_kept b b' r x e h p q t =
    (λ i. journal_of (p i) (q i) (t i)) ∙ sym (ap (λ u. cond u (journal_with b r) (keep e (journal_with b r))) (not-eq h))

-- a journal that fits does so with one record more
ring-same : (b b' : List ℕ) (k p : ℕ) → length b' ≡ length b → RingFits (journal_of b k p) → RingFits (journal_of b' k p)
ring-same b b' k p e f =
    let n = ap (λ i. i / 64) e in
    let small = f.small in
    let whole = f.whole in
    let kept = f.kept in
    let place = f.place in
    record { small = omega arith; whole = omega arith; kept = omega arith; place = omega arith }

more-fits : (b : List ℕ) (r : Ring) → RingFits (journal_with b r)
    → RingFits (journal_of b (one_more (places_of b) r.kept) (following (places_of b) r.place))
unfolding keep
more-fits b r f = keep-fits (journal_with b r) f []

pub still-lends : (b b' : List ℕ) (r x : Ring) → RingFits (journal_with b r) → length b' ≡ length b
    → x.kept ≡ one_more (places_of b) r.kept → x.place ≡ following (places_of b) r.place → Lends b' x
still-lends b b' r x f e p q h =
    subst (λ (k : ℕ). RingFits (journal_of b' k x.place)) (sym p)
    (subst (λ (k : ℕ). RingFits (journal_of b' (one_more (places_of b) r.kept) k)) (sym q) (ring-same b b' _ _ e (more-fits b r f)))

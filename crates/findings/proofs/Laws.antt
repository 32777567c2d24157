-- What is found is nine blocks of sixteen bytes, one for each kind: a store of sixteen bytes at a block's place replaces that block alone,
-- and byte 8 of a block says whether its kind was found, so that what was told first of a kind stays. Assumes nothing.
use Rattle.std.proofs.Common.{
  ◌≡◌,
  ℕ,
  zero,
  suc,
  ◌+◌,
  ◌*◌,
  ◌/◌,
  ◌%◌,
  ◌^◌,
  ◌<◌,
  ◌≤◌,
  Option,
  Some,
  None,
  append_assoc,
  Bool,
  true,
  false,
  cond,
  not,
  eqb,
  List,
  [],
  ◌∷◌,
  ◌++◌,
  length,
  get_or,
  take,
  drop,
  set,
  sym,
  refl,
  ap,
  ◌∙◌,
  append-nil,
  mul_assoc,
  mul_comm,
  add_comm,
  arith,
  length-set,
  drop_of_length-le,
}
use native.Mathlib.Nat.{add-mul-mod_self_right}
use lib.Seq.{sets, sets-eq, set-get_or}
use Rattle.stores.proofs.Laws.{sets-before, sets-past}
use Rattle.word.specs.Width.{bit}
use mathlib.Core.Bool.{◌&&◌, ◌||◌, true≢false}
use Rattle.machine_laws.proofs.Cases.{bool_cases}
use Rattle.std.specs.Option.{MatchOption}
use Rattle.std.proofs.lemmas.Option.{MatchOption-at_some, MatchOption-at_none}
use Rattle.std.proofs.lemmas.Slice.{put_mid-paste}
use Rattle.std.proofs.lemmas.List.Edits.{paste_all}
use borrow.Rule.Slice.PartMut.{put_mid}
use Rattle.soundness.specs.Findings.{Kind, Handler, Finding, Seen, nothing, finding, finding_of, find_after, breaks?, detail_of, address_of}
use Rattle.soundness.specs.Findings.{started, faulted, unopened, trapped, unclosed, changed, slept, device, foreign}
use Rattle.findings.specs.declared.Breach.{Breach}
use Rattle.findings.specs.Told.{breach_of, first?, tells?, told_after}
use Rattle.machine.specs.Record.{count_byte}
use Rattle.soundness.specs.Judge.{four_bytes, finding_bytes, findings_bytes}
use Rattle.soundness.proofs.Blocks.{joined, Sixteen, joined_at, blocks, block-sixteen, blocks-sixteen, joined-blocks}

-- ---- a block replaced

sets-whole : (a b x : List ℕ) → length a ≡ length x → sets (a ++ b) 0 x ≡ x ++ b
sets-whole a b x e =
    let all : drop (0 + length x) a ≡ [] = drop_of_length-le a {i = 0 + length x} (omega (arith, e)) in
    sets-before a b 0 x (omega (arith, e))
    ∙ ap (λ l. l ++ b) (sets-eq x a 0 (omega (arith, e)) ∙ ap (λ l. x ++ l) all ∙ append-nil x)

-- block i replaced
pub joined-set : (bs : List (List ℕ)) → Sixteen bs → (i : ℕ) (x : List ℕ) → length x ≡ 16 → i < length bs
    → sets (joined bs) (16 * i) x ≡ joined (set bs i x)
joined-set [] s i x e h = absurd (omega (arith, h))
joined-set (b ∷ bs) s zero x e h = sets-whole b (joined bs) x (s.0 ∙ sym e)
joined-set (b ∷ bs) s (suc i) x e h =
    let p : 16 * suc i ≡ length b + 16 * i = omega (arith, s.0) in
    ap (λ n. sets (b ++ joined bs) n x) p
    ∙ sets-past b (joined bs) (16 * i) x
    ∙ ap (λ l. b ++ l) (joined-set bs s.1 i x e (omega (arith, h)))

-- ---- a block's flag

block-flag' : (c : ℕ) (b : Bool) (k x a : ℕ) (h : Handler)
    → get_or (finding_bytes c (record { found = b; step = k; detail = x; address = a; by = h })) 8 0 ≡ bit b
block-flag' c true k x a h = refl
block-flag' c false k x a h = refl

pub block-flag : (c : ℕ) (x : Finding) → get_or (finding_bytes c x) 8 0 ≡ bit x.found
block-flag c x = block-flag' c x.found x.step x.detail x.address x.by

-- ---- one kind told

-- a block after a step: y is what the step would tell
tell-block' : (c : ℕ) (b broke : Bool) (k x a : ℕ) (h : Handler) (y : Finding)
    → let z : Finding = record { found = b; step = k; detail = x; address = a; by = h } in
    cond broke (cond (eqb (bit b) 0) (finding_bytes c y) (finding_bytes c z)) (finding_bytes c z)
    ≡ finding_bytes c (cond b z (cond broke y nothing))
tell-block' c true true k x a h y = refl
tell-block' c true false k x a h y = refl
tell-block' c false true k x a h y = refl
tell-block' c false false k x a h y = refl

pub tell-block : (c : ℕ) (x : Finding) (broke : Bool) (y : Finding)
    → cond broke (cond (eqb (get_or (finding_bytes c x) 8 0) 0) (finding_bytes c y) (finding_bytes c x)) (finding_bytes c x)
    ≡ finding_bytes c (cond x.found x (cond broke y nothing))
tell-block c x broke y =
    ap (λ (n : ℕ). cond broke (cond (eqb n 0) (finding_bytes c y) (finding_bytes c x)) (finding_bytes c x)) (block-flag c x)
    ∙ tell-block' c x.found broke x.step x.detail x.address x.by y

-- ---- the blocks of what is found

bit-set : (b : Bool) → not (eqb (bit b) 0) ≡ b
bit-set true = refl
bit-set false = refl

-- byte 8 of block i says whether the kind is found
pub found-law : (c : ℕ) (f : Kind → Finding) (l : List ℕ) → l ≡ findings_bytes c f
    → (i : ℕ) (x : Finding) → i < 9 → get_or (blocks c f) i [] ≡ finding_bytes c x
    → not (eqb (get_or l (16 * i + 8) 0) 0) ≡ x.found
found-law c f l e i x h at =
    let same : get_or l (16 * i + 8) 0 ≡ bit x.found =
    ap (λ z. get_or z (16 * i + 8) 0) (e ∙ joined-blocks c f)
    ∙ joined_at (blocks c f) (blocks-sixteen c f) i 8 (omega arith) h
    ∙ ap (λ z. get_or z 8 0) at
    ∙ block-flag c x in
    ap (λ n. not (eqb n 0)) same ∙ bit-set x.found

pub flag-law : (c : ℕ) (f : Kind → Finding) (l : List ℕ) → l ≡ findings_bytes c f
    → (i : ℕ) (x : Finding) → i < 9 → get_or (blocks c f) i [] ≡ finding_bytes c x
    → (r : ℕ) → r ≡ bit (not (eqb (get_or l (16 * i + 8) 0) 0)) → r ≡ bit x.found
flag-law c f l e i x h at r p = p ∙ ap bit (found-law c f l e i x h at)

-- ---- one kind told in its block

sixteen-set : (bs : List (List ℕ)) (i : ℕ) (x : List ℕ) → length x ≡ 16 → Sixteen bs → Sixteen (set bs i x)
sixteen-set [] i x e s = s
sixteen-set (b ∷ bs) zero x e s = (e, s.1)
sixteen-set (b ∷ bs) (suc i) x e s = (s.0, sixteen-set bs i x e s.1)

-- l is these nine blocks
pub record Stage (l : List ℕ) (bs : List (List ℕ)) : Type 0 where
  pub is : l ≡ joined bs
  pub sixteen : Sixteen bs
  pub nine : length bs ≡ 9

pub stage-start : (c : ℕ) (f : Kind → Finding) (l : List ℕ) → l ≡ findings_bytes c f → Stage l (blocks c f)
stage-start c f l e = record { is = e ∙ joined-blocks c f; sixteen = blocks-sixteen c f; nine = refl }

-- what code tells, y, is what the step tells, y', if the step makes the breach
told-law : (c : ℕ) (l : List ℕ) (bs : List (List ℕ)) → Stage l bs → (i : ℕ) → i < 9 → (x y y' : Finding) (b : Bool)
    → get_or bs i [] ≡ finding_bytes c x → (b ≡ true → y ≡ y')
    → cond b (cond (eqb (get_or l (16 * i + 8) 0) 0) (sets l (16 * i) (finding_bytes c y)) l) l
    ≡ joined (set bs i (cond b (cond (eqb (get_or (finding_bytes c x) 8 0) 0) (finding_bytes c y') (finding_bytes c x))
    (finding_bytes c x)))
told-law c l bs g i h x y y' b at same =
    let n : i < length bs = omega (arith, h, g.nine) in
    let flag : get_or l (16 * i + 8) 0 ≡ get_or (finding_bytes c x) 8 0 =
    ap (λ z. get_or z (16 * i + 8) 0) g.is ∙ joined_at bs g.sixteen i 8 (omega arith) n ∙ ap (λ z. get_or z 8 0) at in
    let kept : l ≡ joined (set bs i (finding_bytes c x)) =
    g.is ∙ ap joined (sym (set-get_or bs i []) ∙ ap (λ z. set bs i z) at) in
    bool_cases b
    (λ q.
    let put : sets l (16 * i) (finding_bytes c y) ≡ joined (set bs i (finding_bytes c y')) =
    (λ t. sets (g.is t) (16 * i) (finding_bytes c (same q t)))
    ∙ joined-set bs g.sixteen i (finding_bytes c y') (block-sixteen c y') n in
    rw q
    (ap (λ (m : ℕ). cond (eqb m 0) (sets l (16 * i) (finding_bytes c y)) l) flag
    ∙ bool_cases (eqb (get_or (finding_bytes c x) 8 0) 0)
    (λ p. rw p put)
    (λ p. rw p kept)))
    (λ q. rw q kept)

pub tell-law : (c : ℕ) (l l' : List ℕ) (bs : List (List ℕ)) → Stage l bs → (i : ℕ) → i < 9 → (x y y' : Finding) (b b' : Bool)
    → get_or bs i [] ≡ finding_bytes c x → b ≡ b' → (b' ≡ true → y ≡ y')
    → l' ≡ cond b (cond (eqb (get_or l (16 * i + 8) 0) 0) (sets l (16 * i) (finding_bytes c y)) l) l
    → Stage l' (set bs i (finding_bytes c (cond x.found x (cond b' y' nothing))))
tell-law c l l' bs g i h x y y' b b' at e same p =
    let v = finding_bytes c (cond x.found x (cond b' y' nothing)) in
    record {
      is = p
          ∙ ap (λ z. cond z (cond (eqb (get_or l (16 * i + 8) 0) 0) (sets l (16 * i) (finding_bytes c y)) l) l) e
          ∙ told-law c l bs g i h x y y' b' at same
          ∙ ap (λ z. joined (set bs i z)) (tell-block c x b' y');
      sixteen = sixteen-set bs i v (block-sixteen c (cond x.found x (cond b' y' nothing))) g.sixteen;
      nine = length-set bs i v ∙ g.nine;
    }

-- what code tells of one kind, from its breach
told-by : (m : Option Breach) (b : Bool) (w : Breach) → m ≡ cond b (Some w) None → (l l' : List ℕ) (g : Breach → List ℕ)
    → MatchOption m (l' ≡ l) (λ x. l' ≡ g x) → l' ≡ cond b (g w) l
told-by m b w e l l' g h = by-test b e
  where
    by-test : (b : Bool) → m ≡ cond b (Some w) None → l' ≡ cond b (g w) l
    by-test true e = MatchOption-at_some (l' ≡ l) (λ x. l' ≡ g x) w e h
    by-test false e = MatchOption-at_none (l' ≡ l) (λ x. l' ≡ g x) e h

pub kind-law : (c : ℕ) (l l' : List ℕ) (bs : List (List ℕ)) → Stage l bs → (i : ℕ) → i < 9 → (x : Finding) (κ : Kind) (k : ℕ) (z : Seen)
    (h : Handler) → z.runs ≡ h → get_or bs i [] ≡ finding_bytes c x → (m : Option Breach) → m ≡ breach_of κ z
    → MatchOption m (l' ≡ l) (λ b. l' ≡ cond (eqb (get_or l (16 * i + 8) 0) 0)
    (sets l (16 * i) (finding_bytes c (finding k b.detail b.address h))) l)
    → Stage l' (set bs i (finding_bytes c (find_after κ k z x)))
kind-law c l l' bs g i n x κ k z h q at m e told =
    let w : Breach = record { detail = detail_of κ z; address = address_of κ z } in
    tell-law c l l' bs g i n x (finding k (detail_of κ z) (address_of κ z) h) (finding_of κ k z) (breaks? κ z) (breaks? κ z) at refl
    (λ t j. finding k (detail_of κ z) (address_of κ z) (sym q j))
    (told-by m (breaks? κ z) w e l l'
    (λ b. cond (eqb (get_or l (16 * i + 8) 0) 0) (sets l (16 * i) (finding_bytes c (finding k b.detail b.address h))) l) told)

-- ---- a step of which nothing is told

kind_stays' : (c : ℕ) (b broke : Bool) (k x a : ℕ) (h : Handler) (y : Finding) → (broke && not b) ≡ false
    → let z : Finding = record { found = b; step = k; detail = x; address = a; by = h } in
    finding_bytes c z ≡ finding_bytes c (cond b z (cond broke y nothing))
kind_stays' c true true k x a h y e = refl
kind_stays' c true false k x a h y e = refl
kind_stays' c false true k x a h y e = absurd (true≢false e)
kind_stays' c false false k x a h y e = refl

kind_stays : (c k : ℕ) (κ : Kind) (z : Seen) (x : Finding) → (breaks? κ z && not x.found) ≡ false
    → finding_bytes c x ≡ finding_bytes c (find_after κ k z x)
kind_stays c k κ z x e = kind_stays' c x.found (breaks? κ z) x.step x.detail x.address x.by (finding_of κ k z) e

neither_left : (a b : Bool) → a || b ≡ false → a ≡ false
neither_left true b e = absurd (true≢false e)
neither_left false b e = refl

neither_right : (a b : Bool) → a || b ≡ false → b ≡ false
neither_right true b e = absurd (true≢false e)
neither_right false b e = e

-- all that is found stays
pub all_stay : (c k : ℕ) (z : Seen) (f : Kind → Finding) → tells? z f ≡ false → findings_bytes c f ≡ findings_bytes c (told_after k z f)
all_stay c k z f e =
    let e1 = neither_left _ (first? foreign z f) e in
    let e2 = neither_left _ (first? device z f) e1 in
    let e3 = neither_left _ (first? slept z f) e2 in
    let e4 = neither_left _ (first? changed z f) e3 in
    let e5 = neither_left _ (first? trapped z f) e4 in
    let p1 = kind_stays c k faulted z (f faulted) (neither_left _ (first? unopened z f) e5) in
    let p2 = kind_stays c k unopened z (f unopened) (neither_right (first? faulted z f) _ e5) in
    let p3 = kind_stays c k trapped z (f trapped) (neither_right _ (first? trapped z f) e4) in
    let p5 = kind_stays c k changed z (f changed) (neither_right _ (first? changed z f) e3) in
    let p6 = kind_stays c k slept z (f slept) (neither_right _ (first? slept z f) e2) in
    let p7 = kind_stays c k device z (f device) (neither_right _ (first? device z f) e1) in
    let p8 = kind_stays c k foreign z (f foreign) (neither_right _ (first? foreign z f) e) in
    λ i. finding_bytes c (f started) ++ p1 i ++ p2 i ++ p3 i ++ finding_bytes c (f unclosed) ++ p5 i ++ p6 i ++ p7 i ++ p8 i

-- ---- sixteen bytes copied

pub copied-law : (l v zs : List ℕ) (i k : ℕ) → v ≡ zs → length zs ≡ 16 → k ≡ 16 → i + 16 ≤ length l → put_mid i k l v ≡ sets l i zs
copied-law l v zs i k e n m h =
    put_mid-paste i k l v zs 16 e (sym m) (sym n)
    ∙ paste_all l i zs 16 (sym n)
    ∙ sym (append_assoc (take i l) zs (drop (i + 16) l))
    ∙ ap (λ (j : ℕ). take i l ++ zs ++ drop (i + j) l) (sym n)
    ∙ sym (sets-eq zs l i (omega (arith, n, h)))

pub bit-law : (b : Bool) → bit b ≤ 1
bit-law true = omega arith
bit-law false = omega arith

-- a sum in four bytes may wrap
low_part : (p q z : ℕ) → (256 * p * q + z) % 256 ≡ z % 256
low_part p q z =
    let e : 256 * p * q + z ≡ z + p * q * 256 = simp (mul_comm 256 p, mul_assoc, mul_comm 256 q) (add_comm _ _) in
    ap (λ (n : ℕ). n % 256) e ∙ add-mul-mod_self_right z (p * q) 256

byte-wrap : (q y : ℕ) → let x = 4294967296 * q + y in
    (count_byte x 1 ≡ count_byte y 1) × (count_byte x 0x100 ≡ count_byte y 0x100)
    × (count_byte x 0x10000 ≡ count_byte y 0x10000) × (count_byte x 0x1000000 ≡ count_byte y 0x1000000)
byte-wrap q y =
    let a : (4294967296 * q + y) / 1 ≡ 256 * 16777216 * q + y / 1 = omega arith in
    let b : (4294967296 * q + y) / 0x100 ≡ 256 * 65536 * q + y / 0x100 = omega arith in
    let c : (4294967296 * q + y) / 0x10000 ≡ 256 * 256 * q + y / 0x10000 = omega arith in
    let d : (4294967296 * q + y) / 0x1000000 ≡ 256 * 1 * q + y / 0x1000000 = omega arith in (
      ap (λ (n : ℕ). n % 256) a ∙ low_part 16777216 q (y / 1),
      ap (λ (n : ℕ). n % 256) b ∙ low_part 65536 q (y / 0x100),
      ap (λ (n : ℕ). n % 256) c ∙ low_part 256 q (y / 0x10000),
      ap (λ (n : ℕ). n % 256) d ∙ low_part 1 q (y / 0x1000000),
    )

pub four-wrap : (x y : ℕ) → y ≡ x % 2 ^ 32 → four_bytes y ≡ four_bytes x
four-wrap x y e =
    let q = x / 4294967296 in
    let whole : 4294967296 * q + y ≡ x = omega arith in
    let w = byte-wrap q y in
    sym (λ i. w.0 i ∷ w.1 i ∷ w.2 i ∷ w.3 i ∷ []) ∙ ap four_bytes whole

-- The one bit that BIC clears and BIS sets, for every width w: which it is, that no other changes, and that none does where
-- the operand names no bit of the width (document 02, section 5). Assumes nothing.
use mathlib.Core.Path.{◌≡◌, sym, ap, ◌∙◌}
use mathlib.Core.Bool.{Bool, true, false}
use mathlib.Core.Logic.{⊎_elim}
use Prim.Native.Nat.{ℕ, ◌+◌, ◌-◌, ◌*◌, ◌/◌, ◌%◌, ◌^◌, ◌≤◌, ◌<◌}
use native.Mathlib.Nat.{mod-lt, mod-eq_of_lt, add_comm, add-mul, mul_assoc, lt_of_lt_of_le}
use native.Mathlib.Omega.{arith}
use lib.Bits.{bit_and, bit_or, or_zero_r, and_block, and_mask}
use lib.Pow.{pow_pos, pow-lt, pow_mono, pow-add, shr-shr, shr_mod, split, field, mod-mod-pow, ones_lt, ones_split}
use borrow.Author.Tests.{le-ltb, lt-ltb}
use Rattle.word.specs.Width.{bit, low, with_low, turned}
use Rattle.word.specs.Psw.{put_bit}
use Rattle.word.proofs.Laws.{order, low-lt, or-bit}
use Rattle.alu.specs.declared.Op.TheVariants.{Bic, Bis}
use Rattle.alu.specs.Alu.{alu_of, mask_of}

-- ---- the mask

-- of a number below the width it is that one bit, of any other 0
pub mask-named : (w s : ℕ) → low w s < w → mask_of w s ≡ 2 ^ low w s
unfolding mask_of
mask-named w s h = rw (lt-ltb (low w s) w h)

pub mask-none : (w s : ℕ) → w ≤ low w s → mask_of w s ≡ 0
unfolding mask_of
mask-none w s h = rw (le-ltb (low w s) w h)

-- it is one of w bits
pub mask_lt : (w s : ℕ) → mask_of w s < 2 ^ w
mask_lt w s =
    ⊎_elim (λ (h : w ≤ low w s). rw (mask-none w s h) (pow_pos w)) (λ (h : low w s < w). rw (mask-named w s h) (pow-lt h))
    (order w (low w s))

-- ---- a mask of one bit puts that bit

-- j ones above the place k, and k ones below it
and-bit : (k j x : ℕ) → x < 2 ^ (j + (k + 1)) → bit_and x ((2 ^ j - 1) * 2 ^ (k + 1) + (2 ^ k - 1)) ≡ put_bit k x false
and-bit k j x h =
    ap (λ (y : ℕ). bit_and y ((2 ^ j - 1) * 2 ^ (k + 1) + (2 ^ k - 1))) (sym (split x (k + 1)))
    ∙ and_block (k + 1) (x / 2 ^ (k + 1)) (2 ^ j - 1) (x % 2 ^ (k + 1)) (2 ^ k - 1) (mod-lt x (pow_pos (k + 1)))
    (lt_of_lt_of_le (ones_lt k) (pow_mono (omega arith)))
    ∙ rw (and_mask (x / 2 ^ (k + 1)) j, shr_mod j (k + 1) h, and_mask (x % 2 ^ (k + 1)) k, add_comm k 1, mod-mod-pow x 1 k)
    (omega arith)

lower-half : (n x h m : ℕ) → n ≡ x + (m - 1) → m ≡ h * 2 → 0 < h → n - h ≡ x + (h - 1)
lower-half n x h m e f q = omega arith

-- that is the mask of one bit turned over
turned_bit : (w k : ℕ) → k < w → turned w (2 ^ k) ≡ (2 ^ (w - (k + 1)) - 1) * 2 ^ (k + 1) + (2 ^ k - 1)
turned_bit w k h =
    let j = w - (k + 1) in
    let e : j + (k + 1) ≡ w = omega arith in
    let o : 2 ^ w - 1 ≡ (2 ^ j - 1) * 2 ^ (k + 1) + (2 ^ (k + 1) - 1) =
    ap (λ (x : ℕ). 2 ^ x - 1) (sym e) ∙ ones_split j (k + 1) in
    ap (λ (x : ℕ). 2 ^ w - 1 - x) (mod-eq_of_lt (pow-lt h))
    ∙ lower-half (2 ^ w - 1) ((2 ^ j - 1) * 2 ^ (k + 1)) (2 ^ k) (2 ^ (k + 1)) o (pow-add 2 k 1) (pow_pos k)

-- a high part a and a low part r of q, at the place k
joined : (a r q j k m : ℕ) → a * j + r ≡ q → m ≡ j * k → a * m + r * k ≡ q * k
joined a r q j k m e f =
    ap (λ (x : ℕ). a * x + r * k) f ∙ ap (λ (x : ℕ). x + r * k) (sym (mul_assoc a j k)) ∙ sym (add-mul (a * j) r k)
    ∙ ap (λ (x : ℕ). x * k) e

-- a bit put into the low w bits is put into the register
low-put : (w k x : ℕ) (b : Bool) → k < w → with_low w x (put_bit k (low w x) b) ≡ put_bit k x b
low-put w k x b h =
    let j = w - (k + 1) in
    let e : j + (k + 1) ≡ w = omega arith in
    let above : low w x / 2 ^ (k + 1) ≡ x / 2 ^ (k + 1) % 2 ^ j =
    ap (λ (n : ℕ). x % 2 ^ n / 2 ^ (k + 1)) (sym e) ∙ field x j (k + 1) in
    let f : w - k + k ≡ w = omega arith in
    let below : low w x % 2 ^ k ≡ x % 2 ^ k = ap (λ (n : ℕ). x % 2 ^ n % 2 ^ k) (sym f) ∙ mod-mod-pow x (w - k) k in
    let g : k + 1 + j ≡ w = omega arith in
    let top : x / 2 ^ w ≡ x / 2 ^ (k + 1) / 2 ^ j = ap (λ (n : ℕ). x / 2 ^ n) (sym g) ∙ sym (shr-shr x (k + 1) j) in
    let whole = joined (x / 2 ^ (k + 1) / 2 ^ j) (x / 2 ^ (k + 1) % 2 ^ j) (x / 2 ^ (k + 1)) (2 ^ j) (2 ^ (k + 1)) (2 ^ w)
    (split (x / 2 ^ (k + 1)) j) (ap (λ (n : ℕ). 2 ^ n) (sym e) ∙ pow-add 2 j (k + 1)) in
    (λ i. top i * 2 ^ w + (above i * 2 ^ (k + 1) + bit b * 2 ^ k + below i)) ∙ omega (arith, whole)

-- ---- the two instructions

-- BIS sets the bit that the operand names, and leaves every other bit of the register.
pub bis-named : (w d s p : ℕ) → low w s < w → (alu_of Bis w d s p).value ≡ put_bit (low w s) d true
unfolding alu_of
bis-named w d s p h =
    ap (λ (m : ℕ). with_low w d (bit_or (low w d) m)) (mask-named w s h)
    ∙ ap (with_low w d) (or-bit (low w s) (low w d)) ∙ low-put w (low w s) d true h

-- BIC clears the bit that the operand names, and leaves every other bit of the register.
pub bic-named : (w d s p : ℕ) → low w s < w → (alu_of Bic w d s p).value ≡ put_bit (low w s) d false
unfolding alu_of
bic-named w d s p h =
    let n = low w s in
    let e : w - (n + 1) + (n + 1) ≡ w = omega arith in
    let fits : low w d < 2 ^ (w - (n + 1) + (n + 1)) = rw e (low-lt w d) in
    ap (λ (m : ℕ). with_low w d (bit_and (low w d) (turned w m))) (mask-named w s h)
    ∙ ap (λ (m : ℕ). with_low w d (bit_and (low w d) m)) (turned_bit w n h)
    ∙ ap (with_low w d) (and-bit n (w - (n + 1)) (low w d) fits) ∙ low-put w n d false h

all_ones : (w : ℕ) → turned w 0 ≡ 2 ^ w - 1
all_ones w = let z : 0 % 2 ^ w ≡ 0 = mod-eq_of_lt (pow_pos w) in omega (arith, z)

-- Where the operand names no bit of the width, no bit changes.
pub bis-none : (w d s p : ℕ) → w ≤ low w s → (alu_of Bis w d s p).value ≡ d
unfolding alu_of
bis-none w d s p h =
    ap (λ (m : ℕ). with_low w d (bit_or (low w d) m)) (mask-none w s h)
    ∙ ap (with_low w d) (or_zero_r (low w d)) ∙ split d w

pub bic-none : (w d s p : ℕ) → w ≤ low w s → (alu_of Bic w d s p).value ≡ d
unfolding alu_of
bic-none w d s p h =
    ap (λ (m : ℕ). with_low w d (bit_and (low w d) (turned w m))) (mask-none w s h)
    ∙ ap (λ (z : ℕ). with_low w d (bit_and (low w d) z)) (all_ones w)
    ∙ ap (with_low w d) (and_mask (low w d) w ∙ mod-eq_of_lt (low-lt w d)) ∙ split d w

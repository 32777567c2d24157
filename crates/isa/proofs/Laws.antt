-- What holds of every decoded word: each field lies in its format's bounds, so a register is below 8. A field is a remainder of the word,
-- and the limits that the word has passed when it is decoded bound the number of its operation. Assumes nothing.
use Prim.Native.Nat.{ℕ, ◌+◌, ◌/◌, ◌%◌, ◌<◌, ◌≤◌}
use native.Mathlib.Omega.{arith}
use borrow.Author.Tests.{ltb-true, ltb-false}
use lib.Dec.{ltb}
use lib.Signed.{mag}
use Rattle.word.specs.Offset.{signed_of}
use Rattle.word.proofs.Laws.{bool_cases}
use Rattle.isa.specs.Decode.{unary_of, control_of, misc_of, memory_of, relative_of, decode_of}
use Rattle.isa.specs.Fields.{Fields}

-- an offset of a format lies from -half to half - 1
pub signed-mag : (half n : ℕ) → n < half + half → mag (signed_of half n) < half
signed-mag half n h =
    bool_cases (ltb n half) (λ q. rw q (ltb-true n half q)) (λ q. let k = ltb-false n half q in rw q (omega arith))

unary-fields : (w : ℕ) → Fields (unary_of w)
unary-fields w =
    bool_cases (ltb (w / 8 % 8) 3) (λ q. rw q (ltb-true _ _ q, omega arith, omega arith))
    (λ q. rw q (bool_cases (ltb (w / 8 % 8) 4) (λ p. rw p (omega arith, omega arith))
    (λ p. rw p (bool_cases (ltb (w / 8 % 8) 5) (λ o. rw o (omega arith, omega arith)) (λ o. rw o tt)))))

control-fields : (w : ℕ) → Fields (control_of w)
control-fields w =
    bool_cases (ltb w 0x4D88) (λ q. rw q (omega arith))
    (λ q. rw q (bool_cases (ltb w 0x4DA0) (λ p. rw p tt) (λ p. rw p (bool_cases (ltb w 0x4DB0) (λ o. rw o (omega arith))
    (λ o. rw o (bool_cases (ltb w 0x4DC0) (λ n. rw n tt)
    (λ n. rw n (bool_cases (ltb w 0x4DE0) (λ m. rw m (omega arith)) (λ m. rw m (omega arith))))))))))

misc-fields : (w : ℕ) → Fields (misc_of w)
misc-fields w =
    bool_cases (ltb w 0x4C80) (λ q. rw q (omega arith, omega arith, omega arith))
    (λ q. rw q (bool_cases (ltb w 0x4D00) (λ p. rw p (omega arith, omega arith, omega arith))
    (λ p. rw p (bool_cases (ltb w 0x4D80) (λ o. rw o (unary-fields w))
    (λ o. rw o (bool_cases (ltb w 0x4E00) (λ n. rw n (control-fields w)) (λ n. rw n tt)))))))

memory-fields : (w : ℕ) → Fields (memory_of w)
memory-fields w =
    bool_cases (ltb w 0x5400) (λ q. rw q (omega arith, omega arith, omega arith))
    (λ q. rw q (bool_cases (ltb w 0x5800) (λ p. rw p tt) (λ p. rw p (bool_cases (ltb w 0x5C00)
    (λ o. rw o (omega arith, omega arith, omega arith, omega arith, omega arith, omega arith))
    (λ o. rw o (omega arith, omega arith, omega arith, omega arith, omega arith, omega arith))))))

relative-fields : (w : ℕ) → Fields (relative_of w)
relative-fields w =
    let m : mag (signed_of 64 (w / 128 % 128)) < 64 = signed-mag 64 (w / 128 % 128) (omega arith) in
    bool_cases (ltb w 0xC000) (λ q. rw q (m, omega arith, omega arith, omega arith))
    (λ q. rw q (m, omega arith, omega arith, omega arith))

alu-op : (w : ℕ) → 0x4000 ≤ w → w < 0x4C00 → w / 256 % 16 < 12
alu-op w h k = omega arith

pub decode-fields : (w : ℕ) → Fields (decode_of w)
unfolding decode_of
decode-fields w =
    bool_cases (ltb w 0x2000) (λ q. rw q (signed-mag 4096 (w % 8192) (omega arith)))
    (λ q. rw q (bool_cases (ltb w 0x4000) (λ p. rw p (omega arith, signed-mag 512 (w % 1024) (omega arith)))
    (λ p. rw p (bool_cases (ltb w 0x4C00)
    (λ o. rw o (alu-op w (ltb-false w 0x4000 p) (ltb-true w 0x4C00 o), omega arith, omega arith, omega arith, omega arith))
    (λ o. rw o (bool_cases (ltb w 0x5000) (λ n. rw n (misc-fields w)) (λ n. rw n (bool_cases (ltb w 0x6000) (λ m. rw m (memory-fields w))
    (λ m. rw m (bool_cases (ltb w 0x8000) (λ l. rw l (omega arith, omega arith, omega arith)) (λ l. rw l (relative-fields w))))))))))))

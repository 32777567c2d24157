-- What holds of every instruction's effect, a clause for each format: a fault leaves the core, a tidy core stays tidy, only
-- SETPRI changes a priority, and what is asked of memory lies in its bounds. Assumes nothing.
use Prim.Native.Nat.{ℕ, zero, suc, ◌+◌, ◌*◌, ◌/◌, ◌%◌, ◌-◌, ◌<◌}
use mathlib.Core.Bool.{Bool, true, false, cond}
use mathlib.Core.List.{List, [], ◌∷◌}
use mathlib.Core.Path.{◌≡◌, refl, sym, ap, subst, ◌∙◌}
use native.Mathlib.Omega.{arith}
use lib.Bits.{bit_and, bit_or, or_lt, and_lt}
use lib.Dec.{eqb, ltb, lit<, lit≤}
use lib.IntN.{ℤ, pos, negsuc}
use lib.ListN.{length, set, get_or, length-set}
use Rattle.word.specs.Width.{width_of, low, with_low}
use Rattle.word.specs.Psw.{current, previous}
use Rattle.word.proofs.Laws.{low-lt, width-le, with-low-lt, bit_le}
use Rattle.isa.specs.declared.Instr.{Instr}
use Rattle.isa.specs.declared.Instr.TheVariants as i
use Rattle.isa.specs.Fields.{Fields}
use Rattle.alu.specs.declared.Op.{Op}
use Rattle.alu.specs.declared.Op.TheVariants.{Swpb, Sxt}
use Rattle.alu.specs.Alu.{alu_of}
use Rattle.alu.proofs.Laws.{alu-value-word, alu-psw-word, alu-unused, alu-current, alu-previous}
use Rattle.machine.specs.State.{Core, reg, pc, moved, doubled, with_psw, with_cex, put}
use Rattle.machine.specs.Cex.{condition_of, lowered, true_count, false_count}
use Rattle.machine.specs.Effect.{effect_of, taken_of, moves?, adjusted, adjust, indexed, byte?, binary_op, unary_op, operand, flags_only?}
use Rattle.machine.specs.Effect.{immediate_of, loaded, allowed_flags}
use Rattle.machine.specs.Step.{advanced}
use Rattle.machine_laws.specs.Bounds.{TidyCore, Quits, AccessFits}
use Rattle.machine_laws.proofs.Cases.{bool_cases}

-- ---- a fault or a trap leaves the core as it was given

pub effect-fault-core : (c : Core) (n : Instr) → Quits (effect_of c n).access → (effect_of c n).core ≡ c
unfolding effect_of
effect-fault-core c i.Illegal q = refl
effect-fault-core c (i.Bl off) q = absurd q
effect-fault-core c (i.Branch n off) q = absurd q
effect-fault-core c (i.Alu op rc wb src dst) q = absurd q
effect-fault-core c (i.Mov wb src dst) q = absurd q
effect-fault-core c (i.Swap src dst _) q = absurd q
effect-fault-core c (i.Unary op wb dst) q = absurd q
effect-fault-core c (i.Swpb dst _) q = absurd q
effect-fault-core c (i.Sxt dst _) q = absurd q
effect-fault-core c (i.SetPri level) q =
    bool_cases (ltb (current c.psw) level) (λ e. rw e refl) (λ e. absurd (rw e at q))
effect-fault-core c (i.Svc v) q = refl
effect-fault-core c (i.SetCc f) q = absurd q
effect-fault-core c (i.ClrCc f) q = absurd q
effect-fault-core c (i.Cex n t f) q = absurd q
effect-fault-core c (i.Ld prpo dec inc wb src dst) q = absurd q
effect-fault-core c (i.St prpo dec inc wb src dst) q = absurd q
effect-fault-core c (i.MovImm op b dst) q = absurd q
effect-fault-core c (i.Ldr off wb src dst) q = absurd q
effect-fault-core c (i.Str off wb src dst) q = absurd q

-- ---- registers stay words

pub words-set : (l : List ℕ) (d v : ℕ) → v < 65536 → ((i : ℕ) → get_or l i 0 < 65536) → (i : ℕ) → get_or (set l d v) i 0 < 65536
words-set [] d v h w i = w i
words-set (x ∷ l) zero v h w zero = h
words-set (x ∷ l) zero v h w (suc i) = w (suc i)
words-set (x ∷ l) (suc d) v h w zero = w zero
words-set (x ∷ l) (suc d) v h w (suc i) = words-set l d v h (λ j. w (suc j)) i

pub put-tidy : (c : Core) (d v : ℕ) → TidyCore c → v < 65536 → TidyCore (put c d v)
put-tidy c d v t h =
    record {
      eight = length-set c.regs d v ∙ t.eight;
      words = words-set c.regs d v h t.words;
      psw_word = t.psw_word;
      psw_zeros = t.psw_zeros;
      cex_small = bool_cases (eqb d 7) (λ q. rw q (lit< tt)) (λ q. rw q t.cex_small);
    }

pub psw-tidy : (c : Core) (p : ℕ) → TidyCore c → p < 65536 → p / 512 % 16 ≡ 0 → TidyCore (with_psw c p)
psw-tidy c p t h z = record { eight = t.eight; words = t.words; psw_word = h; psw_zeros = z; cex_small = t.cex_small }

cex-tidy : (c : Core) (x : ℕ) → TidyCore c → x < 128 → TidyCore (with_cex c x)
cex-tidy c x t h = record { eight = t.eight; words = t.words; psw_word = t.psw_word; psw_zeros = t.psw_zeros; cex_small = h }

lowered-small : (x : ℕ) → x < 128 → lowered x < 128
lowered-small x h =
    bool_cases (eqb (true_count x) 0)
    (λ q. rw q (bool_cases (eqb (false_count x) 0) (λ r. rw r h) (λ r. rw r (omega arith)))) (λ q. rw q (omega arith))

pub advanced-tidy : (c : Core) → TidyCore c → TidyCore (advanced c)
unfolding advanced
advanced-tidy c t =
    record {
      eight = length-set c.regs 7 _ ∙ t.eight;
      words = words-set c.regs 7 _ (omega arith) t.words;
      psw_word = t.psw_word;
      psw_zeros = t.psw_zeros;
      cex_small = lowered-small c.cex t.cex_small;
    }

-- ---- values that instructions make are words

pub moved_word : (a : ℕ) (z : ℤ) → moved a z < 65536
moved_word a (pos n) = omega arith
moved_word a (negsuc n) = omega arith

adjusted-word : (a dec inc wb : ℕ) → a < 65536 → adjusted a dec inc wb < 65536
adjusted-word a dec inc wb h =
    bool_cases (moves? dec inc)
    (λ q. rw q (bool_cases (eqb inc 1) (λ r. rw r (omega arith)) (λ r. rw r (omega arith)))) (λ q. rw q h)

indexed-word : (c : Core) (r prpo dec inc wb : ℕ) → TidyCore c → indexed c r prpo dec inc wb < 65536
indexed-word c r prpo dec inc wb t =
    bool_cases (eqb prpo 1) (λ q. rw q (adjusted-word (reg c r) dec inc wb (t.words r))) (λ q. rw q (t.words r))

adjust-tidy : (c : Core) (r dec inc wb : ℕ) → TidyCore c → TidyCore (adjust c r dec inc wb)
adjust-tidy c r dec inc wb t =
    bool_cases (moves? dec inc)
    (λ q. subst (λ b. TidyCore (cond b (put c r (adjusted (reg c r) dec inc wb)) c)) (sym q)
    (put-tidy c r (adjusted (reg c r) dec inc wb) t (adjusted-word (reg c r) dec inc wb (t.words r))))
    (λ q. subst (λ b. TidyCore (cond b (put c r (adjusted (reg c r) dec inc wb)) c)) (sym q) t)

mov_word : (b : Bool) (x y : ℕ) → x < 65536 → with_low (width_of b) x (low (width_of b) y) < 65536
mov_word b x y h = with-low-lt (width_of b) x (low (width_of b) y) (low-lt (width_of b) y) 16 (width-le b) h

byte_word : (x v : ℕ) → x < 65536 → v < 256 → with_low 8 x v < 65536
byte_word x v h k = with-low-lt 8 x v k 16 (lit≤ tt) h

immediate-word : (op b x : ℕ) → b < 256 → x < 65536 → immediate_of op b x < 65536
unfolding immediate_of
immediate-word zero b x h k = byte_word x b k h
immediate-word (suc zero) b x h k = omega arith
immediate-word (suc (suc zero)) b x h k = omega arith
immediate-word (suc (suc (suc n))) b x h k = let l = low-lt 8 x in omega arith

-- ---- the PSW stays a word with its zero bits

low-five : (p y : ℕ) → p < 65536 → p / 512 % 16 ≡ 0 → y < 32 → (p / 32 * 32 + y < 65536) × ((p / 32 * 32 + y) / 512 % 16 ≡ 0)
low-five p y h z l =
    let b : (p / 32 * 32 + y) / 512 ≡ p / 512 = omega arith in
    (omega arith, rw b z)

level-word : (p x : ℕ) → p < 65536 → x < 8 → p / 256 * 256 + x * 32 + p % 32 < 65536
level-word p x h k = omega arith

level-zeros : (p x : ℕ) → p / 512 % 16 ≡ 0 → x < 8 → (p / 256 * 256 + x * 32 + p % 32) / 512 % 16 ≡ 0
level-zeros p x h k =
    let b : (p / 256 * 256 + x * 32 + p % 32) / 512 ≡ p / 512 = omega arith in
    rw b h

allowed-lt : (p f : ℕ) → f < 32 → allowed_flags p f < 32
allowed-lt p f h = bool_cases (eqb (current p) 7) (λ q. rw q (omega arith)) (λ q. rw q h)

set-lt : (p f : ℕ) → f < 32 → bit_or (p % 32) (allowed_flags p f) < 32
set-lt p f h = or_lt 5 (p % 32) (allowed_flags p f) (omega arith) (allowed-lt p f h)

clear-lt : (p f : ℕ) → bit_and (p % 32) (31 - f) < 32
clear-lt p f = and_lt 5 (p % 32) (31 - f) (omega arith) (omega arith)

operated-tidy : (c : Core) (op : Op) (b : Bool) (dst s : ℕ) → TidyCore c →
    TidyCore (with_psw (put c dst (alu_of op (width_of b) (reg c dst) s c.psw).value) (alu_of op (width_of b) (reg c dst) s c.psw).psw)
operated-tidy c op b dst s t =
    psw-tidy (put c dst (alu_of op (width_of b) (reg c dst) s c.psw).value) (alu_of op (width_of b) (reg c dst) s c.psw).psw
    (put-tidy c dst _ t (alu-value-word op b (reg c dst) s c.psw (t.words dst)))
    (alu-psw-word op (width_of b) (reg c dst) s c.psw t.psw_word) (alu-unused op (width_of b) (reg c dst) s c.psw ∙ t.psw_zeros)

alu-tidy : (c : Core) (op rc wb src dst : ℕ) → TidyCore c → TidyCore (effect_of c (i.Alu op rc wb src dst)).core
unfolding effect_of
alu-tidy c op rc wb src dst t =
    bool_cases (flags_only? op)
    (λ q. rw q (psw-tidy c _ t (alu-psw-word (binary_op op) (width_of (byte? wb)) (reg c dst) (operand c rc src) c.psw t.psw_word)
    (alu-unused (binary_op op) (width_of (byte? wb)) (reg c dst) (operand c rc src) c.psw ∙ t.psw_zeros)))
    (λ q. rw q (operated-tidy c (binary_op op) (byte? wb) dst (operand c rc src) t))

pub effect-tidy : (c : Core) (n : Instr) → Fields n → TidyCore c → TidyCore (effect_of c n).core
unfolding effect_of width_of
effect-tidy c i.Illegal f t = t
effect-tidy c (i.Bl off) f t = put-tidy (put c 5 (pc c)) 7 _ (put-tidy c 5 (pc c) t (t.words 7)) (moved_word _ (doubled off))
effect-tidy c (i.Branch n off) f t =
    bool_cases (taken_of n c.psw) (λ q. rw q (put-tidy c 7 _ t (moved_word _ (doubled off)))) (λ q. rw q t)
effect-tidy c (i.Alu op rc wb src dst) f t = alu-tidy c op rc wb src dst t
effect-tidy c (i.Mov wb src dst) f t = put-tidy c dst _ t (mov_word (byte? wb) (reg c dst) (reg c src) (t.words dst))
effect-tidy c (i.Swap src dst _) f t =
    put-tidy (put c src (reg c dst)) dst (reg c src) (put-tidy c src (reg c dst) t (t.words dst)) (t.words src)
effect-tidy c (i.Unary op wb dst) f t = operated-tidy c (unary_op op) (byte? wb) dst 0 t
effect-tidy c (i.Swpb dst _) f t = operated-tidy c Swpb false dst 0 t
effect-tidy c (i.Sxt dst _) f t = operated-tidy c Sxt false dst 0 t
effect-tidy c (i.SetPri level) f t =
    bool_cases (ltb (current c.psw) level)
    (λ q. rw q t) (λ q. rw q (psw-tidy c _ t (level-word c.psw level t.psw_word f) (level-zeros c.psw level t.psw_zeros f)))
effect-tidy c (i.Svc v) f t = t
effect-tidy c (i.SetCc f) h t =
    let l = low-five c.psw (bit_or (c.psw % 32) (allowed_flags c.psw f)) t.psw_word t.psw_zeros (set-lt c.psw f h) in
    psw-tidy c _ t l.0 l.1
effect-tidy c (i.ClrCc f) h t =
    let l = low-five c.psw (bit_and (c.psw % 32) (31 - f)) t.psw_word t.psw_zeros (clear-lt c.psw f) in
    psw-tidy c _ t l.0 l.1
effect-tidy c (i.Cex n y x) f t =
    let b = bit_le (condition_of n c.psw) in
    let h : y < 8 = f.1 in
    let k : x < 8 = f.2 in
    cex-tidy c _ t (omega arith)
effect-tidy c (i.Ld prpo dec inc wb src dst) f t = adjust-tidy c src dec inc wb t
effect-tidy c (i.St prpo dec inc wb src dst) f t = adjust-tidy c dst dec inc wb t
effect-tidy c (i.MovImm op b dst) f t = put-tidy c dst _ t (immediate-word op b (reg c dst) f.1 (t.words dst))
effect-tidy c (i.Ldr off wb src dst) f t = t
effect-tidy c (i.Str off wb src dst) f t = t

-- a loaded value: a byte or a word
pub loaded-tidy : (c : Core) (byte : Bool) (dst v : ℕ) → TidyCore c → (byte ≡ true → v < 256) → v < 65536 → TidyCore (loaded c byte dst v)
loaded-tidy c true dst v t b w = put-tidy c dst _ t (byte_word (reg c dst) v (t.words dst) (b refl))
loaded-tidy c false dst v t b w = put-tidy c dst _ t w

-- ---- eight registers stay eight, whatever the fields are

adjust-eight : (c : Core) (r dec inc wb : ℕ) → length (adjust c r dec inc wb).regs ≡ length c.regs
adjust-eight c r dec inc wb =
    let x = put c r (adjusted (reg c r) dec inc wb) in
    bool_cases (moves? dec inc)
    (λ q. ap (λ b. length (cond b x c).regs) q ∙ length-set c.regs r _) (λ q. ap (λ b. length (cond b x c).regs) q)

pub effect-eight : (c : Core) (n : Instr) → length (effect_of c n).core.regs ≡ length c.regs
unfolding effect_of
effect-eight c i.Illegal = refl
effect-eight c (i.Bl off) = length-set (set c.regs 5 (pc c)) 7 _ ∙ length-set c.regs 5 (pc c)
effect-eight c (i.Branch n off) = bool_cases (taken_of n c.psw) (λ q. rw q (length-set c.regs 7 _)) (λ q. rw q refl)
effect-eight c (i.Alu op rc wb src dst) = bool_cases (flags_only? op) (λ q. rw q refl) (λ q. rw q (length-set c.regs dst _))
effect-eight c (i.Mov wb src dst) = length-set c.regs dst _
effect-eight c (i.Swap src dst _) = length-set (set c.regs src (reg c dst)) dst (reg c src) ∙ length-set c.regs src (reg c dst)
effect-eight c (i.Unary op wb dst) = length-set c.regs dst _
effect-eight c (i.Swpb dst _) = length-set c.regs dst _
effect-eight c (i.Sxt dst _) = length-set c.regs dst _
effect-eight c (i.SetPri level) = bool_cases (ltb (current c.psw) level) (λ q. rw q refl) (λ q. rw q refl)
effect-eight c (i.Svc v) = refl
effect-eight c (i.SetCc f) = refl
effect-eight c (i.ClrCc f) = refl
effect-eight c (i.Cex n t f) = refl
effect-eight c (i.Ld prpo dec inc wb src dst) = adjust-eight c src dec inc wb
effect-eight c (i.St prpo dec inc wb src dst) = adjust-eight c dst dec inc wb
effect-eight c (i.MovImm op b dst) = length-set c.regs dst _
effect-eight c (i.Ldr off wb src dst) = refl
effect-eight c (i.Str off wb src dst) = refl

-- ---- only SETPRI changes a priority

abbrev pub SamePriorities : ℕ → ℕ → Type 0
SamePriorities p q = (current p ≡ current q) × (previous p ≡ previous q)

low-five-priorities : (p y : ℕ) → y < 32 → SamePriorities (p / 32 * 32 + y) p
low-five-priorities p y h =
    let a : (p / 32 * 32 + y) / 32 ≡ p / 32 = omega arith in
    let b : (p / 32 * 32 + y) / 8192 ≡ p / 8192 = omega arith in
    (rw a refl, rw b refl)

adjust-psw : (c : Core) (r dec inc wb : ℕ) → (adjust c r dec inc wb).psw ≡ c.psw
adjust-psw c r dec inc wb =
    bool_cases (moves? dec inc)
    (λ q. ap (λ b. (cond b (put c r (adjusted (reg c r) dec inc wb)) c).psw) q)
    (λ q. ap (λ b. (cond b (put c r (adjusted (reg c r) dec inc wb)) c).psw) q)

pub effect-priorities : (c : Core) (n : Instr) → Fields n → ((level : ℕ) → n ≡ i.SetPri level → ⊥)
    → SamePriorities (effect_of c n).core.psw c.psw
unfolding effect_of width_of
effect-priorities c i.Illegal f u = (refl, refl)
effect-priorities c (i.Bl off) f u = (refl, refl)
effect-priorities c (i.Branch n off) f u = bool_cases (taken_of n c.psw) (λ q. rw q (refl, refl)) (λ q. rw q (refl, refl))
effect-priorities c (i.Alu op rc wb src dst) f u =
    let x = alu-current (binary_op op) (width_of (byte? wb)) (reg c dst) (operand c rc src) c.psw in
    let y = alu-previous (binary_op op) (width_of (byte? wb)) (reg c dst) (operand c rc src) c.psw in
    bool_cases (flags_only? op) (λ q. rw q (x, y)) (λ q. rw q (x, y))
effect-priorities c (i.Mov wb src dst) f u = (refl, refl)
effect-priorities c (i.Swap src dst _) f u = (refl, refl)
effect-priorities c (i.Unary op wb dst) f u =
    let w = width_of (byte? wb) in
    (alu-current (unary_op op) w (reg c dst) 0 c.psw, alu-previous (unary_op op) w (reg c dst) 0 c.psw)
effect-priorities c (i.Swpb dst _) f u = (alu-current Swpb 16 (reg c dst) 0 c.psw, alu-previous Swpb 16 (reg c dst) 0 c.psw)
effect-priorities c (i.Sxt dst _) f u = (alu-current Sxt 16 (reg c dst) 0 c.psw, alu-previous Sxt 16 (reg c dst) 0 c.psw)
effect-priorities c (i.SetPri level) f u = absurd (u level refl)
effect-priorities c (i.Svc v) f u = (refl, refl)
effect-priorities c (i.SetCc f) h u = low-five-priorities c.psw (bit_or (c.psw % 32) (allowed_flags c.psw f)) (set-lt c.psw f h)
effect-priorities c (i.ClrCc f) h u = low-five-priorities c.psw (bit_and (c.psw % 32) (31 - f)) (clear-lt c.psw f)
effect-priorities c (i.Cex n t f) h u = (refl, refl)
effect-priorities c (i.Ld prpo dec inc wb src dst) f u =
    (ap current (adjust-psw c src dec inc wb), ap previous (adjust-psw c src dec inc wb))
effect-priorities c (i.St prpo dec inc wb src dst) f u =
    (ap current (adjust-psw c dst dec inc wb), ap previous (adjust-psw c dst dec inc wb))
effect-priorities c (i.MovImm op b dst) f u = (refl, refl)
effect-priorities c (i.Ldr off wb src dst) f u = (refl, refl)
effect-priorities c (i.Str off wb src dst) f u = (refl, refl)

-- ---- what is asked of memory lies in its bounds

pub effect-access : (c : Core) (n : Instr) → Fields n → TidyCore c → AccessFits (effect_of c n).access
unfolding effect_of
effect-access c i.Illegal f t = lit< tt
effect-access c (i.Bl off) f t = tt
effect-access c (i.Branch n off) f t = tt
effect-access c (i.Alu op rc wb src dst) f t = tt
effect-access c (i.Mov wb src dst) f t = tt
effect-access c (i.Swap src dst _) f t = tt
effect-access c (i.Unary op wb dst) f t = tt
effect-access c (i.Swpb dst _) f t = tt
effect-access c (i.Sxt dst _) f t = tt
effect-access c (i.SetPri level) f t = bool_cases (ltb (current c.psw) level) (λ q. rw q (lit< tt)) (λ q. rw q tt)
effect-access c (i.Svc v) f t = f
effect-access c (i.SetCc f) h t = tt
effect-access c (i.ClrCc f) h t = tt
effect-access c (i.Cex n x y) f t = tt
effect-access c (i.Ld prpo dec inc wb src dst) f t = (indexed-word c src prpo dec inc wb t, f.5)
effect-access c (i.St prpo dec inc wb src dst) f t = (indexed-word c dst prpo dec inc wb t, t.words src)
effect-access c (i.MovImm op b dst) f t = tt
effect-access c (i.Ldr off wb src dst) f t = (moved_word (reg c src) off, f.3)
effect-access c (i.Str off wb src dst) f t = (moved_word (reg c dst) off, t.words src)

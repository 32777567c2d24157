-- Vectors, the best waiting line, entry and return (document 01, "One step, in order", "Entry", "Return").
-- Assumes nothing.
use Rattle.std.specs.Prelude.{ℕ, zero, suc, ◌+◌, ◌*◌, ◌/◌, ◌%◌, Bool, cond, ◌&&◌, List, ◌++◌, ltb, set}
use Rattle.word.specs.Width.{bit}
use Rattle.word.specs.Psw.{current, previous}
use Rattle.machine.specs.State.{Core, lr, sp, pc, wrap, down}
use Rattle.machine.specs.Memory.{byte_at, word_at, even, Write, word_writes}
use Rattle.machine.specs.Devices.{waiting}

-- Vector v: PSW at #FFC0 + 4 × v, entry point 2 above. [01 Entry]
abbrev pub vector_psw : List ℕ → ℕ → ℕ
vector_psw m v = word_at m (0xFFC0 + 4 * v)

abbrev pub vector_pc : List ℕ → ℕ → ℕ
vector_pc m v = word_at m (0xFFC0 + 4 * v + 2)

abbrev pub priority : List ℕ → ℕ → ℕ
priority m v = current (vector_psw m v)

-- The best waiting line: highest current priority in its vector PSW, then lowest device number; 8 stands for none.
-- Here the better of line d and the best e of the lines after it, then the best of n lines from d on.
-- [01 One step, in order, 3]
abbrev pub better : List ℕ → (d e : ℕ) → ℕ
better m d e = cond (ltb e 8 && ltb (priority m d) (priority m e)) e d

unfoldable pub best_from : (n d l : ℕ) → List ℕ → ℕ
best_from zero d l m = 8
best_from (suc n) d l m =
    let e = best_from n (suc d) l m in
    cond (waiting l d) (better m d e) e

abbrev pub best : ℕ → List ℕ → ℕ
best l m = best_from 8 0 l m

-- Line d is there and its priority is above p. [01 One step, in order, 3; 01 Return]
abbrev pub above : List ℕ → (d p : ℕ) → Bool
above m d p = ltb d 8 && ltb p (priority m d)

-- The PSW of an entry: from the vector's word p, previous priority q, FLT as given, SLP and bits 12-9 clear. [01 Entry]
unfoldable pub entered_psw : (p q : ℕ) → Bool → ℕ
entered_psw p q flt = p % 8 + p / 16 % 16 * 16 + bit flt * 256 + q * 8192

-- An entry by vector v, SP given: PSW from the vector; LR #FFFF; PC from the vector; CEX clear. [01 Entry]
unfoldable pub vectored : Core → List ℕ → (v q : ℕ) → Bool → (s : ℕ) → Core
vectored c m v q flt s =
    record {
      regs = set (set (set c.regs 5 0xFFFF) 6 s) 7 (vector_pc m v);
      psw = entered_psw (vector_psw m v) q flt;
      cex = 0;
    }

-- Push PC, LR, PSW, CEX, SP less 2 before each. [01 Entry]
abbrev pub pushed : Core → ℕ
pushed c = down (sp c) 8

unfoldable pub pushes : Core → List Write
pushes c =
    word_writes (down (sp c) 2) (pc c)
    ++ word_writes (down (sp c) 4) (lr c)
    ++ word_writes (down (sp c) 6) c.psw
    ++ word_writes (pushed c) c.cex

-- Byte i of the frame at SP s: the eight bytes that an entry pushed. [01 Resumption]
abbrev pub frame_byte : List ℕ → (s i : ℕ) → ℕ
frame_byte m s i = byte_at m (wrap (even s + i))

-- A pulled PSW has bits 12-9 and SLP zero, a pulled CEX state bits 15-7. [01 Return]
abbrev pub pulled_psw : ℕ → ℕ
pulled_psw p = p % 8 + p / 16 % 32 * 16 + previous p * 8192

abbrev pub pulled_cex : ℕ → ℕ
pulled_cex x = x % 128

-- Pull CEX, PSW, LR, PC, SP plus 2 after each. [01 Return]
unfoldable pub pulled : Core → List ℕ → Core
pulled c m =
    let s = sp c in
    record {
      regs = set (set (set c.regs 5 (word_at m (wrap (s + 4)))) 6 (wrap (s + 8))) 7 (word_at m (wrap (s + 6)));
      psw = pulled_psw (word_at m (wrap (s + 2)));
      cex = pulled_cex (word_at m s);
    }

use native.Mathlib.Omega.{arith}
use Rattle.stretch_formats.proofs.Laws.{decode-ldr, decode-str}
use Rattle.stretch_formats.proofs.relative_word.Goals as goal

pub returns-then-byte : goal.returns-then-byte
returns-then-byte c =
    let a = c.args in
    λ free psw cex. rw (decode-ldr a.w c.requires.1 1 c.if-byte.true c.if-w-lt49152.true)
    (c.load_relative.ensures free psw cex)

pub returns-then-w-lt49152 : goal.returns-then-w-lt49152
returns-then-w-lt49152 c =
    let a = c.args in
    λ free psw cex. rw (decode-ldr a.w c.requires.1 0 (omega arith) c.if-w-lt49152.true)
    (c.load_relative-then-w-lt49152.ensures free psw cex)

pub returns-then-byte-2 : goal.returns-then-byte-2
returns-then-byte-2 c =
    let a = c.args in
    λ free psw cex. rw (decode-str a.w c.requires.1 1 c.if-byte-2.true c.if-w-lt49152.false)
    (c.store_relative.ensures free psw cex)

pub returns : goal.returns
returns c =
    let a = c.args in
    λ free psw cex. rw (decode-str a.w c.requires.1 0 (omega arith) c.if-w-lt49152.false)
    (c.store_relative-2.ensures free psw cex)

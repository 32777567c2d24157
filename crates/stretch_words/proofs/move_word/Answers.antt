use Rattle.stretch_formats.proofs.Laws.{means}
use Rattle.stretch_words.proofs.Laws.{lowers, decode-move, decode-control}
use mathlib.Core.Path.{refl}
use native.Mathlib.Omega.{arith}
use Rattle.flags.specs.Kept.{held_in}
use Rattle.stretch_words.proofs.move_word.Goals as goal

pub returns-in-304 : goal.returns-in-304
returns-in-304 c =
    let a = c.args in
    let p = held_in a.psw.now a.kept.now in
    means a.free _ a.w a.regs.now a.mem.now _ p a.cex.now p _ _
    (decode-move a.w 0 (omega arith) c.in-304.is) (c.move_word.ensures p 0 refl)

pub returns-in-305 : goal.returns-in-305
returns-in-305 c =
    let a = c.args in
    let p = held_in a.psw.now a.kept.now in
    means a.free _ a.w a.regs.now a.mem.now _ p a.cex.now p _ _
    (decode-move a.w 1 (omega arith) c.in-305.is) (c.move_word-in-305.ensures p 1 refl)

pub returns-in-310 : goal.returns-in-310
returns-in-310 c =
    let a = c.args in
    lowers a.w a.regs.now a.mem.now a.psw.now a.kept.now a.cex.now a.free
    a.pc _ _ c.requires.0 c.priority_word.ensures

pub returns-in-311 : goal.returns-in-311
returns-in-311 c =
    let a = c.args in
    let p = held_in a.psw.now a.kept.now in
    let key = c.in-311.is in
    means a.free _ a.w a.regs.now a.mem.now _ p a.cex.now _ a.cex.now _
    (decode-control a.w (omega arith) (omega arith)) (c.flags_word.ensures a.regs.now a.psw.now a.cex.now c.requires.0)

pub returns-in-352 : goal.returns-in-352
returns-in-352 c = c.load_indexed.ensures _ _ _

pub returns-in-353 : goal.returns-in-353
returns-in-353 c = c.load_indexed-in-353.ensures _ _ _

pub returns-in-354 : goal.returns-in-354
returns-in-354 c = c.load_indexed-in-354.ensures _ _ _

pub returns-in-355 : goal.returns-in-355
returns-in-355 c = c.load_indexed-in-355.ensures _ _ _

pub returns-in-356 : goal.returns-in-356
returns-in-356 c = c.load_indexed-in-356.ensures _ _ _

pub returns-in-357 : goal.returns-in-357
returns-in-357 c = c.load_indexed-in-357.ensures _ _ _

pub returns-in-362 : goal.returns-in-362
returns-in-362 c = c.load_indexed-in-362.ensures _ _ _

pub returns-in-363 : goal.returns-in-363
returns-in-363 c = c.load_indexed-in-363.ensures _ _ _

pub returns-in-364 : goal.returns-in-364
returns-in-364 c = c.load_indexed-in-364.ensures _ _ _

pub returns-in-365 : goal.returns-in-365
returns-in-365 c = c.load_indexed-in-365.ensures _ _ _

pub returns-in-368 : goal.returns-in-368
returns-in-368 c = c.store_indexed.ensures _ _ _

pub returns-in-369 : goal.returns-in-369
returns-in-369 c = c.store_indexed-in-369.ensures _ _ _

pub returns-in-370 : goal.returns-in-370
returns-in-370 c = c.store_indexed-in-370.ensures _ _ _

pub returns-in-371 : goal.returns-in-371
returns-in-371 c = c.store_indexed-in-371.ensures _ _ _

pub returns-in-372 : goal.returns-in-372
returns-in-372 c = c.store_indexed-in-372.ensures _ _ _

pub returns-in-373 : goal.returns-in-373
returns-in-373 c = c.store_indexed-in-373.ensures _ _ _

pub returns-in-378 : goal.returns-in-378
returns-in-378 c = c.store_indexed-in-378.ensures _ _ _

pub returns-in-379 : goal.returns-in-379
returns-in-379 c = c.store_indexed-in-379.ensures _ _ _

pub returns-in-380 : goal.returns-in-380
returns-in-380 c = c.store_indexed-in-380.ensures _ _ _

pub returns-in-381 : goal.returns-in-381
returns-in-381 c = c.store_indexed-in-381.ensures _ _ _

pub returns-in_default : goal.returns-in_default
returns-in_default c = c.far_word.ensures _ _

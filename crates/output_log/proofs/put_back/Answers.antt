use mathlib.Core.Bool.{cond}
use mathlib.Core.Path.{refl, sym, ap, ◌∙◌}
use native.Mathlib.Omega.{arith}
use lib.ListN.{length, take}
use lib.Seq.{sets, length-sets}
use borrow.Author.Tests.{not-true, not-false}
use Rattle.output_log.proofs.Laws.{put-more, put_all}
use Rattle.output_log.proofs.put_back.Goals as goal

pub returns-then-not-wanted : goal.returns-then-not-wanted
returns-then-not-wanted c =
    let a = c.args in
    sym (ap (λ b. cond b (sets a.mem.now 0 a.kept.now) a.mem.now) (not-true a.wanted c.if-not-wanted.true-raw))

pub bounds-mem-i : goal.bounds-mem-i
bounds-mem-i c =
    let l = c.loop-i in
    let s = c in
    let e = ap length l.invariant ∙ length-sets s.args.mem.now 0 (take l.i s.args.kept.now) in
    omega (arith, e, s.told-mem)

pub loop-i-preserved : goal.loop-i-preserved
loop-i-preserved c =
    let l = c.loop-i in
    let s = c in
    put-more s.args.mem.now l.mem s.args.kept.now l.i (omega (arith, s.told-kept)) l.invariant

pub returns : goal.returns
returns c =
    let l = c.loop-i in
    let s = c in
    let a = s.args in
    put_all a.mem.now l.mem a.kept.now l.i s.told-kept (omega arith) l.invariant
    ∙ sym (ap (λ b. cond b (sets a.mem.now 0 a.kept.now) a.mem.now) (not-false a.wanted c.if-not-wanted.false-raw))

pub loop-i-init : goal.loop-i-init
loop-i-init c = refl

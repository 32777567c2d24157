use Rattle.std.proofs.Common.{◌++◌, drop, sym, ap, ◌∙◌, arith, length-drop, length-take-le}
use lib.Seq.{sets}
use Rattle.machine.specs.State.{state_of}
use Rattle.little_endian.specs.Bytes.{two_put}
use Rattle.journal_record.proofs.Laws.{zeros, filled-before}
use Rattle.journal_record.proofs.fill.Goals as goal

pub slice_bounds-write_record-end-2 : goal.slice_bounds-write_record-end-2
slice_bounds-write_record-end-2 c =
    sym (length-take-le 32 c.args.e.now (omega (arith, c.requires)))

pub write_record-requires : goal.write_record-requires
write_record-requires c =
    length-take-le 32 c.args.e.now (omega (arith, c.requires))

pub returns : goal.returns
returns c b w =
    let at-put-bytes2 = c in
    let at-put-two = c in
    let at-put-bytes = c in
    let at-write-record = c in
    let at-eight-before = c in
    let s = c in
    let e = s.args.e.now in
    let d = s.args.devices.now in
    let a = s.args.a in
    let g = at-eight-before.eight_before-eight in
    let l = length-drop 32 e in
    c.put_bytes-3.ensures
    ∙ ap (λ x. sets x 58 zeros)
    (at-put-bytes2.put_bytes-2.ensures
    ∙ ap (λ x. sets x 50 g.result)
    (at-put-two.put_two.ensures
    ∙ ap (λ x. two_put x 48 a)
    (at-put-bytes.put_bytes.ensures ∙ ap (λ r. sets (r ++ drop 32 e) 32 d) (at-write-record.write_record.ensures b))))
    ∙ filled-before (state_of s.args.m b) b d s.args.mem.now (drop 32 e) g.result a w (omega (arith, s.requires))
    (g.ensures b w)

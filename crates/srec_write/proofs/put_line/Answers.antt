use native.Mathlib.Omega.{arith}
use Rattle.srec_write.proofs.Laws.{line-put, check-of}
use Rattle.srec_write.proofs.put_line.Goals as goal

pub returns : goal.returns
returns c =
    let s = c.args in
    let total = check-of _ _ _ _ _ s.bytes.now c.sum.ensures.0 c.sum-2.ensures.0 in
    let lf = c.put.ensures in
    let four = c.put_bytes-four.ensures in
    let three = c.put_bytes-three.ensures in
    let two = c.put_bytes-two.ensures in
    let one = c.put-one.ensures in (
      line-put s.text.now _ _ _ _ _ _ _ _ _ _ _ _ _ s.bytes.now total
          one.0 one.1 two.0 two.1 three.0 three.1 four.0 four.1 lf.0,
      omega (arith, one.1, two.1, three.1, four.1, lf.1),
    )

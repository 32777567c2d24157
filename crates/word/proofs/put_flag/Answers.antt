-- The weights of the bit and of the one above it, by shifts, are powers; then the sum is `put_bit`'s. Assumes nothing.
use Prim.Native.Nat.{◌+◌, ◌*◌, ◌/◌, ◌%◌, ◌^◌, ◌<◌}
use native.Mathlib.Omega.{arith}
use lib.Pow.{pow_pos}
use Rattle.word.specs.Width.{bit}
use Rattle.word.proofs.Laws.{shifted_one, shifted_two, put-fits}
use Rattle.word.proofs.put_flag.Goals as goal

pub nonzero_div-result : goal.nonzero_div-result
nonzero_div-result g c = rw (shifted_two g.row.K c.requires) (pow_pos (g.row.K + 1))

pub overflow_add-result : goal.overflow_add-result
overflow_add-result g c =
    let k = g.row.K in
    let p = c.args.psw in
    let f : p / 2 ^ (k + 1) * 2 ^ (k + 1) + bit c.args.b * 2 ^ k + p % 2 ^ k < 65536 = put-fits k c.requires p c.args.b (omega arith) in
    rw (shifted_two k c.requires, shifted_one k c.requires, c.flag.ensures.0) (record { fits = omega (arith, f) })

pub overflow_add-result-2 : goal.overflow_add-result-2
overflow_add-result-2 g c =
    let k = g.row.K in
    let p = c.args.psw in
    let f : p / 2 ^ (k + 1) * 2 ^ (k + 1) + bit c.args.b * 2 ^ k + p % 2 ^ k < 65536 = put-fits k c.requires p c.args.b (omega arith) in
    rw (shifted_two k c.requires, shifted_one k c.requires, c.flag.ensures.0) (record { fits = omega (arith, f) })

pub returns : goal.returns
returns g c = rw (shifted_two g.row.K c.requires, shifted_one g.row.K c.requires, c.flag.ensures.0)

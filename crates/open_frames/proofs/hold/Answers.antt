use Rattle.std.proofs.Common.{◌≡◌, length, refl, arith, rules}
use Rattle.open_frames.proofs.Laws.{hold-law}
use Rattle.open_frames.proofs.hold.Goals as goal

pub returns : goal.returns
returns c =
    let a = c.args in
    let f = a.f.now in
    let size : length f.places ≡ 256 = search rules in (
      refl,
      (
        omega arith,
        hold-law f.places f.open.held a.k a.v (omega arith) a.regs.now a.mem.now _ c.keep_row.ensures c.entered.ensures,
      ),
    )

use Rattle.std.proofs.Common.{◌≡◌, ◌+◌, ◌-◌, ◌*◌, take, drop, sym, ap, ◌∙◌, arith, take-take}
use Rattle.going_back.proofs.put_state.Goals as goal

pub returns : goal.returns
returns c =
    let o = 64 * c.args.p in
    let l = drop o c.args.journal.now in
    let e : o + 32 - o ≡ 32 = omega arith in
    c.copy_from_slice.ensures.after ∙ ap (λ n. take n l) e ∙ sym (take-take 32 64 l (omega arith))

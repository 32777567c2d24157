use Rattle.std.proofs.Common.{◌≡◌, length, sym, refl, ap, ◌∙◌, arith, rules}
use Rattle.soundness.specs.Watch.{devices_after}
use Rattle.open_frames.specs.Open.{devices_of}
use Rattle.open_frames.proofs.Laws.{chain-law}
use Rattle.open_frames.proofs.devices_after.Goals as goal

pub returns-in-Chain : goal.returns-in-Chain
returns-in-Chain c =
    let a = c.args in
    let f = a.f.now in
    let size : length f.places ≡ 256 = search rules in (
      refl,
      (
        omega arith,
        (λ t p q. chain-law f.places f.open.held a.k c.in-Chain.d f.open.owns (omega arith) c.if-n-ne0.true t _ refl
            ∙ ap (λ z. devices_after z a.k t f.open.owns (devices_of f)) (sym c.in-Chain.is)),
      ),
    )

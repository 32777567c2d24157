use Rattle.machine.specs.Record.{state_in}
use Rattle.state_record.proofs.read_record.Goals as goal

pub returns : goal.returns
unfolding state_in
returns c =
    let at-two-at10 = c in
    let at-two-at8 = c in
    let at-two-at6 = c in
    let at-two-at4 = c in
    let at-two-at2 = c in
    λ mem.
    rw (c.four_at-2.ensures, c.four_at.ensures, at-two-at2.two_at.ensures, at-two-at2.two_at-2.ensures)
    (rw (
      at-two-at4.two_at-3.ensures,
      at-two-at4.two_at-4.ensures,
      at-two-at6.two_at-5.ensures,
      at-two-at6.two_at-6.ensures,
    )
    (rw (
      at-two-at8.two_at-7.ensures,
      at-two-at8.two_at-8.ensures,
      at-two-at10.two_at-9.ensures,
      at-two-at10.two_at-10.ensures,
    )))

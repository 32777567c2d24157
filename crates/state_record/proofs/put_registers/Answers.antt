use Rattle.state_record.proofs.put_registers.Goals as goal

pub returns : goal.returns
returns c =
    let at-put-two8 = c in
    let at-put-two7 = c in
    let at-put-two6 = c in
    let at-put-two5 = at-put-two6 in
    let at-put-two4 = at-put-two5 in
    let at-put-two3 = at-put-two4 in
    let at-put-two2 = at-put-two3 in
    let at-put-two = at-put-two2 in
    rw (at-put-two8.put_two-8.ensures, at-put-two7.put_two-7.ensures, at-put-two6.put_two-6.ensures, at-put-two5.put_two-5.ensures)
    (rw (at-put-two4.put_two-4.ensures, at-put-two3.put_two-3.ensures, at-put-two2.put_two-2.ensures, at-put-two.put_two.ensures))

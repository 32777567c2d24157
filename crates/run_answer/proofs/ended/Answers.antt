use Rattle.run_answer.proofs.ended.Goals as goal

pub returns : goal.returns
returns c =
    let s = c in
    let at-reason = c in
    let a = s.args in
    λ i. record {
      machine = record { regs = a.regs; rest = a.t };
      reason = at-reason.reason_of.ensures i;
      steps = a.done;
      added = a.added;
      next = a.next;
      depth = a.depth;
      ring = a.ring;
    }

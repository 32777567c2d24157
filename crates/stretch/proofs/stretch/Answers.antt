-- The ways through the call: a line above the priority, asleep, steps. Past the first no line is above the priority, and that
-- is what each of the others needs. Assumes nothing.
use Rattle.std.proofs.Common.{ℕ, ◌-◌, sym, ap, ◌∙◌, arith}
use Rattle.word.specs.Psw.{current}
use Rattle.machine.specs.Entry.{best, above}
use Rattle.entry.proofs.Lines.{line-none-above}
use Rattle.stretch.specs.Stretch.{NoneAbove}
use Rattle.stretch.proofs.Steps.{stretch-none, stretch-asleep, stretch-done}
use Rattle.stretch.proofs.stretch.Goals as goal
use Rattle.stretch.proofs.stretch.Goals.{Else-is_some, Start}

pub returns-then-is_some : goal.returns-then-is_some
returns-then-is_some c =
    let a = c.args in
    record { passes = (λ ev k u. stretch-none ev a.regs.now a.mem.now a.psw a.cex a.lines k a.n); left = omega arith }

-- a way back to the start
start : Else-is_some → Start
start c = search

none_above : (c : Else-is_some) → let a = (start c).args in NoneAbove a.mem.now a.lines (current a.psw)
unfolding start
none_above c =
    let a = (start c).args in
    let m = a.mem.now in
    ap (λ (q : ℕ). above m (best a.lines m) q) (sym c.current_priority.ensures.0)
    ∙ line-none-above m a.lines c.current_priority.result _ c.line_above.ensures (sym c.is_some.ensures ∙ c.if-is_some.false)

pub returns-then-asleep : goal.returns-then-asleep
unfolding start
returns-then-asleep c =
    let quiet : Else-is_some = search in
    let a = (start quiet).args in record {
      passes = (λ ev k u.
          stretch-asleep ev a.regs.now a.mem.now a.psw a.cex a.lines k a.n
          (sym c.asleep.ensures ∙ c.if-asleep.true) (none_above quiet) u);
      left = omega arith;
    }

pub returns : goal.returns
unfolding start
returns c =
    let quiet : Else-is_some = search in
    let a = (start quiet).args in
    let w = c.walk in record {
      passes = (λ ev k u.
          stretch-done ev a.regs.now a.mem.now a.psw a.cex a.lines k a.n _ _ _ _ (a.n - w.result.left)
          (none_above quiet) (omega arith) w.ensures.goes u);
      left = w.ensures.left;
    }

pub walk-requires : goal.walk-requires
walk-requires c = (sym c.asleep.ensures ∙ c.if-asleep.false, omega (arith, c.told-regs))

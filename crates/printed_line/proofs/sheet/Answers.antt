use mathlib.Core.Path.{sym, ◌∙◌}
use native.Mathlib.Omega.{arith}
use borrow.Author.Rules.{rules}
use Rattle.printed_line.proofs.Inputs.{sheet-accepted, sheet-refused, memory-accepted, memory-refused}
use Rattle.printed_line.proofs.sheet.Goals as goal

pub returns-in-Err : goal.returns-in-Err
returns-in-Err c =
    let v = sym c.verdict.ensures ∙ c.in-Err.is in
    record {
      line = c.put_refusal.ensures.line ∙ sheet-refused c.args.input.now _ v c.refusal_number.ensures.0;
      memory = memory-refused c.args.input.now c.args.memory.now _ v;
      kept = c.put_refusal.ensures.kept;
      fits = (c.put_refusal.ensures.fits, omega arith);
    }

pub returns : goal.returns
returns c =
    let v = sym c.verdict.ensures ∙ c.in_default.is in
    record {
      line = c.put_run.ensures.line ∙ sym (sheet-accepted c.args.input.now v);
      memory = c.put_run.ensures.memory ∙ sym (memory-accepted c.args.input.now c.args.memory.now v);
      kept = c.put_run.ensures.kept;
      fits = (c.put_run.ensures.fits, omega arith);
    }

pub put_run-requires : goal.put_run-requires
put_run-requires c = sym c.verdict.ensures ∙ c.in_default.is

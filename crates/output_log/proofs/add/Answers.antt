use Prim.Native.Nat.{◌+◌, ◌*◌}
use mathlib.Core.Path.{sym, ap, ◌∙◌}
use native.Mathlib.Nat.{add-zero}
use native.Mathlib.Omega.{arith}
use lib.ListN.{length}
use lib.Seq.{sets}
use Rattle.machine.specs.Log.{log_bytes}
use Rattle.output_log.specs.Showing.{listed}
use Rattle.output_log.proofs.add.Goals as goal

pub write_record-requires : goal.write_record-requires
write_record-requires c =
    let s = c in
    let l = ap (λ x. 8 * (s.args.k + length (listed s.args.step x))) c.in-Some.is in
    omega (arith, l, s.requires)

pub returns-in-None : goal.returns-in-None
unfolding log_bytes
returns-in-None c =
    let a = c.args in
    let e = sym (ap (listed a.step) c.in-None.is) in record {
      added = sym (add-zero a.k) ∙ ap (λ xs. a.k + length xs) e;
      log = ap (λ xs. sets a.log.now (8 * a.k) (log_bytes xs)) e;
    }

pub returns-in-Some : goal.returns-in-Some
unfolding log_bytes
returns-in-Some c =
    let at_x = c in
    let at-start = c in
    let a = at-start.args in
    let e = sym (ap (listed a.step) at_x.in-Some.is) in record {
      added = ap (λ xs. a.k + length xs) e;
      log = c.write_record.ensures ∙ ap (λ xs. sets a.log.now (8 * a.k) (log_bytes xs)) e;
    }

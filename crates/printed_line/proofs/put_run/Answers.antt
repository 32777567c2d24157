-- The parts of the input are copied out and read, the run is made in slices, and its line is put. Each callee's answer is a part of the
-- definition (`run-of-parts`), and each finds its bytes since an accepted input is long enough (`ready`). Assumes nothing.
use mathlib.Core.Path.{sym, ap, ◌∙◌}
use native.Mathlib.Omega.{arith}
use lib.ListN.{length}
use Rattle.stores.proofs.Laws.{part_length}
use Rattle.printed_line.proofs.Inputs.{ready, run-ready, run-of-parts}
use Rattle.printed_line.proofs.put_run.Goals as goal

pub part-requires : goal.part-requires
part-requires c =
    let h = (ready c.args.input.now c.requires).size in (omega arith, omega arith)

pub copy_from_slice-requires : goal.copy_from_slice-requires
copy_from_slice-requires c =
    let h = ready c.args.input.now c.requires in
    c.told-memory ∙ sym (ap length c.part.ensures ∙ part_length c.args.input.now 36 65536 h.size)

pub four_at-n-requires : goal.four_at-n-requires
four_at-n-requires c =
    let h = (ready c.args.input.now c.requires).size in omega arith

pub part-requires-2 : goal.part-requires-2
part-requires-2 c =
    let h = (ready c.args.input.now c.requires).size in (omega arith, omega arith)

pub read_record-m-requires : goal.read_record-m-requires
read_record-m-requires c =
    let h = (ready c.args.input.now c.requires).size in
    ap length c.part-2.ensures ∙ part_length c.args.input.now 4 32 (omega arith)

pub part-events-requires : goal.part-events-requires
part-events-requires c =
    let h = (ready c.args.input.now c.requires).size in (omega arith, omega arith)

pub put_line-requires : goal.put_line-requires
put_line-requires c =
    c.told-out

pub returns : goal.returns
returns c =
    let done =
    run-of-parts c.args.input.now c.read_record-m.result c.run_whole-done.result.machine
    (c.copy_from_slice.ensures.after ∙ c.part.ensures) c.four_at-n.ensures c.part-2.ensures
    c.read_record-m.ensures c.part-events.ensures c.run_whole-done.ensures.run c.run_whole-done.ensures.deepest
    c.put_line.ensures.line in
    record { line = done.0; memory = done.1; kept = c.put_line.ensures.kept; fits = c.put_line.ensures.fits }

pub run_whole-done-requires : goal.run_whole-done-requires
run_whole-done-requires c =
    let h = ready c.args.input.now c.requires in
    run-ready c.args.input.now c.read_record-m.result h
    c.four_at-n.ensures c.part-2.ensures c.read_record-m.ensures c.part-events.ensures

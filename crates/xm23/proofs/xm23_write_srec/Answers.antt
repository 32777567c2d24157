-- The reply and the text are `write_call`'s; what 02 promises of the text follows from the two equations.
use Prim.Native.Nat.{ℕ, ◌<◌}
use native.Mathlib.Omega.{arith}
use lib.ListN.{get_or}
use borrow.Author.Rules.{rules}
use Rattle.srec_call.proofs.Trip.{restores}
use Rattle.xm23.proofs.xm23_write_srec.Goals as goal

pub returns : goal.returns
returns c =
    let a = c.args in
    let e = c.write_call.ensures in
    let bytes : (i : ℕ) → get_or a.memory.now i 0 < 256 = λ i. omega (arith, c.type_inv.memory i) in
    record {
      reply = e.reply;
      text = e.text;
      restores = restores a.memory.now a.start a.size a.pc a.text.now _ _ bytes (omega arith)
          e.reply e.text;
    }

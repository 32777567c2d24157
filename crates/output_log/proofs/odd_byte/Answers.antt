use Prim.Native.Nat.{◌/◌, ◌%◌}
use mathlib.Core.Path.{◌≡◌, sym, ap, ◌∙◌}
use borrow.Author.Rules.{rules}
use Rattle.output_log.specs.Showing.{stored_of}
use Rattle.output_log.proofs.odd_byte.Goals as goal

pub returns-then-byte : goal.returns-then-byte
returns-then-byte c = sym (ap (λ b. stored_of b c.args.value) c.if-byte.true)

pub returns : goal.returns
returns c =
    let v = c.args.value in
    let e : v / 256 ≡ v / 256 % 256 = search rules in
    e ∙ sym (ap (λ b. stored_of b v) c.if-byte.false)

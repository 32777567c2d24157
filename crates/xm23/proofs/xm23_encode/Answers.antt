use mathlib.Core.Path.{◌∙◌, ap, sym}
use Rattle.std.specs.Prelude.{Some, None}
use Rattle.isa.specs.Encode.{encode_of}
use Rattle.isa_number.specs.Number.{number_of}
use Rattle.isa_number.proofs.Laws.{reply-other, reply-encoded}
use borrow.Author.Rules.{rules}
use Rattle.xm23.proofs.xm23_encode.Goals as goal

pub returns-then-number-instruction : goal.returns-then-number-instruction
returns-then-number-instruction c = record {
  reply = sym (reply-other c.args.instruction c.number.result
      (c.number.ensures ∙ ap number_of c.from_number-i.ensures) c.if-number-instruction.true);
}

pub returns-in-Some : goal.returns-in-Some
returns-in-Some c = record {
  reply = sym (reply-encoded c.args.instruction c.number.result
      (c.number.ensures ∙ ap number_of c.from_number-i.ensures) (Some c.in-Some.w) c.if-number-instruction.false
      (ap encode_of (sym c.from_number-i.ensures) ∙ sym c.encode.ensures ∙ c.in-Some.is));
}

pub returns-in-None : goal.returns-in-None
returns-in-None c = record {
  reply = sym (reply-encoded c.args.instruction c.number.result
      (c.number.ensures ∙ ap number_of c.from_number-i.ensures) None c.if-number-instruction.false
      (ap encode_of (sym c.from_number-i.ensures) ∙ sym c.encode.ensures ∙ c.in-None.is));
}

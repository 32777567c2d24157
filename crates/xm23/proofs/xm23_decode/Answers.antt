use mathlib.Core.Path.{◌∙◌, ap}
use Rattle.xm23.specs.Api.{number_of}
use borrow.Author.Rules.{rules}
use Rattle.xm23.proofs.xm23_decode.Goals as goal

pub returns : goal.returns
returns c = record { reply = c.number.ensures ∙ ap number_of c.decode.ensures }

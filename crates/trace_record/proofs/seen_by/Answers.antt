use Rattle.trace_record.specs.Written.{seen_of}
use mathlib.Core.Path.{sym, ap, ◌∙◌}
use Rattle.trace_record.proofs.seen_by.Goals as goal

pub returns-in-Loads : goal.returns-in-Loads
returns-in-Loads c =
    let at-start = c in
    c.value_at.ensures ∙ ap (λ x. seen_of x at-start.args.mem.now) (sym
    c.in-Loads.is)

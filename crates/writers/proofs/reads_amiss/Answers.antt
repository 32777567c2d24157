use Rattle.std.proofs.Common.{ℕ, Bool, ◌||◌, ap, ◌∙◌, rules}
use Rattle.std.specs.Option.{is_some}
use Rattle.machine.specs.Devices.{device?}
use Rattle.resume.specs.Frames.{reads_of}
use Rattle.writers.specs.First.{foreign_in}
use Rattle.writers.proofs.Found.{foreign-within, device-within, either-within, is_found}
use Rattle.writers.proofs.reads_amiss.Goals as goal

pub returns : goal.returns
returns c k e q =
    let w = c.args.writers.now in
    let p : ℕ → Bool = λ a. device? a || foreign_in w a in
    let within = either-within device? (foreign_in w) device-within (foreign-within w c.requires) in
    c.is_some.ensures
    ∙ ap is_some (c.first_read.ensures p (record { is = search rules; within = within }) k e q)
    ∙ is_found p (reads_of c.args.act k)

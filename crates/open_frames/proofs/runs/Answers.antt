use Rattle.std.proofs.Common.{refl}
use Rattle.open_frames.proofs.Laws.{runs-some}
use Rattle.open_frames.proofs.runs.Goals as goal

pub returns : goal.returns
returns c = runs-some c.args.f.now.places c.args.f.now.open.held c.if-n-eq0.false _ refl

use Rattle.findings.proofs.Laws.{flag-law, bit-law}
use Rattle.word.specs.Width.{bit}
use Rattle.soundness.specs.Findings.{started, faulted, unopened, trapped, unclosed, changed, slept, device, foreign}
use Rattle.std.proofs.Common.{◌+◌, ◌*◌, refl, ap, arith}
use Rattle.findings.proofs.kinds.Goals as goal

pub returns : goal.returns
returns c = (
  (λ n f e.
      let p0 = flag-law n f _ e 0 (f started) (omega arith) refl _ (ap bit c.is_found.ensures) in
      let p1 = flag-law n f _ e 1 (f faulted) (omega arith) refl _ (ap bit c.is_found-2.ensures) in
      let p2 = flag-law n f _ e 2 (f unopened) (omega arith) refl _ (ap bit c.is_found-3.ensures) in
      let p3 = flag-law n f _ e 3 (f trapped) (omega arith) refl _ (ap bit c.is_found-4.ensures) in
      let p4 = flag-law n f _ e 4 (f unclosed) (omega arith) refl _ (ap bit c.is_found-5.ensures) in
      let p5 = flag-law n f _ e 5 (f changed) (omega arith) refl _ (ap bit c.is_found-6.ensures) in
      let p6 = flag-law n f _ e 6 (f slept) (omega arith) refl _ (ap bit c.is_found-7.ensures) in
      let p7 = flag-law n f _ e 7 (f device) (omega arith) refl _ (ap bit c.is_found-8.ensures) in
      let p8 = flag-law n f _ e 8 (f foreign) (omega arith) refl _ (ap bit c.is_found-9.ensures) in
      λ i. p0 i + 2 * p1 i + 4 * p2 i + 8 * p3 i + 16 * p4 i + 32 * p5 i + 64 * p6 i + 128 * p7 i + 256 * p8 i),
  omega (arith, bit-law),
)

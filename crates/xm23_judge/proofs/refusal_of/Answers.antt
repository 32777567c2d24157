-- The start's refusal first, then the lengths of the two buffers. Assumes nothing.
use Rattle.std.proofs.Common.{◌≡◌, ◌≢◌, false, cond, ◌&&◌, eqb, length, refl, sym, ap, ◌∙◌, arith}
use Rattle.machine.specs.Refusal.{refusal_number}
use Rattle.machine_laws.proofs.Cases.{is_eq, not-eq}
use Rattle.machine_laws.proofs.Records.{refused-number}
use Rattle.xm23_judge.proofs.Laws.{start-refused, start-passed}
use Rattle.xm23_judge.proofs.refusal_of.Goals as goal

pub returns-in-Err : goal.returns-in-Err
returns-in-Err c =
    let e = c.refusal_number.ensures.0 in
    let s = e ∙ ap refusal_number (sym c.in-Err.is ∙ c.verdict.ensures) in
    let h : c.refusal_number.result ≢ 0 = λ q. absurd (omega (arith, q, e, (refused-number c.in-Err.refused).0)) in
    (start-refused _ _ (eqb (length c.args.writers.now) 65536 && eqb (length c.args.findings.now) 144) s h, h)

pub returns-then-writers-ne65536 : goal.returns-then-writers-ne65536
returns-then-writers-ne65536 c =
    let s = ap refusal_number (sym c.in_default.is ∙ c.verdict.ensures) in
    let f = eqb (length c.args.findings.now) 144 in
    let short : (eqb (length c.args.writers.now) 65536 && f) ≡ false = ap (λ t. t && f) (not-eq c.if-writers-ne65536.true) in (
      sym (ap (λ t. cond t 0 20) short) ∙ start-passed _ _ (eqb (length c.args.writers.now) 65536 && f) s refl,
      λ q. absurd (omega (arith, q)),
    )

pub returns-then-findings-ne144 : goal.returns-then-findings-ne144
returns-then-findings-ne144 c =
    let s = ap refusal_number (sym c.in_default.is ∙ c.verdict.ensures) in
    let w = is_eq c.if-writers-ne65536.false in
    let f = not-eq c.if-findings-ne144.true in (
      sym (λ i. cond (w i && f i) 0 20)
          ∙ start-passed _ _ (eqb (length c.args.writers.now) 65536 && eqb (length c.args.findings.now) 144) s refl,
      λ q. absurd (omega (arith, q)),
    )

pub returns : goal.returns
returns c =
    let s = ap refusal_number (sym c.in_default.is ∙ c.verdict.ensures) in
    let w = is_eq c.if-writers-ne65536.false in
    let f = is_eq c.if-findings-ne144.false in
    sym (sym (λ i. cond (w i && f i) 0 20)
    ∙ start-passed _ _ (eqb (length c.args.writers.now) 65536 && eqb (length c.args.findings.now) 144) s refl)

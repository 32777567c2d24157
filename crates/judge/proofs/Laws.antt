-- One step of a judged run, from what its calls say. Assumes nothing.
use Prim.Native.Nat.{ℕ, ◌+◌}
use mathlib.Core.Bool.{Bool, cond}
use mathlib.Core.List.{List}
use mathlib.Core.Path.{◌≡◌, refl, sym, ap, ◌∙◌}
use lib.Dec.{eqb}
use lib.ListN.{length}
use Rattle.machine.specs.State.{State, core_of}
use Rattle.machine.specs.Step.{Plan, plan_of, perform, closed, finished}
use Rattle.step_plan.specs.declared.Planned.{Planned}
use Rattle.step_plan.specs.Planned.{plan_with}
use Rattle.soundness.specs.Findings.{applications?}
use Rattle.soundness.specs.Watch.{Watch, Held, seen_by, watch_after, owns_after, devices_after, oldest_after, marked, writer_of, no_device?}
use Rattle.open_frames.specs.declared.Frames.{Frames}
use Rattle.open_frames.specs.Open.{handler_of, devices_of}
use Rattle.open_frames.proofs.Laws.{none-held, held-length}
use Rattle.judge_step.specs.Look.{Begins}
use Rattle.judge.specs.Taken.{watch_with}

module _
    (b : State) (k : ℕ) (f : Frames) (before regs mem writers : List ℕ) (p : Planned) (lines count : ℕ)
    (er : b.core.regs ≡ before) (em : b.mem ≡ mem) (el : b.lines ≡ lines) (ec : b.count ≡ count)
    (ep : plan_with regs p ≡ plan_of b) (t : State) where
  abbrev w : Watch
  w = watch_with f writers

  abbrev hs : List Held
  hs = devices_of f

  act-is : p.act ≡ (plan_of b).act
  act-is = ap (λ (q : Plan). q.act) ep

  pub begins-law : Begins p.act before mem f writers (seen_by (plan_of b).act b t w)
  begins-law =
      record {
        does = sym act-is;
        registers = er;
        memory = em;
        none = ap (λ n. eqb (f.open.owns + n) 0) (held-length f.places f.open.held);
        own = none-held f.places f.open.held;
        changed = refl;
        by = refl;
        marks = refl;
      }

  pub leaves-law : t ≡ closed (perform p.act (core_of regs p.psw p.cex) lines mem) count mem → t ≡ finished b
  leaves-law e = e ∙ (λ i. closed (perform (ep i).act (ep i).core (sym el i) (sym em i)) (sym ec i) (sym em i))

  pub watched-law : (f' : Frames) (writers' : List ℕ) (mine : Bool) (who : ℕ)
      → f'.open.owns ≡ owns_after p.act f.open.owns hs
      → devices_of f' ≡ devices_after p.act k t f.open.owns hs
      → handler_of f'.open.oldest ≡ oldest_after p.act k (f.open.owns + f.open.held) (eqb f.open.held 0) (handler_of f.open.oldest)
      → mine ≡ applications? (seen_by (plan_of b).act b t w) → who ≡ cond mine 1 2
      → writers' ≡ marked who (perform p.act (core_of regs p.psw p.cex) lines mem).writes writers
      → watch_with f' writers' ≡ watch_after (plan_of b).act k b t w
  watched-law f' writers' mine who e1 e2 e3 em' ew e4 =
      let a = act-is in
      let o = f.open in
      let n = held-length f.places o.held in
      let own = none-held f.places o.held in
      let f1 : f'.open.owns ≡ owns_after (plan_of b).act o.owns hs = e1 ∙ ap (λ x. owns_after x o.owns hs) a in
      let f2 : devices_of f' ≡ devices_after (plan_of b).act k t o.owns hs =
      e2 ∙ ap (λ x. devices_after x k t o.owns hs) a in
      let f3 : handler_of f'.open.oldest ≡ oldest_after (plan_of b).act k (o.owns + length hs) (no_device? hs) (handler_of o.oldest) =
      e3 ∙ (λ i. oldest_after (a i) k (o.owns + sym n i) (sym own i) (handler_of o.oldest)) in
      let f4 : writers'
      ≡ marked (writer_of (plan_of b).act hs) (perform (plan_of b).act (plan_of b).core b.lines b.mem).writes writers =
      e4
      ∙ ap (λ x. marked x (perform p.act (core_of regs p.psw p.cex) lines mem).writes writers) (ew ∙ ap (λ x. cond x 1 2) em')
      ∙ (λ i. marked (writer_of (plan_of b).act hs) (perform (ep i).act (ep i).core (sym el i) (sym em i)).writes writers) in
      λ i. record { owns = f1 i; devices = f2 i; oldest = f3 i; writers = f4 i }

use Rattle.std.proofs.Common.{◌≡◌, ℕ, ◌&&◌, List, [], ◌∷◌, drop, refl, ap, ◌∙◌, rules, arith}
use Rattle.std.specs.List.{list_all}
use Rattle.std.proofs.lemmas.List.{take_all, length-drop}
use Rattle.std.proofs.lemmas.Iterator.{YieldsList-from_slice}
use Rattle.std.proofs.lemmas.Iterator.Search.{all_from_yields_List}
use Rattle.srec.specs.Digits.{is_digit, all_digits}
use Rattle.srec_load.proofs.line.all_digits.Goals as goal

each : (s : List ℕ) → list_all is_digit s ≡ all_digits s
unfolding all_digits
each [] = refl
each (b ∷ t) = ap (λ r. is_digit b && r) (each t)

pub returns : goal.returns
returns c =
    let s = drop 2 c.args.line.now in
    let whole = c.iter.ensures.rest ∙ take_all _ _ (simp length-drop (omega arith)) in
    all_from_yields_List is_digit _ _ _ c.all.ensures.ran (YieldsList-from_slice s whole) (λ x b q k. search rules)
    ∙ each s

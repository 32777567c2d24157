use Rattle.std.proofs.Common.{◌≡◌, ℕ, ◌-◌, cond, ltb, Bool, true, false, Some, None, refl, sym, ap, ◌∙◌, arith}
use Rattle.std.specs.Option.{unwrap_or}
use Rattle.srec.specs.Digits.{is_digit, digit_of}
use Rattle.srec.proofs.Laws.{byte-at}
use Rattle.srec_load.proofs.line.byte.Goals as goal

by_tests : (a b c d e f : Bool) (x y z : ℕ)
    → unwrap_or
    (cond (cond a false (cond b true (cond c false (cond d true (cond e false (cond f true false))))))
    (Some (cond a 0 (cond b x (cond c 0 (cond d y (cond e 0 (cond f z 0))))))) None) 0
    ≡ cond a 0 (cond b x (cond c 0 (cond d y (cond e 0 (cond f z 0)))))
by_tests true b c d e f x y z = refl
by_tests false true c d e f x y z = refl
by_tests false false true d e f x y z = refl
by_tests false false false true e f x y z = refl
by_tests false false false false true f x y z = refl
by_tests false false false false false true x y z = refl
by_tests false false false false false false x y z = refl

-- a digit's value, or 0 for what is none
value : (b : ℕ) → unwrap_or (cond (is_digit b) (Some (digit_of b)) None) 0 ≡ digit_of b
unfolding is_digit digit_of
value b = by_tests (ltb b 48) (ltb b 58) (ltb b 65) (ltb b 71) (ltb b 97) (ltb b 103) (b - 48) (b - 55) (b - 87)

pub returns : goal.returns
returns c =
    let e = byte-at c.args.line.now c.args.k (omega arith) in
    let high = ap (λ o. unwrap_or o 0) c.digit.ensures.value ∙ value _ in
    let low = ap (λ o. unwrap_or o 0) c.digit-2.ensures.value ∙ value _ in
    rw (c.unwrap_or-high.ensures, high, c.unwrap_or-low.ensures, low) (sym e)

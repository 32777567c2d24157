use native.Mathlib.Omega.{arith}
use Rattle.asm_print.specs.Print.{size_mark}
use Rattle.asm_spellings.specs.Spellings.{letters_of}
use Rattle.asm_printer.specs.Parts.{behind, operands_text, parts_text}
use Rattle.asm_printer.proofs.Laws.{five-puts}
use Rattle.asm_printer.proofs.put_parts.Goals as goal

pub returns : goal.returns
unfolding parts_text operands_text
returns c =
    let c5 = c in
    let c4 = c5 in
    let c3 = c4 in
    let c2 = c3 in
    let c1 = c2 in
    let a = c1.args in
    let x = a.x in
    let e1 = c1.put_letters-one.ensures in
    let e2 = c2.put_size_mark-two.ensures in
    let e3 = c3.put_letters-three.ensures in
    let e4 = c4.put_behind-four.ensures in
    let e5 = c5.put_behind.ensures in
    let t = five-puts a.text.now _ _ _ _ _ _ _ _ _ _ (letters_of 6 x.mnemonic) (size_mark x.wb) (letters_of 5 x.first)
    (behind x.second) (behind x.third) e1.0 e1.1 e2.0 e2.1 e3.0 e3.1 e4.0 e4.1 e5.0 e5.1 in
    (t.0, t.1, omega (arith, e1.2, e2.2, e3.2, e4.2, e5.2))

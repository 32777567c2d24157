use Rattle.asm_printer.proofs.+put_letters.Given as goal

abbrev pub decreases-put_letters : goal.decreases-put_letters
decreases-put_letters l = l.k

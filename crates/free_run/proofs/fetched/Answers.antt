-- `free_run::fetched` meets its contract: STR, SVC and ST by the crates that take them, every other word left alone. Assumes nothing.
use Rattle.std.proofs.Common.{◌/◌, length, get_or, arith}
use Rattle.stretch.proofs.Steps.{fetched}
use Rattle.free_run.proofs.fetched.Goals as goal

pub returns-then-w-ge49152 : goal.returns-then-w-ge49152
returns-then-w-ge49152 c =
    let a = c.args in
    let (open-fits, room, even, shut, woken) = c.requires in
    c.in_ok-added.ensures a.psw a.cex a.depth woken shut

pub returns-then-w-eq1242 : goal.returns-then-w-eq1242
returns-then-w-eq1242 c =
    let a = c.args in
    let (open-fits, room, even, shut, woken) = c.requires in
    c.in_ok-f.ensures a.count (length a.log.now / 8) a.added a.log.now room

pub returns-then-w-eq23 : goal.returns-then-w-eq23
returns-then-w-eq23 c =
    let a = c.args in
    let (open-fits, room, even, shut, woken) = c.requires in
    c.in_ok-added-2.ensures a.psw a.cex a.depth woken shut

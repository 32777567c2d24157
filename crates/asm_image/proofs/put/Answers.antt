use Rattle.std.proofs.Common.{◌≡◌, ◌+◌, ◌/◌, ◌%◌, ap, ◌∙◌, arith, get_or, set, length-set}
use Rattle.asm_image.proofs.Laws.{put-none, put_one, put_two}
use Rattle.asm_image.proofs.put.Goals as goal

pub returns-then-size-eq0 : goal.returns-then-size-eq0
returns-then-size-eq0 c = put-none c.args.memory.now c.args.p c.args.size c.args.n c.if-size-eq0.true

pub bounds-memory-a : goal.bounds-memory-a
bounds-memory-a c = let h = c.requires.1 c.if-size-eq0.false in omega (arith, h, c.requires.0, c.if-size-eq0.false)

pub bounds-memory-a-then-size-ne1 : goal.bounds-memory-a-then-size-ne1
bounds-memory-a-then-size-ne1 c =
    let h = c.requires.1 c.if-size-eq0.false in
    let l = length-set c.args.memory.now c.args.p (get_or c.to_le_bytes.result 0 0) in
    omega (arith, h, l, c.requires.0, c.if-size-eq0.false, c.if-size-ne1.true)

pub returns-then-size-ne1 : goal.returns-then-size-ne1
returns-then-size-ne1 c =
    let a = c.args in
    let low : get_or c.to_le_bytes.result 0 0 ≡ a.n % 256 = ap (λ l. get_or l 0 0) c.to_le_bytes.ensures in
    let byte : a.n / 256 % 256 ≡ a.n / 256 = omega (arith, c.ranges.n) in
    let high : get_or c.to_le_bytes.result 1 0 ≡ a.n / 256 = ap (λ l. get_or l 1 0) c.to_le_bytes.ensures ∙ byte in
    ap (λ x. set (set a.memory.now a.p x) (a.p + 1) (get_or c.to_le_bytes.result 1 0)) low
    ∙ ap (set (set a.memory.now a.p (a.n % 256)) (a.p + 1)) high
    ∙ put_two a.memory.now a.p a.size a.n c.if-size-eq0.false c.if-size-ne1.true

pub returns-else-size-ne1 : goal.returns-else-size-ne1
returns-else-size-ne1 c =
    let a = c.args in
    let low : get_or c.to_le_bytes.result 0 0 ≡ a.n % 256 = ap (λ l. get_or l 0 0) c.to_le_bytes.ensures in
    ap (set a.memory.now a.p) low ∙ put_one a.memory.now a.p a.size a.n c.if-size-eq0.false c.if-size-ne1.false

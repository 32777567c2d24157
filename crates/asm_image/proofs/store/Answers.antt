use Rattle.asm_image.proofs.Laws.{used-room}
use Rattle.asm_image.proofs.store.Goals as goal

pub put-requires : goal.put-requires
put-requires c = (
  c.requires,
  used-room c.args.p c.args.x c.layout_of.result c.size-size.result c.used.result c.layout_of.ensures c.size-size.ensures
      c.used.ensures c.in-Ok.n c.in-Ok.is,
)

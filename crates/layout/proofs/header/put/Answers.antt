use Rattle.layout.proofs.Numbered.{field_write}
use Rattle.layout.proofs.header.put.Goals as goal

pub returns : goal.returns
returns c z t h =
    field_write c.args.field c.place.result c.args.value z c.args.memory.now t c.place.ensures h

use Rattle.std.proofs.Common.{refl, arith}
use Rattle.wire.specs.Laws.{eight_coding}
use Rattle.wire.specs.Bytes.{le_bytes}
use Rattle.events.specs.Layout.{answer_bytes}
use Rattle.events.proofs.Laid.{lay_two, lay_placed, laid_written}
use Rattle.events.proofs.answer_writing.write_refused.Goals as goal

pub returns : goal.returns
unfolding answer_bytes
returns c =
    let first = lay_two c.args.out.now 0 c.args.number (omega arith) in
    let laid = lay_placed first (le_bytes 8 c.args.place) 8 (eight_coding.long c.args.place) c.if-out-lt10.false (rw c.from.ensures at c.put.ensures) in
    laid_written 10 10 laid refl refl

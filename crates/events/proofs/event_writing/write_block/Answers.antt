use Rattle.std.proofs.Common.{sym, refl, ◌∙◌, arith}
use Rattle.events.proofs.BlockBytes.{block_is, block_long}
use Rattle.events.proofs.Done.{data_row, data_coded}
use Rattle.events.proofs.HandedOn.{some_from_ok}
use Rattle.events.specs.Layout.{row_bytes}
use Rattle.events.proofs.Laid.{lay_byte, lay_placed, laid_written}
use Rattle.events.proofs.event_writing.write_block.Goals as goal

pub returns-then-out-size : goal.returns-then-out-size
returns-then-out-size c =
    let row = rw (some_from_ok c.of.result _ (sym c.ok_or.ensures.value ∙ c.in_ok-row.was)) at c.of.ensures in
    let size = rw row.1 at c.size.ensures.counted in
    (row.0, record { short = omega (arith, size, c.if-out-size.true, block_long c.args.data.now); kept = refl })

pub returns : goal.returns
returns c =
    let ds = c.args.data.now in
    let row = rw (some_from_ok c.of.result _ (sym c.ok_or.ensures.value ∙ c.in_ok-row.was)) at c.of.ensures in
    let size = rw row.1 at c.size.ensures.counted in
    let first = lay_byte c.args.out.now 3 (omega arith) in
    let rows = lay_placed first (row_bytes data_coded ds) _ (data_row ds) (omega (arith, size, c.if-out-size.false)) (rw (c.from.ensures, row.1) at c.put.ensures.holds) in
    let laid = rw (sym (block_is ds)) at rows in
    (row.0, laid_written _ _ laid laid.long (rw row.1 at c.put.ensures.ends))

use Rattle.std.proofs.Common.{◌-◌, length, sym, ap, ◌∙◌, arith}
use Rattle.std.proofs.lemmas.List.{take_rest}
use Rattle.events.specs.Meaning.{event_of, row_data}
use Rattle.events.specs.Reading.{read_as}
use Rattle.events.proofs.Blocks.{block_cut, rest_inside, block_long, block_whole}
use Rattle.events.proofs.HandedOn.{none_from_err, some_from_ok, no_event_by}
use Rattle.events.proofs.event_reading.read_block.Goals as goal

pub returns-in_err-split-clause-event : goal.returns-in_err-split-clause-event
returns-in_err-split-clause-event c =
    let bs = c.args.bytes.now in
    let cut = none_from_err c.split_row.result _ (sym c.ok_or.ensures.value ∙ c.in_err-split.was) in
    no_event_by _ _ (length bs) c.from_residual.ensures (ap (λ x. x.place) cut.1)
    ∙ block_cut bs _ (take_rest bs 1) c.requires (rw cut.0 at c.split_row.ensures)

pub returns-in_err-end-clause-event : goal.returns-in_err-end-clause-event
returns-in_err-end-clause-event c =
    let bs = c.args.bytes.now in
    let split = rw (some_from_ok c.split_row.result _ (sym c.ok_or.ensures.value ∙ c.in_ok-split.was)) at c.split_row.ensures in
    let inside = rest_inside bs _ (take_rest bs 1) c.requires _ _ _ split in
    no_event_by _ _ (length bs - length c.in_ok-split.split.rest.now) c.from_residual-in_err-end.ensures c.in_err-end.ensures.1
    ∙ block_long bs _ (take_rest bs 1) c.requires _ _ _ split (omega (arith, inside, c.in_err-end.ensures.0))

pub returns-clause-event : goal.returns-clause-event
unfolding read_as event_of row_data
returns-clause-event c =
    let bs = c.args.bytes.now in
    let split = rw (some_from_ok c.split_row.result _ (sym c.ok_or.ensures.value ∙ c.in_ok-split.was)) at c.split_row.ensures in
    let inside = rest_inside bs _ (take_rest bs 1) c.requires _ _ _ split in
    block_whole bs _ (take_rest bs 1) c.requires _ _ _ split (omega (arith, inside, c.in_ok-end.ensures))

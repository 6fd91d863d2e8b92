-- Each kind of event.
use Rattle.std.proofs.Common.{sym, refl, ap, ◌∙◌, arith}
use Rattle.protocol.specs.Client.{block, resend, garbled, place}
use Rattle.protocol.specs.Promise.{thin}
use Rattle.wire.specs.Meaning.{share_of}
use Rattle.events.specs.Meaning.{event_of, row_data}
use Rattle.events.specs.Reading.{read_as}
use Rattle.steps.proofs.Serving.{step_by, step_refused}
use Rattle.steps.proofs.TurnedAway.{garbled_refused, block_refused, resend_refused, share_behind}
use Rattle.steps.proofs.Writing.{writes_refusal}
use Rattle.steps.proofs.taking.take_event.Goals as goal

pub slice_bounds-on_share-count : goal.slice_bounds-on_share-count
unfolding read_as event_of
slice_bounds-on_share-count c =
    (share_behind c.args.event.now (share_of c.in-Ok-ShareCame.field-0-0) (ap event_of (sym c.in-Ok-ShareCame.field-0-is) ∙ c.in-Ok-ShareCame.ensures.event)).2

pub slice_bounds-on_share-start : goal.slice_bounds-on_share-start
unfolding read_as event_of
slice_bounds-on_share-start c =
    omega (arith, (share_behind c.args.event.now (share_of c.in-Ok-ShareCame.field-0-0) (ap event_of (sym c.in-Ok-ShareCame.field-0-is) ∙ c.in-Ok-ShareCame.ensures.event)).2)

pub on_share-requires : goal.on_share-requires
unfolding read_as event_of
on_share-requires c =
    (share_behind c.args.event.now (share_of c.in-Ok-ShareCame.field-0-0) (ap event_of (sym c.in-Ok-ShareCame.field-0-is) ∙ c.in-Ok-ShareCame.ensures.event)).1

pub returns-in-Ok-OnDuty : goal.returns-in-Ok-OnDuty
unfolding read_as event_of
returns-in-Ok-OnDuty c =
    step_by (ap event_of (sym c.in-Ok-OnDuty.field-0-is) ∙ c.in-Ok-OnDuty.ensures.event) (c.on_duty.ensures thin refl)

pub returns-in-Ok-Decided : goal.returns-in-Ok-Decided
unfolding read_as event_of
returns-in-Ok-Decided c =
    step_by (ap event_of (sym c.in-Ok-Decided.field-0-is) ∙ c.in-Ok-Decided.ensures.event) (c.on_decided.ensures thin refl)

pub returns-in-Ok-ShareCame : goal.returns-in-Ok-ShareCame
unfolding read_as event_of
returns-in-Ok-ShareCame c =
    step_by (sym (share_behind c.args.event.now (share_of c.in-Ok-ShareCame.field-0-0) (ap event_of (sym c.in-Ok-ShareCame.field-0-is) ∙ c.in-Ok-ShareCame.ensures.event)).0) (c.on_share.ensures thin refl)

pub returns-in-Ok-Block : goal.returns-in-Ok-Block
unfolding read_as event_of place
returns-in-Ok-Block c =
    step_by (ap event_of (sym c.in-Ok-Block.field-0-is) ∙ c.in-Ok-Block.ensures.event)
    (step_refused thin (block (row_data c.in-Ok-Block.field-0-0)) 2 0 (omega arith) (λ t h ready. block_refused t (row_data c.in-Ok-Block.field-0-0)) refl c.refuse.ensures)

pub returns-in-Ok-Resend : goal.returns-in-Ok-Resend
unfolding read_as event_of place
returns-in-Ok-Resend c =
    step_by (ap event_of (sym c.in-Ok-Resend.field-0-is) ∙ c.in-Ok-Resend.ensures.event)
    (step_refused thin resend 2 0 (omega arith) (λ t h ready. resend_refused t) refl c.refuse-in-Ok-Resend.ensures)

pub returns-in-Err : goal.returns-in-Err
unfolding read_as place
returns-in-Err c =
    step_by c.in-Err.ensures.event
    (step_refused thin (garbled c.in-Err.garbled.place) 1 c.in-Err.garbled.place (omega arith) (λ t h ready. garbled_refused thin t c.in-Err.garbled.place) refl
    (writes_refusal 1 c.from.result c.in-Err.garbled.place c.args.out.now c.write_refused.new.out c.write_refused.result c.from.ensures c.write_refused.ensures))

use Rattle.std.proofs.Common.{drop, take, Ok, sym, refl, ap, ◌∙◌, ap₂, arith}
use Rattle.std.proofs.lemmas.List.{nil_from_length}
use Rattle.protocol.specs.Data.{pick}
use Rattle.protocol.specs.Client.{duty, decided, share, resend, event_number}
use Rattle.wire.specs.Bytes.{le_value, data_from, duty_from, share_from}
use Rattle.events.specs.declared.kind.EventKind.TheVariants.{Duty, Decided, Share, Block, Resend}
use Rattle.events.specs.declared.event.Garbled.{Garbled}
use Rattle.events.specs.declared.event.Event.TheVariants.{OnDuty, Decided as EventDecided, ShareCame}
use Rattle.events.specs.Layout.{parse}
use Rattle.events.specs.Meaning.{event_of}
use Rattle.events.specs.Reading.{read_as}
use Rattle.events.proofs.ByNumber.{by_kind, by_no_kind, read_all, read_none}
use Rattle.events.proofs.ExactRows.{event_without}
use Rattle.events.proofs.HandedOn.{none_from_err, some_from_ok, no_event, no_event_by}
use Rattle.events.proofs.event_reading.read_event.Goals as goal

pub returns-in_err-number : goal.returns-in_err-number
unfolding parse
returns-in_err-number c =
    let none = none_from_err c.split_first.result _ (sym c.ok_or.ensures.value ∙ c.in_err-number.was) in
    let empty = nil_from_length c.args.bytes.now (rw none.0 at c.split_first.ensures.cases) in
    read_none c.args.bytes.now c.type_inv.bytes c.well_formed.0.0 _ c.from_residual.ensures.0
    (no_event_by _ _ 0 c.from_residual.ensures (ap (λ (g : Garbled). g.place) none.1) ∙ rw empty)

pub returns-in_err-try_from : goal.returns-in_err-try_from
returns-in_err-try_from c =
    let first = rw (some_from_ok c.split_first.result _ (sym c.ok_or.ensures.value ∙ c.in_ok-number.was)) at c.split_first.ensures.cases in
    read_none c.args.bytes.now c.type_inv.bytes c.well_formed.0.0 _ c.from_residual-in_err-try_from.ensures.0
    (no_event _ 0 c.from_residual-in_err-try_from.ensures ∙ sym (by_no_kind c.args.bytes.now _ _ first.0 c.in_err-try_from.ensures))

pub returns-in_err-last-in-Duty : goal.returns-in_err-last-in-Duty
unfolding parse pick
returns-in_err-last-in-Duty c =
    let bs = c.args.bytes.now in
    let first = rw (some_from_ok c.split_first.result _ (sym c.ok_or.ensures.value ∙ c.in_ok-number.was)) at c.split_first.ensures.cases in
    let residual = c.from_residual-in_err-last-in-Duty.ensures in
    read_none bs c.type_inv.bytes c.well_formed.0.0 _ residual.0
    (no_event_by _ _ _ residual refl ∙ sym (by_kind bs _ _ _ Duty first.0 c.in_ok-try_from.ensures c.in-Duty.is ∙ c.in_err-last-in-Duty.ensures (duty (duty_from (drop 1 bs)))))

pub returns-in_ok-last-in-Duty : goal.returns-in_ok-last-in-Duty
unfolding parse pick read_as event_of
returns-in_ok-last-in-Duty c =
    let bs = c.args.bytes.now in
    let first = rw (some_from_ok c.split_first.result _ (sym c.ok_or.ensures.value ∙ c.in_ok-number.was)) at c.split_first.ensures.cases in
    let read = c.in_ok-last-in-Duty.ensures in
    read_all bs c.type_inv.bytes c.well_formed.0.0 (Ok (OnDuty c.in_ok-last-in-Duty.field-0))
    (ap duty read.0 ∙ sym (by_kind bs _ _ _ Duty first.0 c.in_ok-try_from.ensures c.in-Duty.is ∙ read.1 (duty (duty_from (drop 1 bs)))))
    tt

pub returns-in_err-slot-in-Decided : goal.returns-in_err-slot-in-Decided
unfolding parse pick
returns-in_err-slot-in-Decided c =
    let bs = c.args.bytes.now in
    let first = rw (some_from_ok c.split_first.result _ (sym c.ok_or.ensures.value ∙ c.in_ok-number.was)) at c.split_first.ensures.cases in
    let residual = c.from_residual-in_err-slot-in-Decided.ensures in
    read_none bs c.type_inv.bytes c.well_formed.0.0 _ residual.0
    (no_event_by _ _ _ residual refl ∙ sym (by_kind bs _ _ _ Decided first.0 c.in_ok-try_from.ensures c.in-Decided.is ∙ c.in_err-slot-in-Decided.ensures (decided (le_value (take 8 (drop 1 bs))) (data_from (drop 8 (drop 1 bs))))))

pub returns-in_ok-slot-in-Decided : goal.returns-in_ok-slot-in-Decided
unfolding parse pick read_as event_of
returns-in_ok-slot-in-Decided c =
    let bs = c.args.bytes.now in
    let first = rw (some_from_ok c.split_first.result _ (sym c.ok_or.ensures.value ∙ c.in_ok-number.was)) at c.split_first.ensures.cases in
    let read = c.in_ok-slot-in-Decided.ensures in
    read_all bs c.type_inv.bytes c.well_formed.0.0 (Ok (EventDecided c.in_ok-slot-in-Decided.slot c.in_ok-slot-in-Decided.data))
    (ap₂ decided read.0.0 read.0.1 ∙ sym (by_kind bs _ _ _ Decided first.0 c.in_ok-try_from.ensures c.in-Decided.is ∙ read.1 (decided (le_value (take 8 (drop 1 bs))) (data_from (drop 8 (drop 1 bs))))))
    tt

pub returns-in_err-last-in-Share : goal.returns-in_err-last-in-Share
unfolding parse pick
returns-in_err-last-in-Share c =
    let bs = c.args.bytes.now in
    let first = rw (some_from_ok c.split_first.result _ (sym c.ok_or.ensures.value ∙ c.in_ok-number.was)) at c.split_first.ensures.cases in
    let residual = c.from_residual-in_err-last-in-Share.ensures in
    read_none bs c.type_inv.bytes c.well_formed.0.0 _ residual.0
    (no_event_by _ _ _ residual refl ∙ sym (by_kind bs _ _ _ Share first.0 c.in_ok-try_from.ensures c.in-Share.is ∙ c.in_err-last-in-Share.ensures (share (share_from (drop 1 bs)))))

pub returns-in_ok-last-in-Share : goal.returns-in_ok-last-in-Share
unfolding parse pick read_as event_of
returns-in_ok-last-in-Share c =
    let bs = c.args.bytes.now in
    let first = rw (some_from_ok c.split_first.result _ (sym c.ok_or.ensures.value ∙ c.in_ok-number.was)) at c.split_first.ensures.cases in
    let read = c.in_ok-last-in-Share.ensures in
    read_all bs c.type_inv.bytes c.well_formed.0.0 (Ok (ShareCame c.in_ok-last-in-Share.field-0))
    (ap share read.0 ∙ sym (by_kind bs _ _ _ Share first.0 c.in_ok-try_from.ensures c.in-Share.is ∙ read.1 (share (share_from (drop 1 bs)))))
    tt

pub returns-in-Block : goal.returns-in-Block
unfolding parse pick
returns-in-Block c =
    let bs = c.args.bytes.now in
    let first = rw (some_from_ok c.split_first.result _ (sym c.ok_or.ensures.value ∙ c.in_ok-number.was)) at c.split_first.ensures.cases in
    read_all bs c.type_inv.bytes c.well_formed.0.0 c.read_block.result
    (c.read_block.ensures.event ∙ sym (by_kind bs _ _ _ Block first.0 c.in_ok-try_from.ensures c.in-Block.is))
    c.read_block.ensures.exact

pub returns-in-Resend : goal.returns-in-Resend
unfolding parse pick event_number
returns-in-Resend c =
    let bs = c.args.bytes.now in
    let first = rw (some_from_ok c.split_first.result _ (sym c.ok_or.ensures.value ∙ c.in_ok-number.was)) at c.split_first.ensures.cases in
    read_all bs c.type_inv.bytes c.well_formed.0.0 c.read_resend.result
    (c.read_resend.ensures ∙ sym (by_kind bs _ _ _ Resend first.0 c.in_ok-try_from.ensures c.in-Resend.is))
    (event_without c.read_resend.result 1 0 (drop 1 bs) resend c.read_resend.ensures (λ p. omega arith))

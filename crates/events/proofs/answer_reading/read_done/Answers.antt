use Rattle.std.proofs.Common.{ap, sym, ◌∙◌}
use Rattle.events.specs.Meaning.{answer_of, row_shares, row_data, row_duties, row_slots}
use Rattle.events.specs.Reading.{answer_read}
use Rattle.events.proofs.AnswerRows.{none_at_first, none_at_second, none_at_third, none_at_fourth, four_rows}
use Rattle.events.proofs.HandedOn.{read_if}
use Rattle.events.proofs.answer_reading.read_done.Goals as goal

pub returns-in_err-sent-clause-answer : goal.returns-in_err-sent-clause-answer
unfolding answer_read
returns-in_err-sent-clause-answer c = rw c.from_residual.ensures (sym (none_at_first c.args.bytes.now c.in_err-sent.ensures))

pub returns-in_err-handed_in-clause-answer : goal.returns-in_err-handed_in-clause-answer
unfolding answer_read
returns-in_err-handed_in-clause-answer c =
    rw c.from_residual-in_err-handed_in.ensures (sym (none_at_second c.in_ok-sent.ensures c.in_err-handed_in.ensures))

pub returns-in_err-begun-clause-answer : goal.returns-in_err-begun-clause-answer
unfolding answer_read
returns-in_err-begun-clause-answer c =
    rw c.from_residual-in_err-begun.ensures (sym (none_at_third c.in_ok-sent.ensures c.in_ok-handed_in.ensures c.in_err-begun.ensures))

pub returns-in_err-ended-clause-answer : goal.returns-in_err-ended-clause-answer
unfolding answer_read
returns-in_err-ended-clause-answer c =
    rw c.from_residual-in_err-ended.ensures (sym (none_at_fourth c.in_ok-sent.ensures c.in_ok-handed_in.ensures c.in_ok-begun.ensures c.in_err-ended.ensures))

pub returns-clause-answer : goal.returns-clause-answer
unfolding answer_of row_shares row_data row_duties row_slots
returns-clause-answer c =
    ap answer_read c.then_some.ensures ∙ read_if _ _ ∙ rw c.is_empty.ensures (sym (four_rows c.in_ok-sent.ensures c.in_ok-handed_in.ensures c.in_ok-begun.ensures c.in_ok-ended.ensures))

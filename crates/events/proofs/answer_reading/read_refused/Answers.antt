use Rattle.std.proofs.Common.{ap, sym, ◌∙◌, arith}
use Rattle.std.proofs.lemmas.List.{nil_from_length}
use Rattle.std.proofs.lemmas.Bool.{ne_eqb}
use Rattle.events.specs.Layout.{parse_refused}
use Rattle.events.specs.Meaning.{answer_of}
use Rattle.events.specs.Reading.{answer_read}
use Rattle.events.proofs.HandedOn.{read_if}
use Rattle.events.proofs.Picked.{pick_false}
use Rattle.events.proofs.answer_reading.read_refused.Goals as goal

pub returns-in_err-number : goal.returns-in_err-number
unfolding answer_read parse_refused
returns-in_err-number c = rw (c.from_residual.ensures, nil_from_length c.args.bytes.now c.in_err-number.ensures.cases)

pub returns-in_err-place : goal.returns-in_err-place
unfolding answer_read parse_refused
returns-in_err-place c =
    rw (c.from_residual-in_err-place.ensures, c.in_ok-number.ensures.cases.0) (sym (pick_false _ _ _ (ne_eqb _ 8 (omega (arith, c.in_err-place.ensures)))))

pub returns : goal.returns
unfolding answer_of parse_refused
returns c =
    ap answer_read c.then_some.ensures ∙ read_if _ _ ∙ rw (c.in_ok-number.ensures.cases.0, c.size.ensures, c.in_ok-place.ensures.1)

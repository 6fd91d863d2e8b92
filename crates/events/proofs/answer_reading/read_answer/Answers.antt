use Rattle.std.proofs.Common.{◌≡◌, ℕ, ◌≤◌, List, ◌∷◌, None, sym, ◌∙◌, arith}
use Rattle.std.proofs.lemmas.List.{nil_from_length}
use Rattle.std.proofs.lemmas.Bool.{ne_eqb}
use Rattle.protocol.specs.Data.{pick}
use Rattle.events.specs.Kinds.{answer_kind}
use Rattle.events.specs.Layout.{parse_answer}
use Rattle.events.specs.Reading.{answer_read}
use Rattle.events.specs.declared.kind.AnswerKind.{AnswerKind}
use Rattle.events.specs.declared.kind.AnswerKind.TheVariants.{Refused, Done}
use Rattle.events.proofs.ExactRows.{answer_without}
use Rattle.events.proofs.HandedOn.{err_from_ok, ok_from_ok}
use Rattle.events.proofs.answer_reading.read_answer.Goals as goal

-- which answer bytes are, by the number in front
by_kind : (bs rest : List ℕ) (n : ℕ) (k k' : AnswerKind) → bs ≡ n ∷ rest → answer_kind k ≡ n → k ≡ k' → parse_answer bs ≡ parse_answer (answer_kind k' ∷ rest)
by_kind bs rest n k k' p q e = rw (p, sym q, e)

by_no_kind : (bs rest : List ℕ) (n : ℕ) → bs ≡ n ∷ rest → 2 ≤ n → parse_answer bs ≡ None
unfolding parse_answer pick
by_no_kind bs rest n p h = rw (p, ne_eqb n 0 (omega arith), ne_eqb n 1 (omega arith))

pub returns-in_err-number-clause-answer : goal.returns-in_err-number-clause-answer
unfolding answer_read parse_answer
returns-in_err-number-clause-answer c = rw (c.from_residual.ensures, nil_from_length c.args.bytes.now c.in_err-number.ensures.cases)

pub returns-in_err-ok-clause-answer : goal.returns-in_err-ok-clause-answer
unfolding answer_read
returns-in_err-ok-clause-answer c =
    let more = err_from_ok c.try_from.result _ _ (sym c.ok.ensures.value ∙ c.in_err-ok.was) c.try_from.ensures in
    rw c.from_residual-in_err-ok.ensures (sym (by_no_kind c.args.bytes.now _ _ c.in_ok-number.ensures.cases.0 more.1))

pub returns-in-Refused-clause-answer : goal.returns-in-Refused-clause-answer
unfolding parse_answer pick
returns-in-Refused-clause-answer c =
    let kind = ok_from_ok c.try_from.result _ _ (sym c.ok.ensures.value ∙ c.in_ok-ok.was) c.try_from.ensures in
    c.read_refused.ensures ∙ sym (by_kind c.args.bytes.now _ _ _ Refused c.in_ok-number.ensures.cases.0 kind c.in-Refused.is)

pub returns-in-Refused-clause-exact : goal.returns-in-Refused-clause-exact
returns-in-Refused-clause-exact c = answer_without c.read_refused.result _ c.read_refused.ensures

pub returns-in-Done-clause-answer : goal.returns-in-Done-clause-answer
unfolding parse_answer pick
returns-in-Done-clause-answer c =
    let kind = ok_from_ok c.try_from.result _ _ (sym c.ok.ensures.value ∙ c.in_ok-ok.was) c.try_from.ensures in
    c.read_done.ensures.answer ∙ sym (by_kind c.args.bytes.now _ _ _ Done c.in_ok-number.ensures.cases.0 kind c.in-Done.is)

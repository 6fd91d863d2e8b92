use Rattle.std.proofs.Common.{sym, ◌∙◌}
use Rattle.std.proofs.lemmas.List.{take_rest}
use Rattle.events.proofs.Exactly.{rest_short, rest_long, rest_right}
use Rattle.events.proofs.HandedOn.{none_from_err, some_from_ok, handed_on}
use Rattle.events.proofs.event_reading.last.Goals as goal

pub returns-in_err-value : goal.returns-in_err-value
returns-in_err-value g c =
    let cut = none_from_err c.read.result _ (sym c.ok_or.ensures.value ∙ c.in_err-value.was) in
    handed_on _ _ _ _ c.from_residual.ensures (rw cut.1 (λ e. rest_short c.args.at g.T.Fixed.width c.args.bytes.now e c.requires (rw cut.0 at c.read.ensures)))

pub returns-in_err-end : goal.returns-in_err-end
returns-in_err-end g c =
    let long = c.in_err-end.ensures in
    handed_on _ _ _ _ c.from_residual-in_err-end.ensures
    (rw long.1 (λ e. rest_long c.args.at g.T.Fixed.width c.args.bytes.now e c.requires c.size.result c.size.ensures long.0))

pub returns : goal.returns
returns g c =
    let read = rw (some_from_ok c.read.result _ (sym c.ok_or.ensures.value ∙ c.in_ok-value.was)) at c.read.ensures in (
      rw (take_rest c.args.bytes.now c.args.at) at read.1,
      λ e.
          rest_right c.args.at g.T.Fixed.width c.args.bytes.now e c.requires c.size.result c.size.ensures read.0 c.in_ok-end.ensures,
    )

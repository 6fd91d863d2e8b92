use Rattle.std.proofs.lemmas.Bool.{lt-leb}
use Rattle.std.proofs.lemmas.List.{nil_from_length}
use Rattle.events.specs.Layout.{row_there}
use Rattle.events.proofs.row.split_row.Goals as goal

pub returns-in_err-count : goal.returns-in_err-count
unfolding row_there
returns-in_err-count g c = rw (c.from_residual.ensures, nil_from_length c.args.bytes.now c.in_err-count.ensures.cases)

pub returns-in_err-bytes : goal.returns-in_err-bytes
unfolding row_there
returns-in_err-bytes g c =
    rw (c.from_residual-in_err-bytes.ensures, c.in_ok-count.ensures.cases.0)
    (lt-leb _ _ (rw (c.size.ensures, c.from.ensures) at c.in_err-bytes.ensures.cases))

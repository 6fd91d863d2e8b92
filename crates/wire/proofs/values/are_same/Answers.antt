use Rattle.std.proofs.Common.{arith, ◌∙◌}
use Rattle.wire.proofs.Same.{data_same}
use Rattle.wire.proofs.values.are_same.Goals as goal

pub returns : goal.returns
returns c =
    c.eq.ensures
    ∙ data_same c.args.one c.args.other record { first = omega arith; second = omega arith; third = omega arith } record { first = omega arith; second = omega arith; third = omega arith }
    record { first = omega arith; second = omega arith; third = omega arith }
    record { first = omega arith; second = omega arith; third = omega arith }
    record { first = omega arith; second = omega arith; third = omega arith }
    record { first = omega arith; second = omega arith; third = omega arith }

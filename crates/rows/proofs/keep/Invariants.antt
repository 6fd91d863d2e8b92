-- What holds as the entries are gone through.
use Rattle.std.proofs.Common.{List, ℕ, Bool}
use Rattle.rows.specs.Rows.{Tests}
use Rattle.rows.proofs.Keeping.{Going, Keeping}
use Rattle.rows.proofs.keep.Given as goal

abbrev pub invariant-loop-place : goal.invariant-loop-place
invariant-loop-place g l =
    Going l.width l.place l.stay l.initial.region l.region
    × ((p : List ℕ → Bool) → Tests g.F.Fn l.which l.width p → Keeping p l.width l.place l.stay l.initial.region l.region)

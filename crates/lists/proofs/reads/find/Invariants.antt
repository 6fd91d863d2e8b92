-- None of the entries before the place passed.
use Rattle.std.proofs.Common.{List, ℕ, Bool}
use Rattle.rows.specs.Rows.{Tests}
use Rattle.lists.proofs.Finding.{Passed}
use Rattle.lists.proofs.reads.find.Given as goal

abbrev pub invariant-loop-place : goal.invariant-loop-place
invariant-loop-place g l = (p : List ℕ → Bool) → Tests g.F.Fn l.which l.width p → Passed p l.width l.room l.place l.region

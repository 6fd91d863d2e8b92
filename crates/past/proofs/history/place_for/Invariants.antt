-- The entries before the place have larger targets.
use Rattle.std.proofs.Common.{◌≡◌, map}
use Rattle.protocol.specs.Data.{Past}
use Rattle.past.specs.Past.{entry_of}
use Rattle.past.proofs.Places.{Passed}
use Rattle.past.proofs.history.place_for.Given as goal

abbrev pub invariant-loop-place : goal.invariant-loop-place
invariant-loop-place l = (p : Past) → p.to ≡ l.target → Passed p (map entry_of l.kept) l.place

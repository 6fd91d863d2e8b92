-- What was folded so far stands for the entries that were looked at.
use Rattle.std.proofs.Common.{map, drop}
use Rattle.wire.specs.Meaning.{entry_of as meant}
use Rattle.past.specs.Past.{entry_of}
use Rattle.past.proofs.Folding.{Folded}
use Rattle.past.proofs.judging.is_unsafe.Given as goal

abbrev pub invariant-loop-row : goal.invariant-loop-row
invariant-loop-row l =
    Folded (meant l.initial.least) (meant l.entry) (map entry_of l.others) (drop l.row-index (map entry_of l.others)) l.least.source l.least.target l.clashing

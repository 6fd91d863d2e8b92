-- Nothing kept, the first one, one more, all of them.
use Rattle.std.proofs.Common.{ap₂, refl}
use Rattle.wire.specs.Meaning.{entry_of as meant}
use Rattle.past.specs.Past.{entry}
use Rattle.past.proofs.Folding.{folded_none, nothing_kept, folding_more, folding_all}
use Rattle.past.proofs.judging.is_unsafe.Goals as goal

pub returns-in_default : goal.returns-in_default
returns-in_default c d es et = nothing_kept d c.args.kept.now (c.in_default.ensures.cases)

pub loop-row-init : goal.loop-row-init
unfolding meant
loop-row-init c = folded_none (meant c.read-least.result) (meant c.args.entry) _ _ _ _ refl c.clashes-clashing.ensures

pub loop-row-preserved : goal.loop-row-preserved
unfolding meant
loop-row-preserved c =
    folding_more _ _ (meant c.read-other.result) _ c.in-Some.others.now c.loop-row.row-index _ _ _ _ _ _ _ c.loop-row.invariant c.loop-row-test.true c.read-other.ensures c.min.ensures c.min-in-loop-row.ensures c.clashes-clashing-in-loop-row.ensures

pub returns : goal.returns
unfolding meant
returns c d es et =
    rw (← es, ← et) (folding_all d _ _ c.args.kept.now c.in-Some.others.now c.in-Some.first.now c.loop-row.row-index _ _ _ (c.in-Some.ensures.cases.0) c.read-least.ensures c.loop-row.invariant c.loop-row-test.false (ap₂ entry es et))

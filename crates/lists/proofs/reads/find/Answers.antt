-- The entry passes, or the walk goes on.
use Rattle.std.proofs.Common.{sym, arith}
use Rattle.lists.proofs.Room.{entry_wide}
use Rattle.lists.proofs.Finding.{none_passed, passes_here, passes_later, none_left}
use Rattle.lists.proofs.reads.find.Goals as goal

pub loop-place-init : goal.loop-place-init
loop-place-init g c = λ p t. none_passed p c.args.width c.args.room c.args.region.now

pub returns-then-which : goal.returns-then-which
returns-then-which g c p t rs r =
    let many = c.count-place-end.ensures.many c.args.width rs r in
    passes_here p c.args.width c.args.room c.loop-place.place c.args.region.now (c.loop-place.invariant p t) rs r (omega arith) (sym (t _ _ (entry_wide c.args.width c.loop-place.place c.args.room c.args.region.now (omega (arith, c.count-place-end.ensures.within)) c.requires.fits) c.if-which.ensures))

pub loop-place-preserved : goal.loop-place-preserved
loop-place-preserved g c p t rs r =
    let many = c.count-place-end.ensures.many c.args.width rs r in
    passes_later p c.args.width c.args.room c.loop-place.place c.args.region.now (c.loop-place.invariant p t) rs r (omega arith) (sym (t _ _ (entry_wide c.args.width c.loop-place.place c.args.room c.args.region.now (omega (arith, c.count-place-end.ensures.within)) c.requires.fits) c.if-which.ensures))

pub returns : goal.returns
returns g c p t rs r =
    let many = c.count-place-end.ensures.many c.args.width rs r in
    none_left p c.args.width c.args.room c.loop-place.place c.args.region.now (c.loop-place.invariant p t) rs r (omega arith)

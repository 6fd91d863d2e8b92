-- The target is there, or has its place before a smaller one, or behind all.
use Rattle.std.proofs.Common.{◌≡◌, [], length, arith}
use Rattle.past.proofs.Places.{passes_more, stops_there, stops_here, stops_last}
use Rattle.past.proofs.history.place_for.Goals as goal

pub returns-then-other-target : goal.returns-then-other-target
returns-then-other-target c =
    record { within = tt; places = λ p e. stops_there p c.args.kept.now c.loop-place.place [] (omega arith) (c.loop-place.invariant p e) (omega arith) }

pub returns-then-other-target-2 : goal.returns-then-other-target-2
returns-then-other-target-2 c =
    record { within = omega arith; places = λ p e. stops_here p c.args.kept.now c.loop-place.place [] (omega arith) (c.loop-place.invariant p e) (omega arith) }

pub loop-place-preserved : goal.loop-place-preserved
loop-place-preserved c p e =
    passes_more p c.args.kept.now c.loop-place.place [] (omega arith) (c.loop-place.invariant p e) (omega arith)

pub returns : goal.returns
returns c =
    let all : c.loop-place.place ≡ length c.args.kept.now = omega arith in
    record {
      within = omega arith;
      places = λ p e. stops_last p c.args.kept.now (rw all at (c.loop-place.invariant p e));
    }

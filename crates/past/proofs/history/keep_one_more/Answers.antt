-- Nothing to put in, no room behind the last one, or a row put in.
use Rattle.std.proofs.Common.{◌≡◌, ◌≤◌, refl, arith}
use Rattle.wire.specs.Meaning.{entry_of as meant}
use Rattle.protocol.specs.Data.{keep}
use Rattle.rows.specs.Rows.{inserted}
use Rattle.past.specs.Past.{entries}
use Rattle.past.proofs.Places.{keep_same, keep_none, keep_one}
use Rattle.past.proofs.Keeping.{same_after, put_after}
use Rattle.past.proofs.history.keep_one_more.Goals as goal

pub returns-in_default : goal.returns-in_default
unfolding meant
returns-in_default c =
    same_after c.args.most _ c.args.count c.args.region.now c.requires.0 c.requires.1
    (keep_same c.args.most c.args.count _ c.args.region.now c.requires.0 (rw c.pairs.ensures.meant at (c.in_default.ensures.places (meant c.args.entry) refl)))

pub returns-then-place-most : goal.returns-then-place-most
unfolding meant
returns-then-place-most c =
    same_after c.args.most _ c.args.count c.args.region.now c.requires.0 c.requires.1
    (keep_none c.args.most c.args.count c.in-Some.place _ c.args.region.now c.requires.0 (omega (arith, c.in-Some.ensures.within)) c.if-place-most.true (rw c.pairs.ensures.meant at (c.in-Some.ensures.places (meant c.args.entry) refl)))

pub returns : goal.returns
unfolding meant
returns c =
    let inside : c.in-Some.place ≤ c.args.count = omega (arith, c.in-Some.ensures.within) in
    let least = c.min-behind.ensures in
    let after : keep c.args.most (meant c.args.entry) (entries c.args.count c.args.region.now) ≡ inserted (entries c.min-behind.result c.args.region.now) c.in-Some.place (meant c.args.entry) =
    rw least (keep_one c.args.most c.args.count c.in-Some.place _ c.args.region.now c.requires.0 inside (omega arith) (rw c.pairs.ensures.meant at (c.in-Some.ensures.places (meant c.args.entry) refl))) in
    put_after c.args.most _ c.args.count c.min-behind.result c.in-Some.place c.args.region.now c.put.new.region (omega arith) (omega arith) (omega arith) c.requires.1 (omega arith) c.put.ensures.cells (c.put.ensures.entries 2 c.in-Some.place c.min-behind.result refl refl refl (omega arith)) after

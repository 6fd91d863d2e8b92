-- Each turn of the walk.
use Rattle.std.proofs.Common.{◌≡◌, ◌-◌, ◌<◌, [], ◌∷◌, drop, refl, sym, ap, ◌∙◌, subst, arith}
use Rattle.protocol.specs.Data.{Duty}
use Rattle.wire.specs.Meaning.{duty_of, data_of}
use Rattle.stored.specs.Stored.{with_queue}
use Rattle.stored.specs.Kept.{Held}
use Rattle.layout.specs.Layout.{sizes}
use Rattle.keeper.specs.Step.{learnt}
use Rattle.layout.specs.declared.layout.Layout.{Layout}
use Rattle.steps.specs.Queue.{skipped}
use Rattle.steps.proofs.Walking.{OnTheWay, walk_starts, walk_fits, walk_some, walk_passed, walk_stops, walk_passes, walk_learns, walk_on, walk_ends, rows_wait}
use Rattle.steps.proofs.queue.skip_shown.Goals as goal

pub walk-init : goal.walk-init
walk-init c =
    record {
      layout = refl;
      lent = refl;
      way = λ t h r. walk_starts (sizes c.args.memory.now.layout) c.args.memory.now.numbers.now _ t h r (rows_wait _ t.queue (c.rows-left.ensures t (c.view.ensures.shows t h)));
    }

pub walk-preserved-in-Greater : goal.walk-preserved-in-Greater
unfolding duty_of data_of
walk-preserved-in-Greater c =
    let m = c.loop-left.invariant in
    let w = c.walk.invariant in
    let less : c.in-Some-at.shown.slot < c.in-Some.first.slot = grind (arith, c.in-Greater.is, c.cmp.ensures) in
    record {
      layout = m.layout ∙ w.layout;
      lent = m.lent ∙ w.lent;
      way =
          λ t h r.
          let on = m.way (skipped t.queue t) (w.way t h r) in
          walk_passes (sizes c.loop-left.memory.layout) c.loop-left.memory.numbers.now c.walk.place c.loop-left.left (skipped t.queue t) on (duty_of c.in-Some.first) (c.in-Some.ensures on.client (c.view-in-loop-left.ensures.shows on.client on.held)) (data_of c.in-Some-at.shown) (c.in-Some-at.ensures on.client (c.view-in-loop-left-2.ensures.shows on.client on.held)) less;
    }

pub loop-left-preserved : goal.loop-left-preserved
unfolding duty_of data_of
loop-left-preserved c =
    let m = c.loop-left.invariant in
    let l = c.learn.ensures in
    let same : c.in-Some-at.shown.slot ≡ c.in-Some.first.slot = grind (arith, c.in-Equal.is, c.cmp.ensures) in
    record {
      layout = l.layout ∙ m.layout;
      lent = l.lent ∙ m.lent;
      way =
          λ goal w.
          let on = m.way goal w in
          let y : Duty = duty_of c.in-Some.first in
          let z = sizes c.loop-left.memory.layout in
          let xs = c.loop-left.memory.numbers.now in
          let first = c.in-Some.ensures on.client (c.view-in-loop-left.ensures.shows on.client on.held) in
          let gone = l.holds on.client on.held (walk_fits z xs c.walk.place c.loop-left.left goal on y first, walk_some z xs c.walk.place c.loop-left.left goal on y first) in
          subst (λ (v : Layout). OnTheWay (sizes v) c.learn.new.memory.numbers.now c.walk.place (c.loop-left.left - 1) goal) (sym l.layout)
          (walk_learns z xs c.walk.place c.loop-left.left goal on y first (data_of c.in-Some-at.shown) (c.in-Some-at.ensures on.client (c.view-in-loop-left-2.ensures.shows on.client on.held)) c.learn.new.memory.numbers.now same (omega arith)
          (subst (λ (v : Layout). Held (sizes v) c.learn.new.memory.numbers.now (with_queue (drop 1 on.client.queue) (learnt (data_of c.in-Some-at.shown ∷ []) y on.client))) l.layout gone));
    }

pub walk-preserved : goal.walk-preserved
walk-preserved c =
    let m = c.loop-left.invariant in
    let w = c.walk.invariant in
    record {
      layout = m.layout ∙ w.layout;
      lent = m.lent ∙ w.lent;
      way = λ t h r. walk_on (sizes c.loop-left.memory.layout) c.loop-left.memory.numbers.now c.walk.place c.loop-left.left (skipped t.queue t) (m.way (skipped t.queue t) (w.way t h r)) (omega arith);
    }

pub returns-after-walk : goal.returns-after-walk
returns-after-walk c =
    let w = c.walk.invariant in
    let room = ap (λ (l : Layout). l.waiting) w.layout in
    record {
      layout = w.layout;
      lent = w.lent;
      holds = λ t h r. walk_ends (sizes c.walk.memory.layout) c.walk.memory.numbers.now c.walk.place c.walk.left (skipped t.queue t) (w.way t h r) (omega arith);
    }

pub returns-in_default-at : goal.returns-in_default-at
returns-in_default-at c =
    let m = c.loop-left.invariant in
    let w = c.walk.invariant in
    record {
      layout = m.layout ∙ w.layout;
      lent = m.lent ∙ w.lent;
      holds =
          λ t h r.
          let on = m.way (skipped t.queue t) (w.way t h r) in
          walk_passed (sizes c.loop-left.memory.layout) c.loop-left.memory.numbers.now c.walk.place c.loop-left.left (skipped t.queue t) on (duty_of c.in-Some.first) (c.in-Some.ensures on.client (c.view-in-loop-left.ensures.shows on.client on.held)) (c.in_default-at.ensures on.client (c.view-in-loop-left-2.ensures.shows on.client on.held));
    }

pub returns-in-Less : goal.returns-in-Less
unfolding duty_of data_of
returns-in-Less c =
    let m = c.loop-left.invariant in
    let w = c.walk.invariant in
    let less : c.in-Some.first.slot < c.in-Some-at.shown.slot = grind (arith, c.in-Less.is, c.cmp.ensures) in
    record {
      layout = m.layout ∙ w.layout;
      lent = m.lent ∙ w.lent;
      holds =
          λ t h r.
          let on = m.way (skipped t.queue t) (w.way t h r) in
          walk_stops (sizes c.loop-left.memory.layout) c.loop-left.memory.numbers.now c.walk.place c.loop-left.left (skipped t.queue t) on (duty_of c.in-Some.first) (c.in-Some.ensures on.client (c.view-in-loop-left.ensures.shows on.client on.held)) (data_of c.in-Some-at.shown) (c.in-Some-at.ensures on.client (c.view-in-loop-left-2.ensures.shows on.client on.held)) less;
    }

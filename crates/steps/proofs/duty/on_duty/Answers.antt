-- Turned away, or taken.
use Rattle.std.proofs.Common.{refl, sym, ◌∙◌, arith}
use Rattle.std.proofs.lemmas.Result.{err_from_is_err_and}
use Rattle.protocol.specs.Client.{duty, place}
use Rattle.wire.specs.Meaning.{duty_of}
use Rattle.layout.specs.Layout.{sizes}
use Rattle.store.specs.Store.{duty_found}
use Rattle.steps.proofs.Giving.{last_slot, too_early, no_room, taken, duty_done}
use Rattle.steps.proofs.Writing.{beginning}
use Rattle.steps.proofs.Serving.{step_refused, serves_done, serves_failed, held_by}
use Rattle.steps.proofs.duty.on_duty.Goals as goal

pub returns-in_default : goal.returns-in_default
unfolding duty_of place
returns-in_default c can on =
    step_refused can (duty (duty_of c.args.duty.now)) 2 0 (omega arith) (λ t h ready. (last_slot can on t (duty_of c.args.duty.now) (omega (arith, c.in_default.ensures)))) refl c.refuse.ensures

pub returns-in_default-not_given : goal.returns-in_default-not_given
unfolding duty_of place
returns-in_default-not_given c can on =
    step_refused can (duty (duty_of c.args.duty.now)) 3 0 (omega arith) (λ t h ready. (too_early can on t (duty_of c.args.duty.now) (omega (arith, c.in-Some.ensures)) (c.in_default-not_given.ensures t (c.view.ensures.shows t h)))) refl c.refuse-in_default-not_given.ensures

pub returns-in_default-room : goal.returns-in_default-room
unfolding duty_of place
returns-in_default-room c can on =
    step_refused can (duty (duty_of c.args.duty.now)) 4 0 (omega arith) (λ t h ready. (no_room can on t (duty_of c.args.duty.now) (omega (arith, c.in-Some.ensures)) (c.in-Some-not_given.ensures t (c.view.ensures.shows t h)) (c.in_default-room.ensures t (c.view-2.ensures.shows t h)))) refl c.refuse-in_default-room.ensures

pub returns-in_err-n : goal.returns-in_err-n
unfolding duty_of
returns-in_err-n c can on =
    record {
      layout = refl;
      lent = refl;
      serves =
          λ t h ready.
          let same =
          beginning c.default.result c.as_slice.result c.begun_by-begun.result c.as_slice.ensures c.default.ensures in
          let failed = err_from_is_err_and c.from_residual.result c.from_residual.ensures.1 in
          serves_failed (sizes c.args.memory.now.layout) can (duty (duty_of c.args.duty.now)) c.args.memory.now.numbers.now c.args.out.now c.write_deeds.new.out t _
          (taken can on t (duty_of c.args.duty.now) (omega (arith, c.in-Some.ensures)) (c.in-Some-not_given.ensures t (c.view.ensures.shows t h)) (c.in-Some-room.ensures t (c.view-2.ensures.shows t h)))
          (duty_done can t (duty_of c.args.duty.now) (duty_found c.begun_by-begun.result) h.well.sizes.some_wait ready (c.in-Some-not_given.ensures t (c.view.ensures.shows t h)) (c.begun_by-begun.ensures t (c.view-3.ensures.shows t h)) ∙ sym same)
          failed.0 c.from_residual.result failed.1 c.in_err-n.ensures;
    }

pub returns : goal.returns
unfolding duty_of
returns c can on =
    record {
      layout = c.give.ensures.layout;
      lent = c.give.ensures.lent;
      serves =
          λ t h ready.
          let same =
          beginning c.default.result c.as_slice.result c.begun_by-begun.result c.as_slice.ensures c.default.ensures in
          serves_done (sizes c.args.memory.now.layout) can (duty (duty_of c.args.duty.now)) c.args.memory.now.numbers.now c.args.out.now c.write_deeds.new.out t _
          (taken can on t (duty_of c.args.duty.now) (omega (arith, c.in-Some.ensures)) (c.in-Some-not_given.ensures t (c.view.ensures.shows t h)) (c.in-Some-room.ensures t (c.view-2.ensures.shows t h)))
          (duty_done can t (duty_of c.args.duty.now) (duty_found c.begun_by-begun.result) h.well.sizes.some_wait ready (c.in-Some-not_given.ensures t (c.view.ensures.shows t h)) (c.begun_by-begun.ensures t (c.view-3.ensures.shows t h)) ∙ sym same)
          c.give.new.memory.numbers.now c.in_ok-n.n c.in_ok-n.ensures
          (held_by _ _ c.give.ensures.layout _ _ (c.give.ensures.holds t h (ready, c.in-Some-room.ensures t (c.view-2.ensures.shows t h), c.in-Some-not_given.ensures t (c.view.ensures.shows t h))));
    }

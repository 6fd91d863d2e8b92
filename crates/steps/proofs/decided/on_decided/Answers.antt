-- Nothing happens, or it is signed.
use Rattle.std.proofs.Common.{ℕ, List, [], ◌∷◌, refl, sym, ap, ◌∙◌, subst}
use Rattle.std.proofs.lemmas.Result.{err_from_is_err_and}
use Rattle.protocol.specs.Data.{Data, Duty, first_of}
use Rattle.protocol.specs.Client.{Share, decided, does, own_with}
use Rattle.wire.specs.Meaning.{data_of, duty_of, share_of}
use Rattle.stored.specs.Stored.{Stored, with_own, with_at_hand}
use Rattle.stored.specs.Kept.{Held}
use Rattle.layout.specs.Layout.{sizes}
use Rattle.store.specs.Store.{duty_found}
use Rattle.keeper.specs.Step.{remembered, settle}
use Rattle.steps.proofs.Serving.{serves_done, serves_failed, serves_still, held_by}
use Rattle.steps.proofs.Writing.{nothing, sending}
use Rattle.steps.proofs.Signing.{decided_taken, nothing_done, signed_done}
use Rattle.steps.proofs.decided.on_decided.Goals as goal

pub returns-in_default : goal.returns-in_default
returns-in_default c can on =
    record {
      layout = refl;
      lent = refl;
      serves =
          λ t h ready.
          let d : Data = data_of c.args.data.now in
          let same = nothing c.default.result c.default.ensures in
          let still = nothing_done can t c.args.slot d (c.in_default.ensures t (c.view.ensures.shows t h) ready) in
          serves_still (sizes c.args.memory.now.layout) can (decided c.args.slot (data_of c.args.data.now)) c.args.memory.now.numbers.now c.args.out.now c.write_deeds.new.out t _ (decided_taken can t c.args.slot d on) (still.1 ∙ sym same) c.write_deeds.result (subst (Held (sizes c.args.memory.now.layout) c.args.memory.now.numbers.now) (sym still.0) h) c.write_deeds.ensures;
    }

pub returns-in_err-n : goal.returns-in_err-n
unfolding share_of duty_of
returns-in_err-n c can on =
    record {
      layout = refl;
      lent = refl;
      serves =
          λ t h ready.
          let y : Duty = duty_of c.in-Some.duty in
          let d : Data = data_of c.args.data.now in
          let row : List Duty = duty_found c.upcoming-begun.result in
          let form : ℕ → Share = λ w. record { who = w; what = d; seat = y.seat } in
          let me = ap (λ z. z.me) h.sized in
          let signs = signed_done can t c.args.slot d y (c.in-Some.ensures t (c.view.ensures.shows t h) ready) h.well.sizes.some_wait ready row (c.upcoming-begun.ensures t (c.view-2.ensures.shows t h)) in
          let same = sending c.default-2.result (record { who = c.args.memory.now.layout.me; what = c.args.data.now; seat = c.in-Some.duty.seat }) c.as_slice.result c.upcoming-begun.result c.as_slice.ensures c.default-2.ensures in
          let says = signs.1 ∙ ap (λ w. does (form w ∷ []) [] row []) me ∙ sym same in
          let failed = err_from_is_err_and c.from_residual.result c.from_residual.ensures.1 in
          serves_failed (sizes c.args.memory.now.layout) can (decided c.args.slot (data_of c.args.data.now)) c.args.memory.now.numbers.now c.args.out.now c.write_deeds-2.new.out t _ (decided_taken can t c.args.slot d on) says failed.0 c.from_residual.result failed.1 c.in_err-n.ensures;
    }

pub returns : goal.returns
unfolding share_of duty_of
returns c can on =
    record {
      layout = c.sign.ensures.layout;
      lent = c.sign.ensures.lent;
      serves =
          λ t h ready.
          let y : Duty = duty_of c.in-Some.duty in
          let d : Data = data_of c.args.data.now in
          let row : List Duty = duty_found c.upcoming-begun.result in
          let form : ℕ → Share = λ w. record { who = w; what = d; seat = y.seat } in
          let me = ap (λ z. z.me) h.sized in
          let signs = signed_done can t c.args.slot d y (c.in-Some.ensures t (c.view.ensures.shows t h) ready) h.well.sizes.some_wait ready row (c.upcoming-begun.ensures t (c.view-2.ensures.shows t h)) in
          let same = sending c.default-2.result (record { who = c.args.memory.now.layout.me; what = c.args.data.now; seat = c.in-Some.duty.seat }) c.as_slice.result c.upcoming-begun.result c.as_slice.ensures c.default-2.ensures in
          let says = signs.1 ∙ ap (λ w. does (form w ∷ []) [] row []) me ∙ sym same in
          let leaves : ℕ → Stored =
          λ w. settle t.queue (with_own (first_of t.sizes.waiting (own_with (form w) t.own)) (with_at_hand 0 (remembered d t))) in
          serves_done (sizes c.args.memory.now.layout) can (decided c.args.slot (data_of c.args.data.now)) c.args.memory.now.numbers.now c.args.out.now c.write_deeds-2.new.out t _ (decided_taken can t c.args.slot d on) says c.sign.new.memory.numbers.now c.in_ok-n.n c.in_ok-n.ensures
          (subst (Held (sizes c.args.memory.now.layout) c.sign.new.memory.numbers.now) (sym (signs.0 ∙ ap leaves me)) (held_by _ _ c.sign.ensures.layout _ _ (c.sign.ensures.holds t h ready)));
    }

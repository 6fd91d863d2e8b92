-- One at hand, one that waits, or this one.
use Rattle.std.proofs.Common.{◌≡◌, Bool, true, false, not, [], ◌∷◌, ◌++◌, refl, sym, ap, ◌∙◌}
use Rattle.std.specs.Bool.{then_some}
use Rattle.protocol.specs.Data.{pick, Duty}
use Rattle.wire.specs.Meaning.{duty_of}
use Rattle.wire.specs.declared.values.Duty.{Duty as Given}
use Rattle.store.specs.Store.{duty_found}
use Rattle.steps.specs.Queue.{upcoming}
use Rattle.steps.proofs.Busy.{idle, busy}
use Rattle.steps.proofs.Giving.{up_found, up_last}
use Rattle.steps.proofs.Hands.{picked_first, picked_second}
use Rattle.steps.proofs.duty.begun_by.Goals as goal

unless : (b : Bool) (y : Given) → duty_found (then_some (not b) y) ≡ pick b [] (duty_of y ∷ [])
unfolding pick
unless true y = refl
unless false y = refl

pub returns-then-is_busy : goal.returns-then-is_busy
returns-then-is_busy c t h =
    sym (picked_second t.at_hand (upcoming (t.queue ++ duty_of c.args.duty.now ∷ []) t.ahead) [] (busy _ t.at_hand (c.is_busy.ensures t h) c.if-is_busy.true))

pub returns-in-Some : goal.returns-in-Some
returns-in-Some c t h =
    sym (picked_first t.at_hand (upcoming (t.queue ++ duty_of c.args.duty.now ∷ []) t.ahead) [] (idle _ t.at_hand (c.is_busy.ensures t h) c.if-is_busy.false)
    ∙ up_found (duty_of c.in-Some.first) (duty_of c.args.duty.now) t.queue t.ahead (c.in-Some.ensures t h))

pub returns : goal.returns
unfolding duty_of
returns c t h =
    let y : Duty = duty_of c.args.duty.now in
    ap duty_found c.then_some.ensures
    ∙ unless c.is_ahead.result c.args.duty.now
    ∙ ap (λ b. pick b [] (y ∷ [])) (c.is_ahead.ensures t h)
    ∙ sym (picked_first t.at_hand (upcoming (t.queue ++ y ∷ []) t.ahead) [] (idle _ t.at_hand (c.is_busy.ensures t h) c.if-is_busy.false) ∙ up_last y t.queue t.ahead (c.in_default.ensures t h))

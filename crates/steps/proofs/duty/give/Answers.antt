-- One call after another.
use Rattle.std.proofs.Common.{ℕ, List, [], ◌∷◌, ◌++◌, ap, ◌∙◌, subst, arith}
use Rattle.protocol.specs.Data.{Duty}
use Rattle.wire.specs.Meaning.{duty_of}
use Rattle.stored.specs.Stored.{Stored, with_after, with_banks, with_queue, taken}
use Rattle.layout.specs.Memory.{Holds}
use Rattle.keeper.specs.Step.{settle, moved}
use Rattle.steps.specs.Orderly.{Orderly}
use Rattle.steps.proofs.Giving.{ready_orderly, ascends_more, fits_more}
use Rattle.steps.proofs.Hands.{settle_queue}
use Rattle.steps.proofs.duty.give.Goals as goal

pub returns : goal.returns
unfolding moved duty_of
returns c =
    let a = c.put.ensures in
    let b = c.take.ensures in
    let d = c.push_waiting.ensures in
    let e = c.settle.ensures in
    record {
      layout = e.layout ∙ d.layout ∙ b.layout ∙ a.layout;
      lent = e.lent ∙ d.lent ∙ b.lent ∙ a.lent;
      holds =
          λ t h ok.
          let y : Duty = duty_of c.args.duty.now in
          let qs : List Duty = t.queue ++ y ∷ [] in
          let form : ℕ → Stored = λ k. with_banks (taken y.slot t.banks) (with_after k t) in
          let in_order = ready_orderly t ok.0 in
          let orderly : Orderly (with_queue qs (form c.args.next)) =
          record { waiting = fits_more y t.queue in_order.waiting (omega arith); deciding = in_order.deciding; queue = ascends_more t.after y t.queue ok.0.queue ok.0.given ok.2; ahead = in_order.ahead } in
          subst (Holds c.settle.new.memory) (settle_queue qs qs (form c.args.next) ∙ ap (λ k. settle qs (form k)) c.requires) (e.holds _ (d.holds _ (b.holds _ (a.holds t h)) ok.1) orderly);
    }

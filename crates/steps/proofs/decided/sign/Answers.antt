-- One call after another.
use Rattle.std.proofs.Common.{subst, ◌∙◌}
use Rattle.protocol.specs.Data.{Past, keep}
use Rattle.wire.specs.Meaning.{share_of}
use Rattle.stored.specs.Stored.{with_past}
use Rattle.layout.specs.Memory.{Holds}
use Rattle.steps.proofs.Giving.{ready_orderly}
use Rattle.steps.proofs.decided.sign.Goals as goal

pub returns : goal.returns
unfolding share_of
returns c =
    let a = c.remember.ensures in
    let b = c.put_own.ensures in
    let d = c.put.ensures in
    let e = c.settle.ensures in
    record {
      layout = e.layout ∙ d.layout ∙ b.layout ∙ a.layout;
      lent = e.lent ∙ d.lent ∙ b.lent ∙ a.lent;
      holds =
          λ t h ready.
          let in_order = ready_orderly t ready in
          e.holds _ (d.holds _ (b.holds _ (subst (λ (p : Past). Holds c.remember.new.memory (with_past (keep t.sizes.kept p t.past) t)) c.from.ensures (a.holds t h)))) (record { waiting = in_order.waiting; deciding = in_order.deciding; queue = in_order.queue; ahead = in_order.ahead });
    }

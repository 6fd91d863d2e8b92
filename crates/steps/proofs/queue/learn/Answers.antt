-- One call after another.
use Rattle.std.proofs.Common.{List, drop, subst, ◌∙◌}
use Rattle.protocol.specs.Client.{without}
use Rattle.protocol.specs.Data.{Data, Past, keep}
use Rattle.wire.specs.Meaning.{data_of, duty_of, entry_of}
use Rattle.stored.specs.Stored.{Stored, with_past, with_ahead, with_banks, with_queue, freed}
use Rattle.layout.specs.Memory.{Holds}
use Rattle.keeper.specs.Step.{learnt}
use Rattle.steps.proofs.Apart.{without_is}
use Rattle.steps.proofs.queue.learn.Goals as goal

pub returns : goal.returns
unfolding learnt data_of duty_of
returns c =
    let a = c.remember.ensures in
    let b = c.drop_slots.ensures in
    let e = c.release.ensures in
    let f = c.pop_waiting.ensures in
    record {
      layout = f.layout ∙ e.layout ∙ b.layout ∙ a.layout;
      lent = f.lent ∙ e.lent ∙ b.lent ∙ a.lent;
      holds = λ t h ok.
          let k = c.args.first.now.slot in
          let form : Past → List Data → Stored =
          λ p ds. with_queue (drop 1 t.queue) (with_banks (freed t.sizes.clients k t.banks) (with_ahead ds (with_past (keep t.sizes.kept p t.past) t))) in
          let after-past = a.holds t h in
          let after-ahead = b.holds _ after-past in
          let after-banks = e.holds _ after-ahead ok.0 in
          let after-queue = subst (λ (ds : List Data). Holds c.pop_waiting.new.memory (form (entry_of c.from.result) ds)) (without_is k t.ahead) (f.holds _ after-banks ok.1) in
          subst (λ (p : Past). Holds c.pop_waiting.new.memory (form p (without k t.ahead))) c.from.ensures after-queue;
    }

use Rattle.std.proofs.Common.{refl, ◌∙◌}
use Rattle.std.proofs.lemmas.Bool.{both_ways}
use Rattle.wire.specs.Meaning.{data_of}
use Rattle.layout.specs.Layout.{sizes, plausible}
use Rattle.client_in_memory.proofs.Afters.{client, passes, held_view, lets}
use Rattle.client_in_memory.proofs.calls.may_decide.Goals as goal

pub returns-in_err-view : goal.returns-in_err-view
returns-in_err-view c l es a =
    let none = rw c.in_err-view.ensures.ok_part at c.of.ensures in
    absurd (both_ways (plausible c.args.memory.now) none (passes l es c.args.memory.now a))

pub returns : goal.returns
returns c l es a =
    let front = rw c.in_ok-view.ensures.ok_part at c.of.ensures in
    c.allows.ensures (client l es c.args.memory.now a) (held_view l es c.args.memory.now a (sizes c.in_ok-view.view.layout) _ front.0.sized refl c.in_ok-view.view.numbers.now front.1)
    ∙ lets l es c.args.memory.now a c.args.slot (data_of c.args.data.now)

use Rattle.std.proofs.Common.{sym, ◌∙◌}
use Rattle.steps.proofs.Upcoming.{told}
use Rattle.steps.proofs.queue.is_ahead.Goals as goal

pub returns : goal.returns
returns c t h = c.is_some.ensures ∙ sym (told c.args.slot c.ahead_for.result t.ahead (c.ahead_for.ensures t h))

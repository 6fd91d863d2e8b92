use Rattle.std.proofs.Common.{◌-◌, length, take}
use Rattle.std.proofs.lemmas.Iterator.Consumers.{YieldsList-end}
use Rattle.std.proofs.lemmas.Iterator.Adapters.{YieldsList-from_rev_slice}
use Rattle.text.proofs.Listed.{past_whole}
use Rattle.text.proofs.lists.past_text.Goals as goal

pub returns : goal.returns
returns c =
    let ends = YieldsList-end (YieldsList-from_rev_slice (take (length c.args.past.now - 1) c.args.past.now) cc) c.loop-entry.yielded _ c.loop-entry.yielded_by _ _ c.in-None.is c.next.ensures.steps in
    past_whole c.args.past.now _ _ _ _ c.in-len1-up.len_at_least c.in_ok-text.ensures.ok c.loop-entry.invariant ends.0

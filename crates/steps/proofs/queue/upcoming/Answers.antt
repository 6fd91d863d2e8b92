-- The first of the duties that are read that isn't ahead.
use Rattle.std.proofs.Common.{not, map, ap, ◌∙◌, rules}
use borrow.Author.Tests.{tests}
use Rattle.std.specs.List.{find}
use Rattle.std.proofs.lemmas.Iterator.{YieldsList-from_map_by, YieldsList-from_slice}
use Rattle.std.proofs.lemmas.Iterator.Consumers.{YieldsList-at}
use Rattle.std.proofs.lemmas.Iterator.Search.{find_from_yields_List}
use Rattle.protocol.specs.Client.{has_slot}
use Rattle.wire.specs.Meaning.{duty_of}
use Rattle.stored.specs.Numbers.{duty_in}
use Rattle.steps.proofs.Upcoming.{found_up, read_back}
use Rattle.steps.proofs.queue.upcoming.Goals as goal

pub returns : goal.returns
unfolding duty_of
returns c t h =
    let found =
    find_from_yields_List {v = duty_of} (λ y. not (has_slot y.slot t.ahead)) _ _ c.find.result c.find.ensures.ran
    (YieldsList-from_map_by _ duty_of duty_in (YieldsList-at c.map.ensures.source (YieldsList-from_slice c.rows.result.now cc)) c.map.ensures.closure (λ x r q k. search (rules, tests)))
    (λ x b q k. search (rules, tests)) in
    found_up c.find.result t.queue t.ahead (found ∙ ap (λ rows. find (λ y. not (has_slot y.slot t.ahead)) (map duty_in rows)) (c.rows.ensures t h) ∙ ap (find (λ y. not (has_slot y.slot t.ahead))) (read_back t.queue))

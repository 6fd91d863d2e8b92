-- Whether one of the duties that are read lets it.
use Rattle.std.proofs.Common.{◌&&◌, eqb, map, ap, ◌∙◌, rules}
use borrow.Author.Tests.{tests}
use Rattle.std.specs.List.{list_any}
use Rattle.std.proofs.lemmas.Iterator.{YieldsList-from_map_by, YieldsList-from_slice}
use Rattle.std.proofs.lemmas.Iterator.Consumers.{YieldsList-at}
use Rattle.std.proofs.lemmas.Iterator.Search.{any_from_yields_List}
use Rattle.protocol.specs.Data.{valid}
use Rattle.wire.specs.Meaning.{data_of, duty_of}
use Rattle.stored.specs.Numbers.{duty_in}
use Rattle.steps.proofs.Letting.{some_lets}
use Rattle.steps.proofs.Upcoming.{read_back}
use Rattle.steps.proofs.asking.allows.Goals as goal

pub returns : goal.returns
unfolding duty_of
returns c t h =
    let found =
    any_from_yields_List {v = duty_of} (λ y. eqb y.slot c.args.slot && valid t.past (data_of c.args.data.now) y) _ _ c.any.result c.any.ensures.ran
    (YieldsList-from_map_by _ duty_of duty_in (YieldsList-at c.map.ensures.source (YieldsList-from_slice c.rows.result.now cc)) c.map.ensures.closure (λ x r q k. search (rules, tests)))
    (λ x b q k. search (rules, tests)) in
    found
    ∙ ap (λ rows. list_any (λ y. eqb y.slot c.args.slot && valid t.past (data_of c.args.data.now) y) (map duty_in rows)) (c.rows.ensures t h)
    ∙ ap (list_any (λ y. eqb y.slot c.args.slot && valid t.past (data_of c.args.data.now) y)) (read_back t.active)
    ∙ some_lets t.past c.args.slot (data_of c.args.data.now) t.active

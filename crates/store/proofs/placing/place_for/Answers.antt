-- The place that was found, or how many there are.
use Rattle.std.proofs.Common.{ℕ, Bool, List, get_or, length, rules, ap, ◌∙◌}
use Rattle.std.specs.Option.{unwrap_or}
use Rattle.lists.specs.Lists.{first_passing}
use Rattle.store.proofs.Ordered.{place_is, first_most}
use Rattle.store.proofs.placing.place_for.Goals as goal

pub returns : goal.returns
returns g c p computes rs r =
    let test : List ℕ → Bool = λ row. p (get_or row g.L.Slotted.SLOT 0) in
    let found = c.find.ensures test (λ row b long post. search (rules, computes, c.SLOT-slot.ensures)) rs r in
    place_is c.find.result (first_passing test rs) (length rs) c.unwrap_or.result found (first_most test rs) (c.unwrap_or.ensures ∙ ap (λ n. unwrap_or c.find.result n) (c.count.ensures.many rs r))

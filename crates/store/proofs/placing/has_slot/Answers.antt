use Rattle.std.proofs.Common.{ℕ, eqb, get_or, drop, ap, ◌∙◌}
use Rattle.store.proofs.Ordered.{first_read, first_none}
use Rattle.store.proofs.placing.has_slot.Goals as goal

pub returns-in-Some : goal.returns-in-Some
returns-in-Some g c rs r =
    ap (λ (k : ℕ). eqb (get_or c.in-Some.other.now k 0) (get_or c.args.row.now k 0)) c.SLOT-slot.ensures
    ∙ first_read (λ x. eqb (get_or x g.L.Slotted.SLOT 0) (get_or c.args.row.now g.L.Slotted.SLOT 0)) c.in-Some.other.now (drop c.args.place rs) (c.in-Some.ensures.entry rs r)

pub returns-in-None : goal.returns-in-None
returns-in-None g c rs r =
    first_none (λ x. eqb (get_or x g.L.Slotted.SLOT 0) (get_or c.args.row.now g.L.Slotted.SLOT 0)) (drop c.args.place rs) (c.in-None.ensures.entry rs r)

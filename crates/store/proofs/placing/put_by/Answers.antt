-- It takes the place of what has its slot, or goes before it.
use Rattle.std.proofs.Common.{ℕ, List, Bor, eqb, get_or, ap, ◌∙◌, sym}
use Rattle.store.proofs.Ordered.{placed_there, placed_new, same_region}
use Rattle.store.proofs.placing.put_by.Goals as goal

pub returns-then-has_slot : goal.returns-then-has_slot
returns-then-has_slot g c p computes rs r =
    let r' = same_region _ c.args.room _ rs c.args.region.now c.new-list.result.region.now c.new-list.ensures.room (ap (λ (v : Bor (List ℕ)). v.now) c.new-list.ensures.same) r in
    placed_there (λ row. p (get_or row g.L.Slotted.SLOT 0)) (λ row. eqb (get_or row g.L.Slotted.SLOT 0) (get_or c.args.row.now g.L.Slotted.SLOT 0)) _ c.args.room c.place_for-place.result c.args.row.now c.args.region.now c.replace.new.region rs r
    (c.place_for-place.ensures p computes rs r') (sym c.if-has_slot.true ∙ c.has_slot.ensures rs r') c.replace.ensures

pub returns-else-has_slot : goal.returns-else-has_slot
returns-else-has_slot g c p computes rs r =
    let r' = same_region _ c.args.room _ rs c.args.region.now c.new-list.result.region.now c.new-list.ensures.room (ap (λ (v : Bor (List ℕ)). v.now) c.new-list.ensures.same) r in
    placed_new (λ row. p (get_or row g.L.Slotted.SLOT 0)) (λ row. eqb (get_or row g.L.Slotted.SLOT 0) (get_or c.args.row.now g.L.Slotted.SLOT 0)) _ c.args.room c.place_for-place.result c.args.row.now c.args.region.now c.insert.new.region rs r
    (c.place_for-place.ensures p computes rs r') (sym c.if-has_slot.false ∙ c.has_slot.ensures rs r') c.insert.ensures

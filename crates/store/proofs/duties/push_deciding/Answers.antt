use Rattle.std.proofs.Common.{List, ◌∷◌, map, refl, arith}
use Rattle.protocol.specs.Data.{Duty, first_of}
use Rattle.wire.specs.Meaning.{duty_of}
use Rattle.stored.specs.Stored.{with_active}
use Rattle.stored.specs.Numbers.{duty_numbers}
use Rattle.layout.specs.declared.region.Region.TheVariants as region
use Rattle.store.specs.Relisted.{active_relisted, relisted_by}
use Rattle.store.proofs.Lists.{inserted_rows, first_few, first_stay}
use Rattle.store.proofs.duties.push_deciding.Goals as goal

pub returns : goal.returns
unfolding duty_numbers duty_of
returns c =
    let y : Duty = duty_of c.args.duty.now in
    record {
      layout = c.insert.ensures.layout;
      lent = c.insert.ensures.lent;
      holds =
          λ t h.
          let ys : List Duty = first_of t.sizes.waiting (y ∷ t.active) in
          c.insert.ensures.holds t (with_active ys t) h (omega arith)
          (relisted_by 3 region.Active _ (map duty_numbers ys) t (with_active ys t) (inserted_rows duty_numbers t.sizes.waiting 0 y _ t.active ys refl (first_stay t.sizes.waiting t.sizes.waiting _ _ refl refl))
          (active_relisted ys t h.well (first_few t.sizes.waiting (y ∷ t.active))));
    }

use Rattle.std.proofs.Common.{List, eqb, leb, map, refl, rules}
use Rattle.protocol.specs.Data.{Data, first_of}
use Rattle.protocol.specs.Client.{by_slot}
use Rattle.wire.specs.Meaning.{data_of}
use Rattle.stored.specs.Stored.{with_ahead}
use Rattle.stored.specs.Numbers.{data_numbers}
use Rattle.layout.specs.declared.region.Region.TheVariants as region
use Rattle.store.specs.Relisted.{ahead_relisted, relisted_by}
use Rattle.store.proofs.Lists.{placed_rows, first_few, first_stay}
use Rattle.store.proofs.Ordered.{by_slot_is}
use Rattle.store.proofs.placing.put_ahead.Goals as goal

pub returns : goal.returns
unfolding data_numbers data_of
returns c =
    let d : Data = data_of c.args.data.now in
    let done = c.put.ensures (λ k. leb d.slot k) (λ k b post. search rules) in
    record {
      layout = done.layout;
      lent = done.lent;
      holds =
          λ t h.
          let ds : List Data = first_of t.sizes.waiting (by_slot d t.ahead) in
          done.holds t (with_ahead ds t) h
          (relisted_by 16 region.Ahead _ (map data_numbers ds) t (with_ahead ds t)
          (placed_rows data_numbers t.sizes.waiting _ _ (λ x. leb d.slot x.slot) (λ x. eqb x.slot d.slot) d _ t.ahead ds refl (λ x. refl) (λ x. refl) (first_stay t.sizes.waiting t.sizes.waiting _ _ refl (by_slot_is d t.ahead)))
          (ahead_relisted ds t h.well (first_few t.sizes.waiting (by_slot d t.ahead))));
    }

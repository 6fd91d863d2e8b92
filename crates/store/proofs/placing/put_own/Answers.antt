use Rattle.std.proofs.Common.{List, eqb, leb, map, refl, rules}
use Rattle.protocol.specs.Data.{first_of}
use Rattle.protocol.specs.Client.{Share, own_with}
use Rattle.wire.specs.Meaning.{data_of, share_of}
use Rattle.stored.specs.Stored.{with_own}
use Rattle.stored.specs.Numbers.{data_numbers, share_numbers}
use Rattle.layout.specs.declared.region.Region.TheVariants as region
use Rattle.store.specs.Relisted.{own_relisted, relisted_by}
use Rattle.store.proofs.Lists.{placed_rows, first_few, first_stay}
use Rattle.store.proofs.Ordered.{own_with_is}
use Rattle.store.proofs.placing.put_own.Goals as goal

pub returns : goal.returns
unfolding share_numbers data_numbers share_of data_of
returns c =
    let x : Share = share_of c.args.share.now in
    let done = c.put.ensures (λ k. leb k x.what.slot) (λ k b post. search rules) in
    record {
      layout = done.layout;
      lent = done.lent;
      holds =
          λ t h.
          let ss : List Share = first_of t.sizes.waiting (own_with x t.own) in
          done.holds t (with_own ss t) h
          (relisted_by 18 region.Own _ (map share_numbers ss) t (with_own ss t)
          (placed_rows share_numbers t.sizes.waiting _ _ (λ y. leb y.what.slot x.what.slot) (λ y. eqb y.what.slot x.what.slot) x _ t.own ss refl (λ y. refl) (λ y. refl) (first_stay t.sizes.waiting t.sizes.waiting _ _ refl (own_with_is x t.own)))
          (own_relisted ss t h.well (first_few t.sizes.waiting (own_with x t.own))));
    }

use Rattle.std.proofs.Common.{◌≡◌, ℕ, List, map, refl, sym, ap, ◌∙◌}
use Rattle.protocol.specs.Data.{Past, keep}
use Rattle.wire.specs.Meaning.{entry_of}
use Rattle.past.specs.Past.{row_of}
use Rattle.stored.specs.Stored.{with_past}
use Rattle.layout.specs.Layout.{sizes}
use Rattle.layout.specs.declared.region.Region.TheVariants as region
use Rattle.lists.specs.Lists.{counted}
use Rattle.store.specs.Laws.{past_held}
use Rattle.store.specs.Relisted.{past_relisted}
use Rattle.store.proofs.PastList.{keep_few}
use Rattle.store.proofs.Relisting.{relist}
use Rattle.store.proofs.history.remember.Goals as goal

pub returns : goal.returns
returns c =
    let p : Past = entry_of c.args.entry in
    let n : ℕ = c.part-most.result.1 in
    record {
      layout = refl;
      lent = refl;
      holds =
          λ t h.
          let ps : List Past = keep t.sizes.kept p t.past in
          let same : t.sizes.kept ≡ n = ap (λ z. z.kept) h.sized ∙ sym c.part-most.ensures.room in
          relist 2 n region.Past (sizes c.args.memory.now.layout) c.part-most.result.0 c.args.memory.now.numbers.now _ c.keep_one.new.region t (with_past ps t) (map row_of t.past) (map row_of ps) c.part-most.ensures.room c.part-most.ensures.spans refl h (past_held t h.well)
          (λ r. c.keep_one.ensures t.past r ∙ ap (λ k. counted 2 n (map row_of (keep k p t.past))) (sym same))
          (past_relisted ps t h.well (keep_few t.sizes.kept p t.past));
    }

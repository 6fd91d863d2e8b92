use Rattle.std.proofs.Common.{map, drop, arith, length-drop}
use Rattle.std.proofs.lemmas.List.{length-map}
use Rattle.stored.specs.Stored.{with_queue}
use Rattle.stored.specs.Numbers.{duty_numbers}
use Rattle.layout.specs.declared.region.Region.TheVariants as region
use Rattle.store.specs.Relisted.{queue_relisted, relisted_by}
use Rattle.store.proofs.Lists.{removed_rows}
use Rattle.store.proofs.duties.pop_waiting.Goals as goal

pub returns : goal.returns
returns c =
    record {
      layout = c.remove.ensures.layout;
      lent = c.remove.ensures.lent;
      holds =
          λ t h some.
          c.remove.ensures.holds t (with_queue (drop 1 t.queue) t) h (omega (arith, some, length-map t.queue duty_numbers))
          (relisted_by 3 region.Queue _ (map duty_numbers (drop 1 t.queue)) t (with_queue (drop 1 t.queue) t) (removed_rows duty_numbers 0 t.queue)
          (queue_relisted (drop 1 t.queue) t h.well (omega (arith, h.well.queue, length-drop 1 t.queue))));
    }

use Rattle.std.proofs.Common.{◌≡◌, ℕ, List, [], ◌∷◌, ◌++◌, map, length, refl, ap, ◌∙◌, arith}
use Rattle.std.proofs.lemmas.List.{length-map, length-append}
use Rattle.protocol.specs.Data.{Duty}
use Rattle.wire.specs.Meaning.{duty_of}
use Rattle.stored.specs.Stored.{with_queue}
use Rattle.stored.specs.Numbers.{duty_numbers}
use Rattle.layout.specs.declared.region.Region.TheVariants as region
use Rattle.store.specs.Relisted.{queue_relisted, relisted_by}
use Rattle.store.proofs.Lists.{inserted_rows, pushed}
use Rattle.store.proofs.duties.push_waiting.Goals as goal

pub returns : goal.returns
unfolding duty_numbers duty_of
returns c =
    let y : Duty = duty_of c.args.duty.now in
    record {
      layout = c.insert.ensures.layout;
      lent = c.insert.ensures.lent;
      holds =
          λ t h room.
          let ys : List Duty = t.queue ++ y ∷ [] in
          let n : ℕ = t.sizes.waiting in
          let rows = c.rows-behind.ensures t (c.view.ensures.shows t h) in
          let m : ℕ = length c.rows-behind.result.now in
          let behind : m ≡ length t.queue = ap length rows ∙ length-map t.queue duty_numbers in
          c.insert.ensures.holds t (with_queue ys t) h (omega (arith, behind, length-map t.queue duty_numbers))
          (relisted_by 3 region.Queue _ (map duty_numbers ys) t (with_queue ys t) (inserted_rows duty_numbers n m y _ t.queue ys refl (pushed n m y t.queue behind room))
          (queue_relisted ys t h.well (omega (arith, length-append t.queue (y ∷ [])))));
    }

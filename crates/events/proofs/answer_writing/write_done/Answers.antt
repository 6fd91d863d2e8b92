use Rattle.std.proofs.Common.{sym, refl, ◌∙◌, arith}
use Rattle.events.proofs.Done.{done_long, rows_put}
use Rattle.events.proofs.HandedOn.{some_from_ok}
use Rattle.events.proofs.answer_writing.write_done.Goals as goal

pub returns-then-out-size : goal.returns-then-out-size
returns-then-out-size c =
    let d = c.args.deeds.now in
    let sent = rw (some_from_ok c.of.result _ (sym c.ok_or.ensures.value ∙ c.in_ok-sent.was)) at c.of.ensures in
    let handed_in = rw (some_from_ok c.of-2.result _ (sym c.ok_or-2.ensures.value ∙ c.in_ok-handed_in.was)) at c.of-2.ensures in
    let begun = rw (some_from_ok c.of-3.result _ (sym c.ok_or-3.ensures.value ∙ c.in_ok-begun.was)) at c.of-3.ensures in
    let ended = rw (some_from_ok c.of-4.result _ (sym c.ok_or-4.ensures.value ∙ c.in_ok-ended.was)) at c.of-4.ensures in
    let long = done_long d.sent.now d.handed_in.now d.begun.now d.ended.now in
    let one = rw sent.1 at c.size.ensures.counted in
    let two = rw handed_in.1 at c.size-2.ensures.counted in
    let three = rw begun.1 at c.size-3.ensures.counted in
    let four = rw ended.1 at c.size-4.ensures.counted in
    (rw (sent.0, handed_in.0, begun.0, ended.0), record { short = omega (arith, long, one, two, three, four, c.if-out-size.true); kept = refl })

pub returns : goal.returns
returns c =
    let d = c.args.deeds.now in
    let sent = rw (some_from_ok c.of.result _ (sym c.ok_or.ensures.value ∙ c.in_ok-sent.was)) at c.of.ensures in
    let handed_in = rw (some_from_ok c.of-2.result _ (sym c.ok_or-2.ensures.value ∙ c.in_ok-handed_in.was)) at c.of-2.ensures in
    let begun = rw (some_from_ok c.of-3.result _ (sym c.ok_or-3.ensures.value ∙ c.in_ok-begun.was)) at c.of-3.ensures in
    let ended = rw (some_from_ok c.of-4.result _ (sym c.ok_or-4.ensures.value ∙ c.in_ok-ended.was)) at c.of-4.ensures in
    let one = rw sent.1 at c.size.ensures.counted in
    let two = rw handed_in.1 at c.size-2.ensures.counted in
    let three = rw begun.1 at c.size-3.ensures.counted in
    let four = rw ended.1 at c.size-4.ensures.counted in (
      rw (sent.0, handed_in.0, begun.0, ended.0),
      rows_put d.sent.now d.handed_in.now d.begun.now d.ended.now c.args.out.now (omega (arith, one, two, three, four, c.if-out-size.false))
          (rw sent.1 at c.put-at.ensures.ends)
          (rw (sent.1, c.from.ensures) at c.put-at.ensures.holds)
          (rw handed_in.1 at c.put-at-2.ensures.ends)
          (rw handed_in.1 at c.put-at-2.ensures.holds)
          (rw begun.1 at c.put-at-3.ensures.ends)
          (rw begun.1 at c.put-at-3.ensures.holds)
          (rw ended.1 at c.put.ensures.ends)
          (rw ended.1 at c.put.ensures.holds),
    )

use Rattle.std.proofs.Common.{rules, refl, []}
use Rattle.std.proofs.Output.{has_written_of_eq, has_written_append}
use Rattle.text.proofs.Parts.{one_part_more}
use Rattle.text.proofs.requests.write_parts.Goals as goal

pub loop-part-preserved : goal.loop-part-preserved
loop-part-preserved g c p =
    has_written_of_eq _ _ _ _ _ (one_part_more c.args.parts.now [] c.loop-part.part-index c.loop-part-test.true)
    (has_written_append _ _ _ _ _ _ (c.loop-part.invariant p) (c.in_ok-write_part.ensures (search rules) refl))

use Rattle.std.proofs.Common.{rules, refl}
use Rattle.std.proofs.Output.{has_written_of_eq, has_written_append}
use Rattle.text.proofs.Listed.{block_whole}
use Rattle.text.proofs.requests.write_block.Goals as goal

pub returns : goal.returns
returns g c p q =
    has_written_of_eq _ _ _ _ _ (block_whole c.args.listed.now _ _ c.in-len1-up.len_at_least c.loop-what-test.false)
    (has_written_append _ _ _ _ _ _ (c.in_ok-write.ensures.writes p refl) (c.loop-what.invariant (search rules)))

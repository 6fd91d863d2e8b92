use Rattle.std.proofs.Common.{rules, refl}
use Rattle.std.proofs.Output.{has_written_of_eq, has_written_append}
use Rattle.text.proofs.Parts.{line_whole}
use Rattle.text.proofs.requests.write_bytes.Goals as goal

pub returns : goal.returns
returns g c p q =
    has_written_of_eq _ _ _ _ _ (line_whole c.args.bytes.now _ _ c.if-is_empty.ensures c.as_chunks.ensures.front c.as_chunks.ensures.back)
    (has_written_append _ _ _ _ _ _
    (has_written_append _ _ _ _ _ _ (c.in_ok-write.ensures.writes p refl) (c.in_ok-write_parts.ensures (search rules) refl))
    (c.write_part.ensures (search rules) q))

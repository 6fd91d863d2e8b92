use Rattle.std.proofs.Common.{◌≡◌, ◌++◌, map, drop, vec_items}
use Rattle.protocol.specs.Client.{block}
use Rattle.wire.specs.Bytes.{data_bytes}
use Rattle.wire.specs.Meaning.{data_of}
use Rattle.events.specs.Layout.{all_bytes, event_bytes}
use Rattle.lines.proofs.request_bytes.block_bytes.Given as goal

abbrev pub invariant-loop-what : goal.invariant-loop-what
invariant-loop-what l =
    vec_items l.bytes ++ all_bytes data_bytes (map data_of (drop l.what-index l.listed)) ≡ event_bytes (block (map data_of l.listed))

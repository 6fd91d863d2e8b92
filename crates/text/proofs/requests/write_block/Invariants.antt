use Rattle.std.proofs.Common.{◌++◌, codes, take}
use Rattle.std.specs.List.{flat_map}
use Rattle.std.specs.Fmt.{HasWritten, IsPlainFormatter}
use Rattle.wire.specs.Meaning.{data_of}
use Rattle.wire.specs.Text.{data_text}
use Rattle.text.proofs.requests.write_block.Given as goal

abbrev pub invariant-loop-what : goal.invariant-loop-what
invariant-loop-what g l =
    IsPlainFormatter l.initial.f
    → HasWritten g.W.Write.write_str_gives l.initial.f (flat_map (λ d. codes ", " ++ data_text (data_of d)) (take l.what-index l.others)) l.f

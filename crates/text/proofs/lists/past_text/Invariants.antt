use Rattle.std.proofs.Common.{◌≡◌, ◌++◌, codes, string_bytes}
use Rattle.std.specs.List.{flat_map}
use Rattle.wire.specs.Meaning.{entry_of}
use Rattle.wire.specs.Text.{entry_text}
use Rattle.text.proofs.lists.past_text.Given as goal

abbrev pub invariant-loop-entry : goal.invariant-loop-entry
invariant-loop-entry l = string_bytes l.text ≡ string_bytes l.initial.text ++ flat_map (λ e. codes ", " ++ entry_text (entry_of e.now)) l.yielded

use Rattle.std.proofs.Common.{◌≡◌, ◌*◌, take, length}
use Rattle.std.specs.List.{flat_map}
use Rattle.text.proofs.Listed.{two}
use Rattle.text.proofs.requests.put_digits.Given as goal

abbrev pub invariant-loop-place : goal.invariant-loop-place
invariant-loop-place l = (length l.room ≡ length l.initial.room) × (take (2 * l.place) l.room ≡ flat_map two (take l.place l.bytes))

-- What the structs of the code stand for. Assumes nothing: these are definitions.
use Rattle.std.specs.Prelude.{ℕ, ◌+◌, ◌*◌}
use Rattle.protocol.specs.Data as defined
use Rattle.protocol.specs.Client as client
use Rattle.wire.specs.declared.values.Root.{Root}
use Rattle.wire.specs.declared.values.Data.{Data}
use Rattle.wire.specs.declared.values.Duty.{Duty}
use Rattle.wire.specs.declared.values.Share.{Share}
use Rattle.wire.specs.declared.values.Entry.{Entry}

-- a root, of four numbers, the lowest first
unfoldable pub root_of : Root → ℕ
root_of r = r.first + 18446744073709551616 * (r.second + 18446744073709551616 * (r.third + 18446744073709551616 * r.fourth))

unfoldable pub data_of : Data → defined.Data
data_of d =
    record {
      slot = d.slot;
      committee = d.committee;
      block = root_of d.block;
      source = d.source;
      source_root = root_of d.source_root;
      target = d.target;
      target_root = root_of d.target_root;
    }

unfoldable pub duty_of : Duty → defined.Duty
duty_of y = record { slot = y.slot; committee = y.committee; seat = y.seat }

unfoldable pub share_of : Share → client.Share
share_of s = record { who = s.who; what = data_of s.what; seat = s.seat }

unfoldable pub entry_of : Entry → defined.Past
entry_of e = record { from = e.source; to = e.target }

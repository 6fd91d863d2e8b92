-- A value is read in its own numbers. Assumes nothing, and there is nothing to believe: these are lemmas with their proofs, which the code names.
use Rattle.std.proofs.Common.{◌≡◌, ◌<◌, get_or, sym, refl}
use Rattle.wire.specs.Meaning.{root_of, entry_of, duty_of, data_of, share_of}
use Rattle.wire.specs.declared.values.Root.{Root}
use Rattle.wire.specs.declared.values.Entry.{Entry}
use Rattle.wire.specs.declared.values.Duty.{Duty}
use Rattle.wire.specs.declared.values.Data.{Data}
use Rattle.wire.specs.declared.values.Share.{Share}
use Rattle.past.specs.Past.{entry_of as entry_in, row_of}
use Rattle.stored.specs.Numbers.{root_numbers, root_at as root_in, duty_numbers, duty_in, data_numbers, data_in, share_numbers, share_in}
use Rattle.stored.proofs.Entries.{root_back, duty_back, data_back, share_back}

pub root_read : (r : Root) → root_of r ≡ root_in (root_numbers (root_of r)) 0
root_read r = sym (root_back (root_of r))

pub entry_read : (e : Entry) → entry_of e ≡ entry_in (row_of (entry_of e))
entry_read e = refl

pub duty_read : (d : Duty) → duty_of d ≡ duty_in (duty_numbers (duty_of d))
duty_read d = sym (duty_back (duty_of d))

pub data_read : (d : Data) → data_of d ≡ data_in (data_numbers (data_of d))
data_read d = sym (data_back (data_of d))

pub share_read : (s : Share) → get_or (share_numbers (share_of s)) 0 0 < 256 → share_of s ≡ share_in (share_numbers (share_of s))
share_read s small = sym (share_back (share_of s))

-- Entries that are read one after the other stand at their places.
use Rattle.std.proofs.Common.{◌≡◌, ℕ, zero, suc, ◌+◌, ◌*◌, List, drop, ap, ◌∙◌, mul-zero, arith, drop-drop}
use Rattle.wire.specs.Bytes.{share_from, data_from, duty_from}
use Rattle.events.specs.Layout.{entries, number_from}
use Rattle.events.specs.Rows.{StandAtPlaces, EntriesStandAtPlaces}

stand_at_places : {A : Type 0} (size : ℕ) (from : List ℕ → A) → StandAtPlaces size from
unfolding entries
stand_at_places size from zero bs i d l = absurd (omega arith)
stand_at_places size from (suc n) bs zero d l = rw mul-zero
stand_at_places size from (suc n) bs (suc i) d l =
    let next : size * suc i ≡ size + size * i = omega arith in
    rw next (stand_at_places size from n (drop size bs) i d (omega arith) ∙ ap from (drop-drop (size * i) size bs))

pub entries_stand_at_places : EntriesStandAtPlaces
entries_stand_at_places = (stand_at_places 137 share_from, stand_at_places 128 data_from, stand_at_places 24 duty_from, stand_at_places 8 number_from)

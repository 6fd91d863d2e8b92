-- What an entry of a row is. Assumes nothing: these are definitions and a statement.
use Rattle.std.specs.Prelude.{◌≡◌, ℕ, ◌+◌, ◌*◌, ◌<◌, ◌≤◌, ◌⊎◌, List, ◌∷◌, ◌++◌, length, drop, Option, MatchOption, slice_index_or, nat_le, Bool}
use Rattle.wire.specs.Bytes.{share_from, data_from, duty_from}
use Rattle.events.specs.Layout.{entries, number_from}

-- the entry at a place is there if the row has so many entries and its bytes reach that far, and it is what the bytes from there on stand for
abbrev pub EntryAt : {A : Type 0} → ℕ → (List ℕ → A → Type 0) → ℕ → List ℕ → ℕ → Option A → Type 0
EntryAt size reads count bs i r =
    MatchOption r ((count ≤ i) ⊎ (length bs < size * i + size)) (λ x. (i < count) × (size * i + size ≤ length bs) × reads (drop (size * i) bs) x)

-- so few entries that a byte counts them
abbrev pub few : {A : Type 0} → List A → Bool
few xs = nat_le (length xs) 255

-- bytes that begin with a row: its count, its entries of a size, and what stands behind them
pub record InFront (size : ℕ) (bs : List ℕ) (count : ℕ) (row rest : List ℕ) : Type 0 where
  pub whole : bs ≡ count ∷ (row ++ rest)
  pub long : length row ≡ size * count

-- entries that are read one after the other stand at their places
abbrev pub StandAtPlaces : {A : Type 0} → ℕ → (List ℕ → A) → Type 0
StandAtPlaces {A} size from = (n : ℕ) (bs : List ℕ) (i : ℕ) (d : A) → i < n → slice_index_or (entries size from n bs) i d ≡ from (drop (size * i) bs)

abbrev pub EntriesStandAtPlaces : Type 0
EntriesStandAtPlaces = StandAtPlaces 137 share_from × StandAtPlaces 128 data_from × StandAtPlaces 24 duty_from × StandAtPlaces 8 number_from

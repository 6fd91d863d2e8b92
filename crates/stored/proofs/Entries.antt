-- Roots, duties, data, shares and cells: how many numbers each has, and that each is read back from its numbers.
use Rattle.std.proofs.Common.{◌≡◌, ℕ, ◌+◌, ◌*◌, ◌/◌, ◌%◌, length, refl, ap, ap₂, arith}
use Rattle.protocol.specs.Data.{pick, Data, Past, Duty}
use Rattle.protocol.specs.Client.{Share}
use Rattle.past.specs.Past.{entry_of, row_of}
use Rattle.stored.specs.Stored.{Cell, empty, holds}
use Rattle.stored.specs.Numbers.{root_numbers, root_at, duty_numbers, duty_in, data_numbers, data_in, share_numbers, share_in, cell_numbers, cell_in}

-- how many numbers they have
pub duty_length : (y : Duty) → length (duty_numbers y) ≡ 3
unfolding duty_numbers
duty_length y = refl

pub data_length : (d : Data) → length (data_numbers d) ≡ 16
unfolding data_numbers root_numbers
data_length d = refl

pub share_length : (s : Share) → length (share_numbers s) ≡ 18
unfolding share_numbers data_numbers root_numbers
share_length s = refl

pub cell_length : (c : Cell) → length (cell_numbers c) ≡ 18
unfolding cell_numbers data_numbers root_numbers
cell_length empty = refl
cell_length (holds seat d) = refl

-- a number is its lowest 64 bits and what is above them
two_pieces : (r : ℕ) → r % 18446744073709551616 + 18446744073709551616 * (r / 18446744073709551616) ≡ r
two_pieces r = omega arith

pub root_back : (r : ℕ) → root_at (root_numbers r) 0 ≡ r
unfolding root_numbers
root_back r = rw (two_pieces (r / 18446744073709551616 / 18446744073709551616), two_pieces (r / 18446744073709551616), two_pieces r)

-- each is read back
pub entry_back : (p : Past) → entry_of (row_of p) ≡ p
entry_back p = refl

pub duty_back : (y : Duty) → duty_in (duty_numbers y) ≡ y
unfolding duty_numbers duty_in
duty_back y = refl

-- data with these roots
abbrev rooted : Data → ℕ → ℕ → ℕ → Data
rooted d block source_root target_root =
    record { slot = d.slot; committee = d.committee; block = block; source = d.source; source_root = source_root; target = d.target; target_root = target_root }

pub data_back : (d : Data) → data_in (data_numbers d) ≡ d
unfolding data_numbers data_in root_numbers
data_back d =
    ap₂ (λ f r. f r) (ap₂ (rooted d) (root_back d.block) (root_back d.source_root)) (root_back d.target_root)

pub share_back : (s : Share) → share_in (share_numbers s) ≡ s
unfolding share_numbers share_in
share_back s = ap (λ d. record { who = s.who; what = d; seat = s.seat }) (data_back s.what)

pub cell_back : (c : Cell) → cell_in (cell_numbers c) ≡ c
unfolding cell_numbers cell_in pick
cell_back empty = refl
cell_back (holds seat d) = ap (holds seat) (data_back d)

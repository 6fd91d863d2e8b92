-- The numbers of a client's memory: a header, and one region after another, each list with its count before it and zeros behind.
-- Assumes nothing: these are definitions.
use Rattle.std.specs.Prelude.{ℕ, ◌+◌, ◌*◌, ◌/◌, ◌%◌, List, [], ◌∷◌, ◌++◌, map, length, take, drop, replicate, ◌==◌, slice_index, slice_index_or}
use Rattle.protocol.specs.Data.{pick, Data, Duty}
use Rattle.protocol.specs.Client.{Share}
use Rattle.rows.specs.Rows.{rows, flat, laid}
use Rattle.past.specs.Past.{entry_of, row_of}
use Rattle.stored.specs.Stored.{Cell, empty, holds, Bank, Sizes, Stored}

-- a root as four numbers, the lowest first; the last one has all that is left
unfoldable pub root_numbers : ℕ → List ℕ
root_numbers r =
    r % 18446744073709551616
    ∷ (r / 18446744073709551616 % 18446744073709551616
    ∷ (r / 18446744073709551616 / 18446744073709551616 % 18446744073709551616
    ∷ (r / 18446744073709551616 / 18446744073709551616 / 18446744073709551616 ∷ [])))

-- the root in four numbers from a place on
abbrev pub root_at : List ℕ → ℕ → ℕ
root_at xs i =
    slice_index xs i
    + 18446744073709551616 * (slice_index xs (i + 1) + 18446744073709551616 * (slice_index xs (i + 2) + 18446744073709551616 * slice_index xs (i + 3)))

-- a duty, three numbers
unfoldable pub duty_numbers : Duty → List ℕ
duty_numbers y = y.slot ∷ (y.committee ∷ (y.seat ∷ []))

unfoldable pub duty_in : List ℕ → Duty
duty_in xs = record { slot = slice_index xs 0; committee = slice_index xs 1; seat = slice_index xs 2 }

-- data, sixteen
unfoldable pub data_numbers : Data → List ℕ
data_numbers d =
    d.slot
    ∷ (d.committee
    ∷ (root_numbers d.block
    ++ (d.source ∷ (root_numbers d.source_root ++ (d.target ∷ root_numbers d.target_root)))))

unfoldable pub data_in : List ℕ → Data
data_in xs =
    record {
      slot = slice_index xs 0;
      committee = slice_index xs 1;
      block = root_at xs 2;
      source = slice_index xs 6;
      source_root = root_at xs 7;
      target = slice_index xs 11;
      target_root = root_at xs 12;
    }

-- a share, eighteen: who, seat, data
unfoldable pub share_numbers : Share → List ℕ
share_numbers s = s.who ∷ (s.seat ∷ data_numbers s.what)

unfoldable pub share_in : List ℕ → Share
share_in xs = record { who = slice_index xs 0; what = data_in (drop 2 xs); seat = slice_index xs 1 }

-- a cell, eighteen: 1, seat, data; or zeros
unfoldable pub cell_numbers : Cell → List ℕ
cell_numbers empty = replicate 18 0
cell_numbers (holds seat d) = 1 ∷ (seat ∷ data_numbers d)

unfoldable pub cell_in : List ℕ → Cell
cell_in xs = pick (slice_index xs 0 == 0) empty (holds (slice_index xs 1) (data_in (drop 2 xs)))

-- a list in a region with room for n entries of w numbers each: how many there are, their numbers, and zeros behind
unfoldable pub listed : {A : Type 0} → ℕ → ℕ → (A → List ℕ) → List A → List ℕ
listed w n numbers xs = length xs ∷ laid w n (map numbers xs)

unfoldable pub listed_in : {A : Type 0} → ℕ → (List ℕ → A) → List ℕ → List A
listed_in w from xs = map from (rows w (slice_index xs 0) (drop 1 xs))

-- banks: all marks, and then all cells
unfoldable pub marks : List Bank → List ℕ
marks bs = map (λ b. b.mark) bs

unfoldable pub bank_numbers : Bank → List ℕ
bank_numbers b = flat (map cell_numbers b.cells)

unfoldable pub bank_cells : List Bank → List ℕ
bank_cells bs = flat (map bank_numbers bs)

unfoldable pub banks_in : ℕ → List ℕ → List ℕ → List Bank
banks_in n [] xs = []
banks_in n (m ∷ ms) xs = record { mark = m; cells = map cell_in (rows 18 n xs) } ∷ banks_in n ms (drop (18 * n) xs)

-- the header: the number of this format, what the client was opened with, and what it keeps besides its lists
unfoldable pub header : Stored → List ℕ
header t =
    1
    ∷ (t.sizes.clients
    ∷ (t.sizes.me ∷ (t.sizes.kept ∷ (t.sizes.waiting ∷ (t.at_hand ∷ (t.latest ∷ (t.after ∷ [])))))))

-- how many numbers each region has: header, past, queue, what is being decided, what is ahead, own shares, marks and cells of banks
unfoldable pub region_sizes : Sizes → List ℕ
region_sizes z =
    8
    ∷ ((1 + 2 * z.kept)
    ∷ ((1 + 3 * z.waiting)
    ∷ ((1 + 3 * z.waiting)
    ∷ ((1 + 16 * z.waiting) ∷ ((1 + 18 * z.waiting) ∷ ((2 * z.waiting) ∷ ((36 * (z.clients * z.waiting)) ∷ [])))))))

-- how many numbers there are in all
abbrev pub needed : Sizes → ℕ
needed z = 13 + 2 * z.kept + 42 * z.waiting + 36 * (z.clients * z.waiting)

-- the regions of a stored client, and its memory
unfoldable pub regions : Stored → List (List ℕ)
regions t =
    header t
    ∷ (listed 2 t.sizes.kept row_of t.past
    ∷ (listed 3 t.sizes.waiting duty_numbers t.queue
    ∷ (listed 3 t.sizes.waiting duty_numbers t.active
    ∷ (listed 16 t.sizes.waiting data_numbers t.ahead
    ∷ (listed 18 t.sizes.waiting share_numbers t.own ∷ (marks t.banks ∷ (bank_cells t.banks ∷ [])))))))

unfoldable pub encode : Stored → List ℕ
encode t = flat (regions t)

-- numbers cut into parts of these sizes
unfoldable pub cut : List ℕ → List ℕ → List (List ℕ)
cut [] xs = []
cut (k ∷ ks) xs = take k xs ∷ cut ks (drop k xs)

-- what a memory says that its client was opened with
abbrev pub sizes_in : List ℕ → Sizes
sizes_in xs = record { clients = slice_index xs 1; me = slice_index xs 2; kept = slice_index xs 3; waiting = slice_index xs 4 }

-- the i-th region of a memory
unfoldable pub region : ℕ → List ℕ → List ℕ
region i xs = slice_index_or (cut (region_sizes (sizes_in xs)) xs) i []

-- the client that a memory holds
unfoldable pub decode : List ℕ → Stored
decode xs =
    record {
      sizes = sizes_in xs;
      at_hand = slice_index xs 5;
      latest = slice_index xs 6;
      after = slice_index xs 7;
      past = listed_in 2 entry_of (region 1 xs);
      queue = listed_in 3 duty_in (region 2 xs);
      active = listed_in 3 duty_in (region 3 xs);
      ahead = listed_in 16 data_in (region 4 xs);
      own = listed_in 18 share_in (region 5 xs);
      banks = banks_in (sizes_in xs).clients (region 6 xs) (region 7 xs);
    }

-- All that a client keeps, as its memory holds it: what the definitions' state has, but for the shares that came, which lie in banks.
-- Assumes nothing: these are definitions.
use Rattle.std.specs.Prelude.{ℕ, suc, ◌*◌, Bool, true, false, ◌&&◌, List, [], ◌∷◌, replicate, ◌==◌, slice_index_or, slice_set}
use Rattle.protocol.specs.Data.{pick, Data, same, Past, Duty}
use Rattle.protocol.specs.Client.{Share, Limits}

-- a client's cell in a bank: no share of it came for the slot, or one that says this, a seat and data
pub data Cell : Type 0 where
  empty : Cell
  holds : ℕ → Data → Cell

-- room for the shares of one slot: its mark, 0 where the bank is free and else one more than the slot, and a cell for each client
pub record Bank : Type 0 where
  pub mark : ℕ
  pub cells : List Cell

-- what a client was opened with
pub record Sizes : Type 0 where
  pub clients : ℕ
  pub me : ℕ
  pub kept : ℕ
  pub waiting : ℕ

pub record Stored : Type 0 where
  pub sizes : Sizes
  pub at_hand : ℕ  -- 1 where the last duty begun is at hand, 0 where none is
  pub latest : ℕ  -- one more than the slot of the last duty begun, 0 for none
  pub after : ℕ  -- one more than the slot of the last duty given, 0 for none
  pub past : List Past
  pub queue : List Duty
  pub active : List Duty
  pub ahead : List Data
  pub own : List Share
  pub banks : List Bank

abbrev pub sizes_of : Limits → Sizes
sizes_of l = record { clients = l.clients; me = l.me; kept = l.kept; waiting = l.waiting }

-- a bank that is free, of a group of n clients
abbrev pub free_bank : ℕ → Bank
free_bank n = record { mark = 0; cells = replicate n empty }

-- a client that was just opened
abbrev pub fresh : Sizes → Stored
fresh z =
    record {
      sizes = z;
      at_hand = 0;
      latest = 0;
      after = 0;
      past = [];
      queue = [];
      active = [];
      ahead = [];
      own = [];
      banks = replicate (2 * z.waiting) (free_bank z.clients);
    }

-- one field changed
abbrev pub with_at_hand : ℕ → Stored → Stored
with_at_hand h t =
    record { sizes = t.sizes; at_hand = h; latest = t.latest; after = t.after; past = t.past; queue = t.queue; active = t.active; ahead = t.ahead; own = t.own; banks = t.banks }

abbrev pub with_latest : ℕ → Stored → Stored
with_latest k t =
    record { sizes = t.sizes; at_hand = t.at_hand; latest = k; after = t.after; past = t.past; queue = t.queue; active = t.active; ahead = t.ahead; own = t.own; banks = t.banks }

abbrev pub with_after : ℕ → Stored → Stored
with_after k t =
    record { sizes = t.sizes; at_hand = t.at_hand; latest = t.latest; after = k; past = t.past; queue = t.queue; active = t.active; ahead = t.ahead; own = t.own; banks = t.banks }

abbrev pub with_past : List Past → Stored → Stored
with_past ps t =
    record { sizes = t.sizes; at_hand = t.at_hand; latest = t.latest; after = t.after; past = ps; queue = t.queue; active = t.active; ahead = t.ahead; own = t.own; banks = t.banks }

abbrev pub with_queue : List Duty → Stored → Stored
with_queue ys t =
    record { sizes = t.sizes; at_hand = t.at_hand; latest = t.latest; after = t.after; past = t.past; queue = ys; active = t.active; ahead = t.ahead; own = t.own; banks = t.banks }

abbrev pub with_active : List Duty → Stored → Stored
with_active ys t =
    record { sizes = t.sizes; at_hand = t.at_hand; latest = t.latest; after = t.after; past = t.past; queue = t.queue; active = ys; ahead = t.ahead; own = t.own; banks = t.banks }

abbrev pub with_ahead : List Data → Stored → Stored
with_ahead ds t =
    record { sizes = t.sizes; at_hand = t.at_hand; latest = t.latest; after = t.after; past = t.past; queue = t.queue; active = t.active; ahead = ds; own = t.own; banks = t.banks }

abbrev pub with_own : List Share → Stored → Stored
with_own ss t =
    record { sizes = t.sizes; at_hand = t.at_hand; latest = t.latest; after = t.after; past = t.past; queue = t.queue; active = t.active; ahead = t.ahead; own = ss; banks = t.banks }

abbrev pub with_banks : List Bank → Stored → Stored
with_banks bs t =
    record { sizes = t.sizes; at_hand = t.at_hand; latest = t.latest; after = t.after; past = t.past; queue = t.queue; active = t.active; ahead = t.ahead; own = t.own; banks = bs }

-- the place of the first bank with a mark; how many banks there are, where none has it
unfoldable pub place_of : ℕ → List Bank → ℕ
place_of m [] = 0
place_of m (b ∷ bs) = pick (b.mark == m) 0 (suc (place_of m bs))

abbrev pub bank_at : List Bank → ℕ → Bank
bank_at bs i = slice_index_or bs i (free_bank 0)

-- the bank at a place with another mark, or with other cells
abbrev pub marked : List Bank → ℕ → ℕ → List Bank
marked bs i m = slice_set bs i (record { mark = m; cells = (bank_at bs i).cells })

abbrev pub with_cells : List Bank → ℕ → List Cell → List Bank
with_cells bs i cs = slice_set bs i (record { mark = (bank_at bs i).mark; cells = cs })

-- the first free bank taken for a slot
abbrev pub taken : ℕ → List Bank → List Bank
taken k bs = marked bs (place_of 0 bs) (suc k)

-- the bank of a slot freed, in a group of n clients
abbrev pub freed : ℕ → ℕ → List Bank → List Bank
freed n k bs = slice_set bs (place_of (suc k) bs) (free_bank n)

-- whether no share came to a cell
unfoldable pub is_empty : Cell → Bool
is_empty empty = true
is_empty (holds seat d) = false

-- how many cells say the same data for the same seat
unfoldable pub says : ℕ → Data → Cell → Bool
says seat d empty = false
says seat d (holds seat' d') = same d' d && seat' == seat

unfoldable pub alike : ℕ → Data → List Cell → ℕ
alike seat d [] = 0
alike seat d (c ∷ cs) = pick (says seat d c) (suc (alike seat d cs)) (alike seat d cs)

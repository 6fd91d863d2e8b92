-- Where the regions of a client's memory lie, what a memory's header must say, and what memory is like after opening.
-- Assumes nothing: these are definitions and statements.
use Rattle.std.specs.declared.ops.Range.{Range}
use Rattle.std.specs.Prelude.{◌≡◌, ℕ, ◌+◌, ◌*◌, ◌≤◌, Bool, true, ◌&&◌, List, ◌++◌, length, drop, ◌==◌, nat_le, nat_lt, slice_index}
use Rattle.protocol.specs.Meaning.{FirstWrong}
use Rattle.protocol.specs.declared.sizes.Limits.{Limits}
use Rattle.stored.specs.Stored.{Sizes, Stored, fresh}
use Rattle.stored.specs.Numbers.{needed, sizes_in, encode}
use Rattle.stored.specs.Kept.{GoodSizes, Well}
use Rattle.layout.specs.declared.layout.Layout.{Layout}
use Rattle.layout.specs.declared.region.Region.{Region}
use Rattle.layout.specs.declared.region.Region.TheVariants.{Past, Queue, Active, Ahead, Own, Marks, Cells}
use Rattle.layout.specs.declared.opening.OpenError.{OpenError}
use Rattle.layout.specs.declared.opening.OpenError.TheVariants.{BadLimits, ShortMemory}

-- what the layout of the code stands for, and the limits that a client is opened with
abbrev pub made_of : ℕ → ℕ → ℕ → ℕ → Sizes
made_of clients me kept waiting = record { clients = clients; me = me; kept = kept; waiting = waiting }

abbrev pub sizes : Layout → Sizes
sizes l = made_of l.clients l.me l.kept l.waiting

abbrev pub limit_sizes : Limits → Sizes
limit_sizes l = made_of l.clients l.me l.kept l.waiting

-- where a region begins, and how many numbers it has
abbrev pub start_of : Sizes → Region → ℕ
start_of z Past = 8
start_of z Queue = 9 + 2 * z.kept
start_of z Active = 10 + 2 * z.kept + 3 * z.waiting
start_of z Ahead = 11 + 2 * z.kept + 6 * z.waiting
start_of z Own = 12 + 2 * z.kept + 22 * z.waiting
start_of z Marks = 13 + 2 * z.kept + 40 * z.waiting
start_of z Cells = 13 + 2 * z.kept + 42 * z.waiting

abbrev pub size_of : Sizes → Region → ℕ
size_of z Past = 1 + 2 * z.kept
size_of z Queue = 1 + 3 * z.waiting
size_of z Active = 1 + 3 * z.waiting
size_of z Ahead = 1 + 16 * z.waiting
size_of z Own = 1 + 18 * z.waiting
size_of z Marks = 2 * z.waiting
size_of z Cells = 36 * (z.clients * z.waiting)

-- a range that is a region's
pub record Spans (z : Sizes) (r : Region) (s : Range ℕ) : Type 0 where
  pub starts : s.start ≡ start_of z r
  pub ends : s.end ≡ start_of z r + size_of z r

-- whether sizes are such that a client may be opened with them
abbrev pub good_sizes : Sizes → Bool
good_sizes z =
    ((nat_le 1 z.clients && nat_le z.clients 64) && (nat_lt z.me z.clients && nat_le 1 z.kept))
    && ((nat_le z.kept 4096 && nat_le 1 z.waiting) && nat_le z.waiting 64)

-- whether each list of a memory says that it has no more entries than there is room for
abbrev pub counts_fit : Sizes → List ℕ → Bool
counts_fit z xs =
    ((nat_le (slice_index xs (start_of z Past)) z.kept && nat_le (slice_index xs (start_of z Queue)) z.waiting)
    && (nat_le (slice_index xs (start_of z Active)) z.waiting && nat_le (slice_index xs (start_of z Ahead)) z.waiting))
    && nat_le (slice_index xs (start_of z Own)) z.waiting

-- whether numbers may be a client's memory, for all that its header and its counts say
abbrev pub plausible : List ℕ → Bool
plausible xs =
    ((slice_index xs 0 == 1 && good_sizes (sizes_in xs)) && nat_le (needed (sizes_in xs)) (length xs)) && counts_fit (sizes_in xs) xs

-- a slice has numbers at its front that may be a client's memory, laid out so
pub record Front (xs : List ℕ) (l : Layout) : Type 0 where
  pub passes : plausible xs ≡ true
  pub sized : sizes l ≡ sizes_in xs
  pub room : needed (sizes l) ≤ length xs

-- a client's memory may always be one, whatever stands behind it
abbrev pub MemoryIsPlausible : Type 0
MemoryIsPlausible = (t : Stored) (rest : List ℕ) → Well t → plausible (encode t ++ rest) ≡ true

-- opened: memory is that of a new client, and the rest of the slice is as it was
pub record Opened (l : Limits) (before now : List ℕ) : Type 0 where
  pub good : GoodSizes (limit_sizes l)
  pub room : needed (limit_sizes l) ≤ length before
  pub holds : now ≡ encode (fresh (limit_sizes l)) ++ drop (needed (limit_sizes l)) before

-- why it was not: a limit out of range, or else too short a memory; nothing has changed
abbrev pub Unopened : Limits → OpenError → Type 0
Unopened l (BadLimits e) = FirstWrong l e
Unopened l (ShortMemory n) = GoodSizes (limit_sizes l) × (n ≡ needed (limit_sizes l))

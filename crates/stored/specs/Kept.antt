-- What holds of a stored client: its lists have their bounds, its numbers fit, and its memory can be read back. Definitions and statements; assumes nothing.
use Rattle.std.specs.Prelude.{◌≡◌, ℕ, suc, ◌+◌, ◌*◌, ◌<◌, ◌≤◌, true, List, length}
use Rattle.std.specs.List.{AllByRecursion}
use Rattle.protocol.specs.Data.{Data, Past, Duty}
use Rattle.protocol.specs.Client.{Share, duty, share}
use Rattle.protocol.specs.Promise.{eight, carried, readable, all_below}
use Rattle.stored.specs.Stored.{Cell, empty, holds, Bank, Sizes, Stored}
use Rattle.stored.specs.Numbers.{encode, decode, needed}

-- what a client may be opened with
pub record GoodSizes (z : Sizes) : Type 0 where
  pub some_clients : 1 ≤ z.clients
  pub few_clients : z.clients ≤ 64
  pub one_of_them : z.me < z.clients
  pub some_kept : 1 ≤ z.kept
  pub few_kept : z.kept ≤ 4096
  pub some_wait : 1 ≤ z.waiting
  pub few_wait : z.waiting ≤ 64

-- no list is longer than its room, and there are two banks for each duty that may wait, with a cell for each client
pub record Well (t : Stored) : Type 0 where
  pub sizes : GoodSizes t.sizes
  pub past : length t.past ≤ t.sizes.kept
  pub queue : length t.queue ≤ t.sizes.waiting
  pub active : length t.active ≤ t.sizes.waiting
  pub ahead : length t.ahead ≤ t.sizes.waiting
  pub own : length t.own ≤ t.sizes.waiting
  pub banks : length t.banks ≡ 2 * t.sizes.waiting
  pub cells : AllByRecursion (λ (b : Bank). length b.cells ≡ t.sizes.clients) t.banks

-- a memory that holds a client
pub record Held (z : Sizes) (xs : List ℕ) (t : Stored) : Type 0 where
  pub sized : t.sizes ≡ z
  pub well : Well t
  pub is : xs ≡ encode t

-- every number fits into 64 bits
abbrev pub CellFits : Cell → Type 0
CellFits empty = Unit {0}
CellFits (holds seat d) = (eight seat ≡ true) × (carried d ≡ true)

-- a duty that was taken: one more than its slot fits too
abbrev pub DutyFits : Duty → Type 0
DutyFits y = (suc y.slot < 18446744073709551616) × (readable (duty y) ≡ true)

pub record Fits (t : Stored) : Type 0 where
  pub at_hand : t.at_hand ≤ 1
  pub latest : t.latest < 18446744073709551616
  pub after : t.after < 18446744073709551616
  pub past : AllByRecursion (λ (p : Past). (p.from < 18446744073709551616) × (p.to < 18446744073709551616)) t.past
  pub queue : AllByRecursion DutyFits t.queue
  pub active : AllByRecursion DutyFits t.active
  pub ahead : AllByRecursion (λ (d : Data). carried d ≡ true) t.ahead
  pub own : AllByRecursion (λ (s : Share). readable (share s) ≡ true) t.own
  pub banks : AllByRecursion (λ (b : Bank). (b.mark < 18446744073709551616) × AllByRecursion CellFits b.cells) t.banks

-- a memory is read back as the client that it was made of
abbrev pub ReadsBack : Type 0
ReadsBack = (t : Stored) → Well t → decode (encode t) ≡ t

-- it has just as many numbers as are needed, which is within the allowance, and each fits into 64 bits
abbrev pub HasItsSize : Type 0
HasItsSize =
    (t : Stored) → Well t →
    (length (encode t) ≡ needed t.sizes)
    × (needed t.sizes ≤ 2 * t.sizes.kept + 36 * (t.sizes.clients * t.sizes.waiting) + 64 * t.sizes.waiting + 256)

abbrev pub NumbersFit : Type 0
NumbersFit = (t : Stored) → Well t → Fits t → all_below 18446744073709551616 (encode t) ≡ true

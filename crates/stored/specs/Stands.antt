-- What a stored client stands for: limits and a state of the definitions. All but the banks is told by these; a bank is free, or has what came for a slot.
-- Assumes nothing: these are definitions and a statement.
use Rattle.std.specs.Prelude.{◌≡◌, ℕ, zero, suc, ◌*◌, ◌&&◌, List, [], ◌∷◌, ◌++◌, map, length, ◌==◌}
use Rattle.std.specs.List.{range_with_len, AllByRecursion}
use Rattle.protocol.specs.Data.{pick, Duty, first_of}
use Rattle.protocol.specs.Client.{Share, Limits, State, new_client}
use Rattle.stored.specs.Stored.{Cell, empty, holds, Bank, Stored, sizes_of, free_bank, fresh}

-- one more than the slot of a duty that is none or one, 0 for none
abbrev pub one_more : List Duty → ℕ
one_more [] = 0
one_more (y ∷ ys) = suc y.slot

-- what memory has for limits and a state, with these banks
abbrev pub stored_of : Limits → State → List Bank → Stored
stored_of l s bs =
    record {
      sizes = sizes_of l;
      at_hand = length s.current;
      latest = one_more s.latest;
      after = s.after;
      past = s.past;
      queue = s.queue;
      active = s.active;
      ahead = s.ahead;
      own = s.own;
      banks = bs;
    }

-- the cell of a client for a slot: what its first share for that slot says, of those that came
unfoldable pub cell_of : ℕ → List Share → ℕ → Cell
cell_of k [] i = empty
cell_of k (x ∷ xs) i = pick (x.who == i && x.what.slot == k) (holds x.seat x.what) (cell_of k xs i)

-- the cells of n clients for a slot
unfoldable pub cells_of : ℕ → List Share → ℕ → List Cell
cells_of n got k = map (cell_of k got) (range_with_len 0 n)

-- the bank that a mark asks for: a free one, or what came for its slot
unfoldable pub bank_of : ℕ → List Share → ℕ → Bank
bank_of n got zero = free_bank n
bank_of n got (suc k) = record { mark = suc k; cells = cells_of n got k }

-- a bank is as its mark asks
abbrev pub AsMarked : ℕ → List Share → Bank → Type 0
AsMarked n got b = b ≡ bank_of n got b.mark

-- how many banks have a mark, and how many duties a slot
unfoldable pub banks_for : ℕ → List Bank → ℕ
banks_for m [] = 0
banks_for m (b ∷ bs) = pick (b.mark == m) (suc (banks_for m bs)) (banks_for m bs)

unfoldable pub duties_for : ℕ → List Duty → ℕ
duties_for k [] = 0
duties_for k (y ∷ ys) = pick (y.slot == k) (suc (duties_for k ys)) (duties_for k ys)

-- banks hold what came to one of n clients for the slots of these duties: there are 2w, each is as its mark asks, and each slot has a bank for each of the duties with that slot,
-- which is at most one; so no bank has another mark, and all the others are free
pub record BanksHold (n w : ℕ) (got : List Share) (ys : List Duty) (bs : List Bank) : Type 0 where
  pub many : length bs ≡ 2 * w
  pub each : AllByRecursion (AsMarked n got) bs
  pub marks : (k : ℕ) → banks_for (suc k) bs ≡ duties_for k ys

-- a stored client stands for limits and a state: all but the banks is what these say, the duty at hand is the last one begun, and the banks hold what came for the slots that are listened for
pub record StandsFor (l : Limits) (s : State) (t : Stored) : Type 0 where
  pub is : t ≡ stored_of l s t.banks
  pub hand : first_of (length s.current) s.active ≡ s.current
  pub banks : BanksHold l.clients l.waiting s.got (s.active ++ s.queue) t.banks

-- a client that was just opened stands for a new one
abbrev pub FreshStands : Type 0
FreshStands = (l : Limits) → StandsFor l new_client (fresh (sizes_of l))

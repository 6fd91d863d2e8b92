-- What is asked of banks, and where one lies. Assumes nothing: these are definitions.
use Rattle.std.specs.declared.ops.Range.{Range}
use Rattle.std.specs.Prelude.{◌≡◌, ℕ, ◌+◌, ◌*◌, ◌≤◌, List, map, length}
use Rattle.std.specs.List.{AllByRecursion}
use Rattle.rows.specs.Rows.{flat}
use Rattle.stored.specs.Stored.{Cell, Bank, Sizes}
use Rattle.stored.specs.Numbers.{cell_numbers, needed}
use Rattle.layout.specs.Layout.{start_of}
use Rattle.layout.specs.declared.region.Region.TheVariants.{Cells}

-- each bank has a cell for each of n clients
abbrev pub Sized : ℕ → List Bank → Type 0
Sized n bs = AllByRecursion (λ (b : Bank). length b.cells ≡ n) bs

-- the numbers of a bank's cells
abbrev pub numbers_of : List Cell → List ℕ
numbers_of cs = flat (map cell_numbers cs)

-- a range is that of the cells of the bank at a place
pub record CellsAt (z : Sizes) (p : ℕ) (s : Range ℕ) : Type 0 where
  pub starts : s.start ≡ start_of z Cells + 18 * z.clients * p
  pub ends : s.end ≡ s.start + 18 * z.clients
  pub within : s.end ≤ needed z

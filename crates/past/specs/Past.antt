-- The kept past in lent numbers: two for each entry, its source and its target.
-- Assumes nothing: these are definitions.
use Rattle.std.specs.Prelude.{◌≡◌, ℕ, ◌*◌, ◌≤◌, List, [], ◌∷◌, ◌++◌, map, length, drop, Some, None, Option, slice_index}
use Rattle.protocol.specs.Data.{Past, keep}
use Rattle.rows.specs.Rows.{rows, flat, laid, inserted}

-- an entry of the past by its source and target
abbrev pub entry : ℕ → ℕ → Past
entry source target = record { from = source; to = target }

-- what two numbers stand for, and the two numbers of an entry
abbrev pub entry_of : List ℕ → Past
entry_of row = entry (slice_index row 0) (slice_index row 1)

abbrev pub row_of : Past → List ℕ
row_of p = p.from ∷ (p.to ∷ [])

-- what the first n entries of a region stand for
unfoldable pub entries : ℕ → List ℕ → List Past
entries n cells = map entry_of (rows 2 n cells)

-- the numbers of these entries, one after another
unfoldable pub cells_of : List Past → List ℕ
cells_of ps = flat (map row_of ps)

-- the cells of a region for n entries that holds these: their numbers, and zeros behind
unfoldable pub encoded : ℕ → List Past → List ℕ
encoded n ps = laid 2 n (map row_of ps)

-- an entry put in at a place, or nowhere
abbrev pub placed : Option ℕ → Past → List Past → List Past
placed None p ps = ps
placed (Some m) p ps = inserted ps m p

-- what one entry more makes of a region that held count entries, of which at most `most` are kept: it stands for the past with one more, of which there
-- are r; what is behind them is as it was; and if it was the exact encoding it is so again
pub record OneMore (most : ℕ) (p : Past) (count r : ℕ) (before after : List ℕ) : Type 0 where
  pub stands : entries r after ≡ keep most p (entries count before)
  pub long : r ≡ length (keep most p (entries count before))
  pub fits : r ≤ most
  pub cells : after ≡ cells_of (keep most p (entries count before)) ++ drop (2 * r) before
  pub exact : before ≡ encoded most (entries count before) → after ≡ encoded most (keep most p (entries count before))

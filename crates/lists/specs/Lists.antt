-- Lists of entries in a region of numbers: how many there are, and then the entries, zeros behind them.
-- Assumes nothing: these are definitions.
use Rattle.std.specs.Prelude.{◌≡◌, ℕ, suc, ◌≤◌, Bool, cond, ltb, List, [], ◌∷◌, length, take, drop, Some, None, Option, slice_set}
use Rattle.std.specs.Borrow.{Bor}
use Rattle.rows.specs.Rows.{Wide, laid, inserted, removed, kept}

-- a region with room for n entries of w numbers each that holds these
abbrev pub counted : ℕ → ℕ → List (List ℕ) → List ℕ
counted w n rs = length rs ∷ laid w n rs

-- the place of the first that passes a test; how many there are, where none does
unfoldable pub first_passing : {X : Type 0} → (X → Bool) → List X → ℕ
first_passing test [] = 0
first_passing test (x ∷ xs) = cond (test x) 0 (suc (first_passing test xs))

-- that place, if it is one of the list's
abbrev pub place_in : {X : Type 0} → List X → ℕ → Option ℕ
place_in xs m = cond (ltb m (length xs)) (Some m) None

-- such a region, before something is done with it
pub record Region (w n : ℕ) (rs : List (List ℕ)) (xs : List ℕ) : Type 0 where
  pub wide : Wide w rs
  pub few : length rs ≤ n
  pub is : xs ≡ counted w n rs

-- the entry at a place, if there is one; it has its width
abbrev pub lent : Option (Bor (List ℕ)) → List (List ℕ)
lent None = []
lent (Some r) = r.now ∷ []

abbrev pub EntryAt : List (List ℕ) → ℕ → List (List ℕ) → Type 0
EntryAt rs m row = row ≡ take 1 (drop m rs)

abbrev pub Long : ℕ → List (List ℕ) → Type 0
Long w rows = Wide w rows

-- what is done with it: an entry put in at a place, of which the first n stay; one cut out; one in the place of another; those that pass kept
abbrev pub Inserts : ℕ → ℕ → ℕ → List ℕ → List ℕ → List ℕ → Type 0
Inserts w n m row xs ys = (rs : List (List ℕ)) → Region w n rs xs → m ≤ length rs → ys ≡ counted w n (take n (inserted rs m row))

abbrev pub Removes : ℕ → ℕ → ℕ → List ℕ → List ℕ → Type 0
Removes w n m xs ys = (rs : List (List ℕ)) → Region w n rs xs → suc m ≤ length rs → ys ≡ counted w n (removed rs m)

abbrev pub Replaces : ℕ → ℕ → ℕ → List ℕ → List ℕ → List ℕ → Type 0
Replaces w n m row xs ys = (rs : List (List ℕ)) → Region w n rs xs → suc m ≤ length rs → ys ≡ counted w n (slice_set rs m row)

abbrev pub Keeps : ℕ → ℕ → (List ℕ → Bool) → List ℕ → List ℕ → Type 0
Keeps w n test xs ys = (rs : List (List ℕ)) → Region w n rs xs → ys ≡ counted w n (kept test rs)

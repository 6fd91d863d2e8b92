-- Entries of one width that stand one after another in a list of numbers.
-- Assumes nothing: these are definitions.
use Rattle.std.specs.Prelude.{◌≡◌, ℕ, zero, suc, ◌+◌, ◌-◌, ◌*◌, ◌<◌, ◌≤◌, Bool, cond, List, [], ◌∷◌, ◌++◌, length, take, drop, replicate}
use Rattle.std.specs.Fn.{Shared}
use Rattle.std.specs.Borrow.{Bor}
use Rattle.std.specs.List.{AllByRecursion}

-- the first n entries, each w numbers wide
unfoldable pub rows : ℕ → ℕ → List ℕ → List (List ℕ)
rows w zero xs = []
rows w (suc n) xs = take w xs ∷ rows w n (drop w xs)

-- the numbers of entries, one after another
unfoldable pub flat : List (List ℕ) → List ℕ
flat [] = []
flat (r ∷ rs) = r ++ flat rs

-- the cells of a region for n entries that holds these: one after another, and zeros behind
unfoldable pub laid : ℕ → ℕ → List (List ℕ) → List ℕ
laid w zero rs = []
laid w (suc n) [] = replicate w 0 ++ laid w n []
laid w (suc n) (r ∷ rs) = r ++ laid w n rs

-- one more at the place m; all but the one at the place m
abbrev pub inserted : {X : Type 0} → List X → ℕ → X → List X
inserted xs m x = take m xs ++ x ∷ drop m xs

abbrev pub removed : {X : Type 0} → List X → ℕ → List X
removed xs m = take m xs ++ drop (suc m) xs

-- those that pass a test, in their order
unfoldable pub kept : {X : Type 0} → (X → Bool) → List X → List X
kept test [] = []
kept test (x ∷ xs) = cond (test x) (x ∷ kept test xs) (kept test xs)

-- a row put in at start: what stood from there to end stands behind it, and the row's length of what stood behind end is gone
abbrev pub put_cells : ℕ → ℕ → List ℕ → List ℕ → List ℕ
put_cells start end row xs = take start xs ++ (row ++ (take (end - start) (drop start xs) ++ drop (end + length row) xs))

-- the width numbers at start cut out: what stood behind them up to end stands in their place, and zeros behind it
abbrev pub cut_cells : ℕ → ℕ → ℕ → List ℕ → List ℕ
cut_cells start end width xs =
    take start xs ++ (take (end - (start + width)) (drop (start + width) xs) ++ (replicate width 0 ++ drop end xs))

-- of n entries those that pass, one after another, and zeros behind them
abbrev pub kept_cells : (List ℕ → Bool) → ℕ → ℕ → List ℕ → List ℕ
kept_cells test w n xs =
    flat (kept test (rows w n xs)) ++ (replicate (w * (n - length (kept test (rows w n xs)))) 0 ++ drop (w * n) xs)

-- entries that all have the width
abbrev pub Wide : ℕ → List (List ℕ) → Type 0
Wide w rs = AllByRecursion (λ r. length r ≡ w) rs

-- a closure may be called at each row of w numbers, and answers there what a test says
module _ {F : Type 0} (g : Shared F (Bor (List ℕ) × Unit {0}) Bool) (f : F) (w : ℕ) where
  abbrev pub Takes : Type 0
  Takes = (row : Bor (List ℕ)) → length row.now ≡ w → g.pre f (row, tt)

  abbrev pub Tests : (List ℕ → Bool) → Type 0
  Tests p = (row : Bor (List ℕ)) (b : Bool) → length row.now ≡ w → g.post f (row, tt) b → b ≡ p row.now

-- a region for n entries that holds some and zeros behind is one again when a row is put in at m (before the end of c entries: all that there are, or all but
-- the last, which is gone then), when the m-th is cut out, and when those that pass are kept
pub record RegionsStayLaid : Type 0 where
  pub put : (w n m c : ℕ) (rs : List (List ℕ)) (row : List ℕ) → Wide w rs → length row ≡ w → m ≤ c → c ≤ length rs → length rs ≤ c + 1 → c < n → length rs ≤ n →
      put_cells (w * m) (w * c) row (laid w n rs) ≡ laid w n (inserted (take c rs) m row)
  pub cut : (w n m c : ℕ) (rs : List (List ℕ)) → Wide w rs → length rs ≡ c + 1 → m ≤ c → c < n →
      cut_cells (w * m) (w * (c + 1)) w (laid w n rs) ≡ laid w n (removed rs m)
  pub some_kept : (test : List ℕ → Bool) (w n : ℕ) (rs : List (List ℕ)) → Wide w rs → length rs ≤ n →
      kept_cells test w (length rs) (laid w n rs) ≡ laid w n (kept test rs)

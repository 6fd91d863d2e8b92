-- A region that holds a list, and the regions of banks: how many numbers they have, and that they are read back.
use Rattle.std.proofs.Common.{◌≡◌, ℕ, ◌+◌, ◌*◌, ◌≤◌, List, [], ◌∷◌, ◌++◌, map, length, sym, refl, ap, ◌∙◌, ap₂, arith, drop_at}
use Rattle.std.specs.List.{AllByRecursion}
use Rattle.std.proofs.lemmas.List.{length-map}
use Rattle.rows.specs.Rows.{Wide, rows, flat, laid}
use Rattle.rows.proofs.Laws.{rows_flat}
use Rattle.rows.proofs.Laid.{rows_laid, laid_length}
use Rattle.stored.specs.Stored.{Bank}
use Rattle.stored.specs.Numbers.{listed, listed_in, cell_numbers, cell_in, marks, bank_numbers, bank_cells, banks_in}
use Rattle.stored.proofs.Entries.{cell_length, cell_back}
use Rattle.stored.proofs.Parts.{wide_length}

-- entries that all have w numbers, and are read back from them
pub wide_map : {A : Type 0} (w : ℕ) (numbers : A → List ℕ) → ((x : A) → length (numbers x) ≡ w) → (xs : List A) → Wide w (map numbers xs)
wide_map w numbers long [] = tt
wide_map w numbers long (x ∷ xs) = (long x, wide_map w numbers long xs)

map_back : {A : Type 0} (numbers : A → List ℕ) (from : List ℕ → A) → ((x : A) → from (numbers x) ≡ x) → (xs : List A) → map from (map numbers xs) ≡ xs
map_back numbers from back [] = refl
map_back numbers from back (x ∷ xs) = ap₂ ◌∷◌ (back x) (map_back numbers from back xs)

module _ {A : Type 0} (w n : ℕ) (numbers : A → List ℕ) (long : (x : A) → length (numbers x) ≡ w) (xs : List A) (fits : length xs ≤ n) where
  -- a list in a region with room for n entries
  pub listed_length : length (listed w n numbers xs) ≡ 1 + w * n
  unfolding listed
  listed_length =
      omega (arith, laid_length w n (map numbers xs) (wide_map w numbers long xs) (omega (arith, length-map xs numbers)))

  pub listed_back : (from : List ℕ → A) → ((x : A) → from (numbers x) ≡ x) → listed_in w from (listed w n numbers xs) ≡ xs
  unfolding listed listed_in
  listed_back from back =
      ap (λ k. map from (rows w k (laid w n (map numbers xs)))) (sym (length-map xs numbers))
      ∙ ap (map from) (rows_laid w n (map numbers xs) (wide_map w numbers long xs) (omega (arith, length-map xs numbers)))
      ∙ map_back numbers from back xs

-- a bank's cells
pub bank_length : (n : ℕ) (b : Bank) → length b.cells ≡ n → length (bank_numbers b) ≡ 18 * n
unfolding bank_numbers
bank_length n b e =
    wide_length 18 (map cell_numbers b.cells) (wide_map 18 cell_numbers cell_length b.cells)
    ∙ ap (λ k. 18 * k) (length-map b.cells cell_numbers ∙ e)

-- banks that have a cell for each of n clients
abbrev pub Celled : ℕ → List Bank → Type 0
Celled n bs = AllByRecursion (λ (b : Bank). length b.cells ≡ n) bs

pub wide_banks : (n : ℕ) (bs : List Bank) → Celled n bs → Wide (18 * n) (map bank_numbers bs)
wide_banks n [] h = tt
wide_banks n (b ∷ bs) h = (bank_length n b h.0, wide_banks n bs h.1)

pub marks_length : (bs : List Bank) → length (marks bs) ≡ length bs
unfolding marks
marks_length bs = length-map bs (λ b. b.mark)

pub cells_length : (n : ℕ) (bs : List Bank) → Celled n bs → length (bank_cells bs) ≡ 18 * n * length bs
unfolding bank_cells
cells_length n bs h =
    wide_length (18 * n) (map bank_numbers bs) (wide_banks n bs h) ∙ ap (λ k. 18 * n * k) (length-map bs bank_numbers)

pub banks_back : (n : ℕ) (bs : List Bank) → Celled n bs → banks_in n (marks bs) (bank_cells bs) ≡ bs
unfolding banks_in marks bank_cells bank_numbers flat
banks_back n [] h = refl
banks_back n (b ∷ bs) h =
    let cells : List (List ℕ) = map cell_numbers b.cells in
    let rest : List ℕ = flat (map bank_numbers bs) in
    let count : n ≡ length cells = sym (length-map b.cells cell_numbers ∙ h.0) in
    let here : map cell_in (rows 18 n (flat cells ++ rest)) ≡ b.cells =
    ap (λ k. map cell_in (rows 18 k (flat cells ++ rest))) count
    ∙ ap (map cell_in) (rows_flat 18 cells rest (wide_map 18 cell_numbers cell_length b.cells))
    ∙ map_back cell_numbers cell_in cell_back b.cells in
    ap₂ (λ cs t. record { mark = b.mark; cells = cs } ∷ t)
    here
    (ap (banks_in n (marks bs)) (drop_at (flat cells) rest (18 * n) (bank_length n b h.0)) ∙ banks_back n bs h.1)

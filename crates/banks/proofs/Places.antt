-- Where cells stand: the numbers of a client's cell in those of its bank, and the numbers of a bank in those of all banks.
use Rattle.std.proofs.Common.{◌≡◌, ℕ, ◌+◌, ◌*◌, ◌<◌, ◌≤◌, List, [], map, length, get_or, take, drop, set, sym, ap, ◌∙◌, arith}
use borrow.Rule.Slice.PartMut.{put_mid}
use Rattle.std.proofs.lemmas.List.{length-map, get_or-map, map-set}
use Rattle.rows.specs.Rows.{flat}
use Rattle.stored.specs.Stored.{Cell, empty, Bank, free_bank, bank_at, with_cells}
use Rattle.stored.specs.Numbers.{cell_numbers, bank_numbers, bank_cells}
use Rattle.stored.proofs.Entries.{cell_length}
use Rattle.stored.proofs.Listed.{wide_map, wide_banks}
use Rattle.banks.specs.Banks.{Sized, numbers_of}
use Rattle.banks.proofs.Within.{entry_at, entry_put}
use Rattle.banks.proofs.Alike.{how_many}

-- a client's cell in the numbers of a bank
module _ (i : ℕ) (cs : List Cell) (xs : List ℕ) (fits : 18 * i + 18 ≤ length xs) (is : xs ≡ numbers_of cs) where
  inside : i < length cs
  inside = omega (arith, ap length is, how_many cs)

  few : i < length (map cell_numbers cs)
  few = omega (arith, inside, length-map cs cell_numbers)

  pub cell_at : take 18 (drop (18 * i) xs) ≡ cell_numbers (get_or cs i empty)
  cell_at =
      ap (λ (t : List ℕ). take 18 (drop (18 * i) t)) is
      ∙ entry_at 18 i (map cell_numbers cs) (wide_map 18 cell_numbers cell_length cs) few
      ∙ get_or-map cell_numbers cs i empty [] inside

  pub cell_put : (c : Cell) → put_mid (18 * i) 18 xs (cell_numbers c) ≡ numbers_of (set cs i c)
  cell_put c =
      ap (λ (t : List ℕ). put_mid (18 * i) 18 t (cell_numbers c)) is
      ∙ entry_put 18 i (map cell_numbers cs) (wide_map 18 cell_numbers cell_length cs) few (cell_numbers c)
      ∙ ap flat (sym (map-set cell_numbers cs i c))

-- a bank in the numbers of all banks
module _ (n p : ℕ) (bs : List Bank) (sized : Sized n bs) (inside : p < length bs) where
  there : p < length (map bank_numbers bs)
  there = omega (arith, inside, length-map bs bank_numbers)

  pub bank_is : take (18 * n) (drop (18 * n * p) (bank_cells bs)) ≡ numbers_of (bank_at bs p).cells
  unfolding bank_cells bank_numbers
  bank_is =
      entry_at (18 * n) p (map bank_numbers bs) (wide_banks n bs sized) there
      ∙ get_or-map bank_numbers bs p (free_bank 0) [] inside

  pub bank_put : (ds : List Cell) → put_mid (18 * n * p) (18 * n) (bank_cells bs) (numbers_of ds) ≡ bank_cells (with_cells bs p ds)
  unfolding bank_cells bank_numbers
  bank_put ds =
      entry_put (18 * n) p (map bank_numbers bs) (wide_banks n bs sized) there (numbers_of ds)
      ∙ ap flat (sym (map-set bank_numbers bs p (record { mark = (bank_at bs p).mark; cells = ds })))

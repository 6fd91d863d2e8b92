-- Banks that are changed one at a time: what the change leaves as it was, and the bank of a slot that is freed.
use Rattle.std.proofs.Common.{◌≡◌, ℕ, ◌+◌, ◌<◌, List, map, length, set, replicate, sym, refl, ap, ◌∙◌, subst, inl, inr, add-one}
use Rattle.std.proofs.lemmas.List.{map-set, set-set, set-get_or, set_past, get_or-set_same}
use Rattle.std.proofs.ByRecursion.{All-get_or, All-set}
use Rattle.std.proofs.lemmas.Bool.{cases_lt}
use Rattle.rows.specs.Rows.{flat}
use Rattle.stored.specs.Stored.{Cell, empty, Bank, free_bank, place_of, bank_at, marked, with_cells, freed}
use Rattle.stored.specs.Numbers.{marks, bank_numbers, bank_cells}
use Rattle.banks.specs.Banks.{Sized}

-- where another bank has what the one before it had, all banks have what they had
map_kept : {A : Type 0} (f : Bank → A) (bs : List Bank) (p : ℕ) (b : Bank) → f b ≡ f (bank_at bs p) → map f (set bs p b) ≡ map f bs
map_kept f bs p b e =
    map-set f bs p b
    ∙ ap (set (map f bs) p) e
    ∙ sym (map-set f bs p (bank_at bs p))
    ∙ ap (map f) (set-get_or bs p (free_bank 0))

-- another mark leaves the cells, and other cells the marks
pub mark_keeps : (bs : List Bank) (p m : ℕ) → bank_cells (marked bs p m) ≡ bank_cells bs
unfolding bank_cells bank_numbers
mark_keeps bs p m = ap flat (map_kept bank_numbers bs p (record { mark = m; cells = (bank_at bs p).cells }) refl)

pub cells_keep : (bs : List Bank) (p : ℕ) (cs : List Cell) → marks (with_cells bs p cs) ≡ marks bs
unfolding marks
cells_keep bs p cs = map_kept (λ (b : Bank). b.mark) bs p (record { mark = (bank_at bs p).mark; cells = cs }) refl

-- another mark leaves each bank its number of cells, also where there is no such bank
pub mark_sized : (n : ℕ) (bs : List Bank) (p m : ℕ) → Sized n bs → Sized n (marked bs p m)
mark_sized n bs p m sized =
    let P : Bank → Type 0 = λ b. length b.cells ≡ n in
    let b : Bank = record { mark = m; cells = (bank_at bs p).cells } in
    elim (cases_lt p (length bs)) [
      | inl inside ↦ All-set P bs p b (All-get_or P bs p (free_bank 0) inside sized) sized
      | inr past ↦ subst (Sized n) (sym (set_past bs p b past)) sized
    ]

-- a free bank in the place of a slot's
at_its_place : (n k p : ℕ) (bs : List Bank) → p ≡ place_of (k + 1) bs → set bs p (free_bank n) ≡ freed n k bs
at_its_place n k p bs first = ap (λ i. set bs i (free_bank n)) first ∙ ap (λ m. set bs (place_of m bs) (free_bank n)) (add-one k)

-- the cells emptied and then the mark gone: the bank of a slot is freed
pub freed_so : (n k p : ℕ) (bs : List Bank) → p ≡ place_of (k + 1) bs → p < length bs → marked (with_cells bs p (replicate n empty)) p 0 ≡ freed n k bs
freed_so n k p bs first inside =
    let cleared : Bank = record { mark = (bank_at bs p).mark; cells = replicate n empty } in
    set-set bs p cleared (record { mark = 0; cells = (bank_at (set bs p cleared) p).cells })
    ∙ ap (λ (b : Bank). set bs p (record { mark = 0; cells = b.cells })) (get_or-set_same bs p cleared (free_bank 0) inside)
    ∙ at_its_place n k p bs first

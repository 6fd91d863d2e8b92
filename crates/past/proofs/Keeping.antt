-- What one entry more makes of a region: the same region, or one with a row put in.
use Rattle.std.proofs.Common.{◌≡◌, ℕ, ◌+◌, ◌-◌, ◌*◌, ◌≤◌, List, ◌∷◌, ◌++◌, map, length, take, drop, replicate, sym, refl, ap, ◌∙◌, ap₂, arith, take-append-drop}
use mathlib.Core.List.{map-append}
use Rattle.std.proofs.lemmas.List.{take-map, drop-map}
use Rattle.protocol.specs.Data.{Past, keep}
use Rattle.rows.specs.Rows.{rows, inserted, put_cells}
use Rattle.rows.proofs.Laws.{rows_length, wide_rows, drop_put}
use Rattle.rows.proofs.Laid.{laid_from, laid_behind}
use Rattle.past.specs.Past.{entry_of, row_of, entries, cells_of, encoded, OneMore}
use Rattle.past.proofs.Laws.{entries_length, cells_back, encoded_back}

-- it stands for what is to be kept, and behind it nothing has changed
one_more : (most : ℕ) (p : Past) (count r : ℕ) (xs ys : List ℕ) → count ≤ r → r ≤ most → 2 * most ≤ length xs → 2 * most ≤ length ys → drop (2 * r) ys ≡ drop (2 * r) xs → entries r ys ≡ keep most p (entries count xs) → OneMore most p count r xs ys
one_more most p count r xs ys more fits long long' behind stands =
    record {
      stands = stands;
      long = sym (entries_length r ys) ∙ ap length stands;
      fits = fits;
      cells =
          sym (take-append-drop (2 * r) ys) ∙ ap₂ ◌++◌ (sym (cells_back r ys (omega arith)) ∙ ap cells_of stands) behind;
      exact =
          λ e.
          let rs : List (List ℕ) = rows 2 count xs in
          let count_is = rows_length 2 count xs in
          let zeros : drop (2 * r) ys ≡ replicate (2 * (most - r)) 0 =
          behind
          ∙ ap (drop (2 * r)) (e ∙ encoded_back most count xs (omega arith))
          ∙ laid_behind 2 most r rs (wide_rows 2 count xs (omega arith)) (omega arith) fits in
          laid_from 2 most r ys fits zeros ∙ sym (encoded_back most r ys (omega arith)) ∙ ap (encoded most) stands;
    }

pub same_after : (most : ℕ) (p : Past) (count : ℕ) (xs : List ℕ) → count ≤ most → 2 * most ≤ length xs → keep most p (entries count xs) ≡ entries count xs → OneMore most p count count xs xs
same_after most p count xs h l e = one_more most p count count xs xs (omega arith) h l l refl (sym e)

entries_inserted : (n m : ℕ) (p : Past) (xs ys : List ℕ) → rows 2 (n + 1) ys ≡ inserted (rows 2 n xs) m (row_of p) → entries (n + 1) ys ≡ inserted (entries n xs) m p
unfolding entries
entries_inserted n m p xs ys e =
    ap (map entry_of) e
    ∙ map-append entry_of (take m (rows 2 n xs)) (row_of p ∷ drop m (rows 2 n xs))
    ∙ ap₂ (λ a b. a ++ p ∷ b) (sym (take-map entry_of m (rows 2 n xs))) (sym (drop-map entry_of m (rows 2 n xs)))

pub put_after : (most : ℕ) (p : Past) (count n m : ℕ) (xs ys : List ℕ) → count ≤ n + 1 → n + 1 ≤ most → m ≤ n → 2 * most ≤ length xs → length ys ≡ length xs → ys ≡ put_cells (2 * m) (2 * n) (row_of p) xs → rows 2 (n + 1) ys ≡ inserted (rows 2 n xs) m (row_of p) → keep most p (entries count xs) ≡ inserted (entries n xs) m p → OneMore most p count (n + 1) xs ys
put_after most p count n m xs ys more fits place long same_long cells rows_are kept_is =
    let end : 2 * (n + 1) ≡ 2 * n + 2 = omega arith in
    let behind : drop (2 * (n + 1)) ys ≡ drop (2 * (n + 1)) xs =
    ap₂ drop end cells ∙ drop_put (2 * m) (2 * n) (row_of p) xs (omega arith) (omega arith) ∙ ap (λ i. drop i xs) (sym end) in
    one_more most p count (n + 1) xs ys more fits long (omega arith) behind (entries_inserted n m p xs ys rows_are ∙ sym kept_is)

-- Laws of `entries`: how many there are, the one at a place, and that they are read back from their cells.
use Rattle.std.proofs.Common.{◌≡◌, ℕ, zero, suc, ◌+◌, ◌-◌, ◌*◌, ◌/◌, ◌<◌, ◌≤◌, List, [], ◌∷◌, map, length, get_or, take, drop, sym, refl, ap, ◌∙◌, ap₂, add-one, arith, drop-cons, length-take, take-take}
use Rattle.std.proofs.lemmas.List.{length-map, take-map, drop-map}
use Rattle.std.proofs.Math.Nat.{mul-div_left}
use Rattle.std.specs.Simd.{first_chunks}
use Rattle.protocol.specs.Data.{first_of}
use Rattle.rows.specs.Rows.{Wide, rows, flat, laid}
use Rattle.rows.proofs.Laws.{chunks_are, rows_same, wide_rows, rows_length, rows_take, flat_rows}
use Rattle.past.specs.Past.{entry_of, row_of, entries, cells_of, encoded}

pub entries_length : (n : ℕ) (xs : List ℕ) → length (entries n xs) ≡ n
unfolding entries
entries_length n xs = length-map (rows 2 n xs) entry_of ∙ rows_length 2 n xs

-- the entry at a place, and those behind it
pub drop_entries : (rs : List (List ℕ)) (i : ℕ) (d : List ℕ) → i < length rs → drop i (map entry_of rs) ≡ entry_of (get_or rs i d) ∷ drop (i + 1) (map entry_of rs)
drop_entries rs i d h =
    drop-map entry_of i rs
    ∙ ap (map entry_of) (drop-cons rs i d h)
    ∙ ap (λ t. entry_of (get_or rs i d) ∷ t) (sym (drop-map entry_of (suc i) rs) ∙ ap (λ k. drop k (map entry_of rs)) (sym (add-one i)))

-- the arrays of the part that holds n entries
pub pairs_are : (n : ℕ) (xs : List ℕ) (rs : List (List ℕ)) → rs ≡ first_chunks 2 (length (take (2 * n) xs) / 2) (take (2 * n) xs) → 2 * n ≤ length xs → map entry_of rs ≡ entries n xs
unfolding entries
pairs_are n xs rs e h =
    let part : List ℕ = take (2 * n) xs in
    let long : length part ≡ n * 2 = simp length-take (omega arith) in
    let many : length part / 2 ≡ n = ap (λ j. j / 2) long ∙ mul-div_left n (omega arith) in
    ap (map entry_of)
    (e
    ∙ ap (λ j. first_chunks 2 j part) many
    ∙ chunks_are 2 n part
    ∙ rows_same 2 n part xs (take-take (2 * n) (2 * n) xs (omega arith)))

-- the first m of more entries
pub entries_take : (m n : ℕ) (xs : List ℕ) → m ≤ n → take m (entries n xs) ≡ entries m xs
unfolding entries
entries_take m n xs h =
    let more : n ≡ m + (n - m) = omega arith in
    take-map entry_of m (rows 2 n xs)
    ∙ ap (λ k. map entry_of (take m (rows 2 k xs))) more
    ∙ ap (map entry_of) (rows_take 2 m (n - m) xs)

-- two numbers, and entries of two numbers, are read back
row_back : (r : List ℕ) → length r ≡ 2 → row_of (entry_of r) ≡ r
row_back [] e = absurd (omega arith)
row_back (a ∷ []) e = absurd (omega arith)
row_back (a ∷ b ∷ []) e = refl
row_back (a ∷ b ∷ c ∷ r) e = absurd (omega arith)

rows_back : (rs : List (List ℕ)) → Wide 2 rs → map row_of (map entry_of rs) ≡ rs
rows_back [] h = refl
rows_back (r ∷ rs) h = ap₂ ◌∷◌ (row_back r h.0) (rows_back rs h.1)

-- the cells of the entries that a region stands for are its own
pub cells_back : (n : ℕ) (xs : List ℕ) → 2 * n ≤ length xs → cells_of (entries n xs) ≡ take (2 * n) xs
unfolding entries cells_of
cells_back n xs h = ap flat (rows_back (rows 2 n xs) (wide_rows 2 n xs h)) ∙ flat_rows 2 n xs

pub encoded_back : (n c : ℕ) (xs : List ℕ) → 2 * c ≤ length xs → encoded n (entries c xs) ≡ laid 2 n (rows 2 c xs)
unfolding entries encoded
encoded_back n c xs h = ap (laid 2 n) (rows_back (rows 2 c xs) (wide_rows 2 c xs h))

-- what stays of the first ones
pub first_of_is : {A : Type 0} (n : ℕ) (xs : List A) → first_of n xs ≡ take n xs
unfolding first_of
first_of_is zero xs = refl
first_of_is (suc n) [] = refl
first_of_is (suc n) (x ∷ xs) = ap (λ t. x ∷ t) (first_of_is n xs)

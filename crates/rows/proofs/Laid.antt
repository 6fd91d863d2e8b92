-- A region that holds entries and zeros behind them is one again when an entry is put in or cut out, or when some are kept.
use Rattle.std.proofs.Common.{◌≡◌, ℕ, zero, suc, ◌+◌, ◌-◌, ◌*◌, ◌<◌, ◌≤◌, Bool, List, [], ◌∷◌, ◌++◌, length, take, drop, replicate, sym, refl, ap, ◌∙◌, ap₂, append_assoc, le_of_suc-le-suc, not-suc-le-zero, mul-le-mul_left, mul-zero, mul-suc, mul-add, add-one, arith, length-append, take-append-drop, drop-drop, drop_at}
use native.Mathlib.Nat.{mul-sub}
use lib.ListN.{length-replicate, replicate-append-replicate}
use Rattle.std.proofs.lemmas.List.{drop-replicate}
use Rattle.rows.specs.Rows.{Wide, RegionsStayLaid, rows, flat, laid, kept, inserted, removed, put_cells, cut_cells, kept_cells}
use Rattle.rows.proofs.Laws.{rows_length, rows_take, rows_put, rows_cut, rows_flat, flat_rows, kept_length, drop_put, drop_cut}

-- the entries' numbers, then zeros
pub laid_is : (w n : ℕ) (rs : List (List ℕ)) → length rs ≤ n → laid w n rs ≡ flat rs ++ replicate (w * (n - length rs)) 0
unfolding laid flat
laid_is w zero [] h = ap (λ k. replicate k 0) (sym (mul-zero w))
laid_is w zero (r ∷ rs) h = absurd (not-suc-le-zero h)
laid_is w (suc n) [] h =
    let size : w + w * (n - 0) ≡ w * (suc n - 0) = omega (arith, mul-suc w n, ap (λ k. w * k) minus, ap (λ k. w * k) minus') in
    ap (λ t. replicate w 0 ++ t) (laid_is w n [] (omega arith))
    ∙ replicate-append-replicate w (w * (n - 0)) 0
    ∙ ap (λ k. replicate k 0) size
  where
    minus : n - 0 ≡ n
    minus = omega arith

    minus' : suc n - 0 ≡ suc n
    minus' = omega arith
laid_is w (suc n) (r ∷ rs) h =
    let less : n - length rs ≡ suc n - suc (length rs) = omega arith in
    ap (λ t. r ++ t) (laid_is w n rs (le_of_suc-le-suc h) ∙ ap (λ k. flat rs ++ replicate (w * k) 0) less)
    ∙ sym (append_assoc r (flat rs) (replicate (w * (suc n - suc (length rs))) 0))

-- cells that are zero from the c-th entry on
pub laid_from : (w n c : ℕ) (xs : List ℕ) → c ≤ n → drop (w * c) xs ≡ replicate (w * (n - c)) 0 → xs ≡ laid w n (rows w c xs)
laid_from w n c xs h e =
    let long = rows_length w c xs in
    sym (take-append-drop (w * c) xs)
    ∙ ap₂ ◌++◌ (sym (flat_rows w c xs)) (e ∙ ap (λ k. replicate (w * (n - k)) 0) (sym long))
    ∙ sym (laid_is w n (rows w c xs) (omega arith))

flat_length : (w : ℕ) (rs : List (List ℕ)) → Wide w rs → length (flat rs) ≡ w * length rs
unfolding flat
flat_length w [] h = sym (mul-zero w)
flat_length w (r ∷ rs) h =
    length-append r (flat rs) ∙ omega (arith, h.0, flat_length w rs h.1, mul-suc w (length rs))

-- they are zero from the last entry on, and from each place behind it
pub laid_behind : (w n c : ℕ) (rs : List (List ℕ)) → Wide w rs → length rs ≤ c → c ≤ n → drop (w * c) (laid w n rs) ≡ replicate (w * (n - c)) 0
laid_behind w n c rs wide h l =
    let k : ℕ = length rs in
    let zeros : List ℕ = replicate (w * (n - k)) 0 in
    let place : w * k + w * (c - k) ≡ w * c = sym (mul-add w k (c - k)) ∙ ap (λ i. w * i) count in
    let less : w * (n - k) - w * (c - k) ≡ w * (n - c) = sym (mul-sub w (n - k) (c - k)) ∙ ap (λ i. w * i) rest in
    ap₂ drop (sym place) (laid_is w n rs (omega arith))
    ∙ sym (drop-drop (w * (c - k)) (w * k) (flat rs ++ zeros))
    ∙ ap (drop (w * (c - k))) (drop_at (flat rs) zeros (w * k) (flat_length w rs wide))
    ∙ drop-replicate (w * (c - k)) (w * (n - k)) 0
    ∙ ap (λ i. replicate i 0) less
  where
    count : length rs + (c - length rs) ≡ c
    count = omega arith

    rest : n - length rs - (c - length rs) ≡ n - c
    rest = omega arith

pub rows_laid : (w n : ℕ) (rs : List (List ℕ)) → Wide w rs → length rs ≤ n → rows w (length rs) (laid w n rs) ≡ rs
rows_laid w n rs wide h = ap (rows w (length rs)) (laid_is w n rs h) ∙ rows_flat w rs _ wide

pub laid_length : (w n : ℕ) (rs : List (List ℕ)) → Wide w rs → length rs ≤ n → length (laid w n rs) ≡ w * n
laid_length w n rs wide h =
    let size : w * length rs + w * (n - length rs) ≡ w * n = sym (mul-add w (length rs) (n - length rs)) ∙ ap (λ i. w * i) count in
    ap length (laid_is w n rs h)
    ∙ length-append (flat rs) (replicate (w * (n - length rs)) 0)
    ∙ ap₂ ◌+◌ (flat_length w rs wide) (length-replicate (w * (n - length rs)) 0)
    ∙ size
  where
    count : length rs + (n - length rs) ≡ n
    count = omega arith

-- a row put in at m before the end of c entries: all that there are, or all but the last one, which is gone then
laid_put : (w n m c : ℕ) (rs : List (List ℕ)) (row : List ℕ) → Wide w rs → length row ≡ w → m ≤ c → c ≤ length rs → length rs ≤ c + 1 → c < n → length rs ≤ n → put_cells (w * m) (w * c) row (laid w n rs) ≡ laid w n (inserted (take c rs) m row)
laid_put w n m c rs row wide long h low high room fits =
    let xs : List ℕ = laid w n rs in
    let ys : List ℕ = put_cells (w * m) (w * c) row xs in
    let size : w * (c + 1) ≡ w * c + w = ap (λ i. w * i) (add-one c) ∙ mul-suc w c in
    let whole : length xs ≡ w * n = laid_length w n rs wide fits in
    let inside : w * (c + 1) ≤ w * n = mul-le-mul_left w (omega arith) in
    let first : w * m ≤ w * c = mul-le-mul_left w h in
    let end : w * c ≤ length xs = omega arith in
    let place : w * (c + 1) ≡ w * c + length row = omega arith in
    let before : rows w c xs ≡ take c rs =
    sym (rows_take w c (length rs - c) xs) ∙ ap (λ i. take c (rows w i xs)) count ∙ ap (take c) (rows_laid w n rs wide fits) in
    let zeros : drop (w * (c + 1)) ys ≡ replicate (w * (n - (c + 1))) 0 =
    ap (λ i. drop i ys) place
    ∙ drop_put (w * m) (w * c) row xs first end
    ∙ ap (λ i. drop i xs) (sym place)
    ∙ laid_behind w n (c + 1) rs wide high (omega arith) in
    laid_from w n (c + 1) ys (omega arith) zeros
    ∙ ap (laid w n) (rows_put w m c (w * m) (w * c) row xs ys end refl refl refl long h ∙ ap (λ t. inserted t m row) before)
  where
    count : c + (length rs - c) ≡ length rs
    count = omega arith

-- the m-th of c + 1 entries cut out
laid_cut : (w n m c : ℕ) (rs : List (List ℕ)) → Wide w rs → length rs ≡ c + 1 → m ≤ c → c < n → cut_cells (w * m) (w * (c + 1)) w (laid w n rs) ≡ laid w n (removed rs m)
laid_cut w n m c rs wide long h room =
    let xs : List ℕ = laid w n rs in
    let ys : List ℕ = cut_cells (w * m) (w * (c + 1)) w xs in
    let size : w * (c + 1) ≡ w * c + w = ap (λ i. w * i) (add-one c) ∙ mul-suc w c in
    let whole : length xs ≡ w * n = laid_length w n rs wide (omega arith) in
    let inside : w * (c + 1) ≤ w * n = mul-le-mul_left w (omega arith) in
    let first : w * m ≤ w * c = mul-le-mul_left w h in
    let end : w * (c + 1) ≤ length xs = omega arith in
    let before : rows w (c + 1) xs ≡ rs = ap (λ i. rows w i xs) (sym long) ∙ rows_laid w n rs wide (omega arith) in
    let freed : w + w * (n - (c + 1)) ≡ w * (n - c) = omega (arith, mul-suc w (n - (c + 1)), ap (λ i. w * i) less) in
    let zeros : drop (w * c) ys ≡ replicate (w * (n - c)) 0 =
    drop_cut (w * m) (w * (c + 1)) w (w * c) xs (omega arith) end (sym size)
    ∙ ap (λ t. replicate w 0 ++ t) (laid_behind w n (c + 1) rs wide (omega arith) (omega arith))
    ∙ replicate-append-replicate w (w * (n - (c + 1))) 0
    ∙ ap (λ i. replicate i 0) freed in
    laid_from w n c ys (omega arith) zeros
    ∙ ap (laid w n) (rows_cut w m c (w * m) (w * (c + 1)) xs ys end refl refl refl h ∙ ap (λ t. removed t m) before)
  where
    less : suc (n - (c + 1)) ≡ n - c
    less = omega arith

gaps : (j k n : ℕ) → j ≤ k → k ≤ n → k - j + (n - k) ≡ n - j
gaps j k n h l = omega arith

-- those that pass are kept
laid_kept : (p : List ℕ → Bool) (w n : ℕ) (rs : List (List ℕ)) → Wide w rs → length rs ≤ n → kept_cells p w (length rs) (laid w n rs) ≡ laid w n (kept p rs)
laid_kept p w n rs wide h =
    let k : ℕ = length rs in
    let j : ℕ = length (kept p rs) in
    let fewer : j ≤ k = kept_length p rs in
    let freed : w * (k - j) + w * (n - k) ≡ w * (n - j) = sym (mul-add w (k - j) (n - k)) ∙ ap (λ i. w * i) (gaps j k n fewer h) in
    let zeros : replicate (w * (k - j)) 0 ++ drop (w * k) (laid w n rs) ≡ replicate (w * (n - j)) 0 =
    ap (λ t. replicate (w * (k - j)) 0 ++ t) (laid_behind w n k rs wide (omega arith) h)
    ∙ replicate-append-replicate (w * (k - j)) (w * (n - k)) 0
    ∙ ap (λ i. replicate i 0) freed in
    ap (λ t. flat (kept p t) ++ (replicate (w * (k - length (kept p t))) 0 ++ drop (w * k) (laid w n rs))) (rows_laid w n rs wide h)
    ∙ ap (λ t. flat (kept p rs) ++ t) zeros
    ∙ sym (laid_is w n (kept p rs) (omega arith))

pub regions_stay_laid : RegionsStayLaid
regions_stay_laid = record { put = laid_put; cut = laid_cut; some_kept = laid_kept }

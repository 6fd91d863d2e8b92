-- Laws of `rows`, whatever the width: what the first of two counts have, what the rest has, and that only the cells of the entries matter.
use Rattle.std.proofs.Common.{◌≡◌, ℕ, zero, suc, ◌+◌, ◌-◌, ◌*◌, ◌<◌, ◌≤◌, Bool, true, false, cond, List, [], ◌∷◌, ◌++◌, length, take, drop, replicate, sym, refl, ap, ◌∙◌, ap₂, append_assoc, suc-add, mul-zero, zero-add, mul-suc, mul-add, arith, length-append, length-drop, length-take, take-take, drop-drop, take_at, take-add, drop_at}
use Rattle.std.specs.Simd.{first_chunks}
use Rattle.std.proofs.lemmas.List.{drop-take}
use Rattle.rows.specs.Rows.{Wide, rows, flat, kept, inserted, removed, put_cells, cut_cells}

-- lists with the same first w * n cells have the same first n entries
pub rows_same : (w n : ℕ) (xs ys : List ℕ) → take (w * n) xs ≡ take (w * n) ys → rows w n xs ≡ rows w n ys
unfolding rows
rows_same w zero xs ys e = refl
rows_same w (suc n) xs ys e =
    let size : w * suc n ≡ w + w * n = omega (arith, mul-suc w n) in
    let fits : w ≤ w * suc n = omega arith in
    let both : take (w + w * n) xs ≡ take (w + w * n) ys = rw size at e in
    ap₂ ◌∷◌
    (sym (take-take w (w + w * n) xs (omega arith)) ∙ ap (take w) both ∙ take-take w (w + w * n) ys (omega arith))
    (rows_same w n (drop w xs) (drop w ys) (sym (drop-take w (w * n) xs) ∙ ap (drop w) both ∙ drop-take w (w * n) ys))

-- they are the arrays of as many numbers
pub chunks_are : (w n : ℕ) (xs : List ℕ) → first_chunks w n xs ≡ rows w n xs
unfolding rows
chunks_are w zero xs = refl
chunks_are w (suc n) xs = ap (λ t. take w xs ∷ t) (chunks_are w n (drop w xs))

-- the first m of m + n entries, then the n that stand behind them
pub rows_add : (w m n : ℕ) (xs : List ℕ) → rows w (m + n) xs ≡ rows w m xs ++ rows w n (drop (w * m) xs)
unfolding rows
rows_add w zero n xs = ap (λ k. rows w k xs) (zero-add n) ∙ ap (λ k. rows w n (drop k xs)) (sym (mul-zero w))
rows_add w (suc m) n xs =
    let size : w + w * m ≡ w * suc m = omega (arith, mul-suc w m) in
    ap (λ k. rows w k xs) (suc-add m n)
    ∙ ap (λ t. take w xs ∷ t)
    (rows_add w m n (drop w xs)
    ∙ ap (λ t. rows w m (drop w xs) ++ rows w n t) (drop-drop (w * m) w xs ∙ ap (λ k. drop k xs) size))

pub rows_length : (w n : ℕ) (xs : List ℕ) → length (rows w n xs) ≡ n
unfolding rows
rows_length w zero xs = refl
rows_length w (suc n) xs = ap suc (rows_length w n (drop w xs))

pub rows_take : (w m n : ℕ) (xs : List ℕ) → take m (rows w (m + n) xs) ≡ rows w m xs
rows_take w m n xs =
    ap (take m) (rows_add w m n xs) ∙ take_at (rows w m xs) (rows w n (drop (w * m) xs)) m (rows_length w m xs)

pub rows_drop : (w m n : ℕ) (xs : List ℕ) → drop m (rows w (m + n) xs) ≡ rows w n (drop (w * m) xs)
rows_drop w m n xs =
    ap (drop m) (rows_add w m n xs) ∙ drop_at (rows w m xs) (rows w n (drop (w * m) xs)) m (rows_length w m xs)

-- the entry at a place, and those behind it
pub rows_at : (w n i : ℕ) (xs : List ℕ) → i < n → drop i (rows w n xs) ≡ take w (drop (w * i) xs) ∷ drop (suc i) (rows w n xs)
unfolding rows
rows_at w n i xs h =
    let k : ℕ = n - suc i in
    let here : n ≡ i + suc k = omega arith in
    let behind : n ≡ suc i + k = omega arith in
    let next : w * i + w ≡ w * suc i = sym (mul-suc w i) in
    ap (λ j. drop i (rows w j xs)) here
    ∙ rows_drop w i (suc k) xs
    ∙ ap (λ t. take w (drop (w * i) xs) ∷ t)
    (ap (rows w k) (drop-drop w (w * i) xs ∙ ap (λ j. drop j xs) next)
    ∙ sym (ap (λ j. drop (suc i) (rows w j xs)) behind ∙ rows_drop w (suc i) k xs))

-- the cells of the first n entries
pub flat_rows : (w n : ℕ) (xs : List ℕ) → flat (rows w n xs) ≡ take (w * n) xs
unfolding rows flat
flat_rows w zero xs = ap (λ k. take k xs) (sym (mul-zero w))
flat_rows w (suc n) xs =
    let size : w + w * n ≡ w * suc n = omega (arith, mul-suc w n) in
    ap (λ t. take w xs ++ t) (flat_rows w n (drop w xs)) ∙ sym (take-add w (w * n) xs) ∙ ap (λ k. take k xs) size

-- one entry, and those behind it
pub rows_cons : (w n : ℕ) (row xs : List ℕ) → length row ≡ w → rows w (suc n) (row ++ xs) ≡ row ∷ rows w n xs
unfolding rows
rows_cons w n row xs e = ap₂ (λ r t. r ∷ rows w n t) (take_at row xs w e) (drop_at row xs w e)

-- entries whose cells are a front of the list
pub rows_front : (w n : ℕ) (xs ys zs : List ℕ) → length ys ≡ w * n → take (w * n) xs ≡ ys → rows w n (ys ++ zs) ≡ rows w n xs
rows_front w n xs ys zs l e = rows_same w n (ys ++ zs) xs (take_at ys zs (w * n) l ∙ sym e)

-- a row put in at the place of the m-th of m + n entries
put_add : (w m n : ℕ) (row xs : List ℕ) → length row ≡ w → w * (m + n) ≤ length xs → rows w (m + suc n) (put_cells (w * m) (w * (m + n)) row xs) ≡ inserted (rows w (m + n) xs) m row
put_add w m n row xs e l =
    let size : w * (m + n) ≡ w * m + w * n = mul-add w m n in
    let behind : List ℕ = drop (w * (m + n) + length row) xs in
    let moved : List ℕ = take (w * (m + n) - w * m) (drop (w * m) xs) in
    let rest : List ℕ = row ++ (moved ++ behind) in
    let many : w * (m + n) - w * m ≡ w * n = omega (arith, size) in
    let first : length (take (w * m) xs) ≡ w * m = simp length-take (omega (arith, size)) in
    let long : length moved ≡ w * n = simp (length-take, length-drop) (omega (arith, size)) in
    rows_add w m (suc n) (take (w * m) xs ++ rest)
    ∙ ap₂ ◌++◌
    (rows_front w m xs (take (w * m) xs) rest first refl ∙ sym (rows_take w m n xs))
    (ap (rows w (suc n)) (drop_at (take (w * m) xs) rest (w * m) first)
    ∙ rows_cons w n row (moved ++ behind) e
    ∙ ap (λ t. row ∷ t)
    (rows_front w n (drop (w * m) xs) moved behind long (ap (λ k. take k (drop (w * m) xs)) (sym many)) ∙ sym (rows_drop w m n xs)))

pub rows_put : (w m n start end : ℕ) (row xs ys : List ℕ) → end ≤ length xs → ys ≡ put_cells start end row xs → start ≡ w * m → end ≡ w * n → length row ≡ w → m ≤ n → rows w (n + 1) ys ≡ inserted (rows w n xs) m row
rows_put w m n start end row xs ys l e s t long h =
    let count : m + (n - m) ≡ n = omega arith in
    let more : n + 1 ≡ m + suc (n - m) = omega arith in
    let place : end ≡ w * (m + (n - m)) = t ∙ ap (λ k. w * k) (sym count) in
    let fits : w * (m + (n - m)) ≤ length xs = omega (arith, place) in
    ap₂ (rows w) more e
    ∙ ap₂ (λ a b. rows w (m + suc (n - m)) (put_cells a b row xs)) s place
    ∙ put_add w m (n - m) row xs long fits
    ∙ ap (λ k. inserted (rows w k xs) m row) count

-- behind the row's new end nothing changes
pub drop_put : (start end : ℕ) (row xs : List ℕ) → start ≤ end → end ≤ length xs → drop (end + length row) (put_cells start end row xs) ≡ drop (end + length row) xs
drop_put start end row xs h l =
    let moved : List ℕ = take (end - start) (drop start xs) in
    let behind : List ℕ = drop (end + length row) xs in
    let front : List ℕ = take start xs ++ (row ++ moved) in
    let long : length front ≡ end + length row = simp (length-append, length-take, length-drop) (omega arith) in
    let apart : put_cells start end row xs ≡ front ++ behind = simp append_assoc in
    ap (drop (end + length row)) apart ∙ drop_at front behind (end + length row) long

-- the m-th of m + n + 1 entries cut out
cut_add : (w m n : ℕ) (xs : List ℕ) → w * (m + suc n) ≤ length xs → rows w (m + n) (cut_cells (w * m) (w * (m + suc n)) w xs) ≡ removed (rows w (m + suc n) xs) m
cut_add w m n xs l =
    let size : w * (m + suc n) ≡ w * m + (w * n + w) = mul-add w m (suc n) ∙ ap (λ k. w * m + k) (mul-suc w n) in
    let next : w * m + w ≡ w * suc m = sym (mul-suc w m) in
    let moved : List ℕ = take (w * (m + suc n) - (w * m + w)) (drop (w * m + w) xs) in
    let behind : List ℕ = replicate w 0 ++ drop (w * (m + suc n)) xs in
    let many : w * (m + suc n) - (w * m + w) ≡ w * n = omega (arith, size) in
    let first : length (take (w * m) xs) ≡ w * m = simp length-take (omega (arith, size)) in
    let long : length moved ≡ w * n = simp (length-take, length-drop) (omega (arith, size)) in
    let count : suc m + n ≡ m + suc n = omega arith in
    rows_add w m n (take (w * m) xs ++ (moved ++ behind))
    ∙ ap₂ ◌++◌
    (rows_front w m xs (take (w * m) xs) (moved ++ behind) first refl ∙ sym (rows_take w m (suc n) xs))
    (ap (rows w n) (drop_at (take (w * m) xs) (moved ++ behind) (w * m) first)
    ∙ rows_front w n (drop (w * m + w) xs) moved behind long (ap (λ k. take k (drop (w * m + w) xs)) (sym many))
    ∙ ap (λ k. rows w n (drop k xs)) next
    ∙ sym (rows_drop w (suc m) n xs)
    ∙ ap (λ k. drop (suc m) (rows w k xs)) count)

pub rows_cut : (w m n start end : ℕ) (xs ys : List ℕ) → end ≤ length xs → ys ≡ cut_cells start end w xs → start ≡ w * m → end ≡ w * (n + 1) → m ≤ n → rows w n ys ≡ removed (rows w (n + 1) xs) m
rows_cut w m n start end xs ys l e s t h =
    let count : n ≡ m + (n - m) = omega arith in
    let more : n + 1 ≡ m + suc (n - m) = omega arith in
    let place : end ≡ w * (m + suc (n - m)) = t ∙ ap (λ k. w * k) more in
    let fits : w * (m + suc (n - m)) ≤ length xs = omega (arith, place) in
    ap₂ (rows w) count e
    ∙ ap₂ (λ a b. rows w (m + (n - m)) (cut_cells a b w xs)) s place
    ∙ cut_add w m (n - m) xs fits
    ∙ ap (λ k. removed (rows w k xs) m) (sym more)

-- behind what is left come the freed cells
pub drop_cut : (start end width n : ℕ) (xs : List ℕ) → start + width ≤ end → end ≤ length xs → n + width ≡ end → drop n (cut_cells start end width xs) ≡ replicate width 0 ++ drop end xs
drop_cut start end width n xs h l e =
    let moved : List ℕ = take (end - (start + width)) (drop (start + width) xs) in
    let behind : List ℕ = replicate width 0 ++ drop end xs in
    let long : length (take start xs ++ moved) ≡ n = simp (length-append, length-take, length-drop) (omega arith) in
    ap (drop n) (sym (append_assoc (take start xs) moved behind)) ∙ drop_at (take start xs ++ moved) behind n long

pub flat_append : (rs ss : List (List ℕ)) → flat (rs ++ ss) ≡ flat rs ++ flat ss
unfolding flat
flat_append [] ss = refl
flat_append (r ∷ rs) ss = ap (λ t. r ++ t) (flat_append rs ss) ∙ sym (append_assoc r (flat rs) (flat ss))

pub kept_append : {X : Type 0} (p : X → Bool) (xs ys : List X) → kept p (xs ++ ys) ≡ kept p xs ++ kept p ys
unfolding kept
kept_append p [] ys = refl
kept_append p (x ∷ xs) ys =
    let more = kept_append p xs ys in
    elim (p x) as (λ b. cond b (x ∷ kept p (xs ++ ys)) (kept p (xs ++ ys)) ≡ cond b (x ∷ kept p xs) (kept p xs) ++ kept p ys) [
      | true ↦ ap (λ t. x ∷ t) more
      | false ↦ more
    ]

pub kept_length : {X : Type 0} (p : X → Bool) (xs : List X) → length (kept p xs) ≤ length xs
unfolding kept
kept_length p [] = omega arith
kept_length p (x ∷ xs) =
    let fewer = kept_length p xs in
    elim (p x) as (λ b. length (cond b (x ∷ kept p xs) (kept p xs)) ≤ suc (length xs)) [ true ↦ omega arith | false ↦ omega arith ]

-- entries that all have the width: those of enough cells, and those of them that are kept; they are the entries of their cells
pub wide_rows : (w n : ℕ) (xs : List ℕ) → w * n ≤ length xs → Wide w (rows w n xs)
unfolding rows
wide_rows w zero xs l = tt
wide_rows w (suc n) xs l =
    let size = mul-suc w n in
    (simp length-take (omega arith), wide_rows w n (drop w xs) (simp length-drop (omega arith)))

pub wide_kept : (w : ℕ) (p : List ℕ → Bool) (rs : List (List ℕ)) → Wide w rs → Wide w (kept p rs)
unfolding kept
wide_kept w p [] h = tt
wide_kept w p (r ∷ rs) h =
    elim (p r) as (λ b. Wide w (cond b (r ∷ kept p rs) (kept p rs))) [ true ↦ (h.0, wide_kept w p rs h.1) | false ↦ wide_kept w p rs h.1 ]

pub rows_flat : (w : ℕ) (rs : List (List ℕ)) (xs : List ℕ) → Wide w rs → rows w (length rs) (flat rs ++ xs) ≡ rs
unfolding rows flat
rows_flat w [] xs h = refl
rows_flat w (r ∷ rs) xs h =
    ap (rows w (suc (length rs))) (append_assoc r (flat rs) xs)
    ∙ rows_cons w (length rs) r (flat rs ++ xs) h.0
    ∙ ap (λ t. r ∷ t) (rows_flat w rs xs h.1)

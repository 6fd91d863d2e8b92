-- What is done with the entries of a region is done with the list that it holds.
use Rattle.std.proofs.Common.{◌≡◌, ℕ, zero, suc, ◌+◌, ◌-◌, ◌*◌, ◌<◌, ◌≤◌, min, Bool, List, [], ◌∷◌, ◌++◌, length, take, drop, set, sym, ap, ◌∙◌, ap₂, append_assoc, append-nil, le_of_suc-le-suc, not-suc-le-zero, mul-zero, mul-suc, arith, length-set, length-take, drop-drop, drop_at}
use borrow.Rule.Slice.PartMut.{put_mid}
use lib.Seq.{take-append-add}
use Rattle.std.proofs.lemmas.List.{drop_all, take_all}
use Rattle.std.proofs.lemmas.List.Edits.{length-insert, length-remove}
use Rattle.rows.specs.Rows.{Wide, rows, laid, inserted, removed, kept, put_cells, cut_cells, kept_cells}
use Rattle.rows.proofs.Inserted.{take_inserted}
use Rattle.rows.proofs.Laws.{rows_at}
use Rattle.rows.proofs.Laid.{regions_stay_laid, rows_laid}
use Rattle.lists.specs.Lists.{counted, Region}

-- the entry at a place, as the code lends it
pub entry_there : (w n i from : ℕ) (xs : List ℕ) (rs : List (List ℕ)) → Region w n rs xs → from ≡ 1 + w * i → i < length rs → drop i rs ≡ take (from + w - from) (drop from xs) ∷ drop (suc i) rs
entry_there w n i from xs rs r place h =
    let size : from + w - from ≡ w = omega arith in
    let here : take w (drop (w * i) (laid w n rs)) ≡ take (from + w - from) (drop from xs) =
    ap (λ ys. take w (drop (w * i) (drop 1 ys))) (sym r.is)
    ∙ ap (take w) (drop-drop (w * i) 1 xs ∙ ap (λ j. drop j xs) (sym place))
    ∙ ap (λ j. take j (drop from xs)) (sym size) in
    let all = rows_laid w n rs r.wide r.few in
    ap (drop i) (sym all)
    ∙ rows_at w (length rs) i (laid w n rs) h
    ∙ ap (λ t. t ∷ drop (suc i) (rows w (length rs) (laid w n rs))) here
    ∙ ap (λ t. take (from + w - from) (drop from xs) ∷ drop (suc i) t) all

-- the numbers behind the count, as the code lends them
pub lent : (w n : ℕ) (rs : List (List ℕ)) (xs : List ℕ) → xs ≡ counted w n rs → take (length xs - 1) (drop 1 xs) ≡ laid w n rs
lent w n rs xs e =
    let long = ap length e in
    ap (λ ys. take (length ys - 1) (drop 1 ys)) e ∙ take_all _ (laid w n rs) (omega arith)

-- the count and the numbers behind it written anew
pub rewritten : (w n v k : ℕ) (rs ss : List (List ℕ)) (xs part : List ℕ) → xs ≡ counted w n rs → k ≡ length xs - 1 → length part ≡ length (take k (drop 1 xs)) → part ≡ laid w n ss → v ≡ length ss → set (put_mid 1 k xs part) 0 v ≡ counted w n ss
rewritten w n v k rs ss xs part e size same p count =
    let long = ap length e in
    let all : k ≡ length (laid w n rs) = omega arith in
    ap (λ ys. set (put_mid 1 k ys part) 0 v) e
    ∙ ap₂ (λ c t. c ∷ (part ++ t)) count (drop_all k (laid w n rs) (omega arith))
    ∙ ap (λ t. length ss ∷ t) (append-nil part ∙ p)

-- an entry put in where there is room before the end
pub inserts : (w n m k c : ℕ) (row xs part : List ℕ) (rs : List (List ℕ)) → Region w n rs xs → m ≤ length rs → m < n → length row ≡ w → k ≡ length xs - 1 → length part ≡ length (take k (drop 1 xs)) → c ≡ min (length rs) (n - 1) → part ≡ put_cells (w * m) (w * c) row (take k (drop 1 xs)) → set (put_mid 1 k xs part) 0 (c + 1) ≡ counted w n (take n (inserted rs m row))
inserts w n m k c row xs part rs r h room long size same least cells =
    let few = r.few in
    let ss : List (List ℕ) = take n (inserted rs m row) in
    let more : ss ≡ inserted (take c rs) m row = take_inserted n m row rs h room ∙ ap (λ i. inserted (take i rs) m row) (sym least) in
    let first : length (take c rs) ≡ c = simp length-take (omega arith) in
    let many : length ss ≡ c + 1 = ap length more ∙ length-insert (take c rs) m row (omega arith) ∙ ap (λ i. i + 1) first in
    let held = ap (λ j. take j (drop 1 xs)) size ∙ lent w n rs xs r.is in
    let after : part ≡ laid w n ss =
    cells
    ∙ ap (put_cells (w * m) (w * c) row) held
    ∙ regions_stay_laid.put w n m c rs row r.wide long (omega arith) (omega arith) (omega arith) (omega arith) few
    ∙ ap (laid w n) (sym more) in
    rewritten w n (c + 1) k rs ss xs part r.is size same after (sym many)

-- an entry cut out
pub removes : (w n m k j : ℕ) (xs part : List ℕ) (rs : List (List ℕ)) → Region w n rs xs → m < length rs → k ≡ length xs - 1 → length part ≡ length (take k (drop 1 xs)) → j ≡ length rs → part ≡ cut_cells (w * m) (w * j) w (take k (drop 1 xs)) → set (put_mid 1 k xs part) 0 (j - 1) ≡ counted w n (removed rs m)
removes w n m k j xs part rs r h size same count cells =
    let few = r.few in
    let c : ℕ = length rs - 1 in
    let all : j ≡ c + 1 = omega arith in
    let fewer : j - 1 ≡ length (removed rs m) = omega (arith, length-remove rs m h) in
    let held = ap (λ j. take j (drop 1 xs)) size ∙ lent w n rs xs r.is in
    let after : part ≡ laid w n (removed rs m) =
    cells
    ∙ ap₂ (λ i ys. cut_cells (w * m) (w * i) w ys) all held
    ∙ regions_stay_laid.cut w n m c rs r.wide (omega arith) (omega arith) (omega arith) in
    rewritten w n (j - 1) k rs (removed rs m) xs part r.is size same after fewer

-- those that pass kept
pub keeps : (test : List ℕ → Bool) (w n k j v : ℕ) (xs part : List ℕ) (rs : List (List ℕ)) → Region w n rs xs → k ≡ length xs - 1 → length part ≡ length (take k (drop 1 xs)) → j ≡ length rs → part ≡ kept_cells test w j (take k (drop 1 xs)) → v ≡ length (kept test (rows w j (take k (drop 1 xs)))) → set (put_mid 1 k xs part) 0 v ≡ counted w n (kept test rs)
keeps test w n k j v xs part rs r size same all cells count =
    let held = ap (λ j. take j (drop 1 xs)) size ∙ lent w n rs xs r.is in
    let after : part ≡ laid w n (kept test rs) =
    cells ∙ ap₂ (kept_cells test w) all held ∙ regions_stay_laid.some_kept test w n rs r.wide r.few in
    let stay : v ≡ length (kept test rs) =
    count ∙ ap₂ (λ i ys. length (kept test (rows w i ys))) all held ∙ ap (λ ss. length (kept test ss)) (rows_laid w n rs r.wide r.few) in
    rewritten w n v k rs (kept test rs) xs part r.is size same after stay

-- a write behind the count
over_head : (w m v : ℕ) (row xs : List ℕ) → put_mid (1 + w * m) w (v ∷ xs) row ≡ v ∷ put_mid (w * m) w xs row
over_head w m v row xs =
    let next : 1 + w * m ≡ suc (w * m) = omega arith in
    ap (λ i. put_mid i w (v ∷ xs) row) next

-- a write behind an entry
behind_row : (w k : ℕ) (row r xs : List ℕ) → length r ≡ w → put_mid (w + k) w (r ++ xs) row ≡ r ++ put_mid k w xs row
behind_row w k row r xs long =
    let front : take (w + k) (r ++ xs) ≡ r ++ take k xs =
    ap (λ i. take (i + k) (r ++ xs)) (sym long) ∙ take-append-add r xs k in
    let back : drop (w + k) (r ++ xs) ≡ drop k xs =
    sym (drop-drop k w (r ++ xs)) ∙ ap (drop k) (drop_at r xs w long) in
    ap₂ (λ a b. a ++ (row ++ drop w b)) front back ∙ append_assoc r (take k xs) (row ++ drop w (drop k xs))

-- the numbers of one entry written over
laid_set : (w n m : ℕ) (row : List ℕ) (rs : List (List ℕ)) → Wide w rs → length rs ≤ n → m < length rs → length row ≡ w → put_mid (w * m) w (laid w n rs) row ≡ laid w n (set rs m row)
unfolding laid
laid_set w n m row [] wide few h long = absurd (not-suc-le-zero h)
laid_set w zero m row (r ∷ rs) wide few h long = absurd (not-suc-le-zero few)
laid_set w (suc n) zero row (r ∷ rs) wide few h long =
    ap (λ i. put_mid i w (r ++ laid w n rs) row) (mul-zero w)
    ∙ ap (λ t. row ++ t) (drop_at r (laid w n rs) w wide.0)
laid_set w (suc n) (suc m) row (r ∷ rs) wide few h long =
    let next : w * suc m ≡ w + w * m = omega (arith, mul-suc w m) in
    ap (λ i. put_mid i w (r ++ laid w n rs) row) next
    ∙ behind_row w (w * m) row r (laid w n rs) wide.0
    ∙ ap (λ t. r ++ t) (laid_set w n m row rs wide.1 (le_of_suc-le-suc few) (le_of_suc-le-suc h) long)

-- an entry in the place of another
pub replaces : (w n m k : ℕ) (row xs part : List ℕ) (rs : List (List ℕ)) → Region w n rs xs → m < length rs → k ≡ w → part ≡ row → length row ≡ w → put_mid (1 + w * m) k xs part ≡ counted w n (set rs m row)
replaces w n m k row xs part rs r h size same long =
    ap₂ (λ ys j. put_mid (1 + w * m) j ys part) r.is size
    ∙ ap (λ ys. put_mid (1 + w * m) w (counted w n rs) ys) same
    ∙ over_head w m (length rs) row (laid w n rs)
    ∙ ap₂ ◌∷◌ (sym (length-set rs m row)) (laid_set w n m row rs r.wide r.few h long)

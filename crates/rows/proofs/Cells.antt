-- A shift and then a write of one part: the cells that `put` and `cut` promise.
use Rattle.std.proofs.Common.{◌≡◌, ℕ, ◌+◌, ◌-◌, ◌≤◌, List, ◌++◌, length, take, drop, replicate, sym, ap, ◌∙◌, append_assoc, arith, length-append, length-drop, length-take, take-take, drop-drop, take_at, drop_at}
use lib.Seq.{paste, length-paste, take-append-le}
use borrow.Rule.Slice.PartMut.{put_mid}
use Rattle.rows.specs.Rows.{put_cells, cut_cells}

-- what stands before `at` stays under a shift to it, and behind it come the shifted part and what stood behind that
front_of_shift : (xs part : List ℕ) (at n k : ℕ) → k ≤ at → at ≤ length xs → take k (paste xs at part n) ≡ take k xs
front_of_shift xs part at n k h l =
    let fits : k ≤ length (take at xs) = simp length-take (omega arith) in
    ap (take k) (append_assoc (take at xs) (take n part) (drop (at + n) xs))
    ∙ take-append-le k (take at xs) (take n part ++ drop (at + n) xs) fits
    ∙ take-take k at xs h

back_of_shift : (xs part : List ℕ) (at n : ℕ) → at ≤ length xs → drop at (paste xs at part n) ≡ take n part ++ drop (at + n) xs
back_of_shift xs part at n l =
    ap (drop at) (append_assoc (take at xs) (take n part) (drop (at + n) xs))
    ∙ drop_at (take at xs) (take n part ++ drop (at + n) xs) at (simp length-take (omega arith))

-- the part from start to end is shifted up by a row's length, and the row is written at start
pub put_is : (start end k : ℕ) (row xs mid part : List ℕ) → start ≤ end → end + length row ≤ length xs → mid ≡ paste xs (start + length row) (drop start xs) (end - start) → part ≡ row → k ≡ length row → put_mid start k mid part ≡ put_cells start end row xs
put_is start end k row xs mid part h l e p q =
    let at : ℕ = start + length row in
    let front = ap (take start) e ∙ front_of_shift xs (drop start xs) at (end - start) start (omega arith) (omega arith) in
    let place : start + k ≡ at = omega arith in
    let far : at + (end - start) ≡ end + length row = omega arith in
    let back =
    drop-drop k start mid
    ∙ ap (λ i. drop i mid) place
    ∙ ap (drop at) e
    ∙ back_of_shift xs (drop start xs) at (end - start) (omega arith)
    ∙ ap (λ i. take (end - start) (drop start xs) ++ drop i xs) far in
    cc

-- what stands behind the cut part is shifted down to start, and zeros are written behind it
pub cut_is : (start end width k : ℕ) (xs mid part : List ℕ) → start + width ≤ end → end ≤ length xs → mid ≡ paste xs start (drop (start + width) xs) (end - (start + width)) → part ≡ replicate (length (take k (drop (end - width) mid))) 0 → k ≡ width → put_mid (end - width) k mid part ≡ cut_cells start end width xs
cut_is start end width k xs mid part h l e p q =
    let n : ℕ = end - (start + width) in
    let moved : List ℕ = take n (drop (start + width) xs) in
    let long : n ≤ length (drop (start + width) xs) = simp length-drop (omega arith) in
    let place : end - width ≡ start + n = omega arith in
    let before : length (take start xs ++ moved) ≡ start + n = simp (length-append, length-take) (omega arith) in
    let front =
    ap (λ i. take i mid) place ∙ ap (take (start + n)) e ∙ take_at (take start xs ++ moved) (drop (start + n) xs) (start + n) before
    in
    let far : end - width + k ≡ start + n + width = omega arith in
    let behind : start + n + width ≡ end = omega arith in
    let back =
    drop-drop k (end - width) mid
    ∙ ap (λ i. drop i mid) far
    ∙ sym (drop-drop width (start + n) mid)
    ∙ ap (λ ys. drop width (drop (start + n) ys)) e
    ∙ ap (drop width) (drop_at (take start xs ++ moved) (drop (start + n) xs) (start + n) before)
    ∙ drop-drop width (start + n) xs
    ∙ ap (λ i. drop i xs) behind in
    let whole : length mid ≡ length xs = ap length e ∙ length-paste xs start (drop (start + width) xs) n (omega arith) long in
    let freed : length (take k (drop (end - width) mid)) ≡ width = simp (length-take, length-drop) (omega arith) in
    let zeros : part ≡ replicate width 0 = p ∙ ap (λ i. replicate i 0) freed in
    let apart = append_assoc (take start xs) moved (replicate width 0 ++ drop end xs) in
    cc

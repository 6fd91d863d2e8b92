-- Parts that stand one after another in a list of numbers: where each begins, the part at a place, and another part written there.
use Rattle.std.proofs.Common.{◌≡◌, ℕ, zero, suc, ◌+◌, ◌*◌, ◌<◌, ◌≤◌, List, [], ◌∷◌, ◌++◌, map, length, get_or, take, drop, set, sym, refl, ap, ◌∙◌, ap₂, append_assoc, le_of_suc-le-suc, not-suc-le-zero, mul-zero, mul-suc, arith, length-append, take_at, drop_at}
use borrow.Rule.Slice.PartMut.{put_mid}
use lib.Seq.{take-append-add, drop-append-add}
use Rattle.rows.specs.Rows.{Wide, flat}

-- how many numbers stand before the part at a place
abbrev pub start : List (List ℕ) → ℕ → ℕ
start [] j = 0
start (p ∷ ps) zero = 0
start (p ∷ ps) (suc j) = length p + start ps j

-- the part at a place, as a slice of the whole
part_is : (ps : List (List ℕ)) (j : ℕ) → take (length (get_or ps j [])) (drop (start ps j) (flat ps)) ≡ get_or ps j []
unfolding flat
part_is [] j = refl
part_is (p ∷ ps) zero = take_at p (flat ps) (length p) refl
part_is (p ∷ ps) (suc j) =
    ap (take (length (get_or ps j []))) (drop-append-add p (flat ps) (start ps j)) ∙ part_is ps j

pub part_at : (ps : List (List ℕ)) (j a k : ℕ) → a ≡ start ps j → k ≡ length (get_or ps j []) → take k (drop a (flat ps)) ≡ get_or ps j []
part_at ps j a k e l = ap₂ (λ n m. take n (drop m (flat ps))) l e ∙ part_is ps j

-- another part written at a place is another list of parts
put_is : (ps : List (List ℕ)) (j : ℕ) (part : List ℕ) → j < length ps → put_mid (start ps j) (length (get_or ps j [])) (flat ps) part ≡ flat (set ps j part)
unfolding flat
put_is [] j part h = absurd (omega arith)
put_is (p ∷ ps) zero part h = ap (λ t. part ++ t) (drop_at p (flat ps) (length p) refl)
put_is (p ∷ ps) (suc j) part h =
    let k : ℕ = length (get_or ps j []) in
    ap₂ (λ s t. s ++ (part ++ drop k t)) (take-append-add p (flat ps) (start ps j)) (drop-append-add p (flat ps) (start ps j))
    ∙ append_assoc p (take (start ps j) (flat ps)) (part ++ drop k (drop (start ps j) (flat ps)))
    ∙ ap (λ t. p ++ t) (put_is ps j part (le_of_suc-le-suc h))

pub put_part : (ps : List (List ℕ)) (j a k : ℕ) (part : List ℕ) → j < length ps → a ≡ start ps j → k ≡ length (get_or ps j []) → put_mid a k (flat ps) part ≡ flat (set ps j part)
put_part ps j a k part h e l = ap₂ (λ n m. put_mid n m (flat ps) part) e l ∙ put_is ps j part h

-- before the j-th of parts of one width stand j times as many numbers
pub start_wide : (w : ℕ) (ps : List (List ℕ)) (j : ℕ) → Wide w ps → j ≤ length ps → start ps j ≡ w * j
start_wide w [] zero wide h = sym (mul-zero w)
start_wide w [] (suc j) wide h = absurd (not-suc-le-zero h)
start_wide w (p ∷ ps) zero wide h = sym (mul-zero w)
start_wide w (p ∷ ps) (suc j) wide h = omega (arith, wide.0, start_wide w ps j wide.1 (le_of_suc-le-suc h), mul-suc w j)

-- the same by the lengths of the parts alone, and the length of one
abbrev pub before : List ℕ → ℕ → ℕ
before [] j = 0
before (k ∷ ks) zero = 0
before (k ∷ ks) (suc j) = k + before ks j

pub start_before : (ps : List (List ℕ)) (j : ℕ) → start ps j ≡ before (map length ps) j
start_before [] j = refl
start_before (p ∷ ps) zero = refl
start_before (p ∷ ps) (suc j) = ap (λ n. length p + n) (start_before ps j)

pub length_at : (ps : List (List ℕ)) (j : ℕ) → length (get_or ps j []) ≡ get_or (map length ps) j 0
length_at [] j = refl
length_at (p ∷ ps) zero = refl
length_at (p ∷ ps) (suc j) = length_at ps j

-- how many numbers they have together
pub whole_length : (ps : List (List ℕ)) → length (flat ps) ≡ start ps (length ps)
unfolding flat
whole_length [] = refl
whole_length (p ∷ ps) = length-append p (flat ps) ∙ ap (λ n. length p + n) (whole_length ps)

pub wide_length : (w : ℕ) (ps : List (List ℕ)) → Wide w ps → length (flat ps) ≡ w * length ps
wide_length w ps wide = whole_length ps ∙ start_wide w ps (length ps) wide (omega arith)

-- A byte, and eight bytes, as a number: as they are read one by one, and as they are written.
use Rattle.std.proofs.Common.{◌≡◌, ℕ, suc, ◌+◌, ◌-◌, ◌*◌, ◌/◌, ◌%◌, ◌<◌, ◌≤◌, List, [], ◌∷◌, length, get_or, take, drop, set, Some, Option, refl, ap, ◌∙◌, arith, drop-cons, drop-drop, length-drop, length-take-le, take-take, MatchOption}
use Rattle.std.specs.Borrow.{Bor}
use Rattle.std.specs.Array.{IsFirstChunk}
use Rattle.std.proofs.lemmas.List.{take_rest}
use native.Mathlib.Nat.{div-div-eq-div-mul}
use lib.Seq.{set_split}
use borrow.Rule.Slice.PartMut.{put_mid}
use Rattle.wire.specs.Bytes.{le_bytes, le_value}
use Rattle.wire.specs.Fixed.{placed}

-- one byte more, the lowest
le_value_more : (k at : ℕ) (bs : List ℕ) → at < length bs → le_value (take (suc k) (drop at bs)) ≡ get_or bs at 0 + 256 * le_value (take k (drop (suc at) bs))
unfolding le_value
le_value_more k at bs h = rw (drop-cons bs at 0 h)

no_bytes : le_value [] ≡ 0
unfolding le_value
no_bytes = refl

pub one_value : (bs : List ℕ) (at : ℕ) → at + 1 ≤ length bs → le_value (take 1 (drop at bs)) ≡ get_or bs at 0
one_value bs at h = omega (arith, le_value_more 0 at bs (omega arith), no_bytes)

eight_value : (bs : List ℕ) → 8 ≤ length bs →
    get_or bs 0 0 + get_or bs 1 0 * 256 + get_or bs 2 0 * 65536 + get_or bs 3 0 * 16777216 + get_or bs 4 0 * 4294967296 + get_or bs 5 0 * 1099511627776 + get_or bs 6 0 * 281474976710656
    + get_or bs 7 0 * 72057594037927936
    ≡ le_value (take 8 bs)
eight_value bs h =
    let e0 = le_value_more 7 0 bs (omega arith) in
    let e1 = le_value_more 6 1 bs (omega arith) in
    let e2 = le_value_more 5 2 bs (omega arith) in
    let e3 = le_value_more 4 3 bs (omega arith) in
    let e4 = le_value_more 3 4 bs (omega arith) in
    let e5 = le_value_more 2 5 bs (omega arith) in
    let e6 = le_value_more 1 6 bs (omega arith) in
    let e7 = le_value_more 0 7 bs (omega arith) in
    omega (arith, no_bytes)

-- eight bytes that were taken out from a place on
pub eight_read : (bs : List ℕ) (at : ℕ) (r : Option (Bor (List ℕ))) {y : Bor (List ℕ)} → at + 8 ≤ length bs
    → MatchOption r (length (take (length bs - at) (drop at bs)) < 8) (λ x. IsFirstChunk (take (length bs - at) (drop at bs)) x.now 8) → r ≡ Some y
    → get_or y.now 0 0 + get_or y.now 1 0 * 256 + get_or y.now 2 0 * 65536 + get_or y.now 3 0 * 16777216 + get_or y.now 4 0 * 4294967296 + get_or y.now 5 0 * 1099511627776
    + get_or y.now 6 0 * 281474976710656
    + get_or y.now 7 0 * 72057594037927936
    ≡ le_value (take 8 (drop at bs))
eight_read bs at r {y} l h e =
    let first = rw e at h in
    let rest : take (length bs - at) (drop at bs) ≡ drop at bs = take_rest bs at in
    let same : y.now ≡ take 8 (drop at bs) = rw rest at first.same in
    let long : length (take 8 (drop at bs)) ≡ 8 = length-take-le 8 (drop at bs) (simp length-drop (omega arith)) in
    rw same (eight_value (take 8 (drop at bs)) (omega arith) ∙ ap le_value (take-take 8 8 (drop at bs) (omega arith)))

pub put_one : (xs : List ℕ) (at b : ℕ) → at + 1 ≤ length xs → b < 256 → set xs at b ≡ placed at 1 (le_bytes 1 b) xs
unfolding le_bytes
put_one xs at b inside small =
    let same : b % 256 ≡ b = omega arith in
    let next : at + 1 ≡ suc at = omega arith in
    rw (same, next, set_split xs at b (omega arith))

pub eight_bytes : (n : ℕ) →
    le_bytes 8 n
    ≡ n % 256
    ∷ n / 256 % 256
    ∷ n / 65536 % 256
    ∷ n / 16777216 % 256
    ∷ n / 4294967296 % 256
    ∷ n / 1099511627776 % 256
    ∷ n / 281474976710656 % 256
    ∷ n / 72057594037927936 % 256
    ∷ []
unfolding le_bytes
eight_bytes n = simp div-div-eq-div-mul

-- eight bytes that were copied to a place
pub put_eight : (xs : List ℕ) (at : ℕ) (part new : List ℕ) → part ≡ new → put_mid at (at + 8 - at) xs part ≡ placed at 8 new xs
put_eight xs at part new e =
    let width : at + 8 - at ≡ 8 = omega arith in
    rw (e, width, drop-drop 8 at xs)

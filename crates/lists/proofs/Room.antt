-- The entry at a place fits into the region.
use Rattle.std.proofs.Common.{◌≡◌, ℕ, ◌+◌, ◌-◌, ◌*◌, ◌<◌, ◌≤◌, List, length, take, drop, mul-le-mul_left, mul-suc, arith, length-drop, length-take}

-- the entry at a place ends within the region
pub entry_fits : (w m n k : ℕ) → m < n → 1 + w * n ≤ k → 1 + w * m + w ≤ k
entry_fits w m n k h l = omega (arith, mul-suc w m, mul-le-mul_left w h)

-- and has its width
pub entry_wide : (w m n : ℕ) (xs : List ℕ) → m < n → 1 + w * n ≤ length xs → length (take (1 + w * m + w - (1 + w * m)) (drop (1 + w * m) xs)) ≡ w
entry_wide w m n xs h l =
    let fits : 1 + w * m + w ≤ length xs = entry_fits w m n (length xs) h l in
    simp (length-take, length-drop) (omega arith)

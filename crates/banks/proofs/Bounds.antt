-- Two banks for each duty that may wait: the bank at a place lies within the cells.
use Rattle.std.proofs.Common.{ℕ, suc, ◌+◌, ◌*◌, ◌<◌, ◌≤◌, mul_assoc, mul-le-mul_left, mul-suc, mul_left_comm, arith}

-- n clients and w duties that may wait: the bank at the place p ends within all cells
pub bank_fits : (n p w : ℕ) → p < 2 * w → 18 * n * p + 18 * n ≤ 36 * (n * w)
bank_fits n p w inside =
    let next : suc p ≤ 2 * w = omega arith in
    omega (arith, mul_assoc 18 n p, mul-suc n p, mul_left_comm n 2 w, mul-le-mul_left n next)

-- A wide number in two pieces: its bytes, and what bytes stand for.
use Rattle.std.proofs.Common.{◌≡◌, ℕ, zero, suc, ◌+◌, ◌*◌, ◌/◌, ◌%◌, ◌^◌, ◌<◌, ◌≤◌, List, [], ◌∷◌, ◌++◌, length, take, drop, pow-suc, zero-add, arith, length-take-le, take-add}
use Rattle.wire.specs.Bytes.{le_bytes, le_value}

power_more : (k b : ℕ) → 256 ^ suc k * b ≡ 256 * (256 ^ k * b)
power_more k b = rw pow-suc (omega arith)

-- the bytes of a number of k + m bytes are those of its low and its high piece
pub le_bytes_pieces : (k m a b : ℕ) → a < 256 ^ k → le_bytes (k + m) (a + 256 ^ k * b) ≡ le_bytes k a ++ le_bytes m b
unfolding le_bytes
le_bytes_pieces zero m a b h =
    let high : a + 256 ^ 0 * b ≡ b = omega arith in
    rw (zero-add m, high)
le_bytes_pieces (suc k) m a b h =
    let size : suc k + m ≡ suc (k + m) = omega arith in
    let less : a / 256 < 256 ^ k = omega arith in
    let low : (a + 256 ^ suc k * b) % 256 ≡ a % 256 = omega (arith, power_more k b) in
    let high : (a + 256 ^ suc k * b) / 256 ≡ a / 256 + 256 ^ k * b = omega (arith, power_more k b) in
    rw (size, low, high, le_bytes_pieces k m (a / 256) b less)

-- and the number that bytes stand for is that of the first, and of the rest above it
le_value_append : (xs ys : List ℕ) → le_value (xs ++ ys) ≡ le_value xs + 256 ^ length xs * le_value ys
unfolding le_value
le_value_append [] ys = omega arith
le_value_append (x ∷ xs) ys = omega (arith, le_value_append xs ys, power_more (length xs) (le_value ys))

pub le_value_pieces : (k m : ℕ) (bs : List ℕ) → k ≤ length bs → le_value (take (k + m) bs) ≡ le_value (take k bs) + 256 ^ k * le_value (take m (drop k bs))
le_value_pieces k m bs h = rw (take-add k m bs, le_value_append (take k bs) (take m (drop k bs)), length-take-le k bs h)

-- A root is four numbers that fit into 64 bits each.
use Rattle.std.proofs.Common.{◌≡◌, ℕ, ◌+◌, ◌*◌, ◌/◌, ◌%◌, ◌<◌, [], ◌∷◌, arith}
use Rattle.stored.specs.Numbers.{root_numbers}

-- a low number and what is above it are taken apart again
low : (a b : ℕ) → a < 18446744073709551616 → (a + 18446744073709551616 * b) % 18446744073709551616 ≡ a
low a b h = omega arith

high : (a b : ℕ) → a < 18446744073709551616 → (a + 18446744073709551616 * b) / 18446744073709551616 ≡ b
high a b h = omega arith

-- the numbers that a root was made of
pub four_numbers : (a b c d : ℕ) → a < 18446744073709551616 → b < 18446744073709551616 → c < 18446744073709551616 →
    a ∷ b ∷ c ∷ d ∷ [] ≡ root_numbers (a + 18446744073709551616 * (b + 18446744073709551616 * (c + 18446744073709551616 * d)))
unfolding root_numbers
four_numbers a b c d ha hb hc =
    rw
    (low a (b + 18446744073709551616 * (c + 18446744073709551616 * d)) ha, high a (b + 18446744073709551616 * (c + 18446744073709551616 * d)) ha, low b (c + 18446744073709551616 * d) hb, high b (c + 18446744073709551616 * d) hb, low c d hc, high c d hc)

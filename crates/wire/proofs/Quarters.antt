-- A root as four numbers of eight bytes.
use Rattle.std.proofs.Common.{◌≡◌, ℕ, ◌+◌, ◌*◌, ◌<◌, ◌≤◌, List, ◌++◌, length, take, drop, append_assoc, arith, length-drop, drop-drop}
use Rattle.wire.specs.Bytes.{le_bytes, le_value}
use Rattle.wire.proofs.Pieces.{le_bytes_pieces, le_value_pieces}

pub quarters_bytes : (a b c d : ℕ) → a < 18446744073709551616 → b < 18446744073709551616 → c < 18446744073709551616
    → ((le_bytes 8 a ++ le_bytes 8 b) ++ le_bytes 8 c) ++ le_bytes 8 d ≡ le_bytes 32 (a + 18446744073709551616 * (b + 18446744073709551616 * (c + 18446744073709551616 * d)))
quarters_bytes a b c d ha hb hc =
    rw (le_bytes_pieces 8 24 a (b + 18446744073709551616 * (c + 18446744073709551616 * d)) ha, le_bytes_pieces 8 16 b (c + 18446744073709551616 * d) hb, le_bytes_pieces 8 8 c d hc)
    (simp append_assoc)

pub quarters_value : (bs : List ℕ) → 32 ≤ length bs
    → le_value (take 8 bs) + 18446744073709551616 * (le_value (take 8 (drop 8 bs)) + 18446744073709551616 * (le_value (take 8 (drop 16 bs)) + 18446744073709551616 * le_value (take 8 (drop 24 bs))))
    ≡ le_value (take 32 bs)
quarters_value bs h =
    let first = le_value_pieces 8 24 bs (omega arith) in
    let second = rw (drop-drop 8 8 bs) at (le_value_pieces 8 16 (drop 8 bs) (simp length-drop (omega arith))) in
    let third = rw (drop-drop 8 16 bs) at (le_value_pieces 8 8 (drop 16 bs) (simp length-drop (omega arith))) in
    omega arith

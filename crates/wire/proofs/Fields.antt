-- Fields that are read one by one, each from its place on, make up a root, a duty, data and a share.
use Rattle.std.proofs.Common.{◌≡◌, ℕ, ◌+◌, ◌*◌, ◌≤◌, List, length, drop, arith, length-drop, drop-drop}
use Rattle.wire.specs.declared.values.Data.{Data}
use Rattle.wire.specs.declared.values.Duty.{Duty}
use Rattle.wire.specs.declared.values.Share.{Share}
use Rattle.wire.specs.Bytes.{le_value, data_from, duty_from, share_from, part}
use Rattle.wire.specs.Meaning.{root_of, data_of, duty_of, share_of}
use Rattle.wire.proofs.Quarters.{quarters_value}

pub root_read : (bs : List ℕ) (at a b c d : ℕ) → at + 32 ≤ length bs → a ≡ le_value (part at 8 bs) → b ≡ le_value (part (at + 8) 8 bs) → c ≡ le_value (part (at + 16) 8 bs)
    → d ≡ le_value (part (at + 24) 8 bs)
    → a + 18446744073709551616 * (b + 18446744073709551616 * (c + 18446744073709551616 * d)) ≡ le_value (part at 32 bs)
root_read bs at a b c d l ea eb ec ed =
    let whole = quarters_value (drop at bs) (rw (length-drop at bs) (omega arith)) in
    rw (ea, eb, ec, ed) (rw (drop-drop 8 at bs, drop-drop 16 at bs, drop-drop 24 at bs) at whole)

pub data_read : (d : Data) (bs : List ℕ) (at : ℕ) → d.slot ≡ le_value (part at 8 bs) → d.committee ≡ le_value (part (at + 8) 8 bs)
    → root_of d.block ≡ le_value (part (at + 16) 32 bs) → d.source ≡ le_value (part (at + 48) 8 bs) → root_of d.source_root ≡ le_value (part (at + 56) 32 bs)
    → d.target ≡ le_value (part (at + 88) 8 bs) → root_of d.target_root ≡ le_value (part (at + 96) 32 bs) → data_of d ≡ data_from (drop at bs)
unfolding data_of data_from
data_read d bs at slot committee block source source_root target target_root =
    rw
    (drop-drop 8 at bs, drop-drop 16 at bs, drop-drop 48 at bs, drop-drop 56 at bs, drop-drop 88 at bs, drop-drop 96 at bs, slot, committee, block, source, source_root, target, target_root)

pub duty_read : (y : Duty) (bs : List ℕ) (at : ℕ) → y.slot ≡ le_value (part at 8 bs) → y.committee ≡ le_value (part (at + 8) 8 bs)
    → y.seat ≡ le_value (part (at + 16) 8 bs) → duty_of y ≡ duty_from (drop at bs)
unfolding duty_of duty_from
duty_read y bs at slot committee seat = rw (drop-drop 8 at bs, drop-drop 16 at bs, slot, committee, seat)

pub decided_read : (k : ℕ) (d : Data) (bs : List ℕ) (at : ℕ) → k ≡ le_value (part at 8 bs) → data_of d ≡ data_from (drop (at + 8) bs)
    → (k ≡ le_value (part at 8 bs)) × (data_of d ≡ data_from (drop 8 (drop at bs)))
decided_read k d bs at slot decided = rw (drop-drop 8 at bs) (slot, decided)

pub share_read : (s : Share) (bs : List ℕ) (at : ℕ) → s.who ≡ le_value (part at 1 bs) → data_of s.what ≡ data_from (drop (at + 1) bs) → s.seat ≡ le_value (part (at + 129) 8 bs)
    → share_of s ≡ share_from (drop at bs)
unfolding share_of share_from
share_read s bs at who what seat = rw (drop-drop 1 at bs, drop-drop 129 at bs, who, what, seat)

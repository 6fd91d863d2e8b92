-- The bytes of a block, of values as the code holds them and of a row in lent bytes.
use Rattle.std.proofs.Common.{◌≡◌, ℕ, ◌+◌, ◌*◌, ◌≤◌, List, ◌∷◌, length, take, ap, ◌∙◌, ap₂, arith}
use Rattle.protocol.specs.Client.{block}
use Rattle.wire.specs.Bytes.{AllBytes, data_bytes, data_from}
use Rattle.wire.specs.Meaning.{data_of}
use Rattle.wire.specs.declared.values.Data.{Data}
use Rattle.wire.specs.Laws.{data_coding}
use Rattle.events.specs.Layout.{row_bytes, entries, event_bytes}
use Rattle.events.specs.Writing.{block_bytes}
use Rattle.events.proofs.Done.{row_map, data_coded, data_row}
use Rattle.events.proofs.Entries.{length_entries, entries_again}

pub block_is : (ds : List Data) → block_bytes ds ≡ 3 ∷ row_bytes data_coded ds
unfolding event_bytes
block_is ds = ap (λ bs. 3 ∷ bs) (row_map data_bytes data_of ds)

pub block_long : (ds : List Data) → length (block_bytes ds) ≡ 2 + 128 * length ds
block_long ds = ap length (block_is ds) ∙ omega (arith, data_row ds)

-- a row that reaches as far as its count is written as it lies there
pub lent_is : (n : ℕ) (bs : List ℕ) → AllBytes bs → 128 * n ≤ length bs → event_bytes (block (entries 128 data_from n bs)) ≡ 3 ∷ (n ∷ take (128 * n) bs)
unfolding event_bytes
lent_is n bs h l = ap₂ (λ (m : ℕ) (xs : List ℕ). 3 ∷ (m ∷ xs)) (length_entries 128 data_from n bs) (entries_again data_coding n bs h l)

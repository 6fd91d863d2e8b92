-- What is ahead after a block, made by putting the block's data in one by one. A definition; assumes nothing.
use Rattle.std.specs.Prelude.{ℕ, List, [], ◌∷◌, nat_le}
use Rattle.protocol.specs.Data.{pick, Data, first_of}
use Rattle.protocol.specs.Client.{by_slot}

-- data put in by slots, one after another: what is before slot j is left out, and the first w are kept each time
unfoldable pub taken_in : ℕ → ℕ → List Data → List Data → List Data
taken_in w j [] ys = ys
taken_in w j (d ∷ ds) ys = taken_in w j ds (pick (nat_le j d.slot) (first_of w (by_slot d ys)) ys)

-- What an event's bytes are, which event bytes are, and how an answer is written. Assumes nothing: these are definitions.
use Rattle.std.specs.Prelude.{ℕ, zero, suc, ◌+◌, ◌*◌, Bool, false, ◌&&◌, List, [], ◌∷◌, ◌++◌, length, take, drop, Some, None, Option, ◌==◌, nat_le, nat_lt}
use Rattle.protocol.specs.Data.{pick}
use Rattle.protocol.specs.Client.{Event, duty, decided, share, block, resend, garbled, Answer, refused, does}
use Rattle.wire.specs.Bytes.{le_bytes, le_value, data_bytes, duty_bytes, share_bytes, data_from, duty_from, share_from, part}

-- entries one after the other, and a row of them: their count in a byte, and then the entries
unfoldable pub all_bytes : {A : Type 0} → (A → List ℕ) → List A → List ℕ
all_bytes f [] = []
all_bytes f (x ∷ xs) = f x ++ all_bytes f xs

abbrev pub row_bytes : {A : Type 0} → (A → List ℕ) → List A → List ℕ
row_bytes f xs = length xs ∷ all_bytes f xs

-- the bytes of an event: its number and its fields; there are none for bytes that are no event
unfoldable pub event_bytes : Event → List ℕ
event_bytes (duty y) = 0 ∷ duty_bytes y
event_bytes (decided k d) = 1 ∷ (le_bytes 8 k ++ data_bytes d)
event_bytes (share s) = 2 ∷ share_bytes s
event_bytes (block ds) = 3 ∷ row_bytes data_bytes ds
event_bytes resend = 4 ∷ []
event_bytes (garbled n) = []

-- the bytes of an answer: 0, the refusal's number and the place; or 1 and four rows
unfoldable pub answer_bytes : Answer → List ℕ
answer_bytes (refused j k) = 0 ∷ (j ∷ le_bytes 8 k)
answer_bytes (does ss ds ys ks) =
    1 ∷ (row_bytes share_bytes ss ++ (row_bytes data_bytes ds ++ (row_bytes duty_bytes ys ++ row_bytes (le_bytes 8) ks)))

-- n entries of a size, read one after the other
unfoldable pub entries : {A : Type 0} → ℕ → (List ℕ → A) → ℕ → List ℕ → List A
entries size from zero bs = []
entries size from (suc n) bs = from bs ∷ entries size from n (drop size bs)

-- an event of which k bytes are left to read, with bs behind the first b: cut short it ceases to be one where the bytes end, too long at the first byte too many
abbrev pub exactly : ℕ → ℕ → List ℕ → Event → Event
exactly b k bs e = pick (nat_lt (length bs) k) (garbled (b + length bs)) (pick (nat_lt k (length bs)) (garbled (b + k)) e)

unfoldable pub parse_block : List ℕ → Event
parse_block [] = garbled 1
parse_block (n ∷ bs) = exactly 2 (128 * n) bs (block (entries 128 data_from n bs))

-- which event some bytes are
unfoldable pub parse : List ℕ → Event
parse [] = garbled 0
parse (n ∷ bs) =
    pick (n == 0) (exactly 1 24 bs (duty (duty_from bs)))
    (pick (n == 1) (exactly 1 136 bs (decided (le_value (take 8 bs)) (data_from (drop 8 bs))))
    (pick (n == 2) (exactly 1 137 bs (share (share_from bs)))
    (pick (n == 3) (parse_block bs) (pick (n == 4) (exactly 1 0 bs resend) (garbled 0)))))

-- a row at the front of some bytes: whether it is all there, what it holds, and what stands behind it
unfoldable pub row_there : ℕ → List ℕ → Bool
row_there size [] = false
row_there size (n ∷ bs) = nat_le (size * n) (length bs)

unfoldable pub row_entries : {A : Type 0} → ℕ → (List ℕ → A) → List ℕ → List A
row_entries size from [] = []
row_entries size from (n ∷ bs) = entries size from n bs

unfoldable pub behind_row : ℕ → List ℕ → List ℕ
behind_row size [] = []
behind_row size (n ∷ bs) = drop (size * n) bs

-- a number of eight bytes at the front of some bytes
abbrev pub number_from : List ℕ → ℕ
number_from bs = le_value (part 0 8 bs)

-- which answer some bytes are: one with nothing behind it
unfoldable pub parse_refused : List ℕ → Option Answer
parse_refused [] = None
parse_refused (j ∷ bs) = pick (length bs == 8) (Some (refused j (number_from bs))) None

unfoldable pub parse_done : List ℕ → Option Answer
parse_done bs =
    let ds : List ℕ = behind_row 137 bs in
    let ys : List ℕ = behind_row 128 ds in
    let ks : List ℕ = behind_row 24 ys in
    pick
    ((row_there 137 bs && row_there 128 ds) && ((row_there 24 ys && row_there 8 ks) && length (behind_row 8 ks) == 0))
    (Some (does (row_entries 137 share_from bs) (row_entries 128 data_from ds) (row_entries 24 duty_from ys) (row_entries 8 number_from ks)))
    None

unfoldable pub parse_answer : List ℕ → Option Answer
parse_answer [] = None
parse_answer (n ∷ bs) = pick (n == 0) (parse_refused bs) (pick (n == 1) (parse_done bs) None)

-- What the lines of the programs say, as the codes of their characters. Assumes nothing: these are definitions.
use Rattle.std.specs.Prelude.{ℕ, ◌/◌, ◌%◌, Bool, false, cond, List, [], ◌∷◌, ◌++◌, map, reverse, codes, decimal}
use Rattle.std.specs.Fmt.{digit_glyph}
use Rattle.protocol.specs.Data.{Data, Duty, Past}
use Rattle.protocol.specs.Client.{Share, Event, duty, decided, share, block, resend, garbled, Answer, refused, does}
use Rattle.wire.specs.Text.{data_text, duty_text, share_text, entry_text}

-- texts one after the other: a lead before the first, and what stands between before each other
unfoldable pub listed : List ℕ → List ℕ → List (List ℕ) → List ℕ
listed lead between [] = []
listed lead between (t ∷ ts) = lead ++ (t ++ listed between between ts)

abbrev pub joined : List ℕ → List (List ℕ) → List ℕ
joined between ts = listed [] between ts

-- bytes in hexadecimal, two digits each
unfoldable pub hex : List ℕ → List ℕ
hex [] = []
hex (b ∷ bs) = digit_glyph false (b / 16) ∷ (digit_glyph false (b % 16) ∷ hex bs)

-- what data is listed in a block; raw bytes
unfoldable pub block_text : List Data → List ℕ
block_text [] = codes "block"
block_text (d ∷ ds) = codes "block: " ++ joined (codes ", ") (map data_text (d ∷ ds))

unfoldable pub bytes_text : List ℕ → List ℕ
bytes_text [] = codes "bytes"
bytes_text (b ∷ bs) = codes "bytes " ++ hex (b ∷ bs)

-- the past as a client keeps it, the largest target first, is listed from the least target on
unfoldable pub past_text : List Past → List ℕ
past_text [] = codes "past"
past_text (p ∷ ps) = codes "past " ++ joined (codes ", ") (map entry_text (reverse (p ∷ ps)))

-- an event as a line; bytes that are no event have none
unfoldable pub event_text : Event → List ℕ
event_text (duty y) = codes "duty " ++ duty_text y
event_text (decided k d) = codes "decided " ++ (decimal k ++ (codes ": " ++ data_text d))
event_text (share s) = codes "share " ++ share_text s
event_text (block ds) = block_text ds
event_text resend = codes "resend"
event_text (garbled n) = []

-- what a line asks of a client: to take an event, whether it lets the deciding for a slot come to data, what its past is, or to take raw bytes
pub data Asked : Type 0 where
  event : Event → Asked
  may : ℕ → Data → Asked
  past : Asked
  raw : List ℕ → Asked

unfoldable pub request_text : Asked → List ℕ
request_text (event e) = event_text e
request_text (may k d) = codes "may " ++ (decimal k ++ (codes ": " ++ data_text d))
request_text past = codes "past"
request_text (raw bs) = bytes_text bs

-- whether data may be decided
unfoldable pub may_text : Bool → List ℕ
may_text b = cond b (codes "yes") (codes "no")

-- what a client does, an entry each, in the order of the answer's rows
abbrev pub sends_text : Share → List ℕ
sends_text s = codes "sends " ++ share_text s

abbrev pub hands_in_text : Data → List ℕ
hands_in_text d = codes "hands in " ++ data_text d

abbrev pub begins_text : Duty → List ℕ
begins_text y = codes "begins " ++ duty_text y

abbrev pub ends_text : ℕ → List ℕ
ends_text k = codes "ends " ++ decimal k

abbrev pub done_texts : List Share → List Data → List Duty → List ℕ → List (List ℕ)
done_texts ss ds ys ks = map sends_text ss ++ (map hands_in_text ds ++ (map begins_text ys ++ map ends_text ks))

unfoldable pub done_text : List (List ℕ) → List ℕ
done_text [] = codes "nothing"
done_text (t ∷ ts) = joined (codes "; ") (t ∷ ts)

-- an answer as a line
unfoldable pub answer_text : Answer → List ℕ
answer_text (refused j k) = codes "refused " ++ (decimal j ++ (codes " at " ++ decimal k))
answer_text (does ss ds ys ks) = done_text (done_texts ss ds ys ks)

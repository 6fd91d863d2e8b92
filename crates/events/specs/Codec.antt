-- What is promised of the bytes of events and answers. Each is a statement, a type whose proof is owed. Assumes nothing.
use Rattle.std.specs.Prelude.{◌≡◌, ℕ, ◌<◌, ◌≤◌, Bool, true, ◌&&◌, List, [], ◌∷◌, ◌++◌, length, take, Some, nat_le, nat_lt}
use Rattle.protocol.specs.Client.{Event, share, duty, garbled, Answer, refused, does, event_number}
use Rattle.protocol.specs.Promise.{eight, carried, readable}
use Rattle.wire.specs.Bytes.{AllBytes}
use Rattle.events.specs.Layout.{event_bytes, parse, answer_bytes, parse_answer}

-- events as opposed to bytes that are none, whose fields their bytes can carry
abbrev pub IsEvent : Event → Type 0
IsEvent e = (readable e ≡ true) × (event_number e < 5)

-- an event is read back as it was written
abbrev pub EventsReadBack : Type 0
EventsReadBack = (e : Event) → IsEvent e → parse (event_bytes e) ≡ e

-- whatever bytes are read as, bytes can carry
abbrev pub ReadIsReadable : Type 0
ReadIsReadable = (bs : List ℕ) → AllBytes bs → length bs < 18446744073709551616 → readable (parse bs) ≡ true

-- bytes that are an event are the bytes of just that event
abbrev pub ReadIsWrittenBack : Type 0
ReadIsWrittenBack = (bs : List ℕ) → AllBytes bs → event_number (parse bs) < 5 → event_bytes (parse bs) ≡ bs

-- some event begins with these bytes
abbrev pub BeginsAnEvent : List ℕ → Type 0
BeginsAnEvent fs = (e : Event) × (rest : List ℕ) × IsEvent e × (event_bytes e ≡ fs ++ rest)

-- bytes that are no event cease to be one where the longest of their fronts ends with which an event begins
abbrev pub PlaceIsLongestFront : Type 0
PlaceIsLongestFront =
    (bs : List ℕ) (n : ℕ) → AllBytes bs → parse bs ≡ garbled n →
    (n ≤ length bs) × BeginsAnEvent (take n bs) × ((m : ℕ) → m ≤ length bs → BeginsAnEvent (take m bs) → m ≤ n)

-- answers that their bytes can carry: refusals' numbers, counts of rows and clients in a byte, places and slots in eight
unfoldable pub all_pass : {A : Type 0} → (A → Bool) → List A → Bool
all_pass f [] = true
all_pass f (x ∷ xs) = f x && all_pass f xs

unfoldable pub row_carried : {A : Type 0} → (A → Bool) → List A → Bool
row_carried f xs = nat_le (length xs) 255 && all_pass f xs

unfoldable pub answer_carried : Answer → Bool
answer_carried (refused j k) = nat_lt j 256 && eight k
answer_carried (does ss ds ys ks) =
    (row_carried (λ s. readable (share s)) ss && row_carried carried ds)
    && (row_carried (λ y. readable (duty y)) ys && row_carried (λ k. eight k) ks)

-- an answer is read back as it was written
abbrev pub AnswersReadBack : Type 0
AnswersReadBack = (a : Answer) → answer_carried a ≡ true → parse_answer (answer_bytes a) ≡ Some a

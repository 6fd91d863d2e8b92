-- A client whose queue takes a new duty at another place, and why it must be the last: duties are not begun in order else.
-- Assumes nothing: these are definitions.
use Rattle.std.specs.Prelude.{◌≡◌, suc, true, List, [], ◌∷◌, ◌++◌, ◌==◌}
use Rattle.protocol.specs.Data.{pick, Duty}
use Rattle.protocol.specs.Client.{Event, duty, decided, share, block, resend, garbled, Answer, refused, does, Limits, State, new_client, begun, next, stepped, doing, turned, place, with_after}
use Rattle.protocol.specs.Promise.{all_before}
use Rattle.protocol.specs.Runs.{begins, rising}

-- where a new duty is put among those that wait: last, as clients do, or first
abbrev pub Order : Type 0
Order = Duty → List Duty → List Duty

abbrev pub newest_last : Order
newest_last y ys = ys ++ (y ∷ [])

abbrev pub newest_first : Order
newest_first y ys = y ∷ ys

-- a client that puts new duties so, and is else as it was
unfoldable pub stepped_with : Order → Limits → State → Event → State
stepped_with put l s (duty y) = next l (put y s.queue) (with_after (suc y.slot) s)
stepped_with put l s (decided k d) = stepped l s (decided k d)
stepped_with put l s (share x) = stepped l s (share x)
stepped_with put l s (block ds) = stepped l s (block ds)
stepped_with put l s resend = stepped l s resend
stepped_with put l s (garbled n) = stepped l s (garbled n)

unfoldable pub doing_with : Order → Limits → State → Event → Answer
doing_with put l s (duty y) = does [] [] (begun s.current (stepped_with put l s (duty y)).current) []
doing_with put l s (decided k d) = doing l s (decided k d)
doing_with put l s (share x) = doing l s (share x)
doing_with put l s (block ds) = doing l s (block ds)
doing_with put l s resend = doing l s resend
doing_with put l s (garbled n) = doing l s (garbled n)

abbrev pub after_with : Order → Limits → State → Event → State
after_with put l s e = pick (turned l s e == 0) (stepped_with put l s e) s

abbrev pub answer_with : Order → Limits → State → Event → Answer
answer_with put l s e = pick (turned l s e == 0) (doing_with put l s e) (refused (turned l s e) (place e (turned l s e)))

unfoldable pub state_with : Order → Limits → List Event → State
state_with put l [] = new_client
state_with put l (e ∷ es) = after_with put l (state_with put l es) e

unfoldable pub all_begun_with : Order → Limits → List Event → List Duty
all_begun_with put l [] = []
all_begun_with put l (e ∷ es) = all_begun_with put l es ++ begins (answer_with put l (state_with put l es) e)

-- the promises that what is being decided is below the next duty, and that duties are begun in order, of such a client
abbrev pub InOrderWith : Order → Type 0
InOrderWith put = (l : Limits) (es : List Event) → all_before (state_with put l es).after (state_with put l es).active ≡ true

abbrev pub BegunInOrderWith : Order → Type 0
BegunInOrderWith put = (l : Limits) (es : List Event) → rising (all_begun_with put l es) ≡ true

-- with the newest duty last duties are begun in order; with the newest first they are not, though what is being decided is still below the next duty
abbrev pub NewestFirstFails : Type 0
NewestFirstFails = BegunInOrderWith newest_last × InOrderWith newest_first × (¬ BegunInOrderWith newest_first)

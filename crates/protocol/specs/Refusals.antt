-- The seven refusals, each by itself and in the subject's words, and the promise that an event is turned away by the first that applies.
-- Assumes nothing: these are definitions.
use Rattle.std.specs.Prelude.{◌≡◌, ℕ, ◌<◌, ◌≤◌, false, ◌≢◌, ◌⊎◌, List, [], ◌∷◌, length}
use Rattle.protocol.specs.Data.{Data, Duty}
use Rattle.protocol.specs.Client.{Share, Event, duty, share, block, garbled, Limits, State, event_number, turned}

-- x is one of a list
abbrev pub Member : {A : Type 0} → A → List A → Type 0
Member x [] = ⊥
Member x (y ∷ ys) = (x ≡ y) ⊎ Member x ys

pub data Refusal : Type 0 where
  no_event : Refusal  -- bytes that are no event
  not_served : Refusal  -- a client that is not there, a duty for the last slot of all, more than 64 data in a block, an event that this client can't do
  not_after : Refusal  -- a duty that isn't after the last one given
  no_room : Refusal  -- a duty, when as many wait as may
  not_listened_for : Refusal  -- a share for a slot that isn't listened for
  second_share : Refusal  -- a share of a client that has one there for that slot
  two_for_a_slot : Refusal  -- two different data for one slot in a block

-- the numbers by which answers name them, in the order of the list
abbrev pub number : Refusal → ℕ
number no_event = 1
number not_served = 2
number not_after = 3
number no_room = 4
number not_listened_for = 5
number second_share = 6
number two_for_a_slot = 7

abbrev pub NoEvent : Event → Type 0
NoEvent e = (n : ℕ) × (e ≡ garbled n)

-- the ways in which an event can't be served: it is not among what the client can do, its client isn't there, its slot is the last of all, its block is too long
abbrev pub NotServed : Limits → Event → Type 0
NotServed l e =
    ((l.events_can (event_number e) ≡ false) × ((n : ℕ) → e ≢ garbled n))
    ⊎ (((x : Share) × (e ≡ share x) × (l.clients ≤ x.who))
    ⊎ (((y : Duty) × (e ≡ duty y) × (18446744073709551615 ≤ y.slot)) ⊎ ((ds : List Data) × (e ≡ block ds) × (64 < length ds))))

abbrev pub NotAfter : State → Event → Type 0
NotAfter s e = (y : Duty) × (e ≡ duty y) × (y.slot < s.after)

abbrev pub NoRoom : Limits → State → Event → Type 0
NoRoom l s e = (y : Duty) × (e ≡ duty y) × (l.waiting ≤ length s.queue)

-- no duty that is being decided or waits is for the share's slot
abbrev pub NotListenedFor : State → Event → Type 0
NotListenedFor s e =
    (x : Share) × (e ≡ share x) × ((y : Duty) → Member y s.active ⊎ Member y s.queue → y.slot ≢ x.what.slot)

abbrev pub SecondShare : State → Event → Type 0
SecondShare s e =
    (x : Share) × (e ≡ share x) × (z : Share) × Member z s.got × (z.who ≡ x.who) × (z.what.slot ≡ x.what.slot)

abbrev pub TwoForASlot : Event → Type 0
TwoForASlot e =
    (ds : List Data) × (e ≡ block ds) × (a : Data) × (b : Data) × Member a ds × Member b ds × (a.slot ≡ b.slot) × (a ≢ b)

-- whether a refusal applies to an event in a state, whatever the others say
abbrev pub Applies : Limits → State → Event → Refusal → Type 0
Applies l s e no_event = NoEvent e
Applies l s e not_served = NotServed l e
Applies l s e not_after = NotAfter s e
Applies l s e no_room = NoRoom l s e
Applies l s e not_listened_for = NotListenedFor s e
Applies l s e second_share = SecondShare s e
Applies l s e two_for_a_slot = TwoForASlot e

-- an event is taken where no refusal applies, and else turned away by the least that does
abbrev pub FirstThatApplies : Type 0
FirstThatApplies =
    (l : Limits) (s : State) (e : Event) →
    ((turned l s e ≡ 0) × ((r : Refusal) → ¬ Applies l s e r))
    ⊎ ((r : Refusal) × (turned l s e ≡ number r) × Applies l s e r × ((q : Refusal) → number q < number r → ¬ Applies l s e q))

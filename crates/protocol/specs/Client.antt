-- What one client does (Ethereum: a node of a distributed validator): its state, and what each event makes of it.
-- Assumes nothing: these are definitions.
use Rattle.std.specs.Prelude.{ℕ, suc, Bool, true, false, not, ◌&&◌, ◌||◌, List, [], ◌∷◌, ◌++◌, length, ◌==◌, nat_le, nat_lt}
use Rattle.protocol.specs.Data.{pick, Data, same, Past, past_of, Duty, valid, keep, first_of, quorum}

-- a share (Ethereum: an attestation share): who signed, what, and the seat that it speaks for
pub record Share : Type 0 where
  pub who : ℕ
  pub what : Data
  pub seat : ℕ

-- what can happen to a client; the deciding is Ethereum's consensus instance for a slot, a block one that was imported
pub data Event : Type 0 where
  duty : Duty → Event  -- a duty to be done
  decided : ℕ → Data → Event  -- the deciding for a slot has come to this
  share : Share → Event  -- a share came, from whom it says
  block : List Data → Event  -- what a new block has of ours
  resend : Event  -- send the own shares that are kept once more
  garbled : ℕ → Event  -- bytes that are no event, and the place where they cease to be one

-- what the client does then: it turns the event away by a refusal's number and place; or it sends shares to all, hands in whole attestations, begins to decide for duties, and ends deciding for slots
pub data Answer : Type 0 where
  refused : ℕ → ℕ → Answer
  does : List Share → List Data → List Duty → List ℕ → Answer

-- what a client is opened with
pub record Limits : Type 0 where
  pub events_can : ℕ → Bool  -- the numbers of the events that it can do
  pub clients : ℕ  -- how many clients the group has
  pub me : ℕ  -- which of them this one is
  pub kept : ℕ  -- how many of the past are kept
  pub waiting : ℕ  -- how many duties may wait; as many slots ahead, duties being decided and shares of its own are kept

-- what a client remembers
pub record State : Type 0 where
  pub current : List Duty  -- the duty at hand, none or one
  pub latest : List Duty  -- the last duty that was begun, none or one
  pub queue : List Duty  -- duties that wait, the first given first
  pub after : ℕ  -- one more than the slot of the last duty that was given, 0 for none
  pub past : List Past  -- the slashing database, the largest target first
  pub active : List Duty  -- duties that are being decided, the last begun first
  pub ahead : List Data  -- what blocks showed to be decided for slots that are still to come, the least slot first
  pub own : List Share  -- its own shares, the largest slot first
  pub got : List Share  -- shares that came, at most one of a client for a slot

abbrev pub new_client : State
new_client = record { current = []; latest = []; queue = []; after = 0; past = []; active = []; ahead = []; own = []; got = [] }

-- the number of an event
unfoldable pub event_number : Event → ℕ
event_number (duty y) = 0
event_number (decided k d) = 1
event_number (share s) = 2
event_number (block ds) = 3
event_number resend = 4
event_number (garbled n) = 255

-- data by its slot: the first one for a slot, whether there is one, all but those for it
unfoldable pub ahead_of : ℕ → List Data → List Data
ahead_of k [] = []
ahead_of k (d ∷ ds) = pick (d.slot == k) (d ∷ []) (ahead_of k ds)

unfoldable pub has_slot : ℕ → List Data → Bool
has_slot k [] = false
has_slot k (d ∷ ds) = d.slot == k || has_slot k ds

unfoldable pub without : ℕ → List Data → List Data
without k [] = []
without k (d ∷ ds) = pick (d.slot == k) (without k ds) (d ∷ without k ds)

-- put in by slots, in place of what was there for the slot
unfoldable pub by_slot : Data → List Data → List Data
by_slot d [] = d ∷ []
by_slot d (x ∷ xs) = pick (nat_lt d.slot x.slot) (d ∷ (x ∷ xs)) (pick (d.slot == x.slot) (d ∷ xs) (x ∷ by_slot d xs))

unfoldable pub all_by_slot : List Data → List Data → List Data
all_by_slot [] xs = xs
all_by_slot (d ∷ ds) xs = all_by_slot ds (by_slot d xs)

-- those after a slot
unfoldable pub above : ℕ → List Data → List Data
above k [] = []
above k (d ∷ ds) = pick (nat_lt k d.slot) (d ∷ above k ds) (above k ds)

unfoldable pub slots : List Data → List ℕ
slots [] = []
slots (d ∷ ds) = d.slot ∷ slots ds

-- whether other data for the same slot is among these; whether a list has two different ones for one slot
unfoldable pub other_for : Data → List Data → Bool
other_for d [] = false
other_for d (x ∷ xs) = (d.slot == x.slot && not (same d x)) || other_for d xs

unfoldable pub twice : List Data → Bool
twice [] = false
twice (d ∷ ds) = other_for d ds || twice ds

-- duties, and shares, for slots that the data is not for; and the slots of duties that it is for
unfoldable pub not_for : List Data → List Duty → List Duty
not_for ds [] = []
not_for ds (y ∷ ys) = pick (has_slot y.slot ds) (not_for ds ys) (y ∷ not_for ds ys)

unfoldable pub shares_not_for : List Data → List Share → List Share
shares_not_for ds [] = []
shares_not_for ds (s ∷ ss) = pick (has_slot s.what.slot ds) (shares_not_for ds ss) (s ∷ shares_not_for ds ss)

unfoldable pub ends : List Data → List Duty → List ℕ
ends ds [] = []
ends ds (y ∷ ys) = pick (has_slot y.slot ds) (y.slot ∷ ends ds ys) (ends ds ys)

-- one entry of the past more
abbrev pub signed : Limits → State → Data → State
signed l s d = record { current = s.current; latest = s.latest; queue = s.queue; after = s.after; past = keep l.kept (past_of d) s.past; active = s.active; ahead = s.ahead; own = s.own; got = s.got }

-- the state with one part put in
abbrev pub with_queue : List Duty → State → State
with_queue ys s = record { current = s.current; latest = s.latest; queue = ys; after = s.after; past = s.past; active = s.active; ahead = s.ahead; own = s.own; got = s.got }

abbrev pub with_ahead : List Data → State → State
with_ahead ds s = record { current = s.current; latest = s.latest; queue = s.queue; after = s.after; past = s.past; active = s.active; ahead = ds; own = s.own; got = s.got }

abbrev pub without_current : State → State
without_current s = record { current = []; latest = s.latest; queue = s.queue; after = s.after; past = s.past; active = s.active; ahead = s.ahead; own = s.own; got = s.got }

abbrev pub with_own : List Share → State → State
with_own ss s = record { current = s.current; latest = s.latest; queue = s.queue; after = s.after; past = s.past; active = s.active; ahead = s.ahead; own = ss; got = s.got }

abbrev pub with_got : List Share → State → State
with_got ss s = record { current = s.current; latest = s.latest; queue = s.queue; after = s.after; past = s.past; active = s.active; ahead = s.ahead; own = s.own; got = ss }

abbrev pub with_after : ℕ → State → State
with_after k s = record { current = s.current; latest = s.latest; queue = s.queue; after = k; past = s.past; active = s.active; ahead = s.ahead; own = s.own; got = s.got }

-- the duty y is begun: it is at hand, the latest, and being decided
abbrev pub begin : Limits → Duty → List Duty → State → State
begin l y ys s = record { current = y ∷ []; latest = y ∷ []; queue = ys; after = s.after; past = s.past; active = first_of l.waiting (y ∷ s.active); ahead = s.ahead; own = s.own; got = s.got }

-- the queue is looked at: while its first is for a slot that is ahead, what was decided for it goes into the past; then, with no duty at hand, the first is begun
unfoldable pub learned : Limits → List Data → ℕ → State → State
learned l [] k s = s
learned l (d ∷ ds) k s = with_ahead (without k s.ahead) (signed l s d)

unfoldable pub begin_or_wait : Limits → List Duty → Duty → List Duty → State → State
begin_or_wait l [] y ys s = begin l y ys s
begin_or_wait l (c ∷ cs) y ys s = with_queue (y ∷ ys) s

unfoldable pub next : Limits → List Duty → State → State
next l [] s = with_queue [] s
next l (y ∷ ys) s =
    pick (has_slot y.slot s.ahead) (next l ys (learned l (ahead_of y.slot s.ahead) y.slot s)) (begin_or_wait l s.current y ys s)

-- what was begun by it: the duty at hand, if there was none before
unfoldable pub begun : List Duty → List Duty → List Duty
begun [] cs = cs
begun (x ∷ xs) cs = []

-- this client's share of data for a duty
abbrev pub share_of : Limits → Duty → Data → Share
share_of l y d = record { who = l.me; what = d; seat = y.seat }

-- one of its own shares more, the largest slot first, in place of what was there for the slot
unfoldable pub own_with : Share → List Share → List Share
own_with s [] = s ∷ []
own_with s (x ∷ xs) = pick (s.what.slot == x.what.slot) (s ∷ xs) (pick (nat_lt x.what.slot s.what.slot) (s ∷ (x ∷ xs)) (x ∷ own_with s xs))

-- a client listens for the slots of duties that are being decided, or wait
unfoldable pub for_some : ℕ → List Duty → Bool
for_some k [] = false
for_some k (y ∷ ys) = y.slot == k || for_some k ys

abbrev pub listens : State → ℕ → Bool
listens s k = for_some k s.active || for_some k s.queue

-- whether a client has a share for a slot among these
unfoldable pub from_him : ℕ → ℕ → List Share → Bool
from_him w k [] = false
from_him w k (x ∷ xs) = (x.who == w && x.what.slot == k) || from_him w k xs

-- shares for slots that are listened for; the others are dropped
unfoldable pub heard : State → List Share → List Share
heard s [] = []
heard s (x ∷ xs) = pick (listens s x.what.slot) (x ∷ heard s xs) (heard s xs)

-- how many clients signed this for this seat
unfoldable pub signers : Share → List Share → ℕ
signers s [] = 0
signers s (x ∷ xs) = pick (same x.what s.what && x.seat == s.seat) (suc (signers s xs)) (signers s xs)

-- why an event is turned away, 0 where it is taken: 1 no event; 2 a client that is not there, a duty for the last slot of all, more than 64 data in a block,
-- or an event that this client can't do; 3 a duty that isn't after the last one given; 4 a duty, when as many wait as may; 5 a share for a slot that isn't
-- listened for; 6 a share of a client that has one there for that slot; 7 two different data for one slot in a block
unfoldable pub good_fields : Limits → Event → Bool
good_fields l (duty y) = nat_lt (suc y.slot) 18446744073709551616
good_fields l (decided k d) = true
good_fields l (share s) = nat_lt s.who l.clients
good_fields l (block ds) = nat_le (length ds) 64
good_fields l resend = true
good_fields l (garbled n) = true

unfoldable pub turned_by : Limits → State → Event → ℕ
turned_by l s (duty y) = pick (nat_lt y.slot s.after) 3 (pick (nat_lt (length s.queue) l.waiting) 0 4)
turned_by l s (decided k d) = 0
turned_by l s (share x) =
    pick (listens s x.what.slot) (pick (from_him x.who x.what.slot s.got) 6 0) 5
turned_by l s (block ds) = pick (twice ds) 7 0
turned_by l s resend = 0
turned_by l s (garbled n) = 1

abbrev pub turned : Limits → State → Event → ℕ
turned l s e = pick ((event_number e == 255 || l.events_can (event_number e)) && good_fields l e) (turned_by l s e) 2

-- where an event is refused: bytes that are no event where they cease to be one, all else at 0
unfoldable pub place : Event → ℕ → ℕ
place (garbled k) n = k
place (duty y) n = 0
place (decided k d) n = 0
place (share s) n = 0
place (block ds) n = 0
place resend n = 0

-- deciding has come to d for slot k: if that is the duty at hand, it is signed, and the next one begins
unfoldable pub by_decided : Limits → List Duty → ℕ → Data → State → State
by_decided l [] k d s = s
by_decided l (y ∷ ys) k d s =
    pick (y.slot == k)
    (next l s.queue (with_own (first_of l.waiting (own_with (share_of l y d) s.own)) (without_current (signed l s d))))
    s

-- what is sent then
unfoldable pub sends_decided : Limits → List Duty → ℕ → Data → List Share
sends_decided l [] k d = []
sends_decided l (y ∷ ys) k d = pick (y.slot == k) (share_of l y d ∷ []) []

-- a block: what is ahead when it has come; what of that stays ahead; and the state then, before the duty at hand is looked at
abbrev pub told : Limits → State → List Data → List Data
told l s ds = all_by_slot ds s.ahead

unfoldable pub still_ahead : List Duty → List Data → List Data
still_ahead [] ds = ds
still_ahead (y ∷ ys) ds = above y.slot ds

abbrev pub by_block : Limits → State → List Data → State
by_block l s ds =
    let all : List Data = told l s ds in
    record { current = s.current; latest = s.latest; queue = s.queue; after = s.after; past = s.past; active = not_for all s.active; ahead = first_of l.waiting (still_ahead s.latest all); own = shares_not_for all s.own; got = shares_not_for all s.got }

-- the duty at hand goes if what is ahead has its slot: that data goes into the past, and the queue is looked at
unfoldable pub gone : Limits → List Data → State → State
gone l [] s = s
gone l (d ∷ ds) s = next l s.queue (without_current (signed l s d))

unfoldable pub duty_gone : Limits → List Duty → List Data → State → State
duty_gone l [] all s = s
duty_gone l (y ∷ ys) all s = gone l (ahead_of y.slot all) s

-- what an event that is taken leaves
unfoldable pub stepped : Limits → State → Event → State
stepped l s (duty y) = next l (s.queue ++ (y ∷ [])) (with_after (suc y.slot) s)
stepped l s (decided k d) = by_decided l s.current k d s
stepped l s (share x) = with_got (x ∷ heard s s.got) s
stepped l s (block ds) = duty_gone l s.current (told l s ds) (by_block l s ds)
stepped l s resend = s
stepped l s (garbled n) = s

-- what was begun, if something was signed
unfoldable pub begun_if : List Share → List Duty → List Duty
begun_if [] cs = []
begun_if (x ∷ xs) cs = cs

-- what a client does for an event that is taken
unfoldable pub doing : Limits → State → Event → Answer
doing l s (duty y) = does [] [] (begun s.current (stepped l s (duty y)).current) []
doing l s (decided k d) =
    let sent : List Share = sends_decided l s.current k d in
    does sent [] (begun_if sent (stepped l s (decided k d)).current) []
doing l s (share x) = does [] (pick (nat_le (quorum l.clients) (signers x (stepped l s (share x)).got)) (x.what ∷ []) []) [] []
doing l s (block ds) =
    let t : State = by_block l s ds in
    does [] [] (begun (pick (length (ends (told l s ds) s.current) == 0) s.current []) (stepped l s (block ds)).current) (ends (told l s ds) s.active)
doing l s resend = does s.own [] [] []
doing l s (garbled n) = does [] [] [] []

-- what an event leaves, and what the client answers
abbrev pub after : Limits → State → Event → State
after l s e = pick (turned l s e == 0) (stepped l s e) s

abbrev pub answer : Limits → State → Event → Answer
answer l s e = pick (turned l s e == 0) (doing l s e) (refused (turned l s e) (place e (turned l s e)))

-- a client's state by what happened to it, the last first
unfoldable pub state : Limits → List Event → State
state l [] = new_client
state l (e ∷ es) = after l (state l es) e

-- whether a client lets the deciding for a slot come to data, at a moment: the data is valid for a duty with that slot that is being decided
unfoldable pub some_valid : List Past → ℕ → Data → List Duty → Bool
some_valid ps k d [] = false
some_valid ps k d (y ∷ ys) = (y.slot == k && valid ps d y) || some_valid ps k d ys

abbrev pub lets_now : State → ℕ → Data → Bool
lets_now s k d = some_valid s.past k d s.active

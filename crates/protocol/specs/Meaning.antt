-- What the limits and the refusals of the code stand for, and which limit is out of range. Assumes nothing: these are definitions.
use Rattle.std.specs.Prelude.{ℕ, ◌<◌, ◌≤◌, Bool, ◌⊎◌}
use Rattle.protocol.specs.Client as client
use Rattle.protocol.specs.Refusals as refusals
use Rattle.protocol.specs.declared.refusal.Refusal.{Refusal}
use Rattle.protocol.specs.declared.refusal.Refusal.TheVariants.{NoEvent, NotServed, NotAfter, NoRoom, NotListenedFor, SecondShare, TwoForASlot}
use Rattle.protocol.specs.declared.sizes.Limits.{Limits}
use Rattle.protocol.specs.declared.sizes.LimitsError.{LimitsError}
use Rattle.protocol.specs.declared.sizes.LimitsError.TheVariants.{Clients, Me, Kept, Waiting}

-- the limits of a client that can do the events of `can`
abbrev pub limits_of : (ℕ → Bool) → Limits → client.Limits
limits_of can l = record { events_can = can; clients = l.clients; me = l.me; kept = l.kept; waiting = l.waiting }

-- the first of the limits that is out of range
abbrev pub FirstWrong : Limits → LimitsError → Type 0
FirstWrong l Clients = (l.clients < 1) ⊎ (64 < l.clients)
FirstWrong l Me = (1 ≤ l.clients) × (l.clients ≤ 64) × (l.clients ≤ l.me)
FirstWrong l Kept = (1 ≤ l.clients) × (l.clients ≤ 64) × (l.me < l.clients) × ((l.kept < 1) ⊎ (4096 < l.kept))
FirstWrong l Waiting =
    (1 ≤ l.clients) × (l.clients ≤ 64) × (l.me < l.clients) × (1 ≤ l.kept) × (l.kept ≤ 4096) × ((l.waiting < 1) ⊎ (64 < l.waiting))

-- which refusal of the list a case stands for
abbrev pub refusal_of : Refusal → refusals.Refusal
refusal_of NoEvent = refusals.no_event
refusal_of NotServed = refusals.not_served
refusal_of NotAfter = refusals.not_after
refusal_of NoRoom = refusals.no_room
refusal_of NotListenedFor = refusals.not_listened_for
refusal_of SecondShare = refusals.second_share
refusal_of TwoForASlot = refusals.two_for_a_slot

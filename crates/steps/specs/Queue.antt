-- Looking at the queue, in two parts: those at its front that are ahead go, and then the first may be begun. Assumes nothing: these are definitions.
use Rattle.std.specs.Prelude.{ℕ, List, [], ◌∷◌, ◌==◌}
use Rattle.protocol.specs.Data.{pick, Data, Duty}
use Rattle.protocol.specs.Client.{has_slot, ahead_of}
use Rattle.stored.specs.Stored.{Stored, with_queue}
use Rattle.keeper.specs.Step.{learnt, start_or_wait}

-- the first that isn't ahead
unfoldable pub upcoming : List Duty → List Data → List Duty
upcoming [] ds = []
upcoming (y ∷ ys) ds = pick (has_slot y.slot ds) (upcoming ys ds) (y ∷ [])

-- those at the front that are ahead go into the past
unfoldable pub skipped : List Duty → Stored → Stored
skipped [] t = with_queue [] t
skipped (y ∷ ys) t =
    pick (has_slot y.slot t.ahead) (skipped ys (learnt (ahead_of y.slot t.ahead) y t)) (with_queue (y ∷ ys) t)

-- the first that waits is begun, unless one is at hand
unfoldable pub first_begun : List Duty → Stored → Stored
first_begun [] t = t
first_begun (y ∷ ys) t = start_or_wait t.at_hand y ys t

-- a duty at hand that is for a slot
unfoldable pub for_slot : ℕ → List Duty → List Duty
for_slot k [] = []
for_slot k (y ∷ ys) = pick (y.slot == k) (y ∷ []) []

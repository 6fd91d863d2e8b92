-- What the steps of the code rest on besides the sizes: numbers that fit, and slots in order. Definitions and a statement; assumes nothing.
use Rattle.std.specs.Prelude.{◌≡◌, ℕ, ◌<◌, Bool, true, List, [], ◌∷◌, map}
use Rattle.std.specs.List.{AllByRecursion}
use Rattle.protocol.specs.Data.{Duty}
use Rattle.protocol.specs.Client.{Event, Limits, slots}
use Rattle.protocol.specs.Promise.{all_readable, GoodLimits}
use Rattle.stored.specs.Stored.{Stored}
use Rattle.stored.specs.Kept.{Fits}
use Rattle.keeper.specs.Keeper.{stored_after}

-- each slot is below all that stand behind it
abbrev pub Ascending : List ℕ → Type 0
Ascending [] = Unit {0}
Ascending (k ∷ ks) = AllByRecursion (λ j. k < j) ks × Ascending ks

abbrev pub duty_slots : List Duty → List ℕ
duty_slots ys = map (λ y. y.slot) ys

-- every number fits, the duties that wait are in the order of their slots, and so is what is ahead, each slot once
pub record Ready (t : Stored) : Type 0 where
  pub fits : Fits t
  pub queue : Ascending (duty_slots t.queue)
  pub given : AllByRecursion (λ k. k < t.after) (duty_slots t.queue)
  pub ahead : Ascending (slots t.ahead)

-- so it is after any events whatever
abbrev pub AlwaysReady : Type 0
AlwaysReady =
    (can : ℕ → Bool) (l : Limits) (es : List Event) → GoodLimits can l → all_readable es ≡ true → Ready (stored_after can l es)

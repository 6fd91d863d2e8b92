-- The keeper made of the stored steps, and what is promised of it, whichever events it can do. Definitions and statements; assumes nothing.
use Rattle.std.specs.Prelude.{◌≡◌, ℕ, Bool, true, List, [], ◌∷◌}
use Rattle.protocol.specs.Client.{Event, Limits}
use Rattle.protocol.specs.World.{Keeper, memory}
use Rattle.protocol.specs.Promise.{all_readable, GoodLimits, Right, RefusalKeeps, StaysSmall, NeverPunished}
use Rattle.stored.specs.Stored.{Stored, sizes_of, fresh}
use Rattle.stored.specs.Numbers.{encode, decode}
use Rattle.stored.specs.Kept.{Held, Fits}
use Rattle.keeper.specs.Step.{step, reply, allows}

-- the client as a program over its memory
abbrev pub keeper : (ℕ → Bool) → Keeper
keeper can =
    record {
      opened = λ l. encode (fresh (sizes_of l));
      called = λ xs e. encode (step can (decode xs) e);
      says = λ xs e. reply can (decode xs) e;
      lets = λ xs k d. allows (decode xs) k d;
    }

-- the stored client by what happened to it, the last first
unfoldable pub stored_after : (ℕ → Bool) → Limits → List Event → Stored
stored_after can l [] = fresh (sizes_of l)
stored_after can l (e ∷ es) = step can (stored_after can l es) e

-- its memory holds the stored client, whatever came
abbrev pub MemoryHolds : Type 0
MemoryHolds =
    (can : ℕ → Bool) (l : Limits) (es : List Event) → GoodLimits can l → all_readable es ≡ true →
    Held (sizes_of l) (memory (keeper can) l es) (stored_after can l es) × Fits (stored_after can l es)

-- THE MAIN PROMISE of the keeper: it does what the definitions say, keeps its memory where an event is turned away, never needs more of it, and a group of such keepers is never punished
abbrev pub KeepsItsPromises : Type 0
KeepsItsPromises =
    (can : ℕ → Bool) → Right can (keeper can) × RefusalKeeps can (keeper can) × StaysSmall can (keeper can) × NeverPunished can (keeper can)

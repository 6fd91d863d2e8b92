-- What it is to serve an event: its answer is written and memory holds what the step leaves, or the answer has no room and nothing is changed.
-- Assumes nothing: these are definitions.
use Rattle.std.specs.Prelude.{◌≡◌, ℕ, Bool, List, map, length, Result, MatchResult}
use Rattle.protocol.specs.Client.{Event, Answer, does}
use Rattle.wire.specs.Fixed.{Written, Unwritten}
use Rattle.wire.specs.declared.fixed.Short.{Short}
use Rattle.wire.specs.Meaning.{data_of, duty_of, share_of}
use Rattle.events.specs.Layout.{answer_bytes}
use Rattle.events.specs.declared.answer.Deeds.{Deeds}
use Rattle.stored.specs.Stored.{Sizes, Stored}
use Rattle.stored.specs.Kept.{Held}
use Rattle.layout.specs.Layout.{sizes}
use Rattle.layout.specs.declared.memory.Memory.{Memory}
use Rattle.keeper.specs.Step.{step, reply}
use Rattle.keeper.specs.Ready.{Ready}

-- an answer's bytes are written at the front of some, or have no room there
abbrev pub Writes : Answer → List ℕ → List ℕ → Result ℕ Short → Type 0
Writes a before after r =
    MatchResult r (Written (length (answer_bytes a)) (answer_bytes a) before after) (λ _. Unwritten (length (answer_bytes a)) before after)

-- the answer that these deeds are done
abbrev pub deeds_of : Deeds → Answer
deeds_of d = does (map share_of d.sent.now) (map data_of d.handed_in.now) (map duty_of d.begun.now) d.ended.now

-- memory is kept unless the answer was written
abbrev pub Leaves : Sizes → List ℕ → List ℕ → Stored → Result ℕ Short → Type 0
Leaves z before after t r = MatchResult r (λ _. Held z after t) (λ _. after ≡ before)

pub record Serves (z : Sizes) (can : ℕ → Bool) (e : Event) (before after out_before out_after : List ℕ) (r : Result ℕ Short) (t : Stored) : Type 0 where
  pub says : Writes (reply can t e) out_before out_after r
  pub leaves : Leaves z before after (step can t e) r

abbrev pub Served : Sizes → (ℕ → Bool) → Event → List ℕ → List ℕ → List ℕ → List ℕ → Result ℕ Short → Type 0
Served z can e before after out_before out_after r =
    (t : Stored) → Held z before t → Ready t → Serves z can e before after out_before out_after r t

-- a memory serves an event: its layout and the lent slice stay
pub record Step (can : ℕ → Bool) (e : Event) (before after : Memory) (out_before out_after : List ℕ) (r : Result ℕ Short) : Type 0 where
  pub layout : after.layout ≡ before.layout
  pub lent : after.numbers.ghost_name ≡ before.numbers.ghost_name
  pub serves : Served (sizes before.layout) can e before.numbers.now after.numbers.now out_before out_after r

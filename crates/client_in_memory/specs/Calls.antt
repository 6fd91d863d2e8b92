-- What the public calls promise: memory is always what the keeper makes of the events so far, and answers are those of the definitions.
-- Definitions and statements; assumes nothing.
use Rattle.std.specs.Prelude.{◌≡◌, ℕ, Bool, true, false, List, [], ◌∷◌, ◌++◌, length, take, drop, Ok, Err, Option, Result}
use Rattle.protocol.specs.Data.{Data}
use Rattle.protocol.specs.Client.{Event, Limits, state, answer, lets_now}
use Rattle.protocol.specs.World.{memory}
use Rattle.protocol.specs.Promise.{all_readable, GoodLimits, thin}
use Rattle.protocol.specs.Meaning.{limits_of}
use Rattle.protocol.specs.declared.sizes.Limits as declared
use Rattle.wire.specs.Fixed.{Written, Unwritten}
use Rattle.wire.specs.declared.values.Entry.{Entry}
use Rattle.events.specs.Layout.{parse, answer_bytes}
use Rattle.layout.specs.Layout.{plausible, Unopened}
use Rattle.layout.specs.declared.opening.OpenError.{OpenError}
use Rattle.keeper.specs.Keeper.{keeper}
use Rattle.store.specs.Store.{entry_found}
use Rattle.client_in_memory.specs.declared.errors.CallError.{CallError}
use Rattle.client_in_memory.specs.declared.errors.CallError.TheVariants.{NotAClient, ShortAnswer}

-- the events that the client can do
abbrev pub stage : ℕ → Bool
stage = thin

-- the memory of a client with these limits after these events, the last first
abbrev pub kept_memory : Limits → List Event → List ℕ
kept_memory l es = memory (keeper stage) l es

-- the first numbers of a slice are that
pub record After (l : Limits) (es : List Event) (xs : List ℕ) : Type 0 where
  pub good : GoodLimits stage l
  pub readable : all_readable es ≡ true
  pub front : xs ≡ kept_memory l es ++ drop (length (kept_memory l es)) xs

-- opened: memory is a new client's, and the rest of the slice as it was; or nothing is changed
abbrev pub Opens : declared.Limits → List ℕ → List ℕ → Result (Unit {0}) OpenError → Type 0
Opens limits before after (Ok u) =
    After (limits_of stage limits) [] after
    × (after ≡ (keeper stage).opened (limits_of stage limits) ++ drop (length ((keeper stage).opened (limits_of stage limits))) before)
Opens limits before after (Err e) = Unopened limits e × (after ≡ before)

-- an event taken after others: the answer's bytes are those of the definitions, and memory is what the keeper makes of it, the rest of each slice as it was;
-- or the answer has no room, and nothing is changed
abbrev pub answer_to : Limits → List Event → List ℕ → List ℕ
answer_to l es event = answer_bytes (answer l (state l es) (parse event))

abbrev pub Took : Limits → List Event → List ℕ → List ℕ → List ℕ → List ℕ → List ℕ → Result ℕ CallError → Type 0
Took l es event before after out out' (Ok n) =
    Written (length (answer_to l es event)) (answer_to l es event) out out' n
    × (after ≡ kept_memory l (parse event ∷ es) ++ drop (length (kept_memory l es)) before)
    × After l (parse event ∷ es) after
Took l es event before after out out' (Err ShortAnswer) = Unwritten (length (answer_to l es event)) out out' × (after ≡ before)
Took l es event before after out out' (Err NotAClient) = ⊥

-- what `handle` says of any memory and any bytes
pub record Handled (event before after out out' : List ℕ) (r : Result ℕ CallError) : Type 0 where
  pub took : (l : Limits) (es : List Event) → After l es before → Took l es event before after out out' r
  pub others : plausible before ≡ false → (r ≡ Err NotAClient) × (after ≡ before) × (out' ≡ out)

-- a client's memory is never taken for none
abbrev pub OfAClient : {A : Type 0} → (A → Type 0) → Result A CallError → Type 0
OfAClient P (Ok x) = P x
OfAClient P (Err e) = ⊥

-- what it lets the deciding for a slot come to
abbrev pub Lets : List ℕ → ℕ → Data → Result Bool CallError → Type 0
Lets xs k d r = (l : Limits) (es : List Event) → After l es xs → OfAClient (λ b. b ≡ lets_now (state l es) k d) r

-- the entry at a place of its past
abbrev pub Remembers : List ℕ → ℕ → Result (Option Entry) CallError → Type 0
Remembers xs i r =
    (l : Limits) (es : List Event) → After l es xs → OfAClient (λ o. entry_found o ≡ take 1 (drop i (state l es).past)) r

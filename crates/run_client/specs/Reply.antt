-- What the program says to a line. Assumes nothing: these are definitions.
use Rattle.std.specs.Prelude.{◌≡◌, ℕ, Bool, List}
use Rattle.protocol.specs.Client.{Event, Limits, State, state, answer, lets_now}
use Rattle.protocol.specs.Meaning.{limits_of}
use Rattle.protocol.specs.Promise.{GoodLimits}
use Rattle.protocol.specs.Text.{limits_text}
use Rattle.protocol.specs.declared.sizes.Limits as declared
use Rattle.events.specs.Layout.{event_bytes, parse}
use Rattle.client.specs.Stage.{none}
use Rattle.text.specs.Text.{Asked, event, may, past, raw, request_text, answer_text, past_text, may_text}

-- to what is asked, in a state: an event is handed to the client as its bytes
unfoldable pub reply_text : Limits → State → Asked → List ℕ
reply_text l s (event e) = answer_text (answer l s (parse (event_bytes e)))
reply_text l s (may k d) = may_text (lets_now s k d)
reply_text l s past = past_text s.past
reply_text l s (raw bs) = answer_text (answer l s (parse bs))

-- after any events whatever, a text is the answer to an event's bytes
abbrev pub Answers : Limits → List ℕ → List ℕ → Type 0
Answers l bs text = (es : List Event) → text ≡ answer_text (answer l (state l es) (parse bs))

-- after any events whatever, a text is what is said to what is asked
abbrev pub Says : Limits → Asked → List ℕ → Type 0
Says l q text = (es : List Event) → text ≡ reply_text l (state l es) q

-- a line asks something, and a text is what is said to it
abbrev pub RepliesTo : Limits → List ℕ → List ℕ → Type 0
RepliesTo l line text = (q : Asked) × (line ≡ request_text q) × Says l q text

-- a line says limits that are in range
pub record Opened (l : declared.Limits) (line : List ℕ) : Type 0 where
  pub said : (can : ℕ → Bool) → line ≡ limits_text (limits_of can l)
  pub good : GoodLimits none (limits_of none l)

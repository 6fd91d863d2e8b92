-- The bytes that a client is handed for a request. Assumes nothing: these are definitions.
use Rattle.std.specs.Prelude.{ℕ, List, Some, None, Option}
use Rattle.events.specs.Layout.{event_bytes}
use Rattle.text.specs.Text.{Asked, event, may, past, raw}

-- those of an event, or raw ones; a question has none
unfoldable pub asked_bytes : Asked → Option (List ℕ)
asked_bytes (event e) = Some (event_bytes e)
asked_bytes (may k d) = None
asked_bytes past = None
asked_bytes (raw bs) = Some bs

-- Bytes by their first one, and what is known of a slice's bytes: they are below 256, so whatever they are read as can be carried.
use Rattle.std.proofs.Common.{◌≡◌, ℕ, ◌<◌, ◌≤◌, true, List, ◌∷◌, length, get_or, drop, Result, sym, ap, ◌∙◌, arith, w8, Fits}
use Rattle.std.proofs.ByRecursion.{All-from_get_or}
use Rattle.protocol.specs.Client.{garbled}
use Rattle.protocol.specs.Promise.{readable}
use Rattle.wire.specs.Bytes.{AllBytes}
use Rattle.std.specs.Prelude.{IsErr}
use Rattle.std.proofs.lemmas.Result.{IfOk-from_err}
use Rattle.events.specs.declared.event.Event.{Event}
use Rattle.events.specs.declared.kind.EventKind.{EventKind}
use Rattle.events.specs.Kinds.{event_kind}
use Rattle.events.specs.declared.event.Garbled.{Garbled}
use Rattle.events.specs.Layout.{parse}
use Rattle.events.specs.Reading.{read_as, EventExact, ExactEvent}
use Rattle.events.proofs.EventKinds.{parse_unknown}
use Rattle.events.proofs.EventLaws.{read_readable}

-- the bytes of a slice
pub bytes_fit : (bs : List ℕ) → ((i : ℕ) → Fits w8 (get_or bs i 0)) → AllBytes bs
bytes_fit bs h = All-from_get_or (λ b. b < 256) bs 0 (λ i l. let f = h i in omega arith)

-- what bytes are by their first one, where it is the number of a kind of events, and where it is that of none
pub by_kind : (bs rest : List ℕ) (n : ℕ) (k k' : EventKind) → bs ≡ n ∷ rest → event_kind k ≡ n → k ≡ k' → parse bs ≡ parse (event_kind k' ∷ drop 1 bs)
by_kind bs rest n k k' p q e = rw (p, sym q, e)

pub by_no_kind : (bs rest : List ℕ) (n : ℕ) → bs ≡ n ∷ rest → 5 ≤ n → parse bs ≡ garbled 0
by_no_kind bs rest n p h = rw p (parse_unknown n rest h)

-- the clauses on reading, from the first and the last, and of bytes that are none, from the first
module _ (bs : List ℕ) (h : (i : ℕ) → Fits w8 (get_or bs i 0)) (l : length bs < 18446744073709551616) (r : Result Event Garbled) where
  pub read_all : read_as r ≡ parse bs → EventExact r → record { event : read_as r ≡ parse bs; carried : readable (read_as r) ≡ true; exact : EventExact r }
  read_all p e = record { event = p; carried = ap readable p ∙ read_readable bs (bytes_fit bs h) l; exact = e }

  pub read_none : IsErr r → read_as r ≡ parse bs → record { event : read_as r ≡ parse bs; carried : readable (read_as r) ≡ true; exact : EventExact r }
  read_none e p = read_all p (IfOk-from_err r (λ x. ExactEvent x) e)

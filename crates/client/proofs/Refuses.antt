-- A client that can't do any event turns each away, so its state stays that of a new client: by 1 what is no event, and by 2 all else.
use Rattle.std.proofs.Common.{◌≡◌, ℕ, suc, List, [], ◌∷◌, length, Result, sym, refl, ap, ◌∙◌, subst, MatchResult}
use Rattle.protocol.specs.Data.{pick}
use Rattle.protocol.specs.Client.{Event, duty, decided, share, block, resend, garbled, Answer, refused, Limits, State, new_client, state, after, answer, turned_by, good_fields, event_number, place}
use Rattle.wire.specs.Fixed.{Written, Unwritten}
use Rattle.wire.specs.declared.fixed.Short.{Short}
use Rattle.wire.specs.CodingLemmas.{length_le_bytes}
use Rattle.events.specs.Layout.{parse, answer_bytes}
use Rattle.events.specs.Meaning.{event_of}
use Rattle.events.specs.declared.event.Event.{Event as ReadEvent}
use Rattle.events.specs.declared.event.Event.TheVariants.{OnDuty, Decided, ShareCame, Block, Resend}
use Rattle.client.specs.Stage.{none, Replies}

-- limits of a client that can't do any event
abbrev pub idle : ℕ → ℕ → ℕ → ℕ → Limits
idle clients me kept waiting = record { events_can = none; clients = clients; me = me; kept = kept; waiting = waiting }

-- what such a client answers, whatever its state
unfoldable pub turned_away : Event → Answer
turned_away (duty y) = refused 2 0
turned_away (decided k d) = refused 2 0
turned_away (share s) = refused 2 0
turned_away (block ds) = refused 2 0
turned_away resend = refused 2 0
turned_away (garbled n) = refused 1 n

module _ (clients me kept waiting : ℕ) where
  -- an event changes nothing, and is answered so
  idle_at : (s : State) (e : Event) → (after (idle clients me kept waiting) s e ≡ s) × (answer (idle clients me kept waiting) s e ≡ turned_away e)
  unfolding pick turned_by good_fields event_number place turned_away
  idle_at s (duty y) = (refl, refl)
  idle_at s (decided k d) = (refl, refl)
  idle_at s (share x) = (refl, refl)
  idle_at s (block ds) = (refl, refl)
  idle_at s resend = (refl, refl)
  idle_at s (garbled n) = (refl, refl)

  pub answer_idle : (s : State) (e : Event) → answer (idle clients me kept waiting) s e ≡ turned_away e
  answer_idle s e = (idle_at s e).1

  pub state_idle : (es : List Event) → state (idle clients me kept waiting) es ≡ new_client
  unfolding state
  state_idle [] = refl
  state_idle (e ∷ es) = (idle_at (state (idle clients me kept waiting) es) e).0 ∙ state_idle es

length_refused : (j k : ℕ) → length (answer_bytes (refused j k)) ≡ 10
unfolding answer_bytes
length_refused j k = ap (λ n. suc (suc n)) (length_le_bytes 8 k)

-- what is written of a refusal is the reply to bytes that are refused so
replies : (l : Limits) (bs before now : List ℕ) (r : Result ℕ Short) (j k : ℕ) → ((s : State) → answer l s (parse bs) ≡ refused j k) →
    MatchResult r (Written 10 (answer_bytes (refused j k)) before now) (λ _. Unwritten 10 before now) → Replies l bs before now r
replies l bs before now r j k e w es =
    subst (λ (xs : List ℕ). MatchResult r (Written (length xs) xs before now) (λ _. Unwritten (length xs) before now)) (sym (ap answer_bytes (e (state l es))))
    (subst (λ (n : ℕ). MatchResult r (Written n (answer_bytes (refused j k)) before now) (λ _. Unwritten n before now)) (sym (length_refused j k)) w)

not_served : (e : ReadEvent) → turned_away (event_of e) ≡ refused 2 0
unfolding turned_away event_of
not_served (OnDuty y) = refl
not_served (Decided k d) = refl
not_served (ShareCame s) = refl
not_served (Block r) = refl
not_served Resend = refl

module _ (clients me kept waiting : ℕ) (bs before now : List ℕ) (r : Result ℕ Short) (j : ℕ) where
  -- an event is refused by 2
  pub replies_event : (e : ReadEvent) → event_of e ≡ parse bs → j ≡ 2 →
      MatchResult r (Written 10 (answer_bytes (refused j 0)) before now) (λ _. Unwritten 10 before now) → Replies (idle clients me kept waiting) bs before now r
  replies_event e is two =
      replies (idle clients me kept waiting) bs before now r j 0
      (λ s. answer_idle clients me kept waiting s (parse bs) ∙ sym (ap turned_away is) ∙ not_served e ∙ ap (λ n. refused n 0) (sym two))

  -- what is none by 1, at its place
  pub replies_garbled : (k : ℕ) → garbled k ≡ parse bs → j ≡ 1 →
      MatchResult r (Written 10 (answer_bytes (refused j k)) before now) (λ _. Unwritten 10 before now) → Replies (idle clients me kept waiting) bs before now r
  unfolding turned_away
  replies_garbled k is one =
      replies (idle clients me kept waiting) bs before now r j k
      (λ s. answer_idle clients me kept waiting s (parse bs) ∙ sym (ap turned_away is) ∙ ap (λ n. refused n k) (sym one))

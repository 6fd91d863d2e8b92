-- The stored client does what the definitions say, for each event and after any events whatever. Assumes nothing.
use Rattle.std.proofs.Common.{◌≡◌, ℕ, ◌≤◌, Bool, true, ◌&&◌, ◌||◌, eqb, List, [], ◌∷◌, sym, refl, ap, ◌∙◌, subst, ap₂}
use Rattle.std.proofs.lemmas.Bool.{eqb-true, ltb-true, and_parts}
use Rattle.protocol.specs.Data.{pick, Data}
use Rattle.protocol.specs.Client.{Event, duty, decided, share, block, resend, garbled, refused, Limits, State, event_number, good_fields, turned, turned_by, stepped, doing, place, after, answer, state, lets_now}
use Rattle.safety.proofs.Held.{Held, OfShare, OfShares, held}
use Rattle.safety.proofs.Picks.{pick_two}
use Rattle.stored.specs.Stored.{Bank, Stored}
use Rattle.stored.specs.Stands.{stored_of, StandsFor}
use Rattle.stored.proofs.Stands.{fresh_stands}
use Rattle.keeper.specs.Step.{limits_in, refused_by, refusal, moved, done, step, reply, allows}
use Rattle.keeper.specs.Keeper.{stored_after}
use Rattle.keeper.proofs.Sound.{Sound}
use Rattle.keeper.proofs.Lasting.{sound}
use Rattle.keeper.proofs.Queue.{AtHand, BanksWith}
use Rattle.keeper.proofs.Putting.{share_refused}
use Rattle.keeper.proofs.Events.{duty_stands, decided_stands, share_stands, duty_done, decided_done, share_done}
use Rattle.keeper.proofs.Blocks.{block_stands, block_done}

-- what a client that can do the events of `can` does with an event is what the definitions say
pub record Does (can : ℕ → Bool) (l : Limits) (s : State) (t : Stored) (e : Event) : Type 0 where
  pub refuses : refusal can t e ≡ turned l s e
  pub stands : StandsFor l (after l s e) (step can t e)
  pub replies : reply can t e ≡ answer l s e

-- the shares that came are of clients of the group, and no two are of one client for one slot
abbrev pub Came : Limits → State → Type 0
Came l s = Held l.clients (λ z. Unit {0}) s.got

module _ (can : ℕ → Bool) (l : Limits) (some : 1 ≤ l.waiting) (cans : (k : ℕ) → l.events_can k ≡ can k) (s : State) (sound : Sound l s) (came : Came l s)
    (bs : List Bank) (newest : AtHand s) (banks : BanksWith l s.queue s bs) where
  abbrev now : Stored
  now = stored_of l s bs

  -- it is turned away by the same number
  fields_same : (e : Event) → good_fields (limits_in can now) e ≡ good_fields l e
  unfolding good_fields
  fields_same (duty y) = refl
  fields_same (decided k d) = refl
  fields_same (share x) = refl
  fields_same (block ds) = refl
  fields_same resend = refl
  fields_same (garbled n) = refl

  refused_same : (e : Event) → good_fields l e ≡ true → refused_by now e ≡ turned_by l s e
  unfolding refused_by turned_by good_fields
  refused_same (duty y) good = refl
  refused_same (decided k d) good = refl
  refused_same (share x) good = share_refused l.clients l.waiting s x bs (ltb-true x.who l.clients good) banks
  refused_same (block ds) good = refl
  refused_same resend good = refl
  refused_same (garbled n) good = refl

  refusal_same : (e : Event) → refusal can now e ≡ turned l s e
  refusal_same e =
      let k : ℕ = event_number e in
      let able : Bool = eqb k 255 || l.events_can k in
      ap₂ (λ a b. pick ((eqb k 255 || a) && b) (refused_by now e) 2) (sym (cans k)) (fields_same e)
      ∙ pick_two (able && good_fields l e) (refused_by now e) 2 (turned_by l s e) 2 (λ p q. p ≡ q) (λ t. refused_same e (and_parts able (good_fields l e) t).1) (λ _. refl)

  -- what is taken leaves what the definitions leave, and the client does what they do
  moved_stands : (e : Event) → turned l s e ≡ 0 → StandsFor l (stepped l s e) (moved now e)
  unfolding stepped moved
  moved_stands (duty y) taken = duty_stands l some s bs newest banks y taken sound
  moved_stands (decided k d) taken = decided_stands l some s bs newest banks k d
  moved_stands (share x) taken = share_stands l some s bs newest banks x taken sound
  moved_stands (block ds) taken = block_stands l some s bs newest banks sound ds
  moved_stands resend taken = record { is = refl; hand = newest; banks = banks }
  moved_stands (garbled n) taken = record { is = refl; hand = newest; banks = banks }

  done_same : (e : Event) → turned l s e ≡ 0 → done can now e ≡ doing l s e
  unfolding done doing
  done_same (duty y) taken = duty_done l some s bs newest banks can y taken sound
  done_same (decided k d) taken = decided_done l some s bs newest banks can k d
  done_same (share x) taken = share_done l some s bs newest banks can x taken sound came
  done_same (block ds) taken = block_done l some s bs newest banks sound ds can
  done_same resend taken = refl
  done_same (garbled n) taken = refl

  -- so it does all that they say
  does_now : (e : Event) → Does can l s now e
  does_now e =
      let n : ℕ = turned l s e in
      let is : refusal can now e ≡ n = refusal_same e in
      record {
        refuses = is;
        stands = subst (λ r. StandsFor l (after l s e) (pick (eqb r 0) (moved now e) now)) (sym is)
            (pick_two (eqb n 0) (stepped l s e) s (moved now e) now (StandsFor l) (λ t. moved_stands e (eqb-true n 0 t))
            (λ _. record { is = refl; hand = newest; banks = banks }));
        replies = ap (λ r. pick (eqb r 0) (done can now e) (refused r (place e r))) is
            ∙ pick_two (eqb n 0) (done can now e) (refused n (place e n)) (doing l s e) (refused n (place e n)) (λ a b. a ≡ b) (λ t. done_same e (eqb-true n 0 t)) (λ _. refl);
      }

-- a stored client that stands for limits and a state does what they do
pub does_as : (can : ℕ → Bool) (l : Limits) → 1 ≤ l.waiting → ((k : ℕ) → l.events_can k ≡ can k) → (s : State) (t : Stored) → Sound l s → Came l s → StandsFor l s t →
    (e : Event) → Does can l s t e
does_as can l some cans s t sound came h e =
    subst (λ (u : Stored). Does can l s u e) (sym h.is) (does_now can l some cans s sound came t.banks h.hand h.banks e)

-- and lets what they let
pub allows_as : {l : Limits} {s : State} {t : Stored} → StandsFor l s t → (k : ℕ) (d : Data) → allows t k d ≡ lets_now s k d
allows_as h k d = ap (λ (u : Stored). allows u k d) h.is

-- of the shares of events nothing is asked
any_share : (e : Event) → OfShare (λ z. Unit {0}) e
any_share (duty y) = tt
any_share (decided k d) = tt
any_share (share x) = tt
any_share (block ds) = tt
any_share resend = tt
any_share (garbled n) = tt

any_shares : (es : List Event) → OfShares (λ z. Unit {0}) es
any_shares [] = tt
any_shares (e ∷ es) = (any_share e, any_shares es)

-- the shares that came, after any events
pub came : (l : Limits) (es : List Event) → Came l (state l es)
came l es = held l (λ z. Unit {0}) es (any_shares es)

-- after any events whatever
pub always_stands : (can : ℕ → Bool) (l : Limits) → 1 ≤ l.waiting → ((k : ℕ) → l.events_can k ≡ can k) → (es : List Event) → StandsFor l (state l es) (stored_after can l es)
unfolding state stored_after
always_stands can l some cans [] = fresh_stands l
always_stands can l some cans (e ∷ es) = (does_as can l some cans (state l es) (stored_after can l es) (sound l es) (came l es) (always_stands can l some cans es) e).stands

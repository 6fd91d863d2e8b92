-- An event is turned away by the first refusal that applies: the number by which it is turned away is that of the first test
-- that passes. Assumes nothing.
use Rattle.std.proofs.Common.{◌≡◌, ℕ, suc, ◌<◌, ◌≤◌, Bool, true, false, not, eqb, ltb, ◌⊎◌, List, [], ◌∷◌, length, sym, refl, ap, ◌∙◌, subst, inl, inr, arith}
use Rattle.std.proofs.lemmas.Bool.{both_ways, cases_lt}
use Rattle.protocol.specs.Data.{pick}
use Rattle.protocol.specs.Client.{Event, duty, decided, share, block, resend, garbled, Limits, State, turned, turned_by, good_fields, event_number, listens, from_him, twice}
use Rattle.protocol.specs.Refusals.{Refusal, no_event, not_served, not_after, no_room, not_listened_for, second_share, two_for_a_slot, number, Applies, FirstThatApplies}
use Rattle.safety.proofs.Picks.{pick_both}
use Rattle.safety.proofs.Tests.{on_duty, on_share, on_block, served, test, passes, applies}

-- the number of the first test that passes, 0 for none
first_passed : (Refusal → Bool) → List Refusal → ℕ
first_passed t [] = 0
first_passed t (r ∷ rs) = pick (t r) (number r) (first_passed t rs)

in_turn : List Refusal
in_turn = no_event ∷ (not_served ∷ (not_after ∷ (no_room ∷ (not_listened_for ∷ (second_share ∷ (two_for_a_slot ∷ []))))))

-- an event is turned away by the first test that passes
by_duty : (a b c : Bool) → pick {A = ℕ} a (pick b 3 (pick c 0 4)) 2 ≡ pick (not a) 2 (pick b 3 (pick (not c) 4 0))
unfolding pick
by_duty true true c = refl
by_duty true false true = refl
by_duty true false false = refl
by_duty false b c = refl

by_share : (a b c : Bool) → pick {A = ℕ} a (pick b (pick c 6 0) 5) 2 ≡ pick (not a) 2 (pick (not b) 5 (pick c 6 0))
unfolding pick
by_share true true c = refl
by_share true false c = refl
by_share false b c = refl

by_other : (a : Bool) (n : ℕ) → pick {A = ℕ} a n 2 ≡ pick (not a) 2 n
unfolding pick
by_other true n = refl
by_other false n = refl

turned_first : (l : Limits) (s : State) (e : Event) → turned l s e ≡ first_passed (test l s e) in_turn
unfolding first_passed in_turn test turned_by event_number good_fields on_duty on_share on_block pick
turned_first l s (duty y) = by_duty (served l (duty y)) (ltb y.slot s.after) (ltb (length s.queue) l.waiting)
turned_first l s (decided k d) = by_other (served l (decided k d)) 0
turned_first l s (share x) = by_share (served l (share x)) (listens s x.what.slot) (from_him x.who x.what.slot s.got)
turned_first l s (block ds) = by_other (served l (block ds)) (pick (twice ds) 7 0)
turned_first l s resend = by_other (served l resend) 0
turned_first l s (garbled n) = refl

-- a refusal by its number
named : ℕ → Refusal
named n = pick (eqb n 1) no_event (pick (eqb n 2) not_served (pick (eqb n 3) not_after (pick (eqb n 4) no_room (pick (eqb n 5) not_listened_for (pick (eqb n 6) second_share two_for_a_slot)))))

named_number : (r : Refusal) → named (number r) ≡ r
unfolding named pick
named_number no_event = refl
named_number not_served = refl
named_number not_after = refl
named_number no_room = refl
named_number not_listened_for = refl
named_number second_share = refl
named_number two_for_a_slot = refl

-- the refusals from number k on, all of them
abbrev From : ℕ → List Refusal → Type 0
From k [] = (r : Refusal) → number r < k
From k (r ∷ rs) = (number r ≡ k) × From (suc k) rs

-- what the statement says of the number n
abbrev Said : Limits → State → Event → ℕ → Type 0
Said l s e n =
    ((n ≡ 0) × ((r : Refusal) → ¬ Applies l s e r))
    ⊎ ((r : Refusal) × (n ≡ number r) × Applies l s e r × ((q : Refusal) → number q < number r → ¬ Applies l s e q))

first_said : (l : Limits) (s : State) (e : Event) (rs : List Refusal) (k : ℕ) → From k rs → ((q : Refusal) → number q < k → ¬ Applies l s e q) →
    Said l s e (first_passed (test l s e) rs)
unfolding first_passed
first_said l s e [] k from none = inl (refl, λ r. none r (from r))
first_said l s e (r ∷ rs) k from none =
    pick_both (test l s e r) (number r) (first_passed (test l s e) rs) (Said l s e)
    (λ t. inr (r, refl, applies l s e r t, λ q less. none q (omega (arith, from.0))))
    (λ f. first_said l s e rs (suc k) from.1 (λ q less. one_more f q (cases_lt (number q) k) less))
  where
    one_more : test l s e r ≡ false → (q : Refusal) → (number q < k) ⊎ (k ≤ number q) → number q < suc k → ¬ Applies l s e q
    one_more f q (inl before) less h = none q before h
    one_more f q (inr at_least_lem) less h =
        let n : number q ≡ number r = omega (arith, from.0) in
        let e' : q ≡ r = sym (named_number q) ∙ (ap named n ∙ named_number r) in
        both_ways (test l s e r) f (passes l s e r (subst (Applies l s e) e' h))

at_most_seven : (r : Refusal) → number r < 8
at_most_seven no_event = omega arith
at_most_seven not_served = omega arith
at_most_seven not_after = omega arith
at_most_seven no_room = omega arith
at_most_seven not_listened_for = omega arith
at_most_seven second_share = omega arith
at_most_seven two_for_a_slot = omega arith

at_least_one : (r : Refusal) → 1 ≤ number r
at_least_one no_event = omega arith
at_least_one not_served = omega arith
at_least_one not_after = omega arith
at_least_one no_room = omega arith
at_least_one not_listened_for = omega arith
at_least_one second_share = omega arith
at_least_one two_for_a_slot = omega arith

pub first_that_applies : FirstThatApplies
unfolding in_turn
first_that_applies l s e =
    subst (Said l s e) (sym (turned_first l s e))
    (first_said l s e in_turn 1 (refl, (refl, (refl, (refl, (refl, (refl, (refl, at_most_seven))))))) (λ q less. absurd (omega (arith, at_least_one q))))

-- With the newest duty first in the queue duties are not begun in order, though all that is being decided is still below the
-- next duty: three duties, of which the third overtakes the second. Assumes nothing.
use Rattle.std.proofs.Common.{◌≡◌, ℕ, suc, ◌≤◌, true, false, eqb, ltb, List, [], ◌∷◌, ◌++◌, sym, refl, ap, ◌∙◌, subst, arith}
use Rattle.std.proofs.lemmas.Bool.{ltb-false, eqb-true, lt-ltb, and_parts, and_from, both_ways}
use Rattle.protocol.specs.Data.{pick, Data, Duty, first_of, into}
use Rattle.protocol.specs.Client.{Event, duty, decided, share, block, resend, garbled, Answer, refused, Limits, State, turned, turned_by, good_fields, event_number, place, begun, begun_if, next, learned, begin_or_wait, ahead_of, has_slot, told, by_block, gone, duty_gone, by_decided, sends_decided, own_with, stepped, doing, answer, state, signed, without_current, with_after}
use Rattle.protocol.specs.Promise.{all_before}
use Rattle.protocol.specs.Runs.{begins, all_begun, rising}
use Rattle.safety.specs.Queues.{newest_last, newest_first, stepped_with, doing_with, after_with, answer_with, state_with, all_begun_with, BegunInOrderWith, NewestFirstFails}
use Rattle.safety.proofs.Picks.{pick_both}
use Rattle.safety.proofs.Order.{below_more, below_first, below_not_for, not_before, begun_in_order}

-- with the newest last it is the client of the definitions
stepped_same : (l : Limits) (s : State) (e : Event) → stepped_with newest_last l s e ≡ stepped l s e
unfolding stepped_with stepped
stepped_same l s (duty y) = refl
stepped_same l s (decided k d) = refl
stepped_same l s (share x) = refl
stepped_same l s (block ds) = refl
stepped_same l s resend = refl
stepped_same l s (garbled n) = refl

doing_same : (l : Limits) (s : State) (e : Event) → doing_with newest_last l s e ≡ doing l s e
unfolding doing_with stepped_with doing stepped
doing_same l s (duty y) = refl
doing_same l s (decided k d) = refl
doing_same l s (share x) = refl
doing_same l s (block ds) = refl
doing_same l s resend = refl
doing_same l s (garbled n) = refl

state_same : (l : Limits) (es : List Event) → state_with newest_last l es ≡ state l es
unfolding state_with state
state_same l [] = refl
state_same l (e ∷ es) =
    ap (λ (s : State). after_with newest_last l s e) (state_same l es)
    ∙ ap (λ (t : State). pick (eqb (turned l (state l es) e) 0) t (state l es)) (stepped_same l (state l es) e)

answer_same : (l : Limits) (s : State) (e : Event) → answer_with newest_last l s e ≡ answer l s e
answer_same l s e = ap (λ (a : Answer). pick (eqb (turned l s e) 0) a (refused (turned l s e) (place e (turned l s e)))) (doing_same l s e)

begun_same : (l : Limits) (es : List Event) → all_begun_with newest_last l es ≡ all_begun l es
unfolding all_begun_with all_begun
begun_same l [] = refl
begun_same l (e ∷ es) =
    ap (λ bs. bs ++ begins (answer_with newest_last l (state_with newest_last l es) e)) (begun_same l es)
    ∙ ap (λ a. all_begun l es ++ begins a) (ap (λ (s : State). answer_with newest_last l s e) (state_same l es) ∙ answer_same l (state l es) e)

newest_last_in_order : BegunInOrderWith newest_last
newest_last_in_order l es = subst (λ bs. rising bs ≡ true) (sym (begun_same l es)) (begun_in_order l es)

-- all that waits, and all that is being decided, is below the next duty
abbrev BelowWith : List Duty → State → Type 0
BelowWith ys s = (all_before s.after ys ≡ true) × (all_before s.after s.active ≡ true)

abbrev Below : State → Type 0
Below s = BelowWith s.queue s

begin_below : (l : Limits) (cur : List Duty) (y : Duty) (ys : List Duty) (s : State) → BelowWith (y ∷ ys) s → Below (begin_or_wait l cur y ys s)
unfolding begin_or_wait all_before
begin_below l [] y ys s h =
    let p = and_parts (ltb y.slot s.after) (all_before s.after ys) h.0 in
    (p.1, below_first s.after l.waiting (y ∷ s.active) (and_from (ltb y.slot s.after) (all_before s.after s.active) p.0 h.1))
begin_below l (c ∷ cs) y ys s h = h

learned_below : (l : Limits) (ds : List Data) (k : ℕ) (ys : List Duty) (s : State) → BelowWith ys s → BelowWith ys (learned l ds k s)
unfolding learned
learned_below l [] k ys s h = h
learned_below l (d ∷ ds) k ys s h = h

next_below : (l : Limits) (ys : List Duty) (s : State) → BelowWith ys s → Below (next l ys s)
unfolding next all_before
next_below l [] s h = h
next_below l (y ∷ ys) s h =
    let p = and_parts (ltb y.slot s.after) (all_before s.after ys) h.0 in
    let ds : List Data = ahead_of y.slot s.ahead in
    pick_both (has_slot y.slot s.ahead) (next l ys (learned l ds y.slot s)) (begin_or_wait l s.current y ys s) Below
    (λ _. next_below l ys (learned l ds y.slot s) (learned_below l ds y.slot ys s (p.1, h.1))) (λ _. begin_below l s.current y ys s h)

decided_below : (l : Limits) (cur : List Duty) (k : ℕ) (d : Data) (s : State) → Below s → Below (by_decided l cur k d s)
unfolding by_decided
decided_below l [] k d s h = h
decided_below l (y ∷ ys) k d s h = pick_both (eqb y.slot k) _ s Below (λ _. next_below l s.queue _ h) (λ _. h)

gone_below : (l : Limits) (ds : List Data) (s : State) → Below s → Below (gone l ds s)
unfolding gone
gone_below l [] s h = h
gone_below l (d ∷ ds) s h = next_below l s.queue (without_current (signed l s d)) h

block_below : (l : Limits) (cur : List Duty) (all : List Data) (s : State) → Below s → Below (duty_gone l cur all s)
unfolding duty_gone
block_below l [] all s h = h
block_below l (y ∷ ys) all s h = gone_below l (ahead_of y.slot all) s h

duty_below : (l : Limits) (s : State) (y : Duty) → turned l s (duty y) ≡ 0 → Below s → Below (stepped_with newest_first l s (duty y))
unfolding stepped_with turned_by all_before
duty_below l s y t h =
    let k : ℕ = suc y.slot in
    let late : s.after ≤ y.slot = ltb-false y.slot s.after (not_before _ _ _ t) in
    let le : s.after ≤ k = omega arith in
    next_below l (y ∷ s.queue) (with_after k s) (
      and_from (ltb y.slot k) (all_before k s.queue) (lt-ltb y.slot k (omega arith)) (below_more s.after k s.queue le h.0),
      below_more s.after k s.active le h.1,
    )

taken_below : (l : Limits) (s : State) (e : Event) → turned l s e ≡ 0 → Below s → Below (stepped_with newest_first l s e)
unfolding stepped_with stepped
taken_below l s (duty y) t h = duty_below l s y t h
taken_below l s (decided k d) t h = decided_below l s.current k d s h
taken_below l s (share x) t h = h
taken_below l s (block ds) t h =
    block_below l s.current (told l s ds) (by_block l s ds) (h.0, below_not_for s.after (told l s ds) s.active h.1)
taken_below l s resend t h = h
taken_below l s (garbled n) t h = h

always_below : (l : Limits) (es : List Event) → Below (state_with newest_first l es)
unfolding state_with all_before
always_below l [] = (refl, refl)
always_below l (e ∷ es) =
    let s : State = state_with newest_first l es in
    let h = always_below l es in
    pick_both (eqb (turned l s e) 0) (stepped_with newest_first l s e) s Below (λ t. taken_below l s e (eqb-true (turned l s e) 0 t) h) (λ _. h)

-- three duties are given; when the first is decided the third is begun, and then the second
one_client : Limits
one_client = record { events_can = λ k. true; clients = 1; me = 0; kept = 1; waiting = 2 }

given : ℕ → Event
given n = duty (record { slot = n; committee = 0; seat = 0 })

came_to : ℕ → Event
came_to n = decided n (record { slot = n; committee = 0; block = 0; source = 0; source_root = 0; target = n; target_root = 0 })

overtaking : List Event
overtaking = came_to 3 ∷ (came_to 1 ∷ (given 3 ∷ (given 2 ∷ (given 1 ∷ []))))

not_rising : rising (all_begun_with newest_first one_client overtaking) ≡ false
unfolding one_client given came_to overtaking rising all_begun_with state_with stepped_with doing_with stepped doing turned_by good_fields event_number next begin_or_wait by_decided sends_decided begun_if begun first_of own_with into pick has_slot
not_rising = refl

pub newest_first_fails : NewestFirstFails
newest_first_fails =
    (newest_last_in_order, λ l es. (always_below l es).1, λ ordered. both_ways (rising (all_begun_with newest_first one_client overtaking)) not_rising (ordered one_client overtaking))

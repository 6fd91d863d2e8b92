-- Duties are begun in the order of their slots. What waits ascends, above every duty that was begun and all that is being
-- decided, and below the slot from which new duties are taken; each event keeps that. Assumes nothing.
use Rattle.std.proofs.Common.{◌≡◌, ℕ, zero, suc, ◌<◌, ◌≤◌, Bool, true, false, ◌||◌, eqb, ltb, ◌⊎◌, List, [], ◌∷◌, ◌++◌, length, sym, refl, ap, ◌∙◌, subst, inl, inr, ⊎_elim, append-nil, arith}
use Rattle.std.proofs.lemmas.Bool.{ltb-true, ltb-false, eqb-true, lt-ltb, and_parts, and_from}
use Rattle.protocol.specs.Data.{pick, Data, Duty, first_of}
use Rattle.protocol.specs.Client.{Event, duty, decided, share, block, resend, garbled, Limits, State, turned, turned_by, begun, begun_if, next, learned, begin_or_wait, ahead_of, has_slot, not_for, ends, told, by_block, gone, duty_gone, by_decided, sends_decided, stepped, doing, answer, after, state, signed, with_ahead, without_current, with_after, without}
use Rattle.protocol.specs.Promise.{all_before, InOrder, TurnedAway}
use Rattle.protocol.specs.Runs.{begins, all_begun, rising, BegunInOrder}
use Rattle.safety.proofs.Picks.{pick_both, pick_two}

-- slots from lo on, each above the one before, and all below hi
abbrev Ascends : ℕ → List Duty → ℕ → Type 0
Ascends lo [] hi = lo ≤ hi
Ascends lo (y ∷ ys) hi = (lo ≤ y.slot) × Ascends (suc y.slot) ys hi

-- none or one
abbrev AtMostOne : List Duty → Type 0
AtMostOne [] = Unit {0}
AtMostOne (y ∷ []) = Unit {0}
AtMostOne (y ∷ (z ∷ zs)) = ⊥

record Sorted (bs cur act queue : List Duty) (hi : ℕ) : Type 0 where
  lo : ℕ
  rises : rising bs ≡ true
  begun_below : all_before lo bs ≡ true
  active_below : all_before lo act ≡ true
  waiting : Ascends lo queue hi
  one_at_hand : AtMostOne cur

-- a client that has begun bs, in order; the same with another queue
abbrev InOrderAfter : List Duty → State → Type 0
InOrderAfter bs s = Sorted bs s.current s.active s.queue s.after

abbrev WithQueue : List Duty → List Duty → State → Type 0
WithQueue bs ys s = Sorted bs s.current s.active ys s.after

ascends_le : (lo : ℕ) (ys : List Duty) (hi : ℕ) → Ascends lo ys hi → lo ≤ hi
ascends_le lo [] hi h = h
ascends_le lo (y ∷ ys) hi h = omega (arith, h.0, ascends_le (suc y.slot) ys hi h.1)

ascends_end : (lo : ℕ) (ys : List Duty) (hi : ℕ) (y : Duty) → Ascends lo ys hi → hi ≤ y.slot → Ascends lo (ys ++ (y ∷ [])) (suc y.slot)
ascends_end lo [] hi y h e = (omega arith, omega arith)
ascends_end lo (x ∷ xs) hi y h e = (h.0, ascends_end (suc x.slot) xs hi y h.1 e)

pub below_more : (a b : ℕ) (ys : List Duty) → a ≤ b → all_before a ys ≡ true → all_before b ys ≡ true
unfolding all_before
below_more a b [] le h = refl
below_more a b (y ∷ ys) le h =
    let p = and_parts (ltb y.slot a) (all_before a ys) h in
    and_from (ltb y.slot b) (all_before b ys) (lt-ltb y.slot b (omega (arith, ltb-true y.slot a p.0))) (below_more a b ys le p.1)

pub below_first : (k n : ℕ) (ys : List Duty) → all_before k ys ≡ true → all_before k (first_of n ys) ≡ true
unfolding all_before first_of
below_first k zero ys h = refl
below_first k (suc n) [] h = refl
below_first k (suc n) (y ∷ ys) h =
    let p = and_parts (ltb y.slot k) (all_before k ys) h in
    and_from (ltb y.slot k) (all_before k (first_of n ys)) p.0 (below_first k n ys p.1)

pub below_not_for : (k : ℕ) (ds : List Data) (ys : List Duty) → all_before k ys ≡ true → all_before k (not_for ds ys) ≡ true
unfolding all_before not_for
below_not_for k ds [] h = refl
below_not_for k ds (y ∷ ys) h =
    let p = and_parts (ltb y.slot k) (all_before k ys) h in
    let rest = below_not_for k ds ys p.1 in
    pick_both (has_slot y.slot ds) (not_for ds ys) (y ∷ not_for ds ys) (λ zs. all_before k zs ≡ true)
    (λ _. rest) (λ _. and_from (ltb y.slot k) (all_before k (not_for ds ys)) p.0 rest)

below_end : (k : ℕ) (bs : List Duty) (y : Duty) → all_before k bs ≡ true → y.slot < k → all_before k (bs ++ (y ∷ [])) ≡ true
unfolding all_before
below_end k [] y h e = and_from (ltb y.slot k) true (lt-ltb y.slot k e) refl
below_end k (b ∷ bs) y h e =
    let p = and_parts (ltb b.slot k) (all_before k bs) h in
    and_from (ltb b.slot k) (all_before k (bs ++ (y ∷ []))) p.0 (below_end k bs y p.1 e)

rising_end : (k : ℕ) (bs : List Duty) (y : Duty) → rising bs ≡ true → all_before k bs ≡ true → k ≤ y.slot → rising (bs ++ (y ∷ [])) ≡ true
unfolding rising all_before
rising_end k [] y r h e = refl
rising_end k (b ∷ []) y r h e =
    and_from (ltb b.slot y.slot) true (lt-ltb b.slot y.slot (omega (arith, ltb-true b.slot k (and_parts (ltb b.slot k) true h).0))) refl
rising_end k (b ∷ (c ∷ cs)) y r h e =
    let p = and_parts (ltb b.slot c.slot) (rising (c ∷ cs)) r in
    and_from (ltb b.slot c.slot) (rising (c ∷ (cs ++ (y ∷ [])))) p.0
    (rising_end k (c ∷ cs) y p.1 (and_parts (ltb b.slot k) (all_before k (c ∷ cs)) h).1 e)

-- nothing more was begun
none_more : (bs bs' cur act queue : List Duty) (hi : ℕ) → bs' ≡ [] → Sorted bs cur act queue hi → Sorted (bs ++ bs') cur act queue hi
none_more bs bs' cur act queue hi e o = subst (λ (xs : List Duty). Sorted xs cur act queue hi) (sym (ap (λ xs. bs ++ xs) e ∙ append-nil bs)) o

same_begun : (cs : List Duty) → begun cs cs ≡ []
unfolding begun
same_begun [] = refl
same_begun (c ∷ cs) = refl

-- the first that waits was decided without being begun
skip : (bs cur act : List Duty) (y : Duty) (ys : List Duty) (hi : ℕ) → Sorted bs cur act (y ∷ ys) hi → Sorted bs cur act ys hi
skip bs cur act y ys hi o =
    let le : o.lo ≤ suc y.slot = omega (arith, o.waiting.0) in
    record {
      lo = suc y.slot;
      rises = o.rises;
      begun_below = below_more o.lo (suc y.slot) bs le o.begun_below;
      active_below = below_more o.lo (suc y.slot) act le o.active_below;
      waiting = o.waiting.1;
      one_at_hand = o.one_at_hand;
    }

-- in order after what was begun in t, where cur was at hand before
abbrev Now : List Duty → List Duty → State → Type 0
Now bs cur t = InOrderAfter (bs ++ begun cur t.current) t

begin_sorted : (l : Limits) (cur : List Duty) (y : Duty) (ys bs : List Duty) (s : State) → WithQueue bs (y ∷ ys) s → Now bs cur (begin_or_wait l cur y ys s)
unfolding begin_or_wait begun all_before
begin_sorted l [] y ys bs s o =
    let le : o.lo ≤ suc y.slot = omega (arith, o.waiting.0) in
    let last : y.slot < suc y.slot = omega arith in
    record {
      lo = suc y.slot;
      rises = rising_end o.lo bs y o.rises o.begun_below o.waiting.0;
      begun_below = below_end (suc y.slot) bs y (below_more o.lo (suc y.slot) bs le o.begun_below) last;
      active_below = below_first (suc y.slot) l.waiting (y ∷ s.active)
          (and_from (ltb y.slot (suc y.slot)) (all_before (suc y.slot) s.active) (lt-ltb y.slot (suc y.slot) last)
          (below_more o.lo (suc y.slot) s.active le o.active_below));
      waiting = o.waiting.1;
      one_at_hand = tt;
    }
begin_sorted l (c ∷ cs) y ys bs s o = none_more bs [] s.current s.active (y ∷ ys) s.after refl o

through_learned : (l : Limits) (ys bs : List Duty) (k : ℕ) (s : State) → ((t : State) → WithQueue bs ys t → Now bs t.current (next l ys t)) →
    WithQueue bs ys s → (ds : List Data) → Now bs s.current (next l ys (learned l ds k s))
unfolding learned
through_learned l ys bs k s ih o [] = ih s o
through_learned l ys bs k s ih o (d ∷ ds) = ih (with_ahead (without k s.ahead) (signed l s d)) o

next_sorted : (l : Limits) (ys bs : List Duty) (s : State) → WithQueue bs ys s → Now bs s.current (next l ys s)
unfolding next
next_sorted l [] bs s o = none_more bs (begun s.current s.current) s.current s.active [] s.after (same_begun s.current) o
next_sorted l (y ∷ ys) bs s o =
    pick_both (has_slot y.slot s.ahead) (next l ys (learned l (ahead_of y.slot s.ahead) y.slot s)) (begin_or_wait l s.current y ys s)
    (λ t. Now bs s.current t)
    (λ _. through_learned l ys bs y.slot s (λ t. next_sorted l ys bs t) (skip bs s.current s.active y ys s.after o) (ahead_of y.slot s.ahead))
    (λ _. begin_sorted l s.current y ys bs s o)

-- a duty that is taken is for no slot before those that waits are below
pub not_before : (a b c : Bool) → pick {A = ℕ} a (pick b 3 (pick c 0 4)) 2 ≡ 0 → b ≡ false
unfolding pick
not_before true true c e = absurd (omega arith)
not_before true false c e = refl
not_before false b c e = absurd (omega arith)

duty_sorted : (l : Limits) (bs : List Duty) (s : State) (y : Duty) → turned l s (duty y) ≡ 0 → InOrderAfter bs s → Now bs s.current (stepped l s (duty y))
unfolding stepped turned_by
duty_sorted l bs s y e o =
    let late : s.after ≤ y.slot = ltb-false y.slot s.after (not_before _ _ _ e) in
    next_sorted l (s.queue ++ (y ∷ [])) bs (with_after (suc y.slot) s)
    (record {
      lo = o.lo;
      rises = o.rises;
      begun_below = o.begun_below;
      active_below = o.active_below;
      waiting = ascends_end o.lo s.queue s.after y o.waiting late;
      one_at_hand = o.one_at_hand;
    })

decided_sorted : (l : Limits) (bs : List Duty) (s : State) (k : ℕ) (d : Data) (cur : List Duty) → InOrderAfter bs s →
    InOrderAfter (bs ++ begun_if (sends_decided l cur k d) (by_decided l cur k d s).current) (by_decided l cur k d s)
unfolding by_decided sends_decided begun_if begun
decided_sorted l bs s k d [] o = none_more bs [] s.current s.active s.queue s.after refl o
decided_sorted l bs s k d (y ∷ ys) o =
    pick_two (eqb y.slot k) _ _ _ _ (λ sent t. InOrderAfter (bs ++ begun_if sent t.current) t)
    (λ _. next_sorted l s.queue bs _
    (record { lo = o.lo; rises = o.rises; begun_below = o.begun_below; active_below = o.active_below; waiting = o.waiting; one_at_hand = tt }))
    (λ _. none_more bs [] s.current s.active s.queue s.after refl o)

-- whether data has a slot, and the first of it for that slot
has_and_first : (k : ℕ) (ds : List Data) → ((has_slot k ds ≡ false) × (ahead_of k ds ≡ [])) ⊎ ((d : Data) × (has_slot k ds ≡ true) × (ahead_of k ds ≡ d ∷ []))
unfolding has_slot ahead_of pick
has_and_first k [] = inl (refl, refl)
has_and_first k (d ∷ ds) = by_first (eqb d.slot k) (has_and_first k ds)
  where
    by_first : (b : Bool) →
        ((has_slot k ds ≡ false) × (ahead_of k ds ≡ [])) ⊎ ((x : Data) × (has_slot k ds ≡ true) × (ahead_of k ds ≡ x ∷ [])) →
        (((b || has_slot k ds) ≡ false) × (pick b (d ∷ []) (ahead_of k ds) ≡ []))
        ⊎ ((x : Data) × ((b || has_slot k ds) ≡ true) × (pick b (d ∷ []) (ahead_of k ds) ≡ x ∷ []))
    by_first true rest = inr (d, refl, refl)
    by_first false rest = rest

-- what a block leaves, where t is what it leaves of all but the duty at hand
gone_sorted : (l : Limits) (bs : List Duty) (all : List Data) (t : State) (cur : List Duty) → t.current ≡ cur → InOrderAfter bs t →
    Now bs (pick (eqb (length (ends all cur)) 0) cur []) (duty_gone l cur all t)
unfolding duty_gone ends begun pick gone
gone_sorted l bs all t [] e o = none_more bs t.current t.current t.active t.queue t.after e o
gone_sorted l bs all t (y ∷ []) e o =
    ⊎_elim
    (λ none. rw (none.0, none.1) (none_more bs [] t.current t.active t.queue t.after refl o))
    (λ some. rw (some.1, some.2) (next_sorted l t.queue bs (without_current (signed l t some.0))
    (record { lo = o.lo; rises = o.rises; begun_below = o.begun_below; active_below = o.active_below; waiting = o.waiting; one_at_hand = tt })))
    (has_and_first y.slot all)
gone_sorted l bs all t (y ∷ (z ∷ zs)) e o = absurd (subst AtMostOne e o.one_at_hand)

block_sorted : (l : Limits) (bs : List Duty) (s : State) (ds : List Data) → InOrderAfter bs s →
    InOrderAfter (bs ++ begins (doing l s (block ds))) (stepped l s (block ds))
unfolding stepped doing
block_sorted l bs s ds o =
    gone_sorted l bs (told l s ds) (by_block l s ds) s.current refl
    (record { lo = o.lo; rises = o.rises; begun_below = o.begun_below; active_below = below_not_for o.lo (told l s ds) s.active o.active_below; waiting = o.waiting; one_at_hand = o.one_at_hand })

taken_sorted : (l : Limits) (bs : List Duty) (s : State) (e : Event) → turned l s e ≡ 0 → InOrderAfter bs s →
    InOrderAfter (bs ++ begins (doing l s e)) (stepped l s e)
unfolding stepped doing
taken_sorted l bs s (duty y) t o = duty_sorted l bs s y t o
taken_sorted l bs s (decided k d) t o = decided_sorted l bs s k d s.current o
taken_sorted l bs s (share x) t o = none_more bs [] s.current s.active s.queue s.after refl o
taken_sorted l bs s (block ds) t o = block_sorted l bs s ds o
taken_sorted l bs s resend t o = none_more bs [] s.current s.active s.queue s.after refl o
taken_sorted l bs s (garbled n) t o = none_more bs [] s.current s.active s.queue s.after refl o

event_sorted : (l : Limits) (bs : List Duty) (s : State) (e : Event) → InOrderAfter bs s → InOrderAfter (bs ++ begins (answer l s e)) (after l s e)
event_sorted l bs s e o =
    pick_two (eqb (turned l s e) 0) _ _ _ _ (λ a t. InOrderAfter (bs ++ begins a) t)
    (λ taken. taken_sorted l bs s e (eqb-true (turned l s e) 0 taken) o)
    (λ _. none_more bs [] s.current s.active s.queue s.after refl o)

always_sorted : (l : Limits) (es : List Event) → InOrderAfter (all_begun l es) (state l es)
unfolding all_begun state all_before rising
always_sorted l [] = record { lo = 0; rises = refl; begun_below = refl; active_below = refl; waiting = omega arith; one_at_hand = tt }
always_sorted l (e ∷ es) = event_sorted l (all_begun l es) (state l es) e (always_sorted l es)

pub begun_in_order : BegunInOrder
begun_in_order l es = (always_sorted l es).rises

pub in_order : InOrder
unfolding InOrder
in_order l es =
    let o = always_sorted l es in
    below_more o.lo (state l es).after (state l es).active (ascends_le o.lo (state l es).queue (state l es).after o.waiting) o.active_below

-- what is turned away changes nothing
pub turned_away : TurnedAway
unfolding TurnedAway
turned_away l s e h =
    pick_both (eqb (turned l s e) 0) (stepped l s e) s (λ t. t ≡ s) (λ z. absurd (omega (arith, eqb-true (turned l s e) 0 z))) (λ _. refl)

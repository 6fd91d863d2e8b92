-- Each refusal as a test, which passes just where the refusal applies. Assumes nothing.
use Rattle.std.proofs.Common.{◌≡◌, ℕ, suc, ◌≤◌, Bool, true, false, not, ◌&&◌, ◌||◌, eqb, ltb, leb, ◌≢◌, ◌⊎◌, List, length, sym, refl, subst, inl, inr, ⊎_elim, arith}
use Rattle.std.proofs.lemmas.Bool.{ltb-true, ltb-false, leb-false, lt-ltb, le-ltb, lt-leb, and_left, and_right, and_cases, or_parts, or_from, not-true, not_from_false, both_ways, cases_Bool}
use Rattle.protocol.specs.Data.{Data, Duty}
use Rattle.protocol.specs.Client.{Share, Event, duty, decided, share, block, resend, garbled, Limits, State, good_fields, event_number, for_some, listens, from_him, twice}
use Rattle.protocol.specs.Refusals.{Member, Refusal, no_event, not_served, not_after, no_room, not_listened_for, second_share, two_for_a_slot, NoEvent, NotServed, Applies}
use Rattle.safety.proofs.Members.{for_some_from, for_some_to, from_him_from, from_him_to, twice_from, twice_to}

-- a test of the duty, the share, the data of an event of that kind
unfoldable pub on_duty : (Duty → Bool) → Event → Bool
on_duty f (duty y) = f y
on_duty f (decided k d) = false
on_duty f (share x) = false
on_duty f (block ds) = false
on_duty f resend = false
on_duty f (garbled n) = false

unfoldable pub on_share : (Share → Bool) → Event → Bool
on_share f (duty y) = false
on_share f (decided k d) = false
on_share f (share x) = f x
on_share f (block ds) = false
on_share f resend = false
on_share f (garbled n) = false

unfoldable pub on_block : (List Data → Bool) → Event → Bool
on_block f (duty y) = false
on_block f (decided k d) = false
on_block f (share x) = false
on_block f (block ds) = f ds
on_block f resend = false
on_block f (garbled n) = false

on_duty_from : (f : Duty → Bool) (e : Event) (y : Duty) → e ≡ duty y → f y ≡ true → on_duty f e ≡ true
unfolding on_duty
on_duty_from f e y p h = subst (λ (x : Event). on_duty f x ≡ true) (sym p) h

on_share_from : (f : Share → Bool) (e : Event) (x : Share) → e ≡ share x → f x ≡ true → on_share f e ≡ true
unfolding on_share
on_share_from f e x p h = subst (λ (z : Event). on_share f z ≡ true) (sym p) h

on_block_from : (f : List Data → Bool) (e : Event) (ds : List Data) → e ≡ block ds → f ds ≡ true → on_block f e ≡ true
unfolding on_block
on_block_from f e ds p h = subst (λ (x : Event). on_block f x ≡ true) (sym p) h

no : {A : Type 0} → false ≡ true → A
no h = absurd (both_ways false refl h)

on_duty_to : (f : Duty → Bool) (e : Event) → on_duty f e ≡ true → (y : Duty) × (e ≡ duty y) × (f y ≡ true)
unfolding on_duty
on_duty_to f (duty y) h = (y, refl, h)
on_duty_to f (decided k d) h = no h
on_duty_to f (share x) h = no h
on_duty_to f (block ds) h = no h
on_duty_to f resend h = no h
on_duty_to f (garbled n) h = no h

on_share_to : (f : Share → Bool) (e : Event) → on_share f e ≡ true → (x : Share) × (e ≡ share x) × (f x ≡ true)
unfolding on_share
on_share_to f (duty y) h = no h
on_share_to f (decided k d) h = no h
on_share_to f (share x) h = (x, refl, h)
on_share_to f (block ds) h = no h
on_share_to f resend h = no h
on_share_to f (garbled n) h = no h

on_block_to : (f : List Data → Bool) (e : Event) → on_block f e ≡ true → (ds : List Data) × (e ≡ block ds) × (f ds ≡ true)
unfolding on_block
on_block_to f (duty y) h = no h
on_block_to f (decided k d) h = no h
on_block_to f (share x) h = no h
on_block_to f (block ds) h = (ds, refl, h)
on_block_to f resend h = no h
on_block_to f (garbled n) h = no h

abbrev pub served : Limits → Event → Bool
served l e = (eqb (event_number e) 255 || l.events_can (event_number e)) && good_fields l e

-- whether a refusal applies, as a test
unfoldable pub test : Limits → State → Event → Refusal → Bool
test l s e no_event = eqb (event_number e) 255
test l s e not_served = not (served l e)
test l s e not_after = on_duty (λ y. ltb y.slot s.after) e
test l s e no_room = on_duty (λ y. not (ltb (length s.queue) l.waiting)) e
test l s e not_listened_for = on_share (λ x. not (listens s x.what.slot)) e
test l s e second_share = on_share (λ x. from_him x.who x.what.slot s.got) e
test l s e two_for_a_slot = on_block twice e

-- only bytes that are no event have the number 255
garbled_from : (e : Event) → NoEvent e → eqb (event_number e) 255 ≡ true
unfolding event_number
garbled_from e h = subst (λ (x : Event). eqb (event_number x) 255 ≡ true) (sym h.1) refl

garbled_to : (e : Event) → eqb (event_number e) 255 ≡ true → NoEvent e
unfolding event_number
garbled_to (duty y) h = no h
garbled_to (decided k d) h = no h
garbled_to (share x) h = no h
garbled_to (block ds) h = no h
garbled_to resend h = no h
garbled_to (garbled n) h = (n, refl)

not_garbled : (e : Event) → eqb (event_number e) 255 ≡ false → (n : ℕ) → e ≢ garbled n
not_garbled e h n p = both_ways (eqb (event_number e) 255) h (garbled_from e (n, p))

-- fields that are out of range are what the test of the fields finds
bad_fields : (l : Limits) (e e' : Event) → e ≡ e' → good_fields l e' ≡ false → served l e ≡ false
bad_fields l e e' p h =
    and_right (eqb (event_number e) 255 || l.events_can (event_number e)) (good_fields l e) (subst (λ (x : Event). good_fields l x ≡ false) (sym p) h)

unserved_from : (l : Limits) (e : Event) → NotServed l e → served l e ≡ false
unfolding good_fields
unserved_from l e (inl h) =
    and_left (eqb (event_number e) 255 || l.events_can (event_number e)) (good_fields l e)
    (or_from (eqb (event_number e) 255) (l.events_can (event_number e))
    (⊎_elim (λ t. let g = garbled_to e t in absurd (h.1 g.0 g.1)) (λ f. f) (cases_Bool (eqb (event_number e) 255))) h.0)
unserved_from l e (inr (inl h)) = bad_fields l e (share h.0) h.1 (le-ltb h.0.who l.clients h.2)
unserved_from l e (inr (inr (inl h))) = bad_fields l e (duty h.0) h.1 (le-ltb (suc h.0.slot) 18446744073709551616 (omega (arith, h.2)))
unserved_from l e (inr (inr (inr h))) = bad_fields l e (block h.0) h.1 (lt-leb (length h.0) 64 h.2)

unserved_to : (l : Limits) (e : Event) → served l e ≡ false → NotServed l e
unfolding event_number good_fields
unserved_to l (duty y) h =
    ⊎_elim (λ c. inl (c, not_garbled (duty y) refl))
    (λ g. let far : 18446744073709551616 ≤ suc y.slot = ltb-false (suc y.slot) 18446744073709551616 g in inr (inr (inl (y, refl, omega arith))))
    (and_cases (l.events_can 0) (ltb (suc y.slot) 18446744073709551616) h)
unserved_to l (decided k d) h = ⊎_elim (λ c. inl (c, not_garbled (decided k d) refl)) (λ g. absurd (both_ways true g refl)) (and_cases (l.events_can 1) true h)
unserved_to l (share x) h =
    ⊎_elim (λ c. inl (c, not_garbled (share x) refl)) (λ g. inr (inl (x, refl, ltb-false x.who l.clients g)))
    (and_cases (l.events_can 2) (ltb x.who l.clients) h)
unserved_to l (block ds) h =
    ⊎_elim (λ c. inl (c, not_garbled (block ds) refl)) (λ g. inr (inr (inr (ds, refl, leb-false (length ds) 64 g))))
    (and_cases (l.events_can 3) (leb (length ds) 64) h)
unserved_to l resend h = ⊎_elim (λ c. inl (c, not_garbled resend refl)) (λ g. absurd (both_ways true g refl)) (and_cases (l.events_can 4) true h)
unserved_to l (garbled n) h = absurd (both_ways true h refl)

-- a slot is listened for where a duty that is being decided or waits is for it
unheard_from : (s : State) (k : ℕ) → ((y : Duty) → Member y s.active ⊎ Member y s.queue → y.slot ≢ k) → listens s k ≡ false
unheard_from s k n =
    or_from (for_some k s.active) (for_some k s.queue)
    (none s.active (λ y m. n y (inl m))) (none s.queue (λ y m. n y (inr m)))
  where
    none : (ys : List Duty) → ((y : Duty) → Member y ys → y.slot ≢ k) → for_some k ys ≡ false
    none ys h = ⊎_elim (λ t. let r = for_some_to k ys t in absurd (h r.0 r.1 r.2)) (λ f. f) (cases_Bool (for_some k ys))

unheard_to : (s : State) (k : ℕ) → listens s k ≡ false → (y : Duty) → Member y s.active ⊎ Member y s.queue → y.slot ≢ k
unheard_to s k h y m e =
    let p = or_parts (for_some k s.active) (for_some k s.queue) h in
    ⊎_elim (λ a. both_ways _ p.0 (for_some_from k s.active y a e)) (λ q. both_ways _ p.1 (for_some_from k s.queue y q e)) m

-- the tests say just what applies

pub passes : (l : Limits) (s : State) (e : Event) (r : Refusal) → Applies l s e r → test l s e r ≡ true
unfolding test
passes l s e no_event h = garbled_from e h
passes l s e not_served h = not_from_false (served l e) (unserved_from l e h)
passes l s e not_after h = on_duty_from _ e h.0 h.1 (lt-ltb h.0.slot s.after h.2)
passes l s e no_room h =
    on_duty_from _ e h.0 h.1 (not_from_false (ltb (length s.queue) l.waiting) (le-ltb (length s.queue) l.waiting h.2))
passes l s e not_listened_for h =
    on_share_from _ e h.0 h.1 (not_from_false (listens s h.0.what.slot) (unheard_from s h.0.what.slot h.2))
passes l s e second_share h =
    on_share_from _ e h.0 h.1 (from_him_from h.0.who h.0.what.slot s.got h.2 h.3 h.4 h.5)
passes l s e two_for_a_slot h = on_block_from twice e h.0 h.1 (twice_from h.0 h.2 h.3 h.4 h.5 h.6 h.7)

pub applies : (l : Limits) (s : State) (e : Event) (r : Refusal) → test l s e r ≡ true → Applies l s e r
unfolding test
applies l s e no_event h = garbled_to e h
applies l s e not_served h = unserved_to l e (not-true (served l e) h)
applies l s e not_after h = let r = on_duty_to _ e h in (r.0, r.1, ltb-true r.0.slot s.after r.2)
applies l s e no_room h =
    let r = on_duty_to _ e h in (r.0, r.1, ltb-false (length s.queue) l.waiting (not-true (ltb (length s.queue) l.waiting) r.2))
applies l s e not_listened_for h =
    let r = on_share_to _ e h in (r.0, r.1, unheard_to s r.0.what.slot (not-true (listens s r.0.what.slot) r.2))
applies l s e second_share h =
    let r = on_share_to _ e h in
    let z = from_him_to r.0.who r.0.what.slot s.got r.2 in
    (r.0, r.1, z.0, z.1, z.2, z.3)
applies l s e two_for_a_slot h =
    let r = on_block_to twice e h in
    let z = twice_to r.0 r.2 in
    (r.0, r.1, z.0, z.1, z.2, z.3, z.4, z.5)

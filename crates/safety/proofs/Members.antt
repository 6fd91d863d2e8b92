-- What the tests over duties, shares and data find is a member of them, and each such member is found. Assumes nothing.
use Rattle.std.proofs.Common.{◌≡◌, ℕ, true, false, not, ◌&&◌, eqb, ◌≢◌, List, [], ◌∷◌, sym, refl, ap, ◌∙◌, inl, inr, ⊎_elim}
use Rattle.std.proofs.lemmas.Bool.{eqb-true, eq-eqb, and_parts, and_from, or_cases, or_left, or_right, not-true, not_from_false, both_ways}
use Rattle.protocol.specs.Data.{Data, same, Duty}
use Rattle.protocol.specs.Client.{Share, for_some, from_him, other_for, twice}
use Rattle.protocol.specs.Refusals.{Member}
use Rattle.safety.proofs.Same.{same_eq, same_apart}

-- a duty for the slot is among these
pub for_some_from : (k : ℕ) (ys : List Duty) (y : Duty) → Member y ys → y.slot ≡ k → for_some k ys ≡ true
unfolding for_some
for_some_from k [] y m h = elim m [ ]
for_some_from k (x ∷ xs) y (inl e) h = or_left (eqb x.slot k) (for_some k xs) (eq-eqb x.slot k (ap (λ (z : Duty). z.slot) (sym e) ∙ h))
for_some_from k (x ∷ xs) y (inr m) h = or_right (eqb x.slot k) (for_some k xs) (for_some_from k xs y m h)

pub for_some_to : (k : ℕ) (ys : List Duty) → for_some k ys ≡ true → (y : Duty) × Member y ys × (y.slot ≡ k)
unfolding for_some
for_some_to k [] h = absurd (both_ways false refl h)
for_some_to k (x ∷ xs) h =
    ⊎_elim (λ a. (x, inl refl, eqb-true x.slot k a)) (λ b. let r = for_some_to k xs b in (r.0, inr r.1, r.2)) (or_cases (eqb x.slot k) (for_some k xs) h)

-- a share of the client for the slot is among these
pub from_him_from : (w k : ℕ) (ss : List Share) (z : Share) → Member z ss → z.who ≡ w → z.what.slot ≡ k → from_him w k ss ≡ true
unfolding from_him
from_him_from w k [] z m hw hk = elim m [ ]
from_him_from w k (x ∷ xs) z (inl e) hw hk =
    or_left (eqb x.who w && eqb x.what.slot k) (from_him w k xs)
    (and_from (eqb x.who w) (eqb x.what.slot k) (eq-eqb x.who w (ap (λ (s : Share). s.who) (sym e) ∙ hw))
    (eq-eqb x.what.slot k (ap (λ (s : Share). s.what.slot) (sym e) ∙ hk)))
from_him_from w k (x ∷ xs) z (inr m) hw hk = or_right (eqb x.who w && eqb x.what.slot k) (from_him w k xs) (from_him_from w k xs z m hw hk)

pub from_him_to : (w k : ℕ) (ss : List Share) → from_him w k ss ≡ true → (z : Share) × Member z ss × (z.who ≡ w) × (z.what.slot ≡ k)
unfolding from_him
from_him_to w k [] h = absurd (both_ways false refl h)
from_him_to w k (x ∷ xs) h =
    ⊎_elim
    (λ a. let p = and_parts (eqb x.who w) (eqb x.what.slot k) a in (x, inl refl, eqb-true x.who w p.0, eqb-true x.what.slot k p.1))
    (λ b. let r = from_him_to w k xs b in (r.0, inr r.1, r.2, r.3))
    (or_cases (eqb x.who w && eqb x.what.slot k) (from_him w k xs) h)

-- other data for the slot is among these
other_from : (d : Data) (ds : List Data) (x : Data) → Member x ds → d.slot ≡ x.slot → d ≢ x → other_for d ds ≡ true
unfolding other_for
other_from d [] x m h n = elim m [ ]
other_from d (y ∷ ys) x (inl e) h n =
    or_left (eqb d.slot y.slot && not (same d y)) (other_for d ys)
    (and_from (eqb d.slot y.slot) (not (same d y)) (eq-eqb d.slot y.slot (h ∙ ap (λ (z : Data). z.slot) e))
    (not_from_false (same d y) (same_apart d y (λ p. n (p ∙ sym e)))))
other_from d (y ∷ ys) x (inr m) h n = or_right (eqb d.slot y.slot && not (same d y)) (other_for d ys) (other_from d ys x m h n)

other_to : (d : Data) (ds : List Data) → other_for d ds ≡ true → (x : Data) × Member x ds × (d.slot ≡ x.slot) × (d ≢ x)
unfolding other_for
other_to d [] h = absurd (both_ways false refl h)
other_to d (y ∷ ys) h =
    ⊎_elim
    (λ a. let p = and_parts (eqb d.slot y.slot) (not (same d y)) a in
    (y, inl refl, eqb-true d.slot y.slot p.0, λ e. both_ways (same d y) (not-true (same d y) p.1) (same_eq d y e)))
    (λ b. let r = other_to d ys b in (r.0, inr r.1, r.2, r.3))
    (or_cases (eqb d.slot y.slot && not (same d y)) (other_for d ys) h)

pub twice_from : (ds : List Data) (a b : Data) → Member a ds → Member b ds → a.slot ≡ b.slot → a ≢ b → twice ds ≡ true
unfolding twice
twice_from [] a b m k h n = elim m [ ]
twice_from (d ∷ ds) a b (inl p) (inl q) h n = absurd (n (p ∙ sym q))
twice_from (d ∷ ds) a b (inl p) (inr m) h n =
    or_left (other_for d ds) (twice ds) (other_from d ds b m (ap (λ (z : Data). z.slot) (sym p) ∙ h) (λ e. n (p ∙ e)))
twice_from (d ∷ ds) a b (inr m) (inl q) h n =
    or_left (other_for d ds) (twice ds) (other_from d ds a m (ap (λ (z : Data). z.slot) (sym q) ∙ sym h) (λ e. n (sym (q ∙ e))))
twice_from (d ∷ ds) a b (inr m) (inr k) h n = or_right (other_for d ds) (twice ds) (twice_from ds a b m k h n)

pub twice_to : (ds : List Data) → twice ds ≡ true → (a : Data) × (b : Data) × Member a ds × Member b ds × (a.slot ≡ b.slot) × (a ≢ b)
unfolding twice
twice_to [] h = absurd (both_ways false refl h)
twice_to (d ∷ ds) h =
    ⊎_elim
    (λ o. let r = other_to d ds o in (d, r.0, inl refl, inr r.1, r.2, r.3))
    (λ t. let r = twice_to ds t in (r.0, r.1, inr r.2, inr r.3, r.4, r.5))
    (or_cases (other_for d ds) (twice ds) h)

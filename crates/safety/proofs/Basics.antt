-- What the argument needs of lists: what the definitions take out of a list was in it, and what they put in is all that is new.
-- Assumes nothing.
use Rattle.std.proofs.Common.{◌≡◌, ℕ, zero, suc, Bool, true, false, eqb, ltb, ◌⊎◌, List, [], ◌∷◌, ◌++◌, refl, ap, ◌∙◌, inl, inr, ⊎_elim}
use Rattle.std.proofs.lemmas.Bool.{eqb-true}
use Rattle.protocol.specs.Data.{pick, Data, Duty, first_of}
use Rattle.protocol.specs.Client.{Share, ahead_of, has_slot, without, by_slot, all_by_slot, above, not_for, shares_not_for, own_with, still_ahead}
use Rattle.protocol.specs.Refusals.{Member}
use Rattle.safety.proofs.Picks.{pick_both}

-- a property of each of three things is one of what is picked
pick_three : {A : Type 0} (b c : Bool) (x y z : A) (P : A → Type 0) → P x → P y → P z → P (pick b x (pick c y z))
pick_three b c x y z P p q r = pick_both b x (pick c y z) P (λ e. p) (λ e. pick_both c y z P (λ i. q) (λ i. r))

pub first_none : {A : Type 0} (n : ℕ) → first_of {A = A} n [] ≡ []
unfolding first_of
first_none zero = refl
first_none (suc n) = refl

-- the first n of a list are among it
pub member_first : {A : Type 0} (n : ℕ) (xs : List A) (x : A) → Member x (first_of n xs) → Member x xs
unfolding first_of
member_first zero xs x h = absurd h
member_first (suc n) [] x h = h
member_first (suc n) (y ∷ ys) x (inl e) = inl e
member_first (suc n) (y ∷ ys) x (inr h) = inr (member_first n ys x h)

-- what is in two lists after one another is in one of them
pub member_append : {A : Type 0} (xs ys : List A) (x : A) → Member x (xs ++ ys) → Member x xs ⊎ Member x ys
member_append [] ys x h = inr h
member_append (z ∷ xs) ys x (inl e) = inl (inl e)
member_append (z ∷ xs) ys x (inr h) = ⊎_elim (λ m. inl (inr m)) (λ m. inr m) (member_append xs ys x h)

pub member_left : {A : Type 0} (xs ys : List A) (x : A) → Member x xs → Member x (xs ++ ys)
member_left [] ys x h = absurd h
member_left (z ∷ xs) ys x (inl e) = inl e
member_left (z ∷ xs) ys x (inr h) = inr (member_left xs ys x h)

pub member_right : {A : Type 0} (xs ys : List A) (x : A) → Member x ys → Member x (xs ++ ys)
member_right [] ys x h = h
member_right (z ∷ xs) ys x h = inr (member_right xs ys x h)

-- an element is dropped or stays, by a test
member_dropped : {A : Type 0} (b : Bool) (x : A) (less xs : List A) (z : A) → (Member z less → Member z xs) → Member z (pick b less (x ∷ less)) → Member z (x ∷ xs)
unfolding pick
member_dropped true x less xs z s h = inr (s h)
member_dropped false x less xs z s h = ⊎_elim (λ e. inl e) (λ m. inr (s m)) h

member_stays : {A : Type 0} (b : Bool) (x : A) (less xs : List A) (z : A) → (Member z less → Member z xs) → Member z (pick b (x ∷ less) less) → Member z (x ∷ xs)
unfolding pick
member_stays true x less xs z s h = ⊎_elim (λ e. inl e) (λ m. inr (s m)) h
member_stays false x less xs z s h = inr (s h)

-- what the definitions take out of lists was in them
pub member_without : (k : ℕ) (ds : List Data) (d : Data) → Member d (without k ds) → Member d ds
unfolding without
member_without k [] d h = h
member_without k (x ∷ xs) d h = member_dropped (eqb x.slot k) x (without k xs) xs d (member_without k xs d) h

pub member_not_for : (ds : List Data) (ys : List Duty) (y : Duty) → Member y (not_for ds ys) → Member y ys
unfolding not_for
member_not_for ds [] y h = h
member_not_for ds (x ∷ xs) y h = member_dropped (has_slot x.slot ds) x (not_for ds xs) xs y (member_not_for ds xs y) h

pub member_shares_not_for : (ds : List Data) (ss : List Share) (s : Share) → Member s (shares_not_for ds ss) → Member s ss
unfolding shares_not_for
member_shares_not_for ds [] s h = h
member_shares_not_for ds (x ∷ xs) s h =
    member_dropped (has_slot x.what.slot ds) x (shares_not_for ds xs) xs s (member_shares_not_for ds xs s) h

member_above : (k : ℕ) (ds : List Data) (d : Data) → Member d (above k ds) → Member d ds
unfolding above
member_above k [] d h = h
member_above k (x ∷ xs) d h = member_stays (ltb k x.slot) x (above k xs) xs d (member_above k xs d) h

pub member_still : (ys : List Duty) (ds : List Data) (d : Data) → Member d (still_ahead ys ds) → Member d ds
unfolding still_ahead
member_still [] ds d h = h
member_still (y ∷ ys) ds d h = member_above y.slot ds d h

-- what is ahead for a slot is for that slot
pub member_ahead : (k : ℕ) (ds : List Data) (d : Data) → Member d (ahead_of k ds) → Member d ds × (d.slot ≡ k)
unfolding ahead_of
member_ahead k [] d = λ h. absurd h
member_ahead k (x ∷ xs) d =
    pick_both (eqb x.slot k) (x ∷ []) (ahead_of k xs) (λ t. Member d t → Member d (x ∷ xs) × (d.slot ≡ k))
    (λ e. ⊎_elim (λ i. (inl i, ap (λ (z : Data). z.slot) i ∙ eqb-true x.slot k e)) (λ h. absurd h))
    (λ e h. let r = member_ahead k xs d h in (inr r.0, r.1))

-- what is put in is all that is new, wherever it goes: in front, in place of another, or further on
module _ {A : Type 0} (x z : A) (rest zs : List A) (d : A) where
  instead : Member d (x ∷ zs) → (d ≡ x) ⊎ Member d (z ∷ zs)
  instead = ⊎_elim (λ e. inl e) (λ m. inr (inr m))

  further : (Member d rest → (d ≡ x) ⊎ Member d zs) → Member d (z ∷ rest) → (d ≡ x) ⊎ Member d (z ∷ zs)
  further r = ⊎_elim (λ e. inr (inl e)) (λ m. ⊎_elim (λ e. inl e) (λ k. inr (inr k)) (r m))

member_by_slot : (x : Data) (ds : List Data) (d : Data) → Member d (by_slot x ds) → (d ≡ x) ⊎ Member d ds
unfolding by_slot
member_by_slot x [] d = λ h. h
member_by_slot x (z ∷ zs) d =
    pick_three (ltb x.slot z.slot) (eqb x.slot z.slot) (x ∷ (z ∷ zs)) (x ∷ zs) (z ∷ by_slot x zs) (λ t. Member d t → (d ≡ x) ⊎ Member d (z ∷ zs))
    (λ h. h) (instead x z (by_slot x zs) zs d) (further x z (by_slot x zs) zs d (member_by_slot x zs d))

pub member_told : (ds more : List Data) (d : Data) → Member d (all_by_slot ds more) → Member d ds ⊎ Member d more
unfolding all_by_slot
member_told [] more d h = inr h
member_told (x ∷ xs) more d h =
    ⊎_elim (λ m. inl (inr m)) (λ m. ⊎_elim (λ e. inl (inl e)) (λ n. inr n) (member_by_slot x more d m)) (member_told xs (by_slot x more) d h)

pub member_own_with : (x : Share) (ss : List Share) (s : Share) → Member s (own_with x ss) → (s ≡ x) ⊎ Member s ss
unfolding own_with
member_own_with x [] s = λ h. h
member_own_with x (z ∷ zs) s =
    pick_three (eqb x.what.slot z.what.slot) (ltb z.what.slot x.what.slot) (x ∷ zs) (x ∷ (z ∷ zs)) (z ∷ own_with x zs)
    (λ t. Member s t → (s ≡ x) ⊎ Member s (z ∷ zs)) (instead x z (own_with x zs) zs s) (λ h. h) (further x z (own_with x zs) zs s (member_own_with x zs s))

-- What stays of a list when some slots go is what passes a test of the slot.
use Rattle.std.proofs.Common.{◌≡◌, ℕ, zero, suc, Bool, true, false, cond, not, eqb, ltb, leb, List, [], ◌∷◌, sym, refl, ap, ◌∙◌}
use lib.Dec.{leb-zero}
use Rattle.protocol.specs.Data.{pick, Data, Duty}
use Rattle.protocol.specs.Client.{Share, has_slot, without, above, not_for, shares_not_for, ends}
use Rattle.rows.specs.Rows.{kept}
use Rattle.keeper.specs.Step.{still_after}
use Rattle.keeper.specs.Ready.{duty_slots}

-- a value picked by a test, as the lists of rows pick it
pick_cond : {A : Type 0} (b : Bool) (x y : A) → pick b x y ≡ cond b x y
unfolding pick
pick_cond true x y = refl
pick_cond false x y = refl

pick_other : {A : Type 0} (b : Bool) (x y : A) → pick b x y ≡ cond (not b) y x
unfolding pick
pick_other true x y = refl
pick_other false x y = refl

-- what goes through a list and keeps what passes a test
keeping : {X : Type 0} (test : X → Bool) (f : List X → List X) → f [] ≡ [] → ((x : X) (xs : List X) → f (x ∷ xs) ≡ cond (test x) (x ∷ f xs) (f xs)) → (xs : List X) → f xs ≡ kept test xs
unfolding kept
keeping test f none more [] = none
keeping test f none more (x ∷ xs) = more x xs ∙ ap (λ t. cond (test x) (x ∷ t) t) (keeping test f none more xs)

-- all but those for a slot; those after it
pub without_kept : (k : ℕ) (ds : List Data) → without k ds ≡ kept (λ d. not (eqb d.slot k)) ds
unfolding without
without_kept k = keeping (λ d. not (eqb d.slot k)) (without k) refl (λ d es. pick_other (eqb d.slot k) _ _)

above_kept : (k : ℕ) (ds : List Data) → above k ds ≡ kept (λ d. ltb k d.slot) ds
unfolding above
above_kept k = keeping (λ d. ltb k d.slot) (above k) refl (λ d es. pick_cond (ltb k d.slot) _ _)

-- what is after the latest duty
pub still_after_kept : (j : ℕ) (ds : List Data) → still_after j ds ≡ kept (λ d. leb j d.slot) ds
unfolding still_after
still_after_kept zero =
    keeping (λ d. leb 0 d.slot) (λ ds. ds) refl (λ d es. ap (λ b. cond b (d ∷ es) es) (sym (leb-zero d.slot)))
still_after_kept (suc k) = above_kept k

-- duties and shares for slots that data is not for
pub not_for_kept : (ds : List Data) (ys : List Duty) → not_for ds ys ≡ kept (λ y. not (has_slot y.slot ds)) ys
unfolding not_for
not_for_kept ds =
    keeping (λ y. not (has_slot y.slot ds)) (not_for ds) refl (λ y ys. pick_other (has_slot y.slot ds) _ _)

pub shares_not_for_kept : (ds : List Data) (ss : List Share) → shares_not_for ds ss ≡ kept (λ s. not (has_slot s.what.slot ds)) ss
unfolding shares_not_for
shares_not_for_kept ds =
    keeping (λ s. not (has_slot s.what.slot ds)) (shares_not_for ds) refl (λ s ss. pick_other (has_slot s.what.slot ds) _ _)

-- the slots of duties that data is for
pub ends_kept : (ds : List Data) (ys : List Duty) → ends ds ys ≡ duty_slots (kept (λ y. has_slot y.slot ds) ys)
unfolding ends kept pick
ends_kept ds [] = refl
ends_kept ds (y ∷ ys) =
    let rest : List Duty = kept (λ z. has_slot z.slot ds) ys in
    elim (has_slot y.slot ds) as (λ b. pick b (y.slot ∷ ends ds ys) (ends ds ys) ≡ duty_slots (cond b (y ∷ rest) rest)) [
      | true ↦ ap (λ t. y.slot ∷ t) (ends_kept ds ys)
      | false ↦ ends_kept ds ys
    ]

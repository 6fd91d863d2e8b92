-- What holds of each element of lists holds of each element of the lists that the steps make of them.
use Rattle.std.proofs.Common.{ℕ, zero, suc, ltb, List, [], ◌∷◌, sym, refl, subst, inl, inr, ⊎_elim}
use Rattle.std.specs.List.{AllByRecursion}
use Rattle.protocol.specs.Data.{Data, Past, into}
use Rattle.protocol.specs.Client.{Share, all_by_slot, above, own_with}
use Rattle.protocol.specs.Refusals.{Member}
use Rattle.safety.proofs.Basics.{member_told, member_own_with}
use Rattle.safety.proofs.Pasts.{into_member}
use Rattle.safety.proofs.Picks.{pick_both}
use Rattle.keeper.specs.Step.{still_after}

-- of each element, and of each member
pub all_member : {A : Type 0} (P : A → Type 0) (xs : List A) → AllByRecursion P xs → (x : A) → Member x xs → P x
all_member P [] h x m = absurd m
all_member P (y ∷ ys) h x (inl e) = subst P (sym e) h.0
all_member P (y ∷ ys) h x (inr m) = all_member P ys h.1 x m

member_all : {A : Type 0} (P : A → Type 0) (xs : List A) → ((x : A) → Member x xs → P x) → AllByRecursion P xs
member_all P [] f = tt
member_all P (y ∷ ys) f = (f y (inl refl), member_all P ys (λ x m. f x (inr m)))

-- some of a list; and a list with one more
pub all_among : {A : Type 0} (P : A → Type 0) (xs ys : List A) → ((x : A) → Member x ys → Member x xs) → AllByRecursion P xs → AllByRecursion P ys
all_among P xs ys inside h = member_all P ys (λ x m. all_member P xs h x (inside x m))

pub all_into : (P : Past → Type 0) (p : Past) (ps : List Past) → P p → AllByRecursion P ps → AllByRecursion P (into p ps)
all_into P p ps h k =
    member_all P (into p ps) (λ q m. ⊎_elim (λ e. subst P (sym e) h) (λ n. all_member P ps k q n) (into_member p ps q m))

pub all_own_with : (P : Share → Type 0) (s : Share) (ss : List Share) → P s → AllByRecursion P ss → AllByRecursion P (own_with s ss)
all_own_with P s ss h k =
    member_all P (own_with s ss) (λ x m. ⊎_elim (λ e. subst P (sym e) h) (λ n. all_member P ss k x n) (member_own_with s ss x m))

pub all_told : (P : Data → Type 0) (ds more : List Data) → AllByRecursion P ds → AllByRecursion P more → AllByRecursion P (all_by_slot ds more)
all_told P ds more h k =
    member_all P (all_by_slot ds more) (λ d m. ⊎_elim (λ a. all_member P ds h d a) (λ b. all_member P more k d b) (member_told ds more d m))

-- what is after the latest duty
all_above : (P : Data → Type 0) (k : ℕ) (ds : List Data) → AllByRecursion P ds → AllByRecursion P (above k ds)
unfolding above
all_above P k [] h = tt
all_above P k (d ∷ ds) h =
    pick_both (ltb k d.slot) (d ∷ above k ds) (above k ds) (AllByRecursion P) (λ _. (h.0, all_above P k ds h.1)) (λ _. all_above P k ds h.1)

pub all_still_after : (P : Data → Type 0) (k : ℕ) (ds : List Data) → AllByRecursion P ds → AllByRecursion P (still_after k ds)
unfolding still_after
all_still_after P zero ds h = h
all_still_after P (suc k) ds h = all_above P k ds h

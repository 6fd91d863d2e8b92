-- Data put in by slots: where it goes, which slots there are then, and what there is for a slot.
use Rattle.std.proofs.Common.{◌≡◌, ℕ, zero, suc, ◌<◌, Bool, true, false, not, ◌&&◌, ◌||◌, eqb, List, [], ◌∷◌, sym, refl, ap, ◌∙◌, subst, ⊎_elim, arith}
use mathlib.Core.Bool.{or_assoc, or_comm, or_self_left}
use Rattle.std.proofs.lemmas.Bool.{both_ways, cases_order, lt-ltb, le-ltb, eq-eqb, ne_eqb, eqb-true, or_parts, and_cases, or_cases, not-false, false≢true}
use Rattle.protocol.specs.Data.{pick, Data, same}
use Rattle.protocol.specs.Client.{ahead_of, has_slot, by_slot, all_by_slot, other_for, twice}
use Rattle.safety.proofs.Picks.{pick_both, pick_true}
use Rattle.safety.proofs.Same.{same_to}
use Rattle.keeper.specs.Step.{shown}
use Rattle.keeper.proofs.Marks.{pick_false}

-- it stands alone where nothing was, and else goes before a larger slot, in place of its own, and past a smaller one
pub put_alone : (d : Data) → by_slot d [] ≡ d ∷ []
unfolding by_slot
put_alone d = refl

pub put_before : (d x : Data) (xs : List Data) → d.slot < x.slot → by_slot d (x ∷ xs) ≡ d ∷ (x ∷ xs)
unfolding by_slot
put_before d x xs h = pick_true _ _ _ (lt-ltb d.slot x.slot h)

pub put_instead : (d x : Data) (xs : List Data) → d.slot ≡ x.slot → by_slot d (x ∷ xs) ≡ d ∷ xs
unfolding by_slot
put_instead d x xs h =
    pick_false _ _ _ (le-ltb d.slot x.slot (omega arith)) ∙ pick_true _ _ _ (eq-eqb d.slot x.slot h)

pub put_past : (d x : Data) (xs : List Data) → x.slot < d.slot → by_slot d (x ∷ xs) ≡ x ∷ by_slot d xs
unfolding by_slot
put_past d x xs h =
    pick_false _ _ _ (le-ltb d.slot x.slot (omega arith)) ∙ pick_false _ _ _ (ne_eqb d.slot x.slot (λ e. omega arith))

pub put_cases : (d x : Data) (xs : List Data) (P : List Data → Type 0) → (d.slot < x.slot → P (d ∷ (x ∷ xs))) → (d.slot ≡ x.slot → P (d ∷ xs)) → (x.slot < d.slot → P (x ∷ by_slot d xs)) → P (by_slot d (x ∷ xs))
put_cases d x xs P before instead past =
    ⊎_elim (λ e. subst P (sym (put_instead d x xs e)) (instead e))
    (⊎_elim (λ h. subst P (sym (put_before d x xs h)) (before h)) (λ h. subst P (sym (put_past d x xs h)) (past h)))
    (cases_order d.slot x.slot)

-- the slots are those that there would be with it in front
has_put : (k : ℕ) (d : Data) (xs : List Data) → has_slot k (by_slot d xs) ≡ (eqb d.slot k || has_slot k xs)
unfolding has_slot by_slot
has_put k d [] = refl
has_put k d (x ∷ xs) =
    let here : Bool = eqb d.slot k in
    let there : Bool = eqb x.slot k in
    put_cases d x xs (λ t. has_slot k t ≡ (here || (there || has_slot k xs))) (λ _. refl)
    (λ e. sym (ap (λ n. here || (eqb n k || has_slot k xs)) (sym e) ∙ or_self_left here (has_slot k xs)))
    (λ _. ap (λ b. there || b) (has_put k d xs) ∙ sym (or_assoc there here _) ∙ ap (λ b. b || has_slot k xs) (or_comm there here) ∙ or_assoc here there _)

-- a slot is shown by a block or was ahead
pub has_told : (k : ℕ) (ds xs : List Data) → has_slot k (all_by_slot ds xs) ≡ (has_slot k ds || has_slot k xs)
unfolding has_slot all_by_slot
has_told k [] xs = refl
has_told k (d ∷ ds) xs =
    let here : Bool = eqb d.slot k in
    let later : Bool = has_slot k ds in
    has_told k ds (by_slot d xs)
    ∙ ap (λ b. later || b) (has_put k d xs)
    ∙ sym (or_assoc later here (has_slot k xs))
    ∙ ap (λ b. b || has_slot k xs) (or_comm later here)

pub shown_told : (m : ℕ) (ds xs : List Data) → shown (all_by_slot ds xs) m ≡ (shown ds m || shown xs m)
unfolding shown
shown_told zero ds xs = refl
shown_told (suc k) ds xs = has_told k ds xs

-- two tests of which at most one passes go in either order; of two that are the same the second says nothing
pick_swap : {A : Type 0} (a b : Bool) (x y z : A) → (a ≡ true → b ≡ true → ⊥) → pick a x (pick b y z) ≡ pick b y (pick a x z)
unfolding pick
pick_swap true true x y z apart = absurd (apart refl refl)
pick_swap true false x y z apart = refl
pick_swap false true x y z apart = refl
pick_swap false false x y z apart = refl

pick_again : {A : Type 0} (a : Bool) (x y z : A) → pick a x (pick a y z) ≡ pick a x z
unfolding pick
pick_again true x y z = refl
pick_again false x y z = refl

-- what there is for a slot is what there would be with it in front
ahead_put : (k : ℕ) (d : Data) (xs : List Data) → ahead_of k (by_slot d xs) ≡ pick (eqb d.slot k) (d ∷ []) (ahead_of k xs)
unfolding ahead_of by_slot
ahead_put k d [] = refl
ahead_put k d (x ∷ xs) =
    let here : Bool = eqb d.slot k in
    let there : Bool = eqb x.slot k in
    put_cases d x xs (λ t. ahead_of k t ≡ pick here (d ∷ []) (pick there (x ∷ []) (ahead_of k xs))) (λ _. refl)
    (λ e. sym (ap (λ n. pick here (d ∷ []) (pick (eqb n k) (x ∷ []) (ahead_of k xs))) (sym e) ∙ pick_again here (d ∷ []) (x ∷ []) (ahead_of k xs)))
    (λ less.
    ap (pick there (x ∷ [])) (ahead_put k d xs)
    ∙ pick_swap there here (x ∷ []) (d ∷ []) (ahead_of k xs) (λ a b. omega (arith, eqb-true x.slot k a, eqb-true d.slot k b)))

-- where no other data is for its slot, what there is for it is itself
ahead_same : (k : ℕ) (d : Data) (ds : List Data) → d.slot ≡ k → other_for d ds ≡ false → has_slot k ds ≡ true → ahead_of k ds ≡ d ∷ []
unfolding other_for has_slot ahead_of
ahead_same k d [] e none some = absurd (false≢true some)
ahead_same k d (x ∷ xs) e none some =
    let parts = or_parts (eqb d.slot x.slot && not (same d x)) (other_for d xs) none in
    pick_both (eqb x.slot k) (x ∷ []) (ahead_of k xs) (λ t. t ≡ d ∷ [])
    (λ here.
    let level : d.slot ≡ x.slot = e ∙ sym (eqb-true x.slot k here) in
    ap (λ y. y ∷ []) (sym (same_to d x (⊎_elim (λ ne. absurd (both_ways _ ne (eq-eqb d.slot x.slot level))) (λ n. not-false (same d x) n) (and_cases _ _ parts.0)))))
    (λ off. ahead_same k d xs e parts.1 (⊎_elim (λ on. absurd (both_ways _ off on)) (λ later. later) (or_cases _ _ some)))

-- one of three by two tests, asked in either order, where both passing the two are the same
by_either : {A : Type 0} (a b : Bool) (x y z : A) → (a ≡ true → b ≡ true → y ≡ x) → pick b y (pick a x z) ≡ pick (a || b) (pick a x y) z
unfolding pick
by_either true true x y z both = both refl refl
by_either true false x y z both = refl
by_either false true x y z both = refl
by_either false false x y z both = refl

-- what there is for a slot comes from the block first, which has no two for a slot
pub ahead_told : (k : ℕ) (ds xs : List Data) → twice ds ≡ false → ahead_of k (all_by_slot ds xs) ≡ pick (has_slot k ds) (ahead_of k ds) (ahead_of k xs)
unfolding all_by_slot twice has_slot ahead_of pick
ahead_told k [] xs once = refl
ahead_told k (d ∷ ds) xs once =
    let parts = or_parts (other_for d ds) (twice ds) once in
    let here : Bool = eqb d.slot k in
    let later : Bool = has_slot k ds in
    ahead_told k ds (by_slot d xs) parts.1
    ∙ ap (pick later (ahead_of k ds)) (ahead_put k d xs)
    ∙ by_either here later (d ∷ []) (ahead_of k ds) (ahead_of k xs)
    (λ on some. ahead_same k d ds (eqb-true d.slot k on) parts.0 some)

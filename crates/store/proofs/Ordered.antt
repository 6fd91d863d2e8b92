-- Entries put in by their order: at which place they go, and that this is what the definitions do with what is ahead and with own shares.
use Rattle.std.proofs.Common.{◌≡◌, ℕ, zero, suc, ◌<◌, ◌≤◌, Bool, true, false, cond, eqb, ltb, leb, List, [], ◌∷◌, map, length, take, drop, set, Some, None, Option, sym, refl, ap, ◌∙◌, subst, ap₂, ⊎_elim, arith, length-set}
use Rattle.std.specs.Option.{unwrap_or}
use Rattle.std.proofs.lemmas.List.{take_all}
use Rattle.std.proofs.lemmas.Bool.{cases_order, lt-ltb, le-ltb, le-leb, lt-leb, eq-eqb, ne_eqb, false≢true, ltb-false}
use Rattle.protocol.specs.Data.{pick, Data}
use Rattle.protocol.specs.Client.{Share, ahead_of, by_slot, own_with}
use Rattle.rows.specs.Rows.{inserted}
use Rattle.lists.specs.Lists.{counted, first_passing, Region, Inserts, Replaces}
use Rattle.store.specs.Placing.{put_by, first_is}

-- the place is within the list, or behind it
pub first_most : {X : Type 0} (test : X → Bool) (xs : List X) → first_passing test xs ≤ length xs
unfolding first_passing
first_most test [] = omega arith
first_most test (x ∷ xs) =
    let most = first_most test xs in
    elim (test x) as (λ b. cond b 0 (suc (first_passing test xs)) ≤ suc (length xs)) [ true ↦ omega arith | false ↦ omega arith ]

first_inside : {X : Type 0} (like : X → Bool) (m : ℕ) (xs : List X) → first_is like (drop m xs) ≡ true → m < length xs
unfolding first_is
first_inside like zero [] e = absurd (false≢true e)
first_inside like (suc m) [] e = absurd (false≢true e)
first_inside like zero (x ∷ xs) e = omega arith
first_inside like (suc m) (x ∷ xs) e = let more = first_inside like m xs e in omega arith

-- what the first is like, by the one entry that is lent
pub first_read : {X : Type 0} (like : X → Bool) (x : X) (xs : List X) → x ∷ [] ≡ take 1 xs → like x ≡ first_is like xs
unfolding first_is
first_read like x [] e = absurd cc
first_read like x (y ∷ ys) e = let same : x ≡ y = cc in ap like same

pub first_none : {X : Type 0} (like : X → Bool) (xs : List X) → [] ≡ take 1 xs → false ≡ first_is like xs
unfolding first_is
first_none like [] e = refl
first_none like (y ∷ ys) e = absurd cc

-- the first that passes is its like: it takes that one's place; else it goes before it
put_there : {X : Type 0} (test like : X → Bool) (x : X) (xs : List X) → first_is like (drop (first_passing test xs) xs) ≡ true → put_by test like x xs ≡ set xs (first_passing test xs) x
unfolding put_by first_passing first_is
put_there test like x [] = λ e. absurd (false≢true e)
put_there test like x (y ∷ ys) =
    elim (test y) as (λ b. first_is like (drop (cond b 0 (suc (first_passing test ys))) (y ∷ ys)) ≡ true → cond b (cond (like y) (x ∷ ys) (x ∷ (y ∷ ys))) (y ∷ put_by test like x ys) ≡ set (y ∷ ys) (cond b 0 (suc (first_passing test ys))) x) [
      | true ↦ λ e. ap (λ b. cond b (x ∷ ys) (x ∷ (y ∷ ys))) e
      | false ↦ λ e. ap (λ t. y ∷ t) (put_there test like x ys e)
    ]

put_new : {X : Type 0} (test like : X → Bool) (x : X) (xs : List X) → first_is like (drop (first_passing test xs) xs) ≡ false → put_by test like x xs ≡ inserted xs (first_passing test xs) x
unfolding put_by first_passing first_is
put_new test like x [] = λ e. refl
put_new test like x (y ∷ ys) =
    elim (test y) as (λ b. first_is like (drop (cond b 0 (suc (first_passing test ys))) (y ∷ ys)) ≡ false → cond b (cond (like y) (x ∷ ys) (x ∷ (y ∷ ys))) (y ∷ put_by test like x ys) ≡ inserted (y ∷ ys) (cond b 0 (suc (first_passing test ys))) x) [
      | true ↦ λ e. ap (λ b. cond b (x ∷ ys) (x ∷ (y ∷ ys))) e
      | false ↦ λ e. ap (λ t. y ∷ t) (put_new test like x ys e)
    ]

-- the same in a region
module _ (test like : List ℕ → Bool) (w n m : ℕ) (row xs ys : List ℕ) (rs : List (List ℕ)) (r : Region w n rs xs) (place : m ≡ first_passing test rs) where
  pub placed_there : true ≡ first_is like (drop m rs) → Replaces w n m row xs ys → ys ≡ counted w n (take n (put_by test like row rs))
  placed_there e done =
      let found : first_is like (drop (first_passing test rs) rs) ≡ true =
      ap (λ i. first_is like (drop i rs)) (sym place) ∙ sym e in
      let few : length (set rs m row) ≤ n = omega (arith, length-set rs m row, r.few) in
      done rs r (first_inside like m rs (sym e))
      ∙ ap (counted w n) (sym (take_all n (set rs m row) few) ∙ ap (take n) (ap (λ i. set rs i row) place ∙ sym (put_there test like row rs found)))

  pub placed_new : false ≡ first_is like (drop m rs) → Inserts w n m row xs ys → ys ≡ counted w n (take n (put_by test like row rs))
  placed_new e done =
      let found : first_is like (drop (first_passing test rs) rs) ≡ false =
      ap (λ i. first_is like (drop i rs)) (sym place) ∙ sym e in
      done rs r (omega (arith, place, first_most test rs))
      ∙ ap (λ t. counted w n (take n t)) (ap (λ i. inserted rs i row) place ∙ sym (put_new test like row rs found))

-- values in the place of their numbers
pub map_put : {A B : Type 0} (f : A → B) (test like : B → Bool) (pass same : A → Bool) → ((x : A) → test (f x) ≡ pass x) → ((x : A) → like (f x) ≡ same x) → (x : A) (xs : List A) → put_by test like (f x) (map f xs) ≡ map f (put_by pass same x xs)
unfolding put_by
map_put f test like pass same p q x [] = refl
map_put f test like pass same p q x (y ∷ ys) =
    ap₂ (λ a b. cond a (cond b (f x ∷ map f ys) (f x ∷ (f y ∷ map f ys))) (f y ∷ put_by test like (f x) (map f ys))) (p y) (q y)
    ∙ ap (λ t. cond (pass y) (cond (same y) (f x ∷ map f ys) (f x ∷ (f y ∷ map f ys))) (f y ∷ t)) (map_put f test like pass same p q x ys)
    ∙ elim (pass y) as (λ a. cond a (cond (same y) (f x ∷ map f ys) (f x ∷ (f y ∷ map f ys))) (f y ∷ map f (put_by pass same x ys)) ≡ map f (cond a (cond (same y) (x ∷ ys) (x ∷ (y ∷ ys))) (y ∷ put_by pass same x ys))) [
      | true ↦ elim (same y) as (λ b. cond b (f x ∷ map f ys) (f x ∷ (f y ∷ map f ys)) ≡ map f (cond b (x ∷ ys) (x ∷ (y ∷ ys)))) [ true ↦ refl | false ↦ refl ]
      | false ↦ refl
    ]

-- what is ahead, by slots, the least first
pub by_slot_is : (d : Data) (xs : List Data) → put_by (λ x. leb d.slot x.slot) (λ x. eqb x.slot d.slot) d xs ≡ by_slot d xs
unfolding put_by by_slot pick
by_slot_is d [] = refl
by_slot_is d (x ∷ xs) =
    ⊎_elim
    (λ e. rw (le-leb d.slot x.slot (omega arith), eq-eqb x.slot d.slot (sym e), le-ltb d.slot x.slot (omega arith), eq-eqb d.slot x.slot e))
    (⊎_elim
    (λ h. rw (le-leb d.slot x.slot (omega arith), ne_eqb x.slot d.slot (λ e. omega arith), lt-ltb d.slot x.slot h))
    (λ h. rw (lt-leb d.slot x.slot h, le-ltb d.slot x.slot (omega arith), ne_eqb d.slot x.slot (λ e. omega arith)) (ap (λ t. x ∷ t) (by_slot_is d xs))))
    (cases_order d.slot x.slot)

-- own shares, by slots, the largest first
pub own_with_is : (s : Share) (xs : List Share) → put_by (λ x. leb x.what.slot s.what.slot) (λ x. eqb x.what.slot s.what.slot) s xs ≡ own_with s xs
unfolding put_by own_with pick
own_with_is s [] = refl
own_with_is s (x ∷ xs) =
    ⊎_elim
    (λ e. rw (le-leb x.what.slot s.what.slot (omega arith), eq-eqb x.what.slot s.what.slot (sym e), eq-eqb s.what.slot x.what.slot e))
    (⊎_elim
    (λ h. rw (lt-leb x.what.slot s.what.slot h, ne_eqb s.what.slot x.what.slot (λ e. omega arith), le-ltb x.what.slot s.what.slot (omega arith)) (ap (λ t. x ∷ t) (own_with_is s xs)))
    (λ h. rw (le-leb x.what.slot s.what.slot (omega arith), ne_eqb x.what.slot s.what.slot (λ e. omega arith), ne_eqb s.what.slot x.what.slot (λ e. omega arith), lt-ltb x.what.slot s.what.slot h)))
    (cases_order s.what.slot x.what.slot)

-- what is ahead for a slot is the first with that slot
pub ahead_is : (k : ℕ) (xs : List Data) → take 1 (drop (first_passing (λ x. eqb x.slot k) xs) xs) ≡ ahead_of k xs
unfolding first_passing ahead_of pick
ahead_is k [] = refl
ahead_is k (x ∷ xs) =
    elim (eqb x.slot k) as (λ b. take 1 (drop (cond b 0 (suc (first_passing (λ y. eqb y.slot k) xs))) (x ∷ xs)) ≡ pick b (x ∷ []) (ahead_of k xs)) [
      | true ↦ refl
      | false ↦ ahead_is k xs
    ]

-- the place that was found, or the one behind all
pub place_is : (o : Option ℕ) (m n place : ℕ) → o ≡ cond (ltb m n) (Some m) None → m ≤ n → place ≡ unwrap_or o n → place ≡ m
place_is o m n place e low is = is ∙ ap (λ v. unwrap_or v n) e ∙ by (ltb m n) (λ b. ltb-false m n b)
  where
    by : (b : Bool) → (b ≡ false → n ≤ m) → unwrap_or (cond b (Some m) None) n ≡ m
    by true h = refl
    by false h = omega (arith, h refl)

-- the same region, by equal numbers
pub same_region : (w n n' : ℕ) (rs : List (List ℕ)) (xs ys : List ℕ) → n' ≡ n → ys ≡ xs → Region w n rs xs → Region w n' rs ys
same_region w n n' rs xs ys e is r =
    subst (λ (k : ℕ). Region w k rs ys) (sym e) (subst (λ (zs : List ℕ). Region w n rs zs) (sym is) r)

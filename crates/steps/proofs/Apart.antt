-- What is ahead, by its slots: finding one, being without one, and having none.
use Rattle.std.proofs.Common.{◌≡◌, ℕ, zero, suc, ◌<◌, ◌≤◌, true, false, cond, not, ◌||◌, eqb, List, [], ◌∷◌, length, take, drop, sym, refl, ap, ◌∙◌, ap₂, ⊎_elim, arith}
use Rattle.std.specs.List.{AllByRecursion}
use Rattle.std.proofs.lemmas.Bool.{eq-eqb, ne_eqb, cases_eq}
use Rattle.protocol.specs.Data.{pick, Data}
use Rattle.protocol.specs.Client.{has_slot, ahead_of, without, slots}
use Rattle.rows.specs.Rows.{kept}
use Rattle.store.specs.Among.{among}
use Rattle.keeper.specs.Ready.{Ascending}

same_either_way : (a b : ℕ) → eqb a b ≡ eqb b a
same_either_way a b =
    ⊎_elim (λ e. eq-eqb a b e ∙ sym (eq-eqb b a (sym e))) (λ n. ne_eqb a b n ∙ sym (ne_eqb b a (λ e. n (sym e)))) (cases_eq a b)

-- without one slot
pub without_is : (k : ℕ) (xs : List Data) → kept (λ d. not (among d.slot (k ∷ []))) xs ≡ without k xs
unfolding kept among without pick
without_is k [] = refl
without_is k (d ∷ ds) =
    ap₂ (λ b t. cond (not b) (d ∷ t) t) (same_either_way k d.slot) (without_is k ds)
    ∙ elim (eqb d.slot k) as (λ b. cond (not b) (d ∷ without k ds) (without k ds) ≡ pick b (without k ds) (d ∷ without k ds)) [ true ↦ refl | false ↦ refl ]

-- none is for a slot
pub none_there : (k : ℕ) (ds : List Data) → AllByRecursion (λ (d : Data). (d.slot ≡ k → ⊥)) ds → has_slot k ds ≡ false
unfolding has_slot
none_there k [] h = refl
none_there k (d ∷ ds) h = ap₂ ◌||◌ (ne_eqb d.slot k h.0) (none_there k ds h.1)

-- the first i are for smaller slots, and behind them all are for larger ones
pub none_between : (k i : ℕ) (ds : List Data) → AllByRecursion (λ (d : Data). d.slot < k) (take i ds) → AllByRecursion (λ (d : Data). k < d.slot) (drop i ds) → has_slot k ds ≡ false
none_between k i ds low high = none_there k ds (parted i ds low high)
  where
    parted : (i : ℕ) (ds : List Data) → AllByRecursion (λ (d : Data). d.slot < k) (take i ds) → AllByRecursion (λ (d : Data). k < d.slot) (drop i ds) → AllByRecursion (λ (d : Data). (d.slot ≡ k → ⊥)) ds
    parted zero [] low high = tt
    parted zero (d ∷ ds) low high = (λ e. omega (arith, high.0), parted zero ds tt high.1)
    parted (suc i) [] low high = tt
    parted (suc i) (d ∷ ds) low high = (λ e. omega (arith, low.0), parted i ds low.1 high)

-- behind an entry of ascending slots all are larger
above_all : (k : ℕ) (ds : List Data) → AllByRecursion (λ j. k < j) (slots ds) → AllByRecursion (λ (d : Data). k < d.slot) ds
unfolding slots
above_all k [] h = tt
above_all k (d ∷ ds) h = (h.0, above_all k ds h.1)

pub larger_behind : (k i : ℕ) (d : Data) (ds : List Data) → Ascending (slots ds) → take 1 (drop i ds) ≡ d ∷ [] → k < d.slot → AllByRecursion (λ (x : Data). k < x.slot) (drop i ds)
unfolding slots
larger_behind k zero d [] up e h = tt
larger_behind k zero d (x ∷ ds) up e h =
    let same : x ≡ d = cc in
    let first : k < x.slot = omega (arith, ap (λ (y : Data). y.slot) same) in
    (first, further k x.slot ds first (above_all x.slot ds up.0))
  where
    further : (k j : ℕ) (ds : List Data) → k < j → AllByRecursion (λ (x : Data). j < x.slot) ds → AllByRecursion (λ (x : Data). k < x.slot) ds
    further k j [] h a = tt
    further k j (x ∷ ds) h a = (omega (arith, a.0), further k j ds h a.1)
larger_behind k (suc i) d [] up e h = tt
larger_behind k (suc i) d (x ∷ ds) up e h = larger_behind k i d ds up.1 e h

-- the entry at a place with only smaller ones before it is what is ahead for its slot
module _ (k : ℕ) (d : Data) (same : d.slot ≡ k) where
  pub found_there : (i : ℕ) (ds : List Data) → AllByRecursion (λ (x : Data). x.slot < k) (take i ds) → take 1 (drop i ds) ≡ d ∷ [] → (ahead_of k ds ≡ d ∷ []) × (has_slot k ds ≡ true)
  unfolding ahead_of has_slot pick
  found_there zero [] low e = absurd cc
  found_there zero (x ∷ ds) low e =
      let is : x ≡ d = cc in
      let here : eqb x.slot k ≡ true = eq-eqb x.slot k (ap (λ (y : Data). y.slot) is ∙ same) in
      (ap (λ b. pick b (x ∷ []) (ahead_of k ds)) here ∙ ap (λ y. y ∷ []) is, ap (λ b. b || has_slot k ds) here)
  found_there (suc i) [] low e = absurd cc
  found_there (suc i) (x ∷ ds) low e =
      let other : eqb x.slot k ≡ false = ne_eqb x.slot k (λ q. omega (arith, low.0)) in
      let rest = found_there i ds low.1 e in
      (ap (λ b. pick b (x ∷ []) (ahead_of k ds)) other ∙ rest.0, ap (λ b. b || has_slot k ds) other ∙ rest.1)

-- what stands before stays without a larger slot
pub front_stays : (k i : ℕ) (ds : List Data) → AllByRecursion (λ (x : Data). x.slot < k) (take i ds) → i ≤ length ds → take i (without k ds) ≡ take i ds
unfolding without pick
front_stays k zero ds low h = refl
front_stays k (suc i) [] low h = absurd (omega arith)
front_stays k (suc i) (x ∷ ds) low h =
    ap (λ b. take (suc i) (pick b (without k ds) (x ∷ without k ds))) (ne_eqb x.slot k (λ q. omega (arith, low.0)))
    ∙ ap (λ t. x ∷ t) (front_stays k i ds low.1 (omega arith))

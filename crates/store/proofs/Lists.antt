-- What is done with rows is done with the entries that they are the numbers of.
use Rattle.std.proofs.Common.{◌≡◌, ℕ, suc, ◌<◌, ◌≤◌, Bool, List, [], ◌∷◌, ◌++◌, map, length, take, drop, refl, sym, ap, ◌∙◌, ap₂, arith, length-take}
use mathlib.Core.List.{map-append}
use Rattle.std.proofs.lemmas.List.{take-map, drop-map, take_all, drop_all, length-append}
use Rattle.protocol.specs.Data.{first_of}
use Rattle.past.proofs.Laws.{first_of_is}
use Rattle.rows.specs.Rows.{inserted, removed}
use Rattle.store.specs.Placing.{put_by}
use Rattle.store.proofs.Ordered.{map_put}

module _ {A : Type 0} (f : A → List ℕ) where
  pub inserted_rows : (n m : ℕ) (x : A) (row : List ℕ) (xs ys : List A) → row ≡ f x → take n (inserted xs m x) ≡ ys → take n (inserted (map f xs) m row) ≡ map f ys
  inserted_rows n m x row xs ys e is =
      ap (λ r. take n (inserted (map f xs) m r)) e
      ∙ ap (take n) (ap₂ (λ a b. a ++ f x ∷ b) (take-map f m xs) (drop-map f m xs) ∙ sym (map-append f (take m xs) (x ∷ drop m xs)))
      ∙ take-map f n (inserted xs m x)
      ∙ ap (map f) is

  pub removed_rows : (m : ℕ) (xs : List A) → removed (map f xs) m ≡ map f (removed xs m)
  removed_rows m xs =
      ap₂ ◌++◌ (take-map f m xs) (drop-map f (suc m) xs) ∙ sym (map-append f (take m xs) (drop (suc m) xs))

  pub placed_rows : (n : ℕ) (test like : List ℕ → Bool) (pass same : A → Bool) (x : A) (row : List ℕ) (xs ys : List A) → row ≡ f x → ((y : A) → test (f y) ≡ pass y) → ((y : A) → like (f y) ≡ same y) → take n (put_by pass same x xs) ≡ ys → take n (put_by test like row (map f xs)) ≡ map f ys
  placed_rows n test like pass same x row xs ys e p q is =
      ap (λ r. take n (put_by test like r (map f xs))) e
      ∙ ap (take n) (map_put f test like pass same p q x xs)
      ∙ take-map f n (put_by pass same x xs)
      ∙ ap (map f) is

-- the first of some, as many as there is room for
pub first_few : {A : Type 0} (n : ℕ) (xs : List A) → length (first_of n xs) ≤ n
first_few n xs =
    let most : length (take n xs) ≤ n = simp length-take (omega arith) in
    omega (arith, most, ap length (first_of_is n xs))

pub first_stay : {A : Type 0} (n k : ℕ) (xs ys : List A) → n ≡ k → xs ≡ ys → take n xs ≡ first_of k ys
first_stay n k xs ys e is = ap₂ take e is ∙ sym (first_of_is k ys)

-- one more behind all, where there is room
pub pushed : {A : Type 0} (n m : ℕ) (x : A) (xs : List A) → m ≡ length xs → length xs < n → take n (inserted xs m x) ≡ xs ++ x ∷ []
pushed n m x xs e h =
    ap (λ i. take n (inserted xs i x)) e
    ∙ ap (take n) (ap₂ (λ a b. a ++ x ∷ b) (take_all (length xs) xs (omega arith)) (drop_all (length xs) xs (omega arith)))
    ∙ take_all n (xs ++ x ∷ []) (simp length-append (omega arith))

-- entries read in their own rows
pub mapped_back : {A : Type 0} (f : A → List ℕ) (from : List ℕ → A) → ((x : A) → from (f x) ≡ x) → (xs : List A) → map from (map f xs) ≡ xs
mapped_back f from back [] = refl
mapped_back f from back (x ∷ xs) = ap₂ ◌∷◌ (back x) (mapped_back f from back xs)

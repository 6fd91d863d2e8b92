-- Counting banks by their marks and duties by their slots, and the place of a mark. Assumes nothing.
use Rattle.std.proofs.Common.{◌≡◌, ℕ, zero, suc, ◌+◌, ◌<◌, ◌≤◌, Bool, false, eqb, ltb, ◌⊎◌, List, [], ◌∷◌, ◌++◌, length, set, sym, refl, ap, ◌∙◌, inl, inr, ⊎_elim, arith}
use Rattle.std.proofs.lemmas.Bool.{eqb-true, eqb-false, lt-ltb, le-ltb, cases_lt, both_ways}
use Rattle.protocol.specs.Data.{pick, Duty}
use Rattle.safety.proofs.Picks.{pick_both, pick_two}
use Rattle.stored.specs.Stored.{Bank, place_of, bank_at}
use Rattle.stored.specs.Stands.{banks_for, duties_for}

-- what is picked by a test that fails
pub pick_false : {A : Type 0} (b : Bool) (x y : A) → b ≡ false → pick b x y ≡ y
pick_false b x y h = pick_both b x y (λ z. z ≡ y) (λ e. absurd (both_ways b h e)) (λ _. refl)

-- one where a test passes, and else none
unfoldable pub once : Bool → ℕ
once b = pick b 1 0

pub counted : (b : Bool) (n : ℕ) → pick b (suc n) n ≡ once b + n
unfolding once
counted b n = pick_two b (suc n) n 1 0 (λ x y. x ≡ y + n) (λ _. omega arith) (λ _. omega arith)

-- one where two numbers are the same
unfoldable pub hit : ℕ → ℕ → ℕ
hit a b = once (eqb a b)

-- what a hit tells, and hits of marks
pub hit_tells : (a b : ℕ) → ((a ≡ b) × (hit a b ≡ 1)) ⊎ ((a ≡ b → ⊥) × (hit a b ≡ 0))
unfolding hit once
hit_tells a b =
    pick_both (eqb a b) 1 0 (λ n. ((a ≡ b) × (n ≡ 1)) ⊎ ((a ≡ b → ⊥) × (n ≡ 0))) (λ e. inl (eqb-true a b e, refl)) (λ e. inr (eqb-false a b e, refl))

pub hit_same : (a : ℕ) → hit a a ≡ 1
hit_same a = grind (arith, hit_tells)

pub hit_next : (a b : ℕ) → hit (suc a) (suc b) ≡ hit a b
hit_next a b = grind (arith, hit_tells)

pub hit_none : (a : ℕ) → hit 0 (suc a) ≡ 0
hit_none a = grind (arith, hit_tells)

pub hit_last : (a : ℕ) → hit (suc a) 0 ≡ 0
hit_last a = grind (arith, hit_tells)

-- one more is counted where it is hit
pub banks_more : (m : ℕ) (b : Bank) (bs : List Bank) → banks_for m (b ∷ bs) ≡ hit b.mark m + banks_for m bs
unfolding banks_for hit
banks_more m b bs = counted (eqb b.mark m) (banks_for m bs)

pub duties_more : (k : ℕ) (y : Duty) (ys : List Duty) → duties_for k (y ∷ ys) ≡ hit y.slot k + duties_for k ys
unfolding duties_for hit
duties_more k y ys = counted (eqb y.slot k) (duties_for k ys)

-- duties of two lists, and of one with one more at its end
pub duties_both : (k : ℕ) (xs ys : List Duty) → duties_for k (xs ++ ys) ≡ duties_for k xs + duties_for k ys
unfolding duties_for
duties_both k [] ys = omega arith
duties_both k (x ∷ xs) ys =
    let rest = duties_both k xs ys in
    omega (arith, duties_more k x xs, duties_more k x (xs ++ ys))

pub duties_last : (k : ℕ) (ys : List Duty) (y : Duty) → duties_for k (ys ++ (y ∷ [])) ≡ duties_for k ys + hit y.slot k
unfolding duties_for
duties_last k ys y = omega (arith, duties_both k ys (y ∷ []), duties_more k y [])

-- another bank in the place of one
pub banks_set : (m : ℕ) (bs : List Bank) (i : ℕ) (b : Bank) → i < length bs → banks_for m (set bs i b) + hit (bank_at bs i).mark m ≡ banks_for m bs + hit b.mark m
banks_set m [] i b h = absurd (omega arith)
banks_set m (c ∷ bs) zero b h = omega (arith, banks_more m b bs, banks_more m c bs)
banks_set m (c ∷ bs) (suc i) b h =
    let rest = banks_set m bs i b (omega arith) in
    omega (arith, banks_more m c bs, banks_more m c (set bs i b))

-- a mark that some bank has is found at its place, and one that none has is not
pub place_found : (m : ℕ) (bs : List Bank) → 1 ≤ banks_for m bs → (place_of m bs < length bs) × ((bank_at bs (place_of m bs)).mark ≡ m)
unfolding place_of banks_for
place_found m [] = λ h. absurd (omega arith)
place_found m (b ∷ bs) =
    pick_two (eqb b.mark m) 0 (suc (place_of m bs)) (suc (banks_for m bs)) (banks_for m bs)
    (λ i c. 1 ≤ c → (i < suc (length bs)) × ((bank_at (b ∷ bs) i).mark ≡ m))
    (λ e h. (omega arith, eqb-true b.mark m e)) (λ e h. let r = place_found m bs h in (omega (arith, r.0), r.1))

place_lost : (m : ℕ) (bs : List Bank) → banks_for m bs ≡ 0 → place_of m bs ≡ length bs
unfolding place_of banks_for
place_lost m [] = λ h. refl
place_lost m (b ∷ bs) =
    pick_two (eqb b.mark m) 0 (suc (place_of m bs)) (suc (banks_for m bs)) (banks_for m bs) (λ i c. c ≡ 0 → i ≡ suc (length bs))
    (λ e h. absurd (omega arith)) (λ e h. ap suc (place_lost m bs h))

-- so the place says whether a bank has the mark
pub found_test : (m : ℕ) (bs : List Bank) → ltb (place_of m bs) (length bs) ≡ ltb 0 (banks_for m bs)
found_test m bs =
    ⊎_elim (λ some. lt-ltb (place_of m bs) (length bs) (place_found m bs some).0 ∙ sym (lt-ltb 0 (banks_for m bs) some))
    (λ none. le-ltb (place_of m bs) (length bs) (omega (arith, place_lost m bs (omega arith))) ∙ sym (le-ltb 0 (banks_for m bs) none))
    (cases_lt 0 (banks_for m bs))

-- What is cut from the past is not missed: an entry goes in by its target, and only what stands before a place says what is kept there.
-- Assumes nothing.
use Rattle.std.proofs.Common.{◌≡◌, ℕ, zero, suc, Bool, true, false, eqb, ltb, List, [], ◌∷◌, refl, ap}
use Rattle.protocol.specs.Data.{pick, Past, into, first_of, keep}
use Rattle.safety.specs.Cutting.{CuttingIsHarmless}

-- what is cut once and again
again : (n : ℕ) (ps : List Past) → first_of n (first_of n ps) ≡ first_of n ps
unfolding first_of
again zero ps = refl
again (suc n) [] = refl
again (suc n) (p ∷ ps) = ap (λ x. p ∷ x) (again n ps)

less : (n : ℕ) (p : Past) (ps : List Past) → first_of n (p ∷ first_of n ps) ≡ first_of n (p ∷ ps)
unfolding first_of
less zero p ps = refl
less (suc zero) p ps = refl
less (suc (suc n)) p [] = refl
less (suc (suc n)) p (x ∷ xs) = ap (λ z. p ∷ z) (less (suc n) x xs)

-- the three places where an entry goes: nowhere, in front, further on
by_place : (same_target first : Bool) (n : ℕ) (p x : Past) (xs : List Past) → keep n p (first_of n xs) ≡ keep n p xs →
    first_of (suc n) (pick same_target (x ∷ first_of n xs) (pick first (p ∷ (x ∷ first_of n xs)) (x ∷ into p (first_of n xs))))
    ≡ first_of (suc n) (pick same_target (x ∷ xs) (pick first (p ∷ (x ∷ xs)) (x ∷ into p xs)))
unfolding first_of pick
by_place true first n p x xs h = ap (λ z. x ∷ z) (again n xs)
by_place false true n p x xs h = ap (λ z. p ∷ z) (less n x xs)
by_place false false n p x xs h = ap (λ z. x ∷ z) h

pub cutting_is_harmless : CuttingIsHarmless
unfolding first_of into
cutting_is_harmless zero p ps = refl
cutting_is_harmless (suc n) p [] = refl
cutting_is_harmless (suc n) p (x ∷ xs) = by_place (eqb p.to x.to) (ltb x.to p.to) n p x xs (cutting_is_harmless n p xs)

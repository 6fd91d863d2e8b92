-- The marks of banks: the place of the first with a mark.
use Rattle.std.proofs.Common.{◌≡◌, ℕ, suc, ◌+◌, ◌≤◌, Bool, true, false, not, cond, eqb, ltb, List, [], ◌∷◌, length, set, Some, None, Option, refl, sym, ap, ◌∙◌, inl, inr, arith}
use Rattle.std.specs.Option.{MatchOption}
use Rattle.std.specs.List.{position, position_or_len}
use Rattle.std.proofs.lemmas.List.{map-set}
use Rattle.std.proofs.lemmas.Bool.{cases_lt, lt-ltb, le-ltb}
use Rattle.protocol.specs.Data.{pick}
use Rattle.stored.specs.Stored.{Bank, place_of, bank_at, marked}
use Rattle.stored.specs.Numbers.{marks}
use Rattle.stored.proofs.Listed.{marks_length}

one_more : (r : Bool) (i j : ℕ) → i ≡ j → cond (not r) (1 + i) 0 ≡ pick r 0 (suc j)
unfolding pick
one_more true i j e = refl
one_more false i j e = omega arith

first_place : (m : ℕ) (bs : List Bank) → position_or_len (λ other. eqb other m) (marks bs) ≡ place_of m bs
unfolding marks place_of
first_place m [] = refl
first_place m (b ∷ bs) = one_more (eqb b.mark m) _ _ (first_place m bs)

at_most : (r : Bool) (i n : ℕ) → i ≤ n → pick r 0 (suc i) ≤ suc n
unfolding pick
at_most true i n h = omega arith
at_most false i n h = omega arith

place_most : (m : ℕ) (bs : List Bank) → place_of m bs ≤ length bs
unfolding place_of pick
place_most m [] = omega arith
place_most m (b ∷ bs) = at_most (eqb b.mark m) _ _ (place_most m bs)

either : (i n : ℕ) → i ≤ n → MatchOption (cond (ltb i n) (Some i) None) (i ≡ n) (λ k. k ≡ i)
either i n most =
    elim (cases_lt i n) [
      | inl inside ↦ rw (lt-ltb i n inside) refl
      | inr past ↦ rw (le-ltb i n past) (omega arith)
    ]

-- found at a place among the banks, or nowhere
pub found : (m : ℕ) (xs : List ℕ) (bs : List Bank) (r : Option ℕ) → xs ≡ marks bs → r ≡ position (λ other. eqb other m) xs → MatchOption r (place_of m bs ≡ length bs) (λ k. k ≡ place_of m bs)
found m xs bs r is e =
    rw (e, is, first_place m bs, marks_length bs) (either (place_of m bs) (length bs) (place_most m bs))

-- a mark written at a place is that of the bank there
pub marks_set : (xs : List ℕ) (bs : List Bank) (i m : ℕ) → xs ≡ marks bs → set xs i m ≡ marks (marked bs i m)
unfolding marks
marks_set xs bs i m e =
    ap (λ (t : List ℕ). set t i m) e ∙ sym (map-set (λ (b : Bank). b.mark) bs i (record { mark = m; cells = (bank_at bs i).cells }))

-- Lists of duties: the first of them and the others, those that data is not for, and how many there are for a slot. Assumes nothing.
use Rattle.std.proofs.Common.{◌≡◌, ℕ, zero, suc, ◌+◌, ◌<◌, ◌≤◌, Bool, true, false, not, ◌||◌, eqb, ltb, List, [], ◌∷◌, drop, sym, refl, ap, ◌∙◌, ⊎_elim, arith}
use Rattle.std.specs.List.{AllByRecursion}
use Rattle.std.proofs.lemmas.Bool.{eqb-true, lt-ltb, both_ways}
use Rattle.protocol.specs.Data.{pick, Data, Duty, first_of}
use Rattle.protocol.specs.Client.{has_slot, not_for, for_some}
use Rattle.safety.proofs.Picks.{pick_both}
use Rattle.stored.specs.Stands.{duties_for}
use Rattle.keeper.proofs.Marks.{hit, hit_tells, duties_more}

-- a slot is among those of duties where some duty counts for it
pub some_counted : (k : ℕ) (ys : List Duty) → for_some k ys ≡ ltb 0 (duties_for k ys)
unfolding for_some duties_for pick
some_counted k [] = refl
some_counted k (y ∷ ys) = by_test (eqb y.slot k) (some_counted k ys)
  where
    by_test : (b : Bool) → for_some k ys ≡ ltb 0 (duties_for k ys) → (b || for_some k ys) ≡ ltb 0 (pick b (suc (duties_for k ys)) (duties_for k ys))
    by_test true rest = sym (lt-ltb 0 (suc (duties_for k ys)) (omega arith))
    by_test false rest = rest

-- the first n and the others
pub duties_parted : (k n : ℕ) (ys : List Duty) → duties_for k (first_of n ys) + duties_for k (drop n ys) ≡ duties_for k ys
unfolding first_of duties_for
duties_parted k zero ys = omega arith
duties_parted k (suc n) [] = refl
duties_parted k (suc n) (y ∷ ys) = omega (arith, duties_parted k n ys, duties_more k y ys, duties_more k y (first_of n ys))

-- no duty counts for a slot that all are below
pub none_from : (hi k : ℕ) (ys : List Duty) → AllByRecursion (λ (y : Duty). y.slot < hi) ys → hi ≤ k → duties_for k ys ≡ 0
unfolding duties_for
none_from hi k [] h le = refl
none_from hi k (y ∷ ys) h le =
    let rest = none_from hi k ys h.1 le in
    let low = h.0 in
    pick_both (eqb y.slot k) (suc (duties_for k ys)) (duties_for k ys) (λ n. n ≡ 0) (λ e. absurd (omega (arith, eqb-true y.slot k e))) (λ e. rest)

-- two slots of which the data has just one are not the same
told_apart : (ds : List Data) (j k : ℕ) (b : Bool) → has_slot j ds ≡ b → has_slot k ds ≡ not b → hit j k ≡ 0
told_apart ds j k b p q =
    ⊎_elim (λ same. absurd (differ b (sym p ∙ ap (λ i. has_slot i ds) same.0 ∙ q))) (λ other. other.1) (hit_tells j k)
  where
    differ : (c : Bool) → c ≡ not c → ⊥
    differ true e = both_ways true e refl
    differ false e = both_ways false refl e

-- of those that data is not for none is for its slots, and as many for others
pub none_told : (ds : List Data) (k : ℕ) (ys : List Duty) → has_slot k ds ≡ true → duties_for k (not_for ds ys) ≡ 0
unfolding not_for duties_for
none_told ds k [] h = refl
none_told ds k (y ∷ ys) h =
    let rest = none_told ds k ys h in
    pick_both (has_slot y.slot ds) (not_for ds ys) (y ∷ not_for ds ys) (λ zs. duties_for k zs ≡ 0) (λ _. rest)
    (λ e. omega (arith, duties_more k y (not_for ds ys), told_apart ds y.slot k false e h))

pub others_left : (ds : List Data) (k : ℕ) (ys : List Duty) → has_slot k ds ≡ false → duties_for k (not_for ds ys) ≡ duties_for k ys
unfolding not_for
others_left ds k [] h = refl
others_left ds k (y ∷ ys) h =
    let rest = others_left ds k ys h in
    pick_both (has_slot y.slot ds) (not_for ds ys) (y ∷ not_for ds ys) (λ zs. duties_for k zs ≡ duties_for k (y ∷ ys))
    (λ e. omega (arith, duties_more k y ys, told_apart ds y.slot k true e h)) (λ _. omega (arith, duties_more k y ys, duties_more k y (not_for ds ys)))

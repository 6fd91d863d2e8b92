-- How many of the first numbers pass a test: with a weaker test no fewer do, and with a test that one number more passes at most
-- one more, or just one more if it is below and did not pass; of two tests of which each number passes one, all are counted.
-- Assumes nothing.
use Rattle.std.proofs.Common.{◌≡◌, ℕ, zero, suc, ◌+◌, ◌<◌, ◌≤◌, Bool, true, false, ◌||◌, eqb, refl, subst, ⊎_elim, arith}
use Rattle.std.proofs.lemmas.Bool.{eqb-true, eqb-false, or_cases, or_right, both_ways}
use Rattle.protocol.specs.Data.{pick}
use Rattle.protocol.specs.World.{how_many}

step_le : (a b : Bool) (x y : ℕ) → (a ≡ true → b ≡ true) → x ≤ y → pick a (suc x) x ≤ pick b (suc y) y
unfolding pick
step_le true true x y f h = omega arith
step_le true false x y f h = absurd (both_ways false refl (f refl))
step_le false true x y f h = omega arith
step_le false false x y f h = h

pub how_many_none : (n : ℕ) → how_many n (λ i. false) ≡ 0
unfolding how_many pick
how_many_none zero = refl
how_many_none (suc n) = how_many_none n

pub how_many_le : (n : ℕ) (p q : ℕ → Bool) → ((i : ℕ) → i < n → p i ≡ true → q i ≡ true) → how_many n p ≤ how_many n q
unfolding how_many
how_many_le zero p q f = omega arith
how_many_le (suc n) p q f = step_le (p n) (q n) (how_many n p) (how_many n q) (f n (omega arith)) (how_many_le n p q (λ i h. f i (omega arith)))

-- a number that is not below adds nothing
not_below : (n w : ℕ) (r : ℕ → Bool) → n ≤ w → how_many n (λ i. eqb w i || r i) ≤ how_many n r
not_below n w r h =
    how_many_le n (λ i. eqb w i || r i) r
    (λ i less t. ⊎_elim (λ e. let same : w ≡ i = eqb-true w i e in absurd (omega arith)) (λ e. e) (or_cases (eqb w i) (r i) t))

step_one : (a b : Bool) (x y : ℕ) → x ≤ suc y → (a ≡ true → x ≤ y) → pick (a || b) (suc x) x ≤ suc (pick b (suc y) y)
unfolding pick
step_one true true x y h f = omega arith
step_one true false x y h f = let g : x ≤ y = f refl in omega arith
step_one false true x y h f = omega arith
step_one false false x y h f = h

pub at_most_one_more : (n w : ℕ) (r : ℕ → Bool) → how_many n (λ i. eqb w i || r i) ≤ suc (how_many n r)
unfolding how_many
at_most_one_more zero w r = omega arith
at_most_one_more (suc n) w r =
    step_one (eqb w n) (r n) (how_many n (λ i. eqb w i || r i)) (how_many n r) (at_most_one_more n w r)
    (λ e. let same : w ≡ n = eqb-true w n e in not_below n w r (omega arith))

step_new : (a b : Bool) (x y : ℕ) → (a ≡ true → b ≡ false) → y ≤ x → (a ≡ false → suc y ≤ x) → suc (pick b (suc y) y) ≤ pick (a || b) (suc x) x
unfolding pick
step_new true true x y f h g = absurd (both_ways true (f refl) refl)
step_new true false x y f h g = omega arith
step_new false true x y f h g = let k : suc y ≤ x = g refl in omega arith
step_new false false x y f h g = g refl

pub one_more : (n w : ℕ) (r : ℕ → Bool) → w < n → r w ≡ false → suc (how_many n r) ≤ how_many n (λ i. eqb w i || r i)
unfolding how_many
one_more zero w r h f = absurd (omega arith)
one_more (suc n) w r h f =
    step_new (eqb w n) (r n) (how_many n (λ i. eqb w i || r i)) (how_many n r)
    (λ e. subst (λ (x : ℕ). r x ≡ false) (eqb-true w n e) f)
    (how_many_le n r (λ i. eqb w i || r i) (λ i less t. or_right (eqb w i) (r i) t))
    (λ e. one_more n w r (below e) f)
  where
    below : eqb w n ≡ false → w < n
    below e = let apart : ¬ (w ≡ n) = eqb-false w n e in omega arith

step_all : (a b : Bool) (n x y : ℕ) → (b ≡ false → a ≡ true) → n ≤ x + y → suc n ≤ pick a (suc x) x + pick b (suc y) y
unfolding pick
step_all true true n x y f h = omega arith
step_all true false n x y f h = omega arith
step_all false true n x y f h = omega arith
step_all false false n x y f h = absurd (both_ways false refl (f refl))

-- where all pass that another test doesn't, all are counted by one of them
pub all_but : (n : ℕ) (p bad : ℕ → Bool) → ((i : ℕ) → i < n → bad i ≡ false → p i ≡ true) → n ≤ how_many n p + how_many n bad
unfolding how_many
all_but zero p bad f = omega arith
all_but (suc n) p bad f = step_all (p n) (bad n) n (how_many n p) (how_many n bad) (f n (omega arith)) (all_but n p bad (λ i h. f i (omega arith)))

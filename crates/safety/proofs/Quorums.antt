-- Quorums meet in a good client. Of the first n clients, those in one set, those in the other and the bad ones
-- are at most n and those in both; the rest is arithmetic of thirds. Assumes nothing.
use Rattle.std.proofs.Common.{ℕ, zero, suc, ◌+◌, ◌≤◌, Bool, true, false, not, ◌&&◌, arith}
use Rattle.protocol.specs.Data.{pick}
use Rattle.protocol.specs.World.{how_many}
use Rattle.protocol.specs.Promise.{QuorumsMeet}

-- one client more, bad or not, in each of the sets or not
one_more : (b p q : Bool) (n g h m c : ℕ) → g + h + c ≤ n + m →
    pick (not b && p) (suc g) g + pick (not b && q) (suc h) h + pick b (suc c) c ≤ suc n + pick (not b && (p && q)) (suc m) m
unfolding pick
one_more true p q n g h m c e = omega arith
one_more false true true n g h m c e = omega arith
one_more false true false n g h m c e = omega arith
one_more false false true n g h m c e = omega arith
one_more false false false n g h m c e = omega arith

-- those in one set, those in the other and the bad ones are at most all and those in both
pub counted : (n : ℕ) (p q bad : ℕ → Bool) →
    how_many n (λ i. not (bad i) && p i) + how_many n (λ i. not (bad i) && q i) + how_many n bad ≤ n + how_many n (λ i. not (bad i) && (p i && q i))
unfolding how_many
counted zero p q bad = omega arith
counted (suc n) p q bad = one_more (bad n) (p n) (q n) n _ _ _ _ (counted n p q bad)

pub quorums_meet : QuorumsMeet
unfolding QuorumsMeet
quorums_meet n p q bad some few first second = omega (arith, counted n p q bad)

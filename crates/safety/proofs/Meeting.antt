-- Where two quorums meet: a good client that is in both. What a quorum let, with all the bad ones, and what a quorum signed, come down to one good client each time.
-- Assumes nothing.
use Rattle.std.proofs.Common.{◌≡◌, ℕ, zero, suc, ◌+◌, ◌<◌, ◌≤◌, Bool, true, false, not, ◌&&◌, leb, arith}
use Rattle.std.proofs.lemmas.Bool.{not-true, leb-true, le-leb, and_parts}
use Rattle.protocol.specs.Data.{pick, quorum}
use Rattle.protocol.specs.World.{Group, how_many, good}
use Rattle.protocol.specs.Promise.{GoodGroup, QuorumsMeet}
use Rattle.safety.proofs.Picks.{pick_both}
use Rattle.safety.proofs.Quorums.{quorums_meet}

counted_apart : (p b : Bool) (m n k : ℕ) → m ≤ n + k → pick p (suc m) m ≤ pick (not b && p) (suc n) n + pick b (suc k) k
unfolding pick
counted_apart true true m n k l = omega arith
counted_apart true false m n k l = omega arith
counted_apart false true m n k l = omega arith
counted_apart false false m n k l = l

-- those that pass are good ones, or bad
how_many_apart : (n : ℕ) (p bad : ℕ → Bool) → how_many n p ≤ how_many n (λ i. not (bad i) && p i) + how_many n bad
unfolding how_many
how_many_apart zero p bad = omega arith
how_many_apart (suc n) p bad = counted_apart (p n) (bad n) (how_many n p) (how_many n (λ i. not (bad i) && p i)) (how_many n bad) (how_many_apart n p bad)

-- where some pass, one does
how_many_some : (n : ℕ) (p : ℕ → Bool) → 1 ≤ how_many n p → (i : ℕ) × (i < n) × (p i ≡ true)
unfolding how_many
how_many_some zero p = λ h. absurd (omega arith)
how_many_some (suc n) p =
    pick_both (p n) (suc (how_many n p)) (how_many n p) (λ m. 1 ≤ m → (i : ℕ) × (i < suc n) × (p i ≡ true)) (λ e h. (n, omega arith, e))
    (λ e h. let r = how_many_some n p h in let l : r.0 < n = r.1 in (r.0, omega arith, r.2))

module _ (can : ℕ → Bool) (g : Group) (group : GoodGroup can g) where
  pub meets : (p q : ℕ → Bool) → leb (quorum g.clients) (how_many g.clients (λ i. not (g.bad i) && p i) + how_many g.clients g.bad) ≡ true →
      leb (quorum g.clients) (how_many g.clients (λ i. not (g.bad i) && q i) + how_many g.clients g.bad) ≡ true →
      (i : ℕ) × good g i × (p i ≡ true) × (q i ≡ true)
  unfolding QuorumsMeet
  meets p q a b =
      let n = g.clients in
      let m = quorums_meet n p q g.bad group.0 group.2
      (leb-true (quorum n) (how_many n (λ i. not (g.bad i) && p i) + how_many n g.bad) a)
      (leb-true (quorum n) (how_many n (λ i. not (g.bad i) && q i) + how_many n g.bad) b) in
      let r = how_many_some n (λ i. not (g.bad i) && (p i && q i)) m in
      let both = and_parts (not (g.bad r.0)) (p r.0 && q r.0) r.2 in
      let each = and_parts (p r.0) (q r.0) both.1 in
      (r.0, (r.1, not-true (g.bad r.0) both.0), each.0, each.1)

  -- of a quorum of any clients, a good one
  pub has_good : (p : ℕ → Bool) → leb (quorum g.clients) (how_many g.clients p) ≡ true → (i : ℕ) × good g i × (p i ≡ true)
  has_good p a =
      let n = g.clients in
      let l : quorum n ≤ how_many n p = leb-true (quorum n) (how_many n p) a in
      let k : how_many n p ≤ how_many n (λ i. not (g.bad i) && p i) + how_many n g.bad = how_many_apart n p g.bad in
      let e = le-leb (quorum n) (how_many n (λ i. not (g.bad i) && p i) + how_many n g.bad) (omega arith) in
      let r = meets p p e e in
      (r.0, r.1, r.2)

-- Why each bound is needed: the promises with the bound as a parameter, and that they fail with one weaker.
-- Assumes nothing: these are definitions.
use Rattle.std.specs.Prelude.{◌≡◌, ℕ, suc, ◌+◌, ◌-◌, ◌*◌, ◌<◌, ◌≤◌, Bool, true, false, not, ◌&&◌, ◌||◌, ◌↔◌, List, [], ◌∷◌, nat_lt}
use Rattle.protocol.specs.Data.{Data, Past, past_of, clashes, least_from, unsafe, first_of, quorum, bad_at_most}
use Rattle.protocol.specs.World.{how_many}
use Rattle.protocol.specs.Promise.{falling, none_clash}

-- of n clients, any two sets that with all the bad ones, of which there are at most so many, have a quorum's size, have a good client in common
abbrev pub MeetAt : (n quorum_size most_bad : ℕ) → Type 0
MeetAt n quorum_size most_bad =
    (p q bad : ℕ → Bool) → 1 ≤ n → how_many n bad ≤ most_bad →
    quorum_size ≤ how_many n (λ i. not (bad i) && p i) + how_many n bad → quorum_size ≤ how_many n (λ i. not (bad i) && q i) + how_many n bad →
    1 ≤ how_many n (λ i. not (bad i) && (p i && q i))

-- the promise that quorums meet, with the quorum and the number of bad clients as parameters
abbrev pub QuorumsMeetWith : (ℕ → ℕ) → (ℕ → ℕ) → Type 0
QuorumsMeetWith quorum_size most_bad = (n : ℕ) → MeetAt n (quorum_size n) (most_bad n)

-- with quorums that are no smaller than the number of bad clients allowed, and no larger than the group: two of them must meet in a good client just when
-- twice their size is above the clients and those allowed to be bad together
abbrev pub MeetJustWhen : Type 0
MeetJustWhen =
    (n quorum_size most_bad : ℕ) → 1 ≤ n → most_bad ≤ quorum_size → quorum_size ≤ n → MeetAt n quorum_size most_bad ↔ (n + most_bad < 2 * quorum_size)

-- the promise holds with quorums of two thirds and fails with one smaller, and that in a group of any size
abbrev pub SmallerQuorumFails : Type 0
SmallerQuorumFails =
    QuorumsMeetWith quorum bad_at_most × (¬ QuorumsMeetWith (λ n. quorum n - 1) bad_at_most)
    × ((n : ℕ) → 1 ≤ n → ¬ MeetAt n (quorum n - 1) (bad_at_most n))

-- it fails with one bad client more than is allowed, in every group of 3k + 1 and in every group of 3k; in a group of 3k + 2 quorums would still
-- meet, by MeetJustWhen
abbrev pub OneBadMoreFails : Type 0
OneBadMoreFails =
    (¬ QuorumsMeetWith quorum (λ n. suc (bad_at_most n))) × ((k : ℕ) → ¬ MeetAt (3 * k + 1) (quorum (3 * k + 1)) (suc (bad_at_most (3 * k + 1))))
    × ((k : ℕ) → 1 ≤ k → ¬ MeetAt (3 * k) (quorum (3 * k)) (suc (bad_at_most (3 * k))))

-- the promise that forgetting is safe, with the test of data against the past as a parameter
abbrev pub ForgettingIsSafeWith : (List Past → Data → Bool) → Type 0
ForgettingIsSafeWith unsafe_for =
    (n : ℕ) (ps : List Past) (d : Data) → 1 ≤ n → falling ps ≡ true → none_clash ps ≡ true → unsafe_for (first_of n ps) d ≡ false →
    clashes ps (past_of d) ≡ false

-- the test without the floor on targets: below the least source, or clashing
unfoldable pub unsafe_without_floor : List Past → Data → Bool
unsafe_without_floor [] d = false
unsafe_without_floor (x ∷ xs) d = nat_lt d.source (least_from x xs) || clashes (x ∷ xs) (past_of d)

-- forgetting is safe with the floor, and without it what was forgotten can be contradicted
abbrev pub NoFloorFails : Type 0
NoFloorFails = ForgettingIsSafeWith unsafe × (¬ ForgettingIsSafeWith unsafe_without_floor)

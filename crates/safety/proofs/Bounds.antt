-- The bounds on quorums, on the bad clients and on what is signed after forgetting are needed. Two sets of clients, one from the
-- front and one from the back, share no good client as soon as there is room for both beside the bad ones. Assumes nothing.
use Rattle.std.proofs.Common.{◌≡◌, ℕ, zero, suc, ◌+◌, ◌-◌, ◌*◌, ◌<◌, ◌≤◌, Bool, true, false, not, ◌&&◌, ltb, leb, [], ◌∷◌, refl, ⊎_elim, arith}
use Rattle.std.proofs.lemmas.Bool.{ltb-true, leb-true, lt-ltb, le-ltb, le-leb, and_parts, and_from, not_from_false, both_ways, cases_lt}
use Rattle.protocol.specs.Data.{pick, Data, Past, clashes, least_from, first_of, quorum, bad_at_most}
use Rattle.protocol.specs.World.{how_many}
use Rattle.protocol.specs.Promise.{QuorumsMeet, ForgettingIsSafe, falling, none_clash}
use Rattle.safety.specs.Bounds.{MeetAt, MeetJustWhen, SmallerQuorumFails, OneBadMoreFails, unsafe_without_floor, NoFloorFails}
use Rattle.safety.proofs.Counts.{how_many_none, how_many_le}
use Rattle.safety.proofs.Pasts.{forgetting_is_safe}
use Rattle.safety.proofs.Picks.{pick_both}
use Rattle.safety.proofs.Quorums.{counted, quorums_meet}

-- at most n of n, and at most b below b
how_many_most : (n : ℕ) (p : ℕ → Bool) → how_many n p ≤ n
unfolding how_many
how_many_most zero p = omega arith
how_many_most (suc n) p =
    let h = how_many_most n p in
    pick_both (p n) (suc (how_many n p)) (how_many n p) (λ m. m ≤ suc n) (λ _. omega arith) (λ _. omega arith)

below_most : (n b : ℕ) → how_many n (λ i. ltb i b) ≤ b
unfolding how_many
below_most zero b = omega arith
below_most (suc n) b =
    let h = below_most n b in
    let most = how_many_most n (λ i. ltb i b) in
    pick_both (ltb n b) (suc (how_many n (λ i. ltb i b))) (how_many n (λ i. ltb i b)) (λ m. m ≤ b)
    (λ t. let less : n < b = ltb-true n b t in omega arith) (λ _. h)

-- at least as many as a part that passes has
part_least : (n a c : ℕ) (p : ℕ → Bool) → c ≤ n → ((i : ℕ) → a ≤ i → i < c → p i ≡ true) → c ≤ how_many n p + a
unfolding how_many
part_least zero a c p le all = omega arith
part_least (suc n) a c p le all =
    ⊎_elim (λ h. last h (part_least n a n p (omega arith) (λ i from less. all i from (omega arith)))) (λ h. not_last (part_least n a c p h all)) (cases_lt n c)
  where
    last : n < c → n ≤ how_many n p + a → c ≤ pick (p n) (suc (how_many n p)) (how_many n p) + a
    last h rest =
        pick_both (p n) (suc (how_many n p)) (how_many n p) (λ m. c ≤ m + a) (λ _. omega arith)
        (λ f. ⊎_elim (λ less. omega arith) (λ from. absurd (both_ways (p n) f (all n from h))) (cases_lt n a))

    not_last : c ≤ how_many n p + a → c ≤ pick (p n) (suc (how_many n p)) (how_many n p) + a
    not_last rest = pick_both (p n) (suc (how_many n p)) (how_many n p) (λ m. c ≤ m + a) (λ _. omega arith) (λ _. rest)

-- two quorums beside b bad ones, one after the other, where they have room
room_for_two : (n quorum_size b : ℕ) → 1 ≤ n → b ≤ quorum_size → quorum_size + quorum_size ≤ n + b → quorum_size ≤ n → ¬ MeetAt n quorum_size b
room_for_two n size b some enough room fits meet =
    let bad = λ (i : ℕ). ltb i b in
    let front = λ (i : ℕ). ltb i size in
    let back = λ (i : ℕ). leb ((n + b) - size) i in
    let bad_ones = part_least n 0 b bad (omega arith) (λ i _ h. lt-ltb i b h) in
    let good_if = λ (i : ℕ) (h : b ≤ i). not_from_false (ltb i b) (le-ltb i b h) in
    let first = part_least n b size (λ i. not (bad i) && front i) fits (λ i h less. and_from (not (bad i)) (front i) (good_if i h) (lt-ltb i size less)) in
    let second = part_least n ((n + b) - size) n (λ i. not (bad i) && back i) (omega arith)
    (λ i h _. and_from (not (bad i)) (back i) (good_if i (omega arith)) (le-leb ((n + b) - size) i h)) in
    let one = meet front back bad some (below_most n b) (omega arith) (omega arith) in
    let none = how_many_le n (λ i. not (bad i) && (front i && back i)) (λ i. false) (λ i _ e. absurd (apart i e)) in
    omega (arith, how_many_none n)
  where
    apart : (i : ℕ) → (not (ltb i b) && (ltb i size && leb ((n + b) - size) i)) ≡ true → ⊥
    apart i e =
        let both = and_parts (ltb i size) (leb ((n + b) - size) i) (and_parts (not (ltb i b)) (ltb i size && leb ((n + b) - size) i) e).1 in
        omega (arith, ltb-true i size both.0, leb-true ((n + b) - size) i both.1)

pub meet_just_when : MeetJustWhen
meet_just_when n size b some enough fits = (
  λ meet. ⊎_elim (λ less. less) (λ room. absurd (room_for_two n size b some enough (omega arith) fits meet)) (cases_lt (n + b) (2 * size)),
  λ less p q bad _ few first second. omega (arith, counted n p q bad),
)

pub smaller_quorum_fails : SmallerQuorumFails
unfolding QuorumsMeet
smaller_quorum_fails = (λ n p q bad. quorums_meet n p q bad, λ meet. at_any 1 (omega arith) (meet 1), at_any)
  where
    at_any : (n : ℕ) → 1 ≤ n → ¬ MeetAt n (quorum n - 1) (bad_at_most n)
    at_any n some = room_for_two n (quorum n - 1) (bad_at_most n) some (omega arith) (omega arith) (omega arith)

pub one_bad_more_fails : OneBadMoreFails
one_bad_more_fails = (λ meet. one_over 1 (meet 4), one_over, none_over)
  where
    one_over : (k : ℕ) → ¬ MeetAt (3 * k + 1) (quorum (3 * k + 1)) (suc (bad_at_most (3 * k + 1)))
    one_over k = room_for_two (3 * k + 1) (quorum (3 * k + 1)) (suc (bad_at_most (3 * k + 1))) (omega arith) (omega arith) (omega arith) (omega arith)

    none_over : (k : ℕ) → 1 ≤ k → ¬ MeetAt (3 * k) (quorum (3 * k)) (suc (bad_at_most (3 * k)))
    none_over k some = room_for_two (3 * k) (quorum (3 * k)) (suc (bad_at_most (3 * k))) (omega arith) (omega arith) (omega arith) (omega arith)

-- kept: from 5 to 10; forgotten: from 3 to 6; new: from 5 to 6
kept_entry : Past
kept_entry = record { from = 5; to = 10 }

forgotten : Past
forgotten = record { from = 3; to = 6 }

second_vote : Data
second_vote = record { slot = 0; committee = 0; block = 0; source = 5; source_root = 0; target = 6; target_root = 0 }

pub no_floor_fails : NoFloorFails
unfolding ForgettingIsSafe unsafe_without_floor falling none_clash clashes first_of least_from kept_entry forgotten second_vote
no_floor_fails =
    (λ n ps d. forgetting_is_safe n ps d, λ safe. both_ways true (safe 1 (kept_entry ∷ (forgotten ∷ [])) second_vote (omega arith) refl refl refl) refl)

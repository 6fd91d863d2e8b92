-- What is promised. Each is a statement, a type whose proof is owed. Assumes nothing.
use Rattle.std.specs.Prelude.{◌≡◌, ℕ, ◌+◌, ◌*◌, ◌<◌, ◌≤◌, Bool, true, false, not, ◌&&◌, ◌⊎◌, List, [], ◌∷◌, length, nat_le, nat_lt}
use Rattle.protocol.specs.Data.{Data, punished, Past, past_of, clashes, unsafe, Duty, first_of, quorum, bad_at_most}
use Rattle.protocol.specs.Client.{Share, Event, duty, decided, share, block, resend, garbled, Answer, refused, does, Limits, State, state, turned, answer, after, lets_now}
use Rattle.protocol.specs.World.{Keeper, Group, limits, how_many, World, memory, whole, Lived, good, In}

-- events that their bytes can carry: clients in a byte, slots, epochs, committees and seats in eight, roots in thirty-two
abbrev pub eight : ℕ → Bool
eight n = nat_lt n 18446744073709551616

abbrev pub root : ℕ → Bool
root n = nat_lt n 115792089237316195423570985008687907853269984665640564039457584007913129639936

unfoldable pub carried : Data → Bool
carried d =
    ((eight d.slot && eight d.committee) && (root d.block && eight d.source))
    && ((root d.source_root && eight d.target) && root d.target_root)

unfoldable pub all_carried : List Data → Bool
all_carried [] = true
all_carried (d ∷ ds) = carried d && all_carried ds

unfoldable pub readable : Event → Bool
readable (duty y) = eight y.slot && (eight y.committee && eight y.seat)
readable (decided k d) = eight k && carried d
readable (share s) = nat_lt s.who 256 && (carried s.what && eight s.seat)
readable (block ds) = nat_le (length ds) 255 && all_carried ds
readable resend = true
readable (garbled n) = eight n

unfoldable pub all_readable : List Event → Bool
all_readable [] = true
all_readable (e ∷ es) = readable e && all_readable es

-- limits, and groups, that a client may be opened with and that are promised of: fewer than a third are bad, and who is no client counts as bad
abbrev pub GoodLimits : (ℕ → Bool) → Limits → Type 0
GoodLimits can l =
    (1 ≤ l.clients) × (l.clients ≤ 64) × (l.me < l.clients) × (1 ≤ l.kept) × (l.kept ≤ 4096) × (1 ≤ l.waiting) × (l.waiting ≤ 64) × ((k : ℕ) → l.events_can k ≡ can k)

abbrev pub GoodGroup : (ℕ → Bool) → Group → Type 0
GoodGroup can g =
    (1 ≤ g.clients) × (g.clients ≤ 64) × (how_many g.clients g.bad ≤ bad_at_most g.clients) × ((i : ℕ) → g.clients ≤ i → g.bad i ≡ true)
    × (1 ≤ g.kept) × (g.kept ≤ 4096) × (1 ≤ g.waiting) × (g.waiting ≤ 64) × ((k : ℕ) → g.events_can k ≡ can k)

-- THE MAIN PROMISE, FIRST HALF: a client does what the definitions say, after any events whatever, and lets the deciding come to just what they let
unfoldable pub Right : (ℕ → Bool) → Keeper → Type 0
Right can f =
    (l : Limits) (es : List Event) (e : Event) → GoodLimits can l → all_readable (e ∷ es) ≡ true →
    (f.says (memory f l es) e ≡ answer l (state l es) e) × ((k : ℕ) (d : Data) → eight k ≡ true → carried d ≡ true → f.lets (memory f l es) k d ≡ lets_now (state l es) k d)

-- and with nothing changed, where an event is turned away
unfoldable pub RefusalKeeps : (ℕ → Bool) → Keeper → Type 0
RefusalKeeps can f =
    (l : Limits) (es : List Event) (e : Event) → GoodLimits can l → all_readable (e ∷ es) ≡ true → 0 < turned l (state l es) e →
    f.called (memory f l es) e ≡ memory f l es

-- memory stays small, whatever comes
unfoldable pub all_below : ℕ → List ℕ → Bool
all_below b [] = true
all_below b (x ∷ xs) = nat_lt x b && all_below b xs

unfoldable pub StaysSmall : (ℕ → Bool) → Keeper → Type 0
StaysSmall can f =
    (l : Limits) (es : List Event) → GoodLimits can l → all_readable es ≡ true →
    (length (memory f l es) ≤ 2 * l.kept + 36 * (l.clients * l.waiting) + 64 * l.waiting + 256) × (all_below 18446744073709551616 (memory f l es) ≡ true)

-- all that happened could be carried by bytes
unfoldable pub world_readable : Group → World → Type 0
world_readable g w = ((i : ℕ) → all_readable (w.seen i) ≡ true) × ((k : ℕ) → eight k ≡ true → all_carried (w.verdict k) ≡ true)

-- SECOND HALF: nothing is ever whole for which the group would be punished, whatever happens and whatever fewer than a third of the clients do
unfoldable pub NeverPunished : (ℕ → Bool) → Keeper → Type 0
NeverPunished can f =
    (g : Group) (w : World) (a b : Data) → GoodGroup can g → Lived f g w → world_readable g w →
    whole g w a ≡ true → whole g w b ≡ true → punished a b ≡ false

-- which events a client can do: at the first stage duties, what is decided for them, and shares; then all, blocks and resending too
abbrev pub thin : ℕ → Bool
thin k = nat_lt k 3

abbrev pub all : ℕ → Bool
all k = true

-- eight statements; those that speak of a keeper are of programs that are right
-- 1. quorums meet in a good client: of two sets of clients that with all bad ones are quorums, some good one is in both
unfoldable pub QuorumsMeet : Type 0
QuorumsMeet =
    (n : ℕ) (p q bad : ℕ → Bool) → 1 ≤ n → how_many n bad ≤ bad_at_most n →
    quorum n ≤ how_many n (λ i. not (bad i) && p i) + how_many n bad → quorum n ≤ how_many n (λ i. not (bad i) && q i) + how_many n bad →
    1 ≤ how_many n (λ i. not (bad i) && (p i && q i))

-- 2. one word for a slot: a good client never signs two things for one slot, for whichever seats
unfoldable pub OneWord : Type 0
OneWord =
    (can : ℕ → Bool) (f : Keeper) (g : Group) (w : World) (s t : Share) → Right can f → GoodGroup can g → Lived f g w → world_readable g w →
    In s w.sent → In t w.sent → good g s.who → s.who ≡ t.who → s.what.slot ≡ t.what.slot → s ≡ t

-- 3. what was decided for a slot is for that slot, and its source is before its target
unfoldable pub ForItsSlot : Type 0
ForItsSlot =
    (can : ℕ → Bool) (f : Keeper) (g : Group) (w : World) (k : ℕ) (d : Data) → Right can f → GoodGroup can g → Lived f g w → world_readable g w → eight k ≡ true →
    w.verdict k ≡ d ∷ [] → (d.slot ≡ k) × (d.source < d.target)

-- 4. whole is only what was decided
unfoldable pub WholeIsDecided : Type 0
WholeIsDecided =
    (can : ℕ → Bool) (f : Keeper) (g : Group) (w : World) (d : Data) → Right can f → GoodGroup can g → Lived f g w → world_readable g w →
    whole g w d ≡ true → w.verdict d.slot ≡ d ∷ []

-- 5. what is being decided at a client is for slots below any duty that it would still take; that duties are begun in order is BegunInOrder
unfoldable pub all_before : ℕ → List Duty → Bool
all_before k [] = true
all_before k (y ∷ ys) = nat_lt y.slot k && all_before k ys

unfoldable pub InOrder : Type 0
InOrder = (l : Limits) (es : List Event) → all_before (state l es).after (state l es).active ≡ true

-- 6. forgetting is safe: with pasts in the order of their targets, of which no two clash, what is not unsafe with the largest targets clashes with none
unfoldable pub falling : List Past → Bool
falling [] = true
falling (x ∷ []) = true
falling (x ∷ (y ∷ ys)) = nat_lt y.to x.to && falling (y ∷ ys)

unfoldable pub none_clash : List Past → Bool
none_clash [] = true
none_clash (x ∷ xs) = not (clashes xs x) && none_clash xs

unfoldable pub ForgettingIsSafe : Type 0
ForgettingIsSafe =
    (n : ℕ) (ps : List Past) (d : Data) → 1 ≤ n → falling ps ≡ true → none_clash ps ≡ true → unsafe (first_of n ps) d ≡ false → clashes ps (past_of d) ≡ false

-- 7. handed in is only what is whole
unfoldable pub hands_in : Answer → List Data
hands_in (refused j k) = []
hands_in (does ss ds ys ks) = ds

unfoldable pub Among : Data → List Data → Type 0
Among d [] = ⊥
Among d (x ∷ xs) = (d ≡ x) ⊎ Among d xs

unfoldable pub HandedIsWhole : Type 0
HandedIsWhole =
    (can : ℕ → Bool) (f : Keeper) (g : Group) (w : World) (i : ℕ) (s : Share) (d : Data) → Right can f → GoodGroup can g → Lived f g w → world_readable g w →
    good g i → In s w.sent → readable (share s) ≡ true → Among d (hands_in (f.says (memory f (limits g i) (w.seen i)) (share s))) → whole g w d ≡ true

-- 8. an event that is turned away changes nothing
unfoldable pub TurnedAway : Type 0
TurnedAway = (l : Limits) (s : State) (e : Event) → 0 < turned l s e → after l s e ≡ s

-- Promises over whole runs, beside the eight statements: duties are begun in order, something can become whole, what has a quorum is handed in,
-- what is handed in is whole for every event, and a group of right clients is never punished. Each is a type whose proof is owed. Assumes nothing.
use Rattle.std.specs.Prelude.{◌≡◌, ℕ, ◌<◌, ◌≤◌, Bool, true, false, ◌&&◌, ◌||◌, List, [], ◌∷◌, ◌++◌, ◌==◌, nat_lt}
use Rattle.protocol.specs.Data.{Data, same, Duty, quorum}
use Rattle.protocol.specs.Client.{Share, Event, share, Answer, refused, does, Limits, State, state, turned, answer}
use Rattle.protocol.specs.World.{Keeper, Group, limits, how_many, World, memory, whole, Lived, good, In}
use Rattle.protocol.specs.Promise.{readable, GoodGroup, Right, world_readable, NeverPunished, hands_in, Among}

-- the duties that an answer begins
abbrev pub begins : Answer → List Duty
begins (refused j k) = []
begins (does ss ds ys ks) = ys

-- every duty that a client ever began, the first begun first
unfoldable pub all_begun : Limits → List Event → List Duty
all_begun l [] = []
all_begun l (e ∷ es) = all_begun l es ++ begins (answer l (state l es) e)

-- each duty's slot is above that of the one before it
unfoldable pub rising : List Duty → Bool
rising [] = true
rising (x ∷ []) = true
rising (x ∷ (y ∷ ys)) = nat_lt x.slot y.slot && rising (y ∷ ys)

-- whatever happens, a client begins duties in the order of their slots, each slot once
abbrev pub BegunInOrder : Type 0
BegunInOrder = (l : Limits) (es : List Event) → rising (all_begun l es) ≡ true

-- the promises are of something: with any right keeper that can do duties and what is decided, in every group that is promised of, two attestations of
-- different slots can become whole. Whatever fewer than a third of the clients do, the good ones alone can bring it about: in the world that shows it the others do nothing
abbrev pub Reaches : Type 0
Reaches =
    (can : ℕ → Bool) (f : Keeper) (g : Group) → can 0 ≡ true → can 1 ≡ true → Right can f → GoodGroup can g →
    (w : World) × (a : Data) × (b : Data) × Lived f g w × world_readable g w × (whole g w a ≡ true) × (whole g w b ≡ true) × (a.slot < b.slot)

-- whether client i has a share of x's data and seat among these
unfoldable pub signed_with : ℕ → Share → List Share → Bool
signed_with i x [] = false
signed_with i x (z ∷ zs) = (z.who == i && (same z.what x.what && z.seat == x.seat)) || signed_with i x zs

-- when a share that is taken makes a quorum of clients for its data and seat, with those that came before it, its data is handed in then
abbrev pub HandedAtQuorum : Type 0
HandedAtQuorum =
    (l : Limits) (s : State) (x : Share) → turned l s (share x) ≡ 0 →
    quorum l.clients ≤ how_many l.clients (λ i. signed_with i x (x ∷ s.got)) → answer l s (share x) ≡ does [] (x.what ∷ []) [] []

-- whatever event comes, handed in is only what is whole; a share that comes is one that was sent
abbrev pub AlwaysHandedIsWhole : Type 0
AlwaysHandedIsWhole =
    (can : ℕ → Bool) (f : Keeper) (g : Group) (w : World) (i : ℕ) (e : Event) (d : Data) → Right can f → GoodGroup can g → Lived f g w → world_readable g w →
    good g i → ((s : Share) → e ≡ share s → In s w.sent) → readable e ≡ true → Among d (hands_in (f.says (memory f (limits g i) (w.seen i)) e)) →
    whole g w d ≡ true

-- a group of clients that do what the definitions say is never punished, whichever events they can do
abbrev pub RightIsSafe : Type 0
RightIsSafe = (can : ℕ → Bool) (f : Keeper) → Right can f → NeverPunished can f

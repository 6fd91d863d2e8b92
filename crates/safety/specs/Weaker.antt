-- What a weaker client would not do. Every right keeper, opened with any limits that are promised of, signs, hands in, lets what is valid and nothing else,
-- looks at the past when it is asked, and counts each client once: a keeper that does less is not right. Assumes nothing: these are definitions.
use Rattle.std.specs.Prelude.{◌≡◌, ℕ, suc, ◌<◌, ◌≤◌, Bool, true, false, ◌≢◌, ◌⊎◌, List, [], ◌∷◌, length}
use Rattle.protocol.specs.Data.{Data, Duty, quorum}
use Rattle.protocol.specs.Client.{Share, Event, duty, decided, share, Answer, refused, does, Limits, state, share_of}
use Rattle.protocol.specs.World.{Keeper, memory, sends}
use Rattle.protocol.specs.Promise.{eight, carried, readable, all_readable, GoodLimits, Right}
use Rattle.protocol.specs.Refusals.{Member}

-- a right keeper that can do duties, what is decided and shares, and limits that it may be opened with
pub record RightClient (can : ℕ → Bool) (f : Keeper) (l : Limits) : Type 0 where
  pub duties : can 0 ≡ true
  pub decidings : can 1 ≡ true
  pub shares : can 2 ≡ true
  pub right : Right can f
  pub limits : GoodLimits can l

-- what it answers to an event, and whether it lets the deciding for a slot come to data, after events, the last first
abbrev pub says : Keeper → Limits → List Event → Event → Answer
says f l es e = f.says (memory f l es) e

abbrev pub lets : Keeper → Limits → List Event → ℕ → Data → Bool
lets f l es k d = f.lets (memory f l es) k d

-- a duty that bytes can carry, and not for the last slot of all
abbrev pub Takeable : Duty → Type 0
Takeable y = (readable (duty y) ≡ true) × (suc y.slot < 18446744073709551616)

-- data that is of a duty's slot and committee, with its source before its target
abbrev pub Fits : Duty → Data → Type 0
Fits y d = (d.slot ≡ y.slot) × (d.committee ≡ y.committee) × (d.source < d.target)

-- data that goes on from other: its target is later, and its source no earlier
abbrev pub GoesOn : Data → Data → Type 0
GoesOn a b = (a.target < b.target) × (a.source ≤ b.source)

-- a new client begins the duty that it is given at once, and when the deciding for its slot has come to data, whichever, it sends its own share of that for the
-- duty's seat, and does nothing else
abbrev pub ItSigns : Type 0
ItSigns =
    (can : ℕ → Bool) (f : Keeper) (l : Limits) → RightClient can f l → (y : Duty) (d : Data) → Takeable y → carried d ≡ true →
    (says f l [] (duty y) ≡ does [] [] (y ∷ []) [])
    × (says f l (duty y ∷ []) (decided y.slot d) ≡ does (share_of l y d ∷ []) [] [] [])

-- and so for every duty: whatever came before, it sends its share of what was decided for the duty at hand
abbrev pub ItAlwaysSigns : Type 0
ItAlwaysSigns =
    (can : ℕ → Bool) (f : Keeper) (l : Limits) → RightClient can f l → (es : List Event) (y : Duty) (d : Data) →
    all_readable (decided y.slot d ∷ es) ≡ true → (state l es).current ≡ y ∷ [] → sends (says f l es (decided y.slot d)) ≡ share_of l y d ∷ []

-- of its first duty it lets whatever fits it; of a second one whatever fits that and goes on from what was decided for the first
abbrev pub ItLets : Type 0
ItLets =
    (can : ℕ → Bool) (f : Keeper) (l : Limits) → RightClient can f l → (y z : Duty) (a b : Data) → Takeable y → Takeable z → carried a ≡ true → carried b ≡ true →
    (Fits y a → lets f l (duty y ∷ []) y.slot a ≡ true)
    × (y.slot < z.slot → Fits z b → GoesOn a b → lets f l (duty z ∷ (decided y.slot a ∷ (duty y ∷ []))) z.slot b ≡ true)

-- it lets nothing else: nothing with no duty, nothing for another slot, nothing that does not fit the duty, nothing that does not go on from what was decided
-- before, as what has the same target, an earlier one, or an earlier source
abbrev pub ItDoesNotLet : Type 0
ItDoesNotLet =
    (can : ℕ → Bool) (f : Keeper) (l : Limits) → RightClient can f l → (y z : Duty) (a b : Data) (k : ℕ) → Takeable y → Takeable z → carried a ≡ true → carried b ≡ true →
    eight k ≡ true →
    (lets f l [] k a ≡ false)
    × (k ≢ y.slot ⊎ ¬ Fits y a → lets f l (duty y ∷ []) k a ≡ false)
    × (y.slot < z.slot → (¬ Fits z b) ⊎ (¬ GoesOn a b) → lets f l (duty z ∷ (decided y.slot a ∷ (duty y ∷ []))) z.slot b ≡ false)

-- it looks at each entry that it keeps, not only at the least: with two of them, data that goes on from the first is let where it goes on from the second or the second
-- from it, and not where it has the second one's target, is around it or within it
abbrev pub ItLooksAtEach : Type 0
ItLooksAtEach =
    (can : ℕ → Bool) (f : Keeper) (l : Limits) → RightClient can f l → 2 ≤ l.kept → (x y z : Duty) (a b d : Data) → Takeable x → Takeable y → Takeable z →
    carried a ≡ true → carried b ≡ true → carried d ≡ true → x.slot < y.slot → y.slot < z.slot → a.target < b.target → Fits z d → GoesOn a d →
    let es : List Event = duty z ∷ (decided y.slot b ∷ (duty y ∷ (decided x.slot a ∷ (duty x ∷ [])))) in
    (GoesOn b d ⊎ GoesOn d b → lets f l es z.slot d ≡ true)
    × (¬ (GoesOn b d ⊎ GoesOn d b) → lets f l es z.slot d ≡ false)

-- it lets by the past as it is when it is asked. For one slot, and with no duty begun between: b is let before the deciding for the slot has come to a, and
-- afterwards only if it goes on from a; so not a itself
abbrev pub ItLooksWhenAsked : Type 0
ItLooksWhenAsked =
    (can : ℕ → Bool) (f : Keeper) (l : Limits) → RightClient can f l → (y : Duty) (a b : Data) → Takeable y → carried a ≡ true → carried b ≡ true → Fits y b →
    (lets f l (duty y ∷ []) y.slot b ≡ true)
    × (GoesOn a b → lets f l (decided y.slot a ∷ (duty y ∷ [])) y.slot b ≡ true)
    × (¬ GoesOn a b → lets f l (decided y.slot a ∷ (duty y ∷ [])) y.slot b ≡ false)

-- a share, by who signed, what and for which seat
abbrev pub share_by : ℕ → Data → ℕ → Share
share_by w d seat = record { who = w; what = d; seat = seat }

-- after events, shares of the same data for the same seat came from these clients, the last first
unfoldable pub shares_came : Data → ℕ → List ℕ → List Event → List Event
shares_came d seat [] es = es
shares_came d seat (w ∷ ws) es = share (share_by w d seat) ∷ shares_came d seat ws es

-- clients of a group of n, no two the same
abbrev pub Different : ℕ → List ℕ → Type 0
Different n [] = Unit
Different n (w ∷ ws) = (w < n) × (¬ Member w ws) × Different n ws

-- with a duty, it hands in what a quorum of different clients signed for one seat when the last of them comes, whoever they are and in whatever order they come, and
-- nothing before that
abbrev pub ItHandsIn : Type 0
ItHandsIn =
    (can : ℕ → Bool) (f : Keeper) (l : Limits) → RightClient can f l → (y : Duty) (d : Data) (seat w : ℕ) (ws : List ℕ) → Takeable y → carried d ≡ true → d.slot ≡ y.slot →
    eight seat ≡ true → Different l.clients (w ∷ ws) →
    (length (w ∷ ws) < quorum l.clients → says f l (shares_came d seat ws (duty y ∷ [])) (share (share_by w d seat)) ≡ does [] [] [] [])
    × (quorum l.clients ≤ length (w ∷ ws) → says f l (shares_came d seat ws (duty y ∷ [])) (share (share_by w d seat)) ≡ does [] (d ∷ []) [] [])

-- a share that it took is the only one of that client for that slot: the next is refused, whatever came before
abbrev pub ItCountsEachOnce : Type 0
ItCountsEachOnce =
    (can : ℕ → Bool) (f : Keeper) (l : Limits) → RightClient can f l → (es : List Event) (x z : Share) (ds : List Data) →
    all_readable (share z ∷ (share x ∷ es)) ≡ true → z.who ≡ x.who → z.what.slot ≡ x.what.slot →
    says f l es (share x) ≡ does [] ds [] [] → says f l (share x ∷ es) (share z) ≡ refused 6 0

-- shares for different seats, or of different data, are not counted together: in a group of two or more, whoever signed d for a seat, one share for another seat or
-- of other data hands nothing in
abbrev pub ItCountsBySeat : Type 0
ItCountsBySeat =
    (can : ℕ → Bool) (f : Keeper) (l : Limits) → RightClient can f l → (y : Duty) (d : Data) (seat : ℕ) (x : Share) (ws : List ℕ) → Takeable y → carried d ≡ true →
    d.slot ≡ y.slot → x.what.slot ≡ y.slot → eight seat ≡ true → readable (share x) ≡ true → 2 ≤ l.clients → Different l.clients (x.who ∷ ws) →
    (x.seat ≢ seat) ⊎ (x.what ≢ d) → says f l (shares_came d seat ws (duty y ∷ [])) (share x) ≡ does [] [] [] []

-- its own share counts when it comes as a share, and not when it is signed: with it and so many others that they are a quorum, nothing is handed in at the last of
-- the others, and the data is when its own comes
abbrev pub ItsOwnCountsWhenItComes : Type 0
ItsOwnCountsWhenItComes =
    (can : ℕ → Bool) (f : Keeper) (l : Limits) → RightClient can f l → (y : Duty) (d : Data) (w : ℕ) (ws : List ℕ) → Takeable y → carried d ≡ true → d.slot ≡ y.slot →
    Different l.clients (l.me ∷ (w ∷ ws)) → length (l.me ∷ (w ∷ ws)) ≡ quorum l.clients →
    let signed : List Event = decided y.slot d ∷ (duty y ∷ []) in
    (says f l (shares_came d y.seat ws signed) (share (share_by w d y.seat)) ≡ does [] [] [] [])
    × (says f l (shares_came d y.seat (w ∷ ws) signed) (share (share_of l y d)) ≡ does [] (d ∷ []) [] [])

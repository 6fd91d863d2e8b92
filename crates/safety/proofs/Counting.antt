-- How a right keeper counts shares: each client once, by data and seat, its own when it comes, and at a quorum it hands in. Assumes nothing.
use Rattle.std.proofs.Common.{◌≡◌, ℕ, ◌<◌, ◌≤◌, Bool, true, false, ◌&&◌, eqb, ltb, leb, ◌≢◌, ◌⊎◌, List, [], ◌∷◌, length, sym, refl, ap, ◌∙◌, subst, inl, inr, ⊎_elim, arith}
use Rattle.std.proofs.lemmas.Bool.{eqb-true, lt-ltb, le-leb, lt-leb, eq-eqb, ne_eqb, and_parts, and_from, and_left, and_right}
use Rattle.protocol.specs.Data.{pick, Data, same, Duty, quorum}
use Rattle.protocol.specs.Client.{Share, Event, duty, decided, share, refused, does, Limits, State, event_number, listens, for_some, from_him, heard, signers, good_fields, turned_by, turned, place, stepped, doing, answer, after, state, with_got}
use Rattle.protocol.specs.World.{Keeper}
use Rattle.protocol.specs.Promise.{eight, carried, readable, all_readable, GoodLimits}
use Rattle.protocol.specs.Refusals.{Member}
use Rattle.safety.specs.Weaker.{RightClient, says, share_by, shares_came, Different, ItHandsIn, ItCountsEachOnce, ItCountsBySeat, ItsOwnCountsWhenItComes}
use Rattle.safety.proofs.Firsts.{begun_first, signed_first, says_as, can_share, first_state, first_read, signed_state, signed_read}
use Rattle.safety.proofs.Held.{share_taken}
use Rattle.safety.proofs.Members.{from_him_from}
use Rattle.safety.proofs.Picks.{pick_both, pick_true}
use Rattle.safety.proofs.Same.{same_refl, same_apart}

-- shares of the same data for the same seat, of these clients
unfoldable shares_by : Data → ℕ → List ℕ → List Share
shares_by d seat [] = []
shares_by d seat (w ∷ ws) = share_by w d seat ∷ shares_by d seat ws

module _ (d : Data) (seat : ℕ) where
  -- who is not one of them has none there
  none_from : (w k : ℕ) (ws : List ℕ) → ¬ Member w ws → from_him w k (shares_by d seat ws) ≡ false
  unfolding shares_by from_him
  none_from w k [] n = refl
  none_from w k (v ∷ ws) n = rw (ne_eqb v w (λ e. n (inl (sym e)))) (none_from w k ws (λ m. n (inr m)))

  -- all of them are kept where their slot is listened for
  all_heard : (s : State) (ws : List ℕ) → listens s d.slot ≡ true → heard s (shares_by d seat ws) ≡ shares_by d seat ws
  unfolding shares_by heard pick
  all_heard s [] h = refl
  all_heard s (w ∷ ws) h = rw (h, all_heard s ws h)

  -- one more of the same counts them all, and one of other data or for another seat none of them
  counts_all : (w : ℕ) (ws : List ℕ) → signers (share_by w d seat) (shares_by d seat ws) ≡ length ws
  unfolding shares_by signers pick
  counts_all w [] = refl
  counts_all w (v ∷ ws) = rw (same_refl d, eq-eqb seat seat refl, counts_all w ws)

  counts_none : (x : Share) (ws : List ℕ) → (x.seat ≢ seat) ⊎ (x.what ≢ d) → signers x (shares_by d seat ws) ≡ 0
  unfolding shares_by signers pick
  counts_none x [] other = refl
  counts_none x (w ∷ ws) other = rw unlike (counts_none x ws other)
    where
      unlike : (same d x.what && eqb seat x.seat) ≡ false
      unlike =
          ⊎_elim (λ ne. and_right (same d x.what) (eqb seat x.seat) (ne_eqb seat x.seat (λ e. ne (sym e))))
          (λ ne. and_left (same d x.what) (eqb seat x.seat) (same_apart d x.what (λ e. ne (sym e)))) other

-- a share comes, of a client that is there and has none yet, for a slot that is listened for: it is kept with the others, and they are counted
module _ (l : Limits) (s : State) (got : List Share) (x : Share) (can : l.events_can 2 ≡ true) (there : x.who < l.clients) (listened : listens s x.what.slot ≡ true)
    (fresh : from_him x.who x.what.slot got ≡ false) (kept : heard (with_got got s) got ≡ got) where
  kept_then : after l (with_got got s) (share x) ≡ with_got (x ∷ got) s
  unfolding stepped turned_by good_fields event_number pick
  kept_then = rw (can, lt-ltb x.who l.clients there, listened, fresh, kept)

  counted_then : answer l (with_got got s) (share x) ≡ does [] (pick (leb (quorum l.clients) (signers x (x ∷ got))) (x.what ∷ []) []) [] []
  unfolding doing stepped turned_by good_fields event_number pick
  counted_then = rw (can, lt-ltb x.who l.clients there, listened, fresh, kept)

-- a group's clients fit in a byte
byte : (can : ℕ → Bool) (l : Limits) → GoodLimits can l → (w : ℕ) → w < l.clients → ltb w 256 ≡ true
byte can l good w there = lt-ltb w 256 (omega (arith, good.1))

module _ (can : ℕ → Bool) (f : Keeper) (l : Limits) (c : RightClient can f l) (d : Data) (seat : ℕ) (cd : carried d ≡ true) (small : eight seat ≡ true)
    (es : List Event) (s : State) (read : all_readable es ≡ true) (at : state l es ≡ with_got [] s) (listened : listens s d.slot ≡ true) where
  -- the shares of different clients are all kept
  came_state : (ws : List ℕ) → Different l.clients ws → state l (shares_came d seat ws es) ≡ with_got (shares_by d seat ws) s
  unfolding state shares_came shares_by
  came_state [] apart = at
  came_state (w ∷ ws) (there, new, apart) =
      ap (λ (t : State). after l t (share (share_by w d seat))) (came_state ws apart)
      ∙ kept_then l s (shares_by d seat ws) (share_by w d seat) (can_share can f l c) there listened (none_from d seat w d.slot ws new)
      (all_heard d seat (with_got (shares_by d seat ws) s) ws listened)

  came_read : (ws : List ℕ) → Different l.clients ws → all_readable (shares_came d seat ws es) ≡ true
  unfolding shares_came all_readable readable
  came_read [] apart = read
  came_read (w ∷ ws) (there, new, apart) = rw (byte can l c.limits w there, cd, small) (came_read ws apart)

  -- the next one, of whatever data for that slot and for whatever seat, is counted with them
  next_said : (x : Share) (ws : List ℕ) → readable (share x) ≡ true → x.what.slot ≡ d.slot → Different l.clients (x.who ∷ ws) →
      says f l (shares_came d seat ws es) (share x)
      ≡ does [] (pick (leb (quorum l.clients) (signers x (x ∷ shares_by d seat ws))) (x.what ∷ []) []) [] []
  unfolding all_readable
  next_said x ws r slot (there, new, apart) =
      says_as can f l c (shares_came d seat ws es) (share x) (with_got (shares_by d seat ws) s)
      (and_from (readable (share x)) (all_readable (shares_came d seat ws es)) r (came_read ws apart)) (came_state ws apart)
      ∙ counted_then l s (shares_by d seat ws) x (can_share can f l c) there (subst (λ (k : ℕ). listens s k ≡ true) (sym slot) listened)
      (none_from d seat x.who x.what.slot ws new) (all_heard d seat (with_got (shares_by d seat ws) s) ws listened)

  share_read : (w : ℕ) → w < l.clients → readable (share (share_by w d seat)) ≡ true
  unfolding readable
  share_read w there = rw (byte can l c.limits w there, cd, small)

  -- if it is of the same, they count one more
  one_more : (w : ℕ) (ws : List ℕ) → signers (share_by w d seat) (share_by w d seat ∷ shares_by d seat ws) ≡ length (w ∷ ws)
  unfolding signers pick
  one_more w ws = rw (same_refl d, eq-eqb seat seat refl, counts_all d seat w ws)

  too_few : (w : ℕ) (ws : List ℕ) → Different l.clients (w ∷ ws) → length (w ∷ ws) < quorum l.clients →
      says f l (shares_came d seat ws es) (share (share_by w d seat)) ≡ does [] [] [] []
  unfolding pick
  too_few w ws apart few =
      next_said (share_by w d seat) ws (share_read w apart.0) refl apart ∙ rw (one_more w ws, lt-leb (quorum l.clients) (length (w ∷ ws)) few)

  enough : (w : ℕ) (ws : List ℕ) → Different l.clients (w ∷ ws) → quorum l.clients ≤ length (w ∷ ws) →
      says f l (shares_came d seat ws es) (share (share_by w d seat)) ≡ does [] (d ∷ []) [] []
  unfolding pick
  enough w ws apart most =
      next_said (share_by w d seat) ws (share_read w apart.0) refl apart ∙ rw (one_more w ws, le-leb (quorum l.clients) (length (w ∷ ws)) most)

  -- if it is not, it counts for itself
  one_alone : (x : Share) (ws : List ℕ) → (x.seat ≢ seat) ⊎ (x.what ≢ d) → signers x (x ∷ shares_by d seat ws) ≡ 1
  unfolding signers pick
  one_alone x ws other = rw (same_refl x.what, eq-eqb x.seat x.seat refl, counts_none d seat x ws other)

  alone : (x : Share) (ws : List ℕ) → readable (share x) ≡ true → x.what.slot ≡ d.slot → Different l.clients (x.who ∷ ws) → 2 ≤ l.clients →
      (x.seat ≢ seat) ⊎ (x.what ≢ d) → says f l (shares_came d seat ws es) (share x) ≡ does [] [] [] []
  unfolding pick
  alone x ws r slot apart some other = next_said x ws r slot apart ∙ rw (one_alone x ws other, lt-leb (quorum l.clients) 1 (omega arith))

-- a client listens for the slot of its first duty, before and after it is signed
listens_first : (k : ℕ) (y : Duty) → k ≡ y.slot → listens (begun_first y) k ≡ true
unfolding for_some
listens_first k y e = rw (eq-eqb y.slot k (sym e))

pub it_hands_in : ItHandsIn
it_hands_in can f l c y d seat w ws t cd slot small apart =
    let at = first_state can f l c y t in
    let read = first_read y t in
    let listened = listens_first d.slot y slot in (
      too_few can f l c d seat cd small (duty y ∷ []) (begun_first y) read at listened w ws apart,
      enough can f l c d seat cd small (duty y ∷ []) (begun_first y) read at listened w ws apart,
    )

pub it_counts_by_seat : ItCountsBySeat
it_counts_by_seat can f l c y d seat x ws t cd slot slot_x small r some apart other =
    alone can f l c d seat cd small (duty y ∷ []) (begun_first y) (first_read y t) (first_state can f l c y t) (listens_first d.slot y slot)
    x ws r (slot_x ∙ sym slot) apart some other

pub its_own_counts_when_it_comes : ItsOwnCountsWhenItComes
unfolding readable
its_own_counts_when_it_comes can f l c y d w ws t cd slot apart all =
    let signed : List Event = decided y.slot d ∷ (duty y ∷ []) in
    let small = (and_parts (eight y.committee) (eight y.seat) (and_parts (eight y.slot) (eight y.committee && eight y.seat) t.0).1).1 in
    let at = signed_state can f l c y t d cd in
    let read = signed_read y t d cd in
    let listened = listens_first d.slot y slot in (
      too_few can f l c d y.seat cd small signed (signed_first l y d) read at listened w ws apart.2 (omega arith),
      enough can f l c d y.seat cd small signed (signed_first l y d) read at listened l.me (w ∷ ws) apart (omega arith),
    )

-- a share that is not refused is taken, and kept
took : (l : Limits) (s : State) (x : Share) (ds : List Data) → answer l s (share x) ≡ does [] ds [] [] → turned l s (share x) ≡ 0
took l s x ds =
    pick_both (eqb (turned l s (share x)) 0) (doing l s (share x)) (refused (turned l s (share x)) (place (share x) (turned l s (share x))))
    (λ a. a ≡ does [] ds [] [] → turned l s (share x) ≡ 0) (λ e _. eqb-true (turned l s (share x)) 0 e) (λ _ h. let no_way : ◌≡◌ {A = ℕ} 0 1 = cc in absurd (omega arith))

took_state : (l : Limits) (s : State) (x : Share) → turned l s (share x) ≡ 0 → after l s (share x) ≡ with_got (x ∷ heard s s.got) s
unfolding stepped
took_state l s x e = pick_true (eqb (turned l s (share x)) 0) (with_got (x ∷ heard s s.got) s) s (eq-eqb (turned l s (share x)) 0 e)

-- and then another of its client for its slot is refused
second_refused : (l : Limits) (s : State) (x z : Share) (got : List Share) → l.events_can 2 ≡ true → turned l s (share x) ≡ 0 → z.who ≡ x.who →
    z.what.slot ≡ x.what.slot → answer l (with_got (x ∷ got) s) (share z) ≡ refused 6 0
unfolding turned_by good_fields event_number place pick
second_refused l s x z got can taken who slot =
    let was = share_taken l s x taken in
    let there : ltb z.who l.clients ≡ true = subst (λ (w : ℕ). ltb w l.clients ≡ true) (sym who) was.0 in
    let listened : listens s z.what.slot ≡ true = subst (λ (k : ℕ). listens s k ≡ true) (sym slot) was.1 in
    rw (can, there, listened, from_him_from z.who z.what.slot (x ∷ got) x (inl refl) (sym who) (sym slot))

pub it_counts_each_once : ItCountsEachOnce
unfolding all_readable state
it_counts_each_once can f l c es x z ds r who slot said =
    let s : State = state l es in
    let before = (and_parts (readable (share z)) (all_readable (share x ∷ es)) r).1 in
    let taken = took l s x ds (sym (says_as can f l c es (share x) s before refl) ∙ said) in
    says_as can f l c (share x ∷ es) (share z) (with_got (x ∷ heard s s.got) s) r (took_state l s x taken)
    ∙ second_refused l s x z (heard s s.got) (can_share can f l c) taken who slot

-- The shares that a client holds: each came to it as an event, its signer is a client of the group, and no two are of one
-- client for one slot. Assumes nothing.
use Rattle.std.proofs.Common.{◌≡◌, ℕ, ◌<◌, Bool, true, false, not, ◌&&◌, eqb, ltb, List, [], ◌∷◌, sym, refl, ap, ◌∙◌, subst, arith}
use Rattle.std.proofs.lemmas.Bool.{ltb-true, eqb-true, or_parts, or_from}
use Rattle.protocol.specs.Data.{pick, Data, Duty}
use Rattle.protocol.specs.Client.{Share, Event, duty, decided, share, block, resend, garbled, Limits, State, turned, turned_by, good_fields, event_number, listens, from_him, heard, shares_not_for, has_slot, next, learned, begin_or_wait, ahead_of, by_decided, gone, duty_gone, told, by_block, stepped, state, signed, without_current}
use Rattle.safety.proofs.Picks.{pick_both}

-- what holds of each share
abbrev pub Each : (Share → Type 0) → List Share → Type 0
Each P [] = Unit {0}
Each P (x ∷ xs) = P x × Each P xs

-- no two of one client for one slot
abbrev pub Apart : List Share → Type 0
Apart [] = Unit {0}
Apart (x ∷ xs) = (from_him x.who x.what.slot xs ≡ false) × Apart xs

-- those that pass a test
kept : (Share → Bool) → List Share → List Share
kept t [] = []
kept t (x ∷ xs) = pick (t x) (x ∷ kept t xs) (kept t xs)

each_kept : (P : Share → Type 0) (t : Share → Bool) (xs : List Share) → Each P xs → Each P (kept t xs)
unfolding kept
each_kept P t [] h = tt
each_kept P t (x ∷ xs) h = pick_both (t x) (x ∷ kept t xs) (kept t xs) (Each P) (λ _. (h.0, each_kept P t xs h.1)) (λ _. each_kept P t xs h.1)

from_kept : (t : Share → Bool) (w k : ℕ) (xs : List Share) → from_him w k xs ≡ false → from_him w k (kept t xs) ≡ false
unfolding kept from_him
from_kept t w k [] h = refl
from_kept t w k (x ∷ xs) h =
    let p = or_parts (eqb x.who w && eqb x.what.slot k) (from_him w k xs) h in
    let rest = from_kept t w k xs p.1 in
    pick_both (t x) (x ∷ kept t xs) (kept t xs) (λ zs. from_him w k zs ≡ false)
    (λ _. or_from (eqb x.who w && eqb x.what.slot k) (from_him w k (kept t xs)) p.0 rest) (λ _. rest)

apart_kept : (t : Share → Bool) (xs : List Share) → Apart xs → Apart (kept t xs)
unfolding kept
apart_kept t [] h = tt
apart_kept t (x ∷ xs) h =
    pick_both (t x) (x ∷ kept t xs) (kept t xs) Apart
    (λ _. (from_kept t x.who x.what.slot xs h.0, apart_kept t xs h.1)) (λ _. apart_kept t xs h.1)

heard_kept : (s : State) (xs : List Share) → kept (λ x. listens s x.what.slot) xs ≡ heard s xs
unfolding kept heard
heard_kept s [] = refl
heard_kept s (x ∷ xs) = ap (λ zs. pick (listens s x.what.slot) (x ∷ zs) zs) (heard_kept s xs)

pick_not : {A : Type 0} (b : Bool) (x y : A) → pick (not b) x y ≡ pick b y x
unfolding pick
pick_not true x y = refl
pick_not false x y = refl

not_for_kept : (ds : List Data) (xs : List Share) → kept (λ x. not (has_slot x.what.slot ds)) xs ≡ shares_not_for ds xs
unfolding kept shares_not_for
not_for_kept ds [] = refl
not_for_kept ds (x ∷ xs) =
    pick_not (has_slot x.what.slot ds) (x ∷ kept (λ z. not (has_slot z.what.slot ds)) xs) (kept (λ z. not (has_slot z.what.slot ds)) xs)
    ∙ ap (λ zs. pick (has_slot x.what.slot ds) zs (x ∷ zs)) (not_for_kept ds xs)

-- what is held: signed by a client of the group, and P of each
pub record Held (n : ℕ) (P : Share → Type 0) (got : List Share) : Type 0 where
  pub clients : Each (λ x. x.who < n) got
  pub came : Each P got
  pub apart : Apart got

held_kept : (n : ℕ) (P : Share → Type 0) (t : Share → Bool) (xs : List Share) → Held n P xs → Held n P (kept t xs)
held_kept n P t xs h = record { clients = each_kept (λ x. x.who < n) t xs h.clients; came = each_kept P t xs h.came; apart = apart_kept t xs h.apart }

-- the share of an event has the property
abbrev pub OfShare : (Share → Type 0) → Event → Type 0
OfShare P (duty y) = Unit {0}
OfShare P (decided k d) = Unit {0}
OfShare P (share x) = P x
OfShare P (block ds) = Unit {0}
OfShare P resend = Unit {0}
OfShare P (garbled n) = Unit {0}

abbrev pub OfShares : (Share → Type 0) → List Event → Type 0
OfShares P [] = Unit {0}
OfShares P (e ∷ es) = OfShare P e × OfShares P es

-- looking at the queue leaves the shares
learned_got : (l : Limits) (ds : List Data) (k : ℕ) (s : State) → (learned l ds k s).got ≡ s.got
unfolding learned
learned_got l [] k s = refl
learned_got l (d ∷ ds) k s = refl

begin_got : (l : Limits) (cur : List Duty) (y : Duty) (ys : List Duty) (s : State) → (begin_or_wait l cur y ys s).got ≡ s.got
unfolding begin_or_wait
begin_got l [] y ys s = refl
begin_got l (c ∷ cs) y ys s = refl

next_got : (l : Limits) (ys : List Duty) (s : State) → (next l ys s).got ≡ s.got
unfolding next
next_got l [] s = refl
next_got l (y ∷ ys) s =
    let ds : List Data = ahead_of y.slot s.ahead in
    pick_both (has_slot y.slot s.ahead) (next l ys (learned l ds y.slot s)) (begin_or_wait l s.current y ys s) (λ t. t.got ≡ s.got)
    (λ _. next_got l ys (learned l ds y.slot s) ∙ learned_got l ds y.slot s) (λ _. begin_got l s.current y ys s)

decided_got : (l : Limits) (cur : List Duty) (k : ℕ) (d : Data) (s : State) → (by_decided l cur k d s).got ≡ s.got
unfolding by_decided
decided_got l [] k d s = refl
decided_got l (y ∷ ys) k d s = pick_both (eqb y.slot k) _ s (λ t. t.got ≡ s.got) (λ _. next_got l s.queue _) (λ _. refl)

gone_got : (l : Limits) (ds : List Data) (s : State) → (gone l ds s).got ≡ s.got
unfolding gone
gone_got l [] s = refl
gone_got l (d ∷ ds) s = next_got l s.queue (without_current (signed l s d))

block_got : (l : Limits) (cur : List Duty) (all : List Data) (s : State) → (duty_gone l cur all s).got ≡ s.got
unfolding duty_gone
block_got l [] all s = refl
block_got l (y ∷ ys) all s = gone_got l (ahead_of y.slot all) s

-- a share that is taken: of a client of the group, which has none there for its slot
taken_share : (a g h f : Bool) → pick {A = ℕ} (a && g) (pick h (pick f 6 0) 5) 2 ≡ 0 → (g ≡ true) × (h ≡ true) × (f ≡ false)
unfolding pick
taken_share true true true true e = absurd (omega arith)
taken_share true true true false e = (refl, refl, refl)
taken_share true true false f e = absurd (omega arith)
taken_share true false h f e = absurd (omega arith)
taken_share false g h f e = absurd (omega arith)

pub share_taken : (l : Limits) (s : State) (x : Share) → turned l s (share x) ≡ 0 →
    (ltb x.who l.clients ≡ true) × (listens s x.what.slot ≡ true) × (from_him x.who x.what.slot s.got ≡ false)
unfolding turned_by good_fields event_number
share_taken l s x e = taken_share (l.events_can 2) (ltb x.who l.clients) (listens s x.what.slot) (from_him x.who x.what.slot s.got) e

-- a share that is taken, with those that are still listened for
pub held_with : (l : Limits) (P : Share → Type 0) (s : State) (x : Share) → turned l s (share x) ≡ 0 → P x → Held l.clients P s.got →
    Held l.clients P (x ∷ heard s s.got)
held_with l P s x e px h =
    let t = share_taken l s x e in
    let rest : Held l.clients P (heard s s.got) =
    subst (Held l.clients P) (heard_kept s s.got) (held_kept l.clients P (λ z. listens s z.what.slot) s.got h) in
    record {
      clients = (ltb-true x.who l.clients t.0, rest.clients);
      came = (px, rest.came);
      apart = (
        subst (λ zs. from_him x.who x.what.slot zs ≡ false) (heard_kept s s.got)
            (from_kept (λ z. listens s z.what.slot) x.who x.what.slot s.got t.2),
        rest.apart,
      );
    }

held_stepped : (l : Limits) (P : Share → Type 0) (s : State) (e : Event) → turned l s e ≡ 0 → OfShare P e → Held l.clients P s.got →
    Held l.clients P (stepped l s e).got
unfolding stepped
held_stepped l P s (duty y) t p h = subst (Held l.clients P) (sym (next_got l _ _)) h
held_stepped l P s (decided k d) t p h = subst (Held l.clients P) (sym (decided_got l s.current k d s)) h
held_stepped l P s (share x) t p h = held_with l P s x t p h
held_stepped l P s (block ds) t p h =
    subst (Held l.clients P) (not_for_kept (told l s ds) s.got ∙ sym (block_got l s.current (told l s ds) (by_block l s ds)))
    (held_kept l.clients P (λ x. not (has_slot x.what.slot (told l s ds))) s.got h)
held_stepped l P s resend t p h = h
held_stepped l P s (garbled n) t p h = h

pub held : (l : Limits) (P : Share → Type 0) (es : List Event) → OfShares P es → Held l.clients P (state l es).got
unfolding state
held l P [] h = record { clients = tt; came = tt; apart = tt }
held l P (e ∷ es) h =
    let before = held l P es h.1 in
    pick_both (eqb (turned l (state l es) e) 0) (stepped l (state l es) e) (state l es) (λ t. Held l.clients P t.got)
    (λ taken. held_stepped l P (state l es) e (eqb-true (turned l (state l es) e) 0 taken) h.0 before) (λ _. before)

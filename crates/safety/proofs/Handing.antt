-- What has a quorum is handed in, and what is handed in is whole. Of shares in which no client has two for one slot, as many
-- are of some data as clients signed it; and each share that a good client holds was sent. Assumes nothing.
use Rattle.std.proofs.Common.{◌≡◌, ℕ, suc, ◌<◌, ◌≤◌, Bool, true, false, ◌&&◌, ◌||◌, eqb, leb, ◌⊎◌, List, [], ◌∷◌, ◌++◌, sym, refl, ap, ◌∙◌, subst, inl, inr, ⊎_elim, arith}
use Rattle.std.proofs.lemmas.Bool.{leb-true, le-leb, eqb-true, eq-eqb, and_parts, and_from, or_cases, or_left, or_right, both_ways, cases_Bool}
use Rattle.protocol.specs.Data.{pick, Data, same, quorum}
use Rattle.protocol.specs.Client.{Share, Event, duty, decided, share, block, resend, garbled, Answer, does, Limits, State, turned, listens, from_him, heard, signers, stepped, doing, answer, state}
use Rattle.protocol.specs.World.{Keeper, Group, limits, how_many, World, memory, sends, happens_at, signed_by, whole, Lived, new, on_duty, on_decided, on_share, on_block, on_resend, on_garbled, decides, bad_sends, good, In}
use Rattle.protocol.specs.Promise.{readable, all_readable, GoodGroup, Right, world_readable, hands_in, Among, HandedIsWhole}
use Rattle.protocol.specs.Runs.{signed_with, HandedAtQuorum, AlwaysHandedIsWhole}
use Rattle.safety.proofs.Picks.{pick_both, pick_true}
use Rattle.safety.proofs.Same.{same_to}
use Rattle.safety.proofs.Counts.{how_many_none, how_many_le, at_most_one_more, one_more}
use Rattle.safety.proofs.Held.{Each, Apart, OfShare, OfShares, share_taken, held_with, held}

-- a share of the same data for the same seat
abbrev matches : Share → Share → Bool
matches z x = same z.what x.what && eqb z.seat x.seat

matches_slot : (z x : Share) → matches z x ≡ true → z.what.slot ≡ x.what.slot
matches_slot z x m = ap (λ (d : Data). d.slot) (same_to z.what x.what (and_parts (same z.what x.what) (eqb z.seat x.seat) m).0)

-- who signed it has a share there for its slot
signed_from : (w : ℕ) (x : Share) (zs : List Share) → signed_with w x zs ≡ true → from_him w x.what.slot zs ≡ true
unfolding signed_with from_him
signed_from w x [] h = h
signed_from w x (z ∷ zs) h =
    ⊎_elim
    (λ a. let p = and_parts (eqb z.who w) (matches z x) a in
    or_left (eqb z.who w && eqb z.what.slot x.what.slot) (from_him w x.what.slot zs)
    (and_from (eqb z.who w) (eqb z.what.slot x.what.slot) p.0 (eq-eqb z.what.slot x.what.slot (matches_slot z x p.1))))
    (λ b. or_right (eqb z.who w && eqb z.what.slot x.what.slot) (from_him w x.what.slot zs) (signed_from w x zs b))
    (or_cases (eqb z.who w && matches z x) (signed_with w x zs) h)

not_signed : (w k : ℕ) (x : Share) (zs : List Share) → k ≡ x.what.slot → from_him w k zs ≡ false → signed_with w x zs ≡ false
not_signed w k x zs e h =
    ⊎_elim (λ t. absurd (both_ways (from_him w x.what.slot zs) (subst (λ (n : ℕ). from_him w n zs ≡ false) e h) (signed_from w x zs t))) (λ f. f)
    (cases_Bool (signed_with w x zs))

-- shares of some data are no more than the clients that signed it, where no client has two
signers_most : (n : ℕ) (x : Share) (zs : List Share) → Each (λ z. z.who < n) zs → Apart zs → signers x zs ≤ how_many n (λ i. signed_with i x zs)
unfolding signers signed_with
signers_most n x [] c a = omega arith
signers_most n x (z ∷ zs) c a =
    let rest = signers_most n x zs c.1 a.1 in
    let m = matches z x in
    let r = λ (i : ℕ). signed_with i x zs in
    let all = λ (i : ℕ). (eqb z.who i && m) || r i in
    pick_both m (suc (signers x zs)) (signers x zs) (λ k. k ≤ how_many n all)
    (λ t. let new = one_more n z.who r c.0 (not_signed z.who z.what.slot x zs (matches_slot z x t) a.0) in
    let wider = how_many_le n (λ i. eqb z.who i || r i) all (λ i _ e. ⊎_elim
    (λ w. or_left (eqb z.who i && m) (r i) (and_from (eqb z.who i) m w t)) (λ b. or_right (eqb z.who i && m) (r i) b) (or_cases (eqb z.who i) (r i) e)) in
    omega arith)
    (λ _. let wider = how_many_le n r all (λ i _ e. or_right (eqb z.who i && m) (r i) e) in omega arith)

-- and no fewer
signers_least : (n : ℕ) (x : Share) (zs : List Share) → how_many n (λ i. signed_with i x zs) ≤ signers x zs
unfolding signers signed_with
signers_least n x [] = omega (arith, how_many_none n)
signers_least n x (z ∷ zs) =
    let rest = signers_least n x zs in
    let m = matches z x in
    let r = λ (i : ℕ). signed_with i x zs in
    let all = λ (i : ℕ). (eqb z.who i && m) || r i in
    pick_both m (suc (signers x zs)) (signers x zs) (λ k. how_many n all ≤ k)
    (λ t. let one = at_most_one_more n z.who r in
    let wider = how_many_le n all (λ i. eqb z.who i || r i) (λ i _ e. ⊎_elim
    (λ w. or_left (eqb z.who i) (r i) (and_parts (eqb z.who i) m w).0) (λ b. or_right (eqb z.who i) (r i) b) (or_cases (eqb z.who i && m) (r i) e)) in
    omega arith)
    (λ f. let fewer = how_many_le n all r (λ i _ e. ⊎_elim
    (λ w. absurd (both_ways m f (and_parts (eqb z.who i) m w).1)) (λ b. b) (or_cases (eqb z.who i && m) (r i) e)) in
    omega arith)

-- shares for a slot that is listened for are kept
signed_heard : (s : State) (i : ℕ) (x : Share) (zs : List Share) → listens s x.what.slot ≡ true → signed_with i x zs ≡ true → signed_with i x (heard s zs) ≡ true
unfolding signed_with heard
signed_heard s i x [] l h = h
signed_heard s i x (z ∷ zs) l h =
    pick_both (listens s z.what.slot) (z ∷ heard s zs) (heard s zs) (λ ys. signed_with i x ys ≡ true)
    (λ _. ⊎_elim (λ a. or_left (eqb z.who i && matches z x) (signed_with i x (heard s zs)) a)
    (λ b. or_right (eqb z.who i && matches z x) (signed_with i x (heard s zs)) (signed_heard s i x zs l b)) parts)
    (λ f. ⊎_elim (λ a. absurd (both_ways (listens s z.what.slot) f (same_slot (and_parts (eqb z.who i) (matches z x) a).1))) (λ b. signed_heard s i x zs l b) parts)
  where
    parts : ((eqb z.who i && matches z x) ≡ true) ⊎ (signed_with i x zs ≡ true)
    parts = or_cases (eqb z.who i && matches z x) (signed_with i x zs) h

    same_slot : matches z x ≡ true → listens s z.what.slot ≡ true
    same_slot m = subst (λ (k : ℕ). listens s k ≡ true) (sym (matches_slot z x m)) l

-- what a share that is taken hands in
taken_answer : (l : Limits) (s : State) (x : Share) → turned l s (share x) ≡ 0 →
    answer l s (share x) ≡ does [] (pick (leb (quorum l.clients) (signers x (x ∷ heard s s.got))) (x.what ∷ []) []) [] []
unfolding doing stepped
taken_answer l s x t = pick_both (eqb (turned l s (share x)) 0) _ _ (λ a. a ≡ does [] (pick (leb (quorum l.clients) (signers x (x ∷ heard s s.got))) (x.what ∷ []) []) [] [])
    (λ _. refl) (λ f. absurd (both_ways (eqb (turned l s (share x)) 0) f (eq-eqb (turned l s (share x)) 0 t)))

pub handed_at_quorum : HandedAtQuorum
unfolding signed_with
handed_at_quorum l s x t q =
    let n : ℕ = l.clients in
    let here = λ (i : ℕ). eqb x.who i && matches x x in
    let kept = how_many_le n (λ i. here i || signed_with i x s.got) (λ i. here i || signed_with i x (heard s s.got)) (λ i _ e.
    ⊎_elim (λ a. or_left (here i) (signed_with i x (heard s s.got)) a)
    (λ b. or_right (here i) (signed_with i x (heard s s.got)) (signed_heard s i x s.got (share_taken l s x t).1 b))
    (or_cases (here i) (signed_with i x s.got) e)) in
    let counted = signers_least n x (x ∷ heard s s.got) in
    let enough : quorum n ≤ signers x (x ∷ heard s s.got) = omega arith in
    taken_answer l s x t
    ∙ ap (λ ds. does [] ds [] []) (pick_true (leb (quorum n) (signers x (x ∷ heard s s.got))) (x.what ∷ []) [] (le-leb (quorum n) (signers x (x ∷ heard s s.got)) enough))

-- a share that was sent is signed by its signer
pub in_signed : (i : ℕ) (d : Data) (z : Share) (ss : List Share) → In z ss → eqb z.who i ≡ true → same z.what d ≡ true → signed_by i d ss ≡ true
unfolding In signed_by
in_signed i d z [] m w e = elim m [ ]
in_signed i d z (y ∷ ys) (inl p) w e =
    or_left (eqb y.who i && same y.what d) (signed_by i d ys)
    (subst (λ (v : Share). (eqb v.who i && same v.what d) ≡ true) p (and_from (eqb z.who i) (same z.what d) w e))
in_signed i d z (y ∷ ys) (inr m) w e = or_right (eqb y.who i && same y.what d) (signed_by i d ys) (in_signed i d z ys m w e)

signed_sent : (i : ℕ) (x : Share) (sent zs : List Share) → Each (λ z. In z sent) zs → signed_with i x zs ≡ true → signed_by i x.what sent ≡ true
unfolding signed_with
signed_sent i x sent [] m h = absurd (both_ways false refl h)
signed_sent i x sent (z ∷ zs) m h =
    ⊎_elim
    (λ a. let p = and_parts (eqb z.who i) (matches z x) a in in_signed i x.what z sent m.0 p.0 (and_parts (same z.what x.what) (eqb z.seat x.seat) p.1).0)
    (λ b. signed_sent i x sent zs m.1 b)
    (or_cases (eqb z.who i && matches z x) (signed_with i x zs) h)

-- what a client hands in at a share has a quorum, where all shares that came to it were sent
handed_signed : (l : Limits) (sent : List Share) (es : List Event) (x : Share) (d : Data) → OfShares (λ s. In s sent) es → In x sent →
    Among d (hands_in (answer l (state l es) (share x))) → quorum l.clients ≤ how_many l.clients (λ i. signed_by i d sent)
unfolding hands_in Among doing stepped
handed_signed l sent es x d came mine among =
    pick_both (eqb (turned l s (share x)) 0) _ _ (λ a. Among d (hands_in a) → Enough d) (λ t. taken (eqb-true (turned l s (share x)) 0 t)) (λ _ m. absurd m) among
  where
    s : State
    s = state l es

    n : ℕ
    n = l.clients

    zs : List Share
    zs = x ∷ heard s s.got

    Enough : Data → Type 0
    Enough b = quorum n ≤ how_many n (λ i. signed_by i b sent)

    quorate : turned l s (share x) ≡ 0 → quorum n ≤ signers x zs → Enough x.what
    quorate t q =
        let h = held_with l (λ z. In z sent) s x t mine (held l (λ z. In z sent) es came) in
        let most = signers_most n x zs h.clients h.apart in
        let sent_too = how_many_le n (λ i. signed_with i x zs) (λ i. signed_by i x.what sent) (λ i _ e. signed_sent i x sent zs h.came e) in
        omega arith

    taken : turned l s (share x) ≡ 0 → Among d (pick (leb (quorum n) (signers x zs)) (x.what ∷ []) []) → Enough d
    taken t =
        pick_both (leb (quorum n) (signers x zs)) (x.what ∷ []) [] (λ ds. Among d ds → Enough d)
        (λ q. ⊎_elim (λ e. subst Enough (sym e) (quorate t (leb-true (quorum n) (signers x zs) q))) (λ m. absurd m)) (λ _ m. absurd m)

-- only a share makes a client hand something in
others_hand_nothing : (l : Limits) (s : State) (e : Event) (d : Data) → Among d (hands_in (answer l s e)) → (x : Share) × (e ≡ share x)
unfolding hands_in Among doing
others_hand_nothing l s e d m = pick_both (eqb (turned l s e) 0) (doing l s e) _ (λ a. Among d (hands_in a) → (x : Share) × (e ≡ share x)) (λ _. by_kind e) (λ _ z. absurd z) m
  where
    by_kind : (v : Event) → Among d (hands_in (doing l s v)) → (x : Share) × (v ≡ share x)
    by_kind (duty y) z = absurd z
    by_kind (decided k b) z = absurd z
    by_kind (share x) z = (x, refl)
    by_kind (block ds) z = absurd z
    by_kind resend z = absurd z
    by_kind (garbled n) z = absurd z

-- what holds of the shares among events, weakened
of_share_more : (P Q : Share → Type 0) → ((s : Share) → P s → Q s) → (e : Event) → OfShare P e → OfShare Q e
of_share_more P Q f (duty y) h = tt
of_share_more P Q f (decided k d) h = tt
of_share_more P Q f (share x) h = f x h
of_share_more P Q f (block ds) h = tt
of_share_more P Q f resend h = tt
of_share_more P Q f (garbled n) h = tt

of_shares_more : (P Q : Share → Type 0) → ((s : Share) → P s → Q s) → (es : List Event) → OfShares P es → OfShares Q es
of_shares_more P Q f [] h = tt
of_shares_more P Q f (e ∷ es) h = (of_share_more P Q f e h.0, of_shares_more P Q f es h.1)

pub in_more : (s : Share) (xs ys : List Share) → In s xs → In s (xs ++ ys)
unfolding In
in_more s [] ys m = elim m [ ]
in_more s (x ∷ xs) ys (inl e) = inl e
in_more s (x ∷ xs) ys (inr m) = inr (in_more s xs ys m)

-- all shares that came to a client were sent
abbrev CameWereSent : World → Type 0
CameWereSent w = (j : ℕ) → OfShares (λ s. In s w.sent) (w.seen j)

came_happens : (f : Keeper) (g : Group) (w : World) (i : ℕ) (e : Event) → CameWereSent w → OfShare (λ s. In s w.sent) e → CameWereSent (happens_at f g w i e)
came_happens f g w i e before h j =
    let more : List Share = sends (f.says (memory f (limits g i) (w.seen i)) e) in
    let still = λ (s : Share) (m : In s w.sent). in_more s w.sent more m in
    pick_both (eqb j i) (e ∷ w.seen i) (w.seen j) (OfShares (λ s. In s (w.sent ++ more)))
    (λ _. (of_share_more _ _ still e h, of_shares_more _ _ still (w.seen i) (before i))) (λ _. of_shares_more _ _ still (w.seen j) (before j))

came_were_sent : (f : Keeper) (g : Group) (w : World) → Lived f g w → CameWereSent w
came_were_sent f g w new = λ j. tt
came_were_sent f g w (on_duty {w = v} i y lived ok) = came_happens f g v i (duty y) (came_were_sent f g v lived) tt
came_were_sent f g w (on_decided {w = v} i k d lived ok is) = came_happens f g v i (decided k d) (came_were_sent f g v lived) tt
came_were_sent f g w (on_share {w = v} i s lived ok m) = came_happens f g v i (share s) (came_were_sent f g v lived) m
came_were_sent f g w (on_block {w = v} i ds lived ok is) = came_happens f g v i (block ds) (came_were_sent f g v lived) tt
came_were_sent f g w (on_resend {w = v} i lived ok) = came_happens f g v i resend (came_were_sent f g v lived) tt
came_were_sent f g w (on_garbled {w = v} i n lived ok) = came_happens f g v i (garbled n) (came_were_sent f g v lived) tt
came_were_sent f g w (decides {w = v} k d lived none may) = came_were_sent f g v lived
came_were_sent f g w (bad_sends {w = v} s lived is) =
    λ j. of_shares_more _ _ (λ x m. in_more x v.sent (s ∷ []) m) (v.seen j) (came_were_sent f g v lived j)

-- a good client says what the definitions do
pub says_right : (can : ℕ → Bool) (f : Keeper) (g : Group) (w : World) (i : ℕ) (e : Event) → Right can f → GoodGroup can g → world_readable g w → good g i → readable e ≡ true →
    f.says (memory f (limits g i) (w.seen i)) e ≡ answer (limits g i) (state (limits g i) (w.seen i)) e
unfolding Right world_readable all_readable
says_right can f g w i e right group read ok r =
    (right (limits g i) (w.seen i) e
    (group.0, group.1, ok.0, group.4, group.5, group.6, group.7, group.8)
    (and_from (readable e) (all_readable (w.seen i)) r (read.0 i))).0

-- what a good client answers at a share that was sent
answer_whole : (f : Keeper) (g : Group) (w : World) (i : ℕ) (s : Share) (d : Data) → Lived f g w → In s w.sent →
    Among d (hands_in (answer (limits g i) (state (limits g i) (w.seen i)) (share s))) → whole g w d ≡ true
answer_whole f g w i s d lived sent among =
    le-leb (quorum g.clients) (how_many g.clients (λ j. signed_by j d w.sent))
    (handed_signed (limits g i) w.sent (w.seen i) s d (came_were_sent f g w lived i) sent among)

pub handed_is_whole : HandedIsWhole
unfolding HandedIsWhole
handed_is_whole can f g w i s d right group lived read ok sent r among =
    answer_whole f g w i s d lived sent (subst (λ (a : Answer). Among d (hands_in a)) (says_right can f g w i (share s) right group read ok r) among)

pub always_handed_is_whole : AlwaysHandedIsWhole
always_handed_is_whole can f g w i e d right group lived read ok sent r among =
    let l : Limits = limits g i in
    let st : State = state l (w.seen i) in
    let here = subst (λ (a : Answer). Among d (hands_in a)) (says_right can f g w i e right group read ok r) among in
    let x = others_hand_nothing l st e d here in
    answer_whole f g w i x.0 d lived (sent x.0 x.1) (subst (λ (v : Event). Among d (hands_in (answer l st v))) x.1 here)

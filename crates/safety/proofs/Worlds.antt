-- The invariant of the world: of each good client what is known of it, that no two verdicts clash, and that a quorum let each of them. Everything that can happen keeps it.
-- The heart of the argument is `fresh`: when the deciding comes to something new, a good client let it and each older verdict; the lower slot of the two it had begun
-- before the higher one, and so the lower had a verdict by then, with which the higher does not clash.
-- Assumes nothing.
use Rattle.std.proofs.Common.{◌≡◌, ℕ, ◌+◌, ◌<◌, ◌≤◌, Bool, true, false, not, ◌&&◌, eqb, ◌⊎◌, List, [], ◌∷◌, ◌++◌, sym, refl, ap, ◌∙◌, subst, inl, inr, ⊎_elim, arith}
use Rattle.std.proofs.lemmas.Bool.{false≢true, both_ways, ltb-true, lt-ltb, leb-true, le-leb, eqb-true, eqb-false, and_parts, and_from, or_cases, or_right, cases_order}
use Rattle.protocol.specs.Data.{pick, Data, same, past_of, clash, quorum}
use Rattle.protocol.specs.Client.{Share, Event, duty, decided, share, block, resend, garbled}
use Rattle.protocol.specs.World.{Keeper, Group, limits, how_many, World, memory, sends, happens_at, let_ever, may_decide, signed_by, whole, all_whole, good, Lived, new, on_duty, on_decided, on_share, on_block, on_resend, on_garbled, decides, bad_sends}
use Rattle.protocol.specs.Promise.{carried, all_carried, readable, all_readable, GoodLimits, GoodGroup, Right, world_readable}
use Rattle.protocol.specs.Refusals.{Member}
use Rattle.safety.proofs.Picks.{pick_both}
use Rattle.safety.proofs.Same.{same_to}
use Rattle.safety.proofs.Counts.{how_many_le}
use Rattle.safety.proofs.Record.{Slot, Verdict, VerdictsApart, Told, Grows, only, no_verdict}
use Rattle.safety.proofs.Steps.{Fits}
use Rattle.safety.proofs.Lets.{Clear}
use Rattle.safety.proofs.Clients.{Client, client_new, client_step, client_hears, client_grows, client_slot}
use Rattle.safety.proofs.Meeting.{meets, has_good}

-- the invariant: what is known of each good client, of the verdicts, and of who let them
pub record Inv (f : Keeper) (g : Group) (w : World) : Type 0 where
  pub clients : (i : ℕ) → good g i → Client f (limits g i) (w.seen i) w.verdict w.sent
  pub apart : VerdictsApart w.verdict
  pub may : (k : ℕ) (d : Data) → Slot k → Verdict w.verdict k d → may_decide f g w k d ≡ true

-- a verdict is one that bytes can carry
verdict_carried : (g : Group) (w : World) → world_readable g w → (k : ℕ) (d : Data) → Slot k → Verdict w.verdict k d → carried d ≡ true
unfolding world_readable all_carried
verdict_carried g w r k d s e = (and_parts (carried d) true (subst (λ ds. all_carried ds ≡ true) e (r.1 k (lt-ltb k 18446744073709551616 s)))).0

-- who signed, by what was sent
signed_by_is : (i : ℕ) (d : Data) (ss : List Share) → signed_by i d ss ≡ true → (s : Share) × Member s ss × (s.who ≡ i) × (s.what ≡ d)
unfolding signed_by
signed_by_is i d [] e = absurd (false≢true e)
signed_by_is i d (s ∷ ss) e =
    ⊎_elim (λ h. let r = and_parts (eqb s.who i) (same s.what d) h in (s, inl refl, eqb-true s.who i r.0, same_to s.what d r.1))
    (λ h. let r = signed_by_is i d ss h in (r.0, inr r.1, r.2, r.3)) (or_cases (eqb s.who i && same s.what d) (signed_by i d ss) e)

all_whole_is : (g : Group) (w : World) (ds : List Data) → all_whole g w ds ≡ true → (d : Data) → Member d ds → whole g w d ≡ true
unfolding all_whole
all_whole_is g w [] e d m = absurd m
all_whole_is g w (x ∷ xs) e d (inl i) = rw i (and_parts (whole g w x) (all_whole g w xs) e).0
all_whole_is g w (x ∷ xs) e d (inr m) = all_whole_is g w xs (and_parts (whole g w x) (all_whole g w xs) e).1 d m

-- what a client let stays let
let_more : (f : Keeper) (g : Group) (w : World) (i : ℕ) (e : Event) (k : ℕ) (d : Data) (j : ℕ) → let_ever f (limits g j) (w.seen j) k d ≡ true →
    let_ever f (limits g j) ((happens_at f g w i e).seen j) k d ≡ true
unfolding let_ever
let_more f g w i e k d j h =
    let l = limits g j in
    pick_both (eqb j i) (e ∷ w.seen i) (w.seen j) (λ es. let_ever f l es k d ≡ true)
    (λ q. or_right (f.lets (memory f l (e ∷ w.seen i)) k d) (let_ever f l (w.seen i) k d) (subst (λ x. let_ever f l (w.seen x) k d ≡ true) (eqb-true j i q) h))
    (λ q. h)

may_more : (f : Keeper) (g : Group) (w u : World) (k : ℕ) (d : Data) →
    ((j : ℕ) → let_ever f (limits g j) (w.seen j) k d ≡ true → let_ever f (limits g j) (u.seen j) k d ≡ true) → may_decide f g w k d ≡ true → may_decide f g u k d ≡ true
may_more f g w u k d more e =
    let n = g.clients in
    let p : ℕ → Bool = λ i. not (g.bad i) && let_ever f (limits g i) (w.seen i) k d in
    let q : ℕ → Bool = λ i. not (g.bad i) && let_ever f (limits g i) (u.seen i) k d in
    let a : quorum n ≤ how_many n p + how_many n g.bad = leb-true (quorum n) (how_many n p + how_many n g.bad) e in
    let b : how_many n p ≤ how_many n q =
    how_many_le n p q
    (λ i less h. let r = and_parts (not (g.bad i)) (let_ever f (limits g i) (w.seen i) k d) h in
    and_from (not (g.bad i)) (let_ever f (limits g i) (u.seen i) k d) r.0 (more i r.1)) in
    le-leb (quorum n) (how_many n q + how_many n g.bad) (omega arith)

-- a world that bytes could carry was one before, too
readable_happens : (f : Keeper) (g : Group) (w : World) (i : ℕ) (e : Event) → world_readable g (happens_at f g w i e) →
    (all_readable (e ∷ w.seen i) ≡ true) × world_readable g w
unfolding world_readable all_readable
readable_happens f g w i e r =
    let here : all_readable (e ∷ w.seen i) ≡ true =
    pick_both (eqb i i) (e ∷ w.seen i) (w.seen i) (λ es. all_readable es ≡ true → all_readable (e ∷ w.seen i) ≡ true) (λ q h. h)
    (λ q h. absurd (eqb-false i i q refl)) (r.0 i) in (
      here,
      (
        λ j. pick_both (eqb j i) (e ∷ w.seen i) (w.seen j) (λ es. all_readable es ≡ true → all_readable (w.seen j) ≡ true)
            (λ q h. rw (eqb-true j i q) (and_parts (readable e) (all_readable (w.seen i)) h).1) (λ q h. h) (r.0 j),
        r.1,
      ),
    )

-- the verdicts and one for slot k
abbrev with_verdict : ℕ → Data → (ℕ → List Data) → ℕ → List Data
with_verdict k d v j = pick (eqb j k) (d ∷ []) (v j)

readable_decides : (g : Group) (w : World) (k : ℕ) (d : Data) → w.verdict k ≡ [] →
    world_readable g (record { seen = w.seen; sent = w.sent; verdict = with_verdict k d w.verdict }) → world_readable g w
unfolding world_readable all_carried
readable_decides g w k d e r = (
  r.0,
  λ j s. pick_both (eqb j k) (d ∷ []) (w.verdict j) (λ ds. all_carried ds ≡ true → all_carried (w.verdict j) ≡ true)
      (λ q h. rw (eqb-true j k q, e) refl) (λ q h. h) (r.1 j s),
)

readable_bad : (g : Group) (w : World) (s : Share) → world_readable g (record { seen = w.seen; sent = w.sent ++ (s ∷ []); verdict = w.verdict }) → world_readable g w
unfolding world_readable
readable_bad g w s r = r

-- a new verdict is beside the old ones
now_verdict : (k : ℕ) (d : Data) (v : ℕ → List Data) → Verdict (with_verdict k d v) k d
now_verdict k d v = pick_both (eqb k k) (d ∷ []) (v k) (λ ds. ds ≡ d ∷ []) (λ q. refl) (λ q. absurd (eqb-false k k q refl))

verdict_grows : (v : ℕ → List Data) (k : ℕ) (d : Data) → v k ≡ [] → Grows v (with_verdict k d v)
verdict_grows v k d e j a h =
    pick_both (eqb j k) (d ∷ []) (v j) (λ ds. ds ≡ a ∷ []) (λ q. let same_slot : j ≡ k = eqb-true j k q in cc) (λ q. h)

verdict_cases : (v : ℕ → List Data) (k : ℕ) (d : Data) (j : ℕ) (a : Data) → Verdict (with_verdict k d v) j a → ((j ≡ k) × (a ≡ d)) ⊎ Verdict v j a
verdict_cases v k d j a =
    pick_both (eqb j k) (d ∷ []) (v j) (λ ds. ds ≡ a ∷ [] → ((j ≡ k) × (a ≡ d)) ⊎ Verdict v j a) (λ q h. inl (eqb-true j k q, cc)) (λ q h. inr h)

module _ (can : ℕ → Bool) (f : Keeper) (right : Right can f) (g : Group) (group : GoodGroup can g) where
  good_limits : (i : ℕ) → good g i → GoodLimits can (limits g i)
  good_limits i h = (group.0, group.1, h.0, group.4, group.5, group.6, group.7, group.8)

  -- what was decided for a slot is for that slot, its source before its target: a good client let it
  pub for_its_slot_here : (w : World) → world_readable g w → Inv f g w → (k : ℕ) (d : Data) → Slot k → Verdict w.verdict k d → (d.slot ≡ k) × (d.source < d.target)
  for_its_slot_here w r inv k d s e =
      let m = inv.may k d s e in
      let q : ℕ → Bool = λ i. let_ever f (limits g i) (w.seen i) k d in
      let i = meets can g group q q m m in
      let c = (inv.clients i.0 i.1).lets k d s (verdict_carried g w r k d s e) i.2 in
      (c.1, c.2)

  -- whole is only what was decided: a good client signed it
  pub whole_is_decided_here : (w : World) → Inv f g w → (d : Data) → whole g w d ≡ true → Told w.verdict d
  whole_is_decided_here w inv d e =
      let i = has_good can g group (λ j. signed_by j d w.sent) e in
      let s = signed_by_is i.0 d w.sent i.2 in
      let c = inv.clients i.0 i.1 in
      let m = c.shares.mine s.0 s.1 s.2 in
      subst (Told w.verdict) s.3 (client_slot c s.0.what.slot m.1, m.0)

  -- a new verdict does not clash with any older one of another slot
  fresh : (w : World) (k : ℕ) (d : Data) → world_readable g w → Inv f g w → w.verdict k ≡ [] → may_decide f g w k d ≡ true → carried d ≡ true → Slot k →
      (j : ℕ) (a : Data) → Slot j → (j ≡ k → ⊥) → Verdict w.verdict j a → (clash (past_of a) (past_of d) ≡ false) × (clash (past_of d) (past_of a) ≡ false)
  fresh w k d r inv none let_it u s j a t other e =
      let v = w.verdict in
      let i = meets can g group (λ x. let_ever f (limits g x) (w.seen x) j a) (λ x. let_ever f (limits g x) (w.seen x) k d) (inv.may j a t e) let_it in
      let c = inv.clients i.0 i.1 in
      let old : Clear v c.begun j a = c.lets j a t (verdict_carried g w r j a t e) i.2 in
      let now : Clear v c.begun k d = c.lets k d s u i.3 in
      ⊎_elim (λ q. absurd (other q))
      (⊎_elim (λ below. let h = now.3 j old.0 below in let q = only v j j h.0 a refl h.1 e in (rw q at h.2, rw q at h.3))
      (λ above. let h = old.3 k now.0 above in absurd (no_verdict v k h.0 none h.1)))
      (cases_order j k)

  -- an event comes to a good client, and what it sends then is sent
  happens : (w : World) (i : ℕ) (e : Event) → good g i → all_readable (e ∷ w.seen i) ≡ true → Fits w.verdict e → Inv f g w → Inv f g (happens_at f g w i e)
  happens w i e h r fits inv =
      let v = w.verdict in
      let sent = w.sent in
      let new = sends (f.says (memory f (limits g i) (w.seen i)) e) in
      let c = client_step can f right (limits g i) (good_limits i h) v inv.apart (w.seen i) e sent r fits (inv.clients i h) in
      record {
        clients = λ j m.
            pick_both (eqb j i) (e ∷ w.seen i) (w.seen j) (λ es. Client f (limits g j) es v (sent ++ new))
            (λ q. subst (λ x. Client f (limits g x) (e ∷ w.seen i) v (sent ++ new)) (sym (eqb-true j i q)) c.0)
            (λ q. client_hears new (λ x k name. ⊎_elim (λ old. old) (λ his. absurd (eqb-false j i q (sym name ∙ his))) (c.1 x k)) (inv.clients j m));
        apart = inv.apart;
        may = λ k d s verdict. may_more f g w (happens_at f g w i e) k d (let_more f g w i e k d) (inv.may k d s verdict);
      }

  -- the deciding comes to something
  comes_to : (w : World) (k : ℕ) (d : Data) → world_readable g w → (Slot k → carried d ≡ true) → w.verdict k ≡ [] → may_decide f g w k d ≡ true → Inv f g w →
      Inv f g (record { seen = w.seen; sent = w.sent; verdict = with_verdict k d w.verdict })
  comes_to w k d r u none let_it inv =
      let v = w.verdict in
      let clear : Slot k → (j : ℕ) (a : Data) → Slot j → (j ≡ k → ⊥) → Verdict v j a → (clash (past_of a) (past_of d) ≡ false) × (clash (past_of d) (past_of a) ≡ false) =
      λ s. fresh w k d r inv none let_it (u s) s in
      record {
        clients = λ i h. client_grows (verdict_grows v k d none) (inv.clients i h);
        apart = λ j m a b s t other p q.
            ⊎_elim
            (λ here. ⊎_elim (λ there. absurd (other (here.0 ∙ sym there.0)))
            (λ old. rw here.1 (clear (rw here.0 at s) m b t (λ e. other (here.0 ∙ sym e)) old).1) (verdict_cases v k d m b q))
            (λ old. ⊎_elim (λ there. rw there.1 (clear (rw there.0 at t) j a s (λ e. other (e ∙ sym there.0)) old).0)
            (λ both. inv.apart j m a b s t other old both) (verdict_cases v k d m b q))
            (verdict_cases v k d j a p);
        may = λ j a s p. ⊎_elim (λ here. rw (here.0, here.1) let_it) (λ old. inv.may j a s old) (verdict_cases v k d j a p);
      }

  -- a bad client sends something in its own name
  bad_says : (w : World) (s : Share) → g.bad s.who ≡ true → Inv f g w → Inv f g (record { seen = w.seen; sent = w.sent ++ (s ∷ []); verdict = w.verdict })
  bad_says w s b inv =
      record {
        clients = λ i h. client_hears (s ∷ [])
            (λ x m name. ⊎_elim (λ e. absurd (both_ways (g.bad i) h.1 (subst (λ y. g.bad y ≡ true) (sym (ap (λ (z : Share). z.who) e) ∙ name) b))) (λ n. absurd n) m)
            (inv.clients i h);
        apart = inv.apart;
        may = inv.may;
      }

  -- what is told to a client can happen
  decided_fits : (w : World) (i k : ℕ) (d : Data) → world_readable g w → all_readable (decided k d ∷ w.seen i) ≡ true → Inv f g w → Verdict w.verdict k d →
      Fits w.verdict (decided k d)
  unfolding all_readable readable
  decided_fits w i k d r h inv e =
      let s : Slot k = ltb-true k 18446744073709551616 (and_parts _ _ (and_parts _ _ h).0).0 in
      (e, (for_its_slot_here w r inv k d s e).0)

  -- everything that can happen keeps the invariant
  pub holds : {w : World} → Lived f g w → world_readable g w → Inv f g w
  holds new r =
      let none : VerdictsApart (λ k. []) = λ j k a b s t other p q. absurd (no_verdict (λ x. []) j a refl p) in
      record {
        clients = λ i h. client_new can f right (limits g i) (good_limits i h) (λ k. []) none;
        apart = none;
        may = λ k d s e. absurd (no_verdict (λ x. []) k d refl e);
      }
  holds (on_duty {w = w} i y l h) r = let b = readable_happens f g w i (duty y) r in happens w i (duty y) h b.0 tt (holds l b.1)
  holds (on_decided {w = w} i k d l h e) r =
      let b = readable_happens f g w i (decided k d) r in
      let inv = holds l b.1 in
      happens w i (decided k d) h b.0 (decided_fits w i k d b.1 b.0 inv e) inv
  holds (on_share {w = w} i s l h m) r = let b = readable_happens f g w i (share s) r in happens w i (share s) h b.0 tt (holds l b.1)
  holds (on_block {w = w} i ds l h e) r =
      let b = readable_happens f g w i (block ds) r in
      let inv = holds l b.1 in
      happens w i (block ds) h b.0 (λ d m. whole_is_decided_here w inv d (all_whole_is g w ds e d m)) inv
  holds (on_resend {w = w} i l h) r = let b = readable_happens f g w i resend r in happens w i resend h b.0 tt (holds l b.1)
  holds (on_garbled {w = w} i n l h) r = let b = readable_happens f g w i (garbled n) r in happens w i (garbled n) h b.0 tt (holds l b.1)
  holds (decides {w = w} k d l none may) r =
      let b = readable_decides g w k d none r in
      comes_to w k d b (λ s. verdict_carried g _ r k d s (now_verdict k d w.verdict)) none may (holds l b)
  holds (bad_sends {w = w} s l b) r = bad_says w s b (holds l (readable_bad g w s r))

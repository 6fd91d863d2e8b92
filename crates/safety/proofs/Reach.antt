-- Something becomes whole in every group: all good clients, one after the other, are given a duty; the deciding comes to what they all let; they all hear of
-- that and sign; and so once more for the next slot. The bad ones do nothing: the good ones are a quorum. Assumes nothing.
use Rattle.std.proofs.Common.{◌≡◌, ℕ, zero, suc, ◌+◌, ◌<◌, ◌≤◌, Bool, true, false, not, ◌&&◌, eqb, List, [], ◌∷◌, ◌++◌, sym, refl, ap, ◌∙◌, subst, inl, inr, ⊎_elim, arith}
use Rattle.std.proofs.lemmas.Bool.{le-leb, lt-ltb, eqb-true, eqb-false, eq-eqb, and_from, or_left, not_from_false, both_ways, cases_Bool, cases_lt}
use Rattle.protocol.specs.Data.{pick, Data, unsafe, quorum}
use Rattle.protocol.specs.Client.{Share, Event, duty, decided, resend, Answer, Limits, State, answer, after, state, lets_now}
use Rattle.protocol.specs.World.{Keeper, Group, limits, how_many, World, new_world, memory, sends, happens_at, let_ever, may_decide, signed_by, whole, Lived, new, on_duty, on_decided, decides, good, In}
use Rattle.protocol.specs.Promise.{eight, carried, all_carried, readable, all_readable, GoodLimits, GoodGroup, Right, world_readable}
use Rattle.protocol.specs.Runs.{Reaches}
use Rattle.safety.proofs.Counts.{all_but}
use Rattle.safety.proofs.Handing.{says_right, in_signed, in_more}
use Rattle.safety.proofs.Picks.{pick_both, pick_true}
use Rattle.safety.proofs.Same.{same_refl}
use Rattle.safety.proofs.Slots.{duty_for, vote_for, share_for, Left, nothing, idle, busy, then_left, is_given, is_let, is_sent, is_done, safe_second}

in_last : (s : Share) (xs ys : List Share) → In s ys → In s (xs ++ ys)
unfolding In
in_last s [] ys m = m
in_last s (x ∷ xs) ys m = inr (in_last s xs ys m)

module _ (can : ℕ → Bool) (f : Keeper) (g : Group) (right : Right can f) (group : GoodGroup can g) where
  l_good : (i : ℕ) → good g i → GoodLimits can (limits g i)
  l_good i ok = (group.0, group.1, ok.0, group.4, group.5, group.6, group.7, group.8)

  -- a world that was lived, in which each good client's state is the one for its limits
  record Stands (w : World) (st : Limits → State) : Type 0 where
    lived : Lived f g w
    read : world_readable g w
    here : (i : ℕ) → good g i → state (limits g i) (w.seen i) ≡ st (limits g i)

  -- a good client lets what the definitions let
  lets : (w : World) (st : Limits → State) → Stands w st → (i : ℕ) → good g i → (k : ℕ) (d : Data) → eight k ≡ true → carried d ≡ true →
      f.lets (memory f (limits g i) (w.seen i)) k d ≡ lets_now (st (limits g i)) k d
  unfolding Right world_readable all_readable readable
  lets w st h i ok k d ek cd =
      subst (λ (t : State). f.lets (memory f (limits g i) (w.seen i)) k d ≡ lets_now t k d) (h.here i ok)
      ((right (limits g i) (w.seen i) resend (l_good i ok) (h.read.0 i)).1 k d ek cd)

  -- an event comes to the good clients below m: world v instead of w
  record Told (w : World) (st : Limits → State) (e : Event) (m : ℕ) (v : World) : Type 0 where
    lived : Lived f g v
    read : world_readable g v
    first : (i : ℕ) → good g i → i < m → state (limits g i) (v.seen i) ≡ after (limits g i) (st (limits g i)) e
    rest : (i : ℕ) → good g i → m ≤ i → state (limits g i) (v.seen i) ≡ st (limits g i)
    verdicts : v.verdict ≡ w.verdict
    still : (x : Share) → In x w.sent → In x v.sent
    sent : (i : ℕ) → good g i → i < m → (x : Share) → In x (sends (answer (limits g i) (st (limits g i)) e)) → In x v.sent

  module _ (w : World) (st : Limits → State) (e : Event) (r : readable e ≡ true)
      (happens : (v : World) (i : ℕ) → Lived f g v → v.verdict ≡ w.verdict → good g i → Lived f g (happens_at f g v i e)) where
    -- client m is bad, and nothing comes to it
    told_bad : (m : ℕ) (v : World) → Told w st e m v → g.bad m ≡ true → Told w st e (suc m) v
    told_bad m v t bad =
        record {
          lived = t.lived;
          read = t.read;
          first = λ i ok less. t.first i ok (below i ok less);
          rest = λ i ok le. t.rest i ok (omega arith);
          verdicts = t.verdicts;
          still = t.still;
          sent = λ i ok less. t.sent i ok (below i ok less);
        }
      where
        below : (i : ℕ) → good g i → i < suc m → i < m
        below i ok less =
            ⊎_elim (λ h. h) (λ le. let same : m ≡ i = omega arith in absurd (both_ways (g.bad i) ok.1 (subst (λ (j : ℕ). g.bad j ≡ true) same bad))) (cases_lt i m)

    -- client m is good, and the event comes to it
    told_good : (m : ℕ) (v : World) → Told w st e m v → good g m → Told w st e (suc m) (happens_at f g v m e)
    unfolding world_readable all_readable state
    told_good m v t ok =
        record {
          lived = happens v m t.lived t.verdicts ok;
          read = (
            λ i. pick_both (eqb i m) (e ∷ v.seen m) (v.seen i) (λ es. all_readable es ≡ true)
                (λ _. and_from (readable e) (all_readable (v.seen m)) r (t.read.0 m)) (λ _. t.read.0 i),
            t.read.1,
          );
          first = λ i good_i less. pick_both (eqb i m) (e ∷ v.seen m) (v.seen i) (λ es. state (limits g i) es ≡ after (limits g i) (st (limits g i)) e)
              (λ same. ap (λ (s : State). after (limits g i) s e) (so_far i good_i (eqb-true i m same)))
              (λ apart. t.first i good_i (let ne : ¬ (i ≡ m) = eqb-false i m apart in omega arith));
          rest = λ i good_i le. pick_both (eqb i m) (e ∷ v.seen m) (v.seen i) (λ es. state (limits g i) es ≡ st (limits g i))
              (λ same. let eq : i ≡ m = eqb-true i m same in absurd (omega arith)) (λ _. t.rest i good_i (omega arith));
          verdicts = t.verdicts;
          still = λ x before. in_more x v.sent _ (t.still x before);
          sent = λ i good_i less x sends_it.
              ⊎_elim (λ lower. in_more x v.sent _ (t.sent i good_i lower x sends_it)) (λ le. in_last x v.sent _ (now_sent x i (omega arith) sends_it)) (cases_lt i m);
        }
      where
        so_far : (i : ℕ) → good g i → i ≡ m → state (limits g i) (v.seen m) ≡ st (limits g i)
        so_far i good_i eq = subst (λ (j : ℕ). state (limits g i) (v.seen j) ≡ st (limits g i)) eq (t.rest i good_i (omega arith))

        says : f.says (memory f (limits g m) (v.seen m)) e ≡ answer (limits g m) (st (limits g m)) e
        says = says_right can f g v m e right group t.read ok r ∙ ap (λ (s : State). answer (limits g m) s e) (so_far m ok refl)

        now_sent : (x : Share) (i : ℕ) → i ≡ m → In x (sends (answer (limits g i) (st (limits g i)) e)) → In x (sends (f.says (memory f (limits g m) (v.seen m)) e))
        now_sent x i same sends_it =
            subst (λ (a : Answer). In x (sends a)) (sym says) (subst (λ (j : ℕ). In x (sends (answer (limits g j) (st (limits g j)) e))) same sends_it)

    -- the event comes to all good clients
    tell : Stands w st → (m : ℕ) → m ≤ g.clients → (v : World) × Told w st e m v
    tell h zero le = (
      w,
      record {
        lived = h.lived;
        read = h.read;
        first = λ i ok less. absurd (omega arith);
        rest = λ i ok from. h.here i ok;
        verdicts = refl;
        still = λ x before. before;
        sent = λ i ok less. absurd (omega arith);
      },
    )
    tell h (suc m) le =
        let t = tell h m (omega arith) in
        ⊎_elim (λ bad. (t.0, told_bad m t.0 t.1 bad)) (λ is_good. (happens_at f g t.0 m e, told_good m t.0 t.1 (omega arith, is_good))) (cases_Bool (g.bad m))

  told_stands : (w v : World) (st next : Limits → State) (e : Event) → Told w st e g.clients v → ((i : ℕ) → good g i → after (limits g i) (st (limits g i)) e ≡ next (limits g i)) →
      Stands v next
  told_stands w v st next e t eqs = record { lived = t.lived; read = t.read; here = λ i ok. t.first i ok ok.0 ∙ eqs i ok }

  let_ever_now : (l : Limits) (es : List Event) (k : ℕ) (d : Data) → f.lets (memory f l es) k d ≡ true → let_ever f l es k d ≡ true
  unfolding let_ever
  let_ever_now l [] k d h = h
  let_ever_now l (e ∷ es) k d h = or_left (f.lets (memory f l (e ∷ es)) k d) (let_ever f l es k d) h

  -- the deciding comes to what all good clients let
  abbrev comes_to : World → ℕ → Data → World
  comes_to w k d = record { seen = w.seen; sent = w.sent; verdict = λ j. pick (eqb j k) (d ∷ []) (w.verdict j) }

  came_to : (w : World) (st : Limits → State) (k : ℕ) (d : Data) → Stands w st → w.verdict k ≡ [] → eight k ≡ true → carried d ≡ true →
      ((i : ℕ) → good g i → lets_now (st (limits g i)) k d ≡ true) → Stands (comes_to w k d) st
  unfolding world_readable all_carried
  came_to w st k d h none ek cd let_it =
      record {
        lived = decides k d h.lived none may;
        read = (h.read.0, λ j e. pick_both (eqb j k) (d ∷ []) (w.verdict j) (λ ds. all_carried ds ≡ true) (λ _. and_from (carried d) true cd refl) (λ _. h.read.1 j e));
        here = h.here;
      }
    where
      let_by : ℕ → Bool
      let_by i = not (g.bad i) && let_ever f (limits g i) (w.seen i) k d

      all_let : (i : ℕ) → i < g.clients → g.bad i ≡ false → let_by i ≡ true
      all_let i less is_good =
          and_from (not (g.bad i)) (let_ever f (limits g i) (w.seen i) k d) (not_from_false (g.bad i) is_good)
          (let_ever_now (limits g i) (w.seen i) k d (lets w st h i (less, is_good) k d ek cd ∙ let_it i (less, is_good)))

      may : may_decide f g w k d ≡ true
      may =
          let most = all_but g.clients let_by g.bad all_let in
          le-leb (quorum g.clients) (how_many g.clients let_by + how_many g.clients g.bad) (omega (arith, group.0))

  -- where all good clients sent a share, it is whole
  whole_if_sent : (w : World) (n : ℕ) → ((i : ℕ) → good g i → In (share_for n (limits g i)) w.sent) → whole g w (vote_for n) ≡ true
  whole_if_sent w n m =
      let signed : ℕ → Bool = λ (i : ℕ). signed_by i (vote_for n) w.sent in
      let most = all_but g.clients signed g.bad
      (λ i less is_good. in_signed i (vote_for n) (share_for n (limits g i)) w.sent (m i (less, is_good)) (eq-eqb i i refl) (same_refl (vote_for n))) in
      le-leb (quorum g.clients) (how_many g.clients signed) (omega (arith, group.0, group.2))

  -- slot n was gone through: every good client has signed for it, and no other verdict has changed
  record Through (n : ℕ) (w : World) (has : Limits → Left) (v : World) : Type 0 where
    stands : Stands v (λ l. idle (suc n) (then_left n l (has l)))
    verdicts : (j : ℕ) → eqb j n ≡ false → v.verdict j ≡ w.verdict j
    still : (x : Share) → In x w.sent → In x v.sent
    sent : (i : ℕ) → good g i → In (share_for n (limits g i)) v.sent

  -- slot n: its duty comes to all good clients, the deciding comes to its data, and all good clients hear of that
  module _ (duties : can 0 ≡ true) (decidings : can 1 ≡ true) (n k : ℕ) (w : World) (has : Limits → Left) (h : Stands w (λ l. idle k (has l)))
      (later : k ≤ n) (some : 0 < n) (small : suc n < 18446744073709551616) (free : w.verdict n ≡ [])
      (safe : (i : ℕ) → unsafe (has (limits g i)).past (vote_for n) ≡ false) where
    can_duty : g.events_can 0 ≡ true
    can_duty = group.8 0 ∙ duties

    can_decided : g.events_can 1 ≡ true
    can_decided = group.8 1 ∙ decidings

    slot_read : eight n ≡ true
    slot_read = lt-ltb n 18446744073709551616 (omega arith)

    duty_read : readable (duty (duty_for n)) ≡ true
    unfolding readable
    duty_read = rw slot_read

    data_read : carried (vote_for n) ≡ true
    unfolding carried
    data_read = rw slot_read

    decided_read : readable (decided n (vote_for n)) ≡ true
    unfolding readable
    decided_read = and_from (eight n) (carried (vote_for n)) slot_read data_read

    abbrev waits : Limits → State
    waits l = idle k (has l)

    abbrev begins : Limits → State
    begins l = busy n l (has l)

    all_given : (v : World) × Told w waits (duty (duty_for n)) g.clients v
    all_given = tell w waits (duty (duty_for n)) duty_read (λ v i lived _ ok. on_duty i (duty_for n) lived ok) h g.clients (omega arith)

    all_begun : Stands all_given.0 begins
    all_begun =
        told_stands w all_given.0 waits begins (duty (duty_for n)) all_given.1
        (λ i ok. is_given (limits g i) (has (limits g i)) n k can_duty group.6 later small)

    abbrev now_decided : World
    now_decided = comes_to all_given.0 n (vote_for n)

    decided_stands : Stands now_decided begins
    decided_stands =
        came_to all_given.0 begins n (vote_for n) all_begun (ap (λ (r : ℕ → List Data). r n) all_given.1.verdicts ∙ free) slot_read data_read
        (λ i ok. is_let (limits g i) (has (limits g i)) n group.6 some (safe i))

    decided_is : now_decided.verdict n ≡ vote_for n ∷ []
    decided_is = pick_true (eqb n n) (vote_for n ∷ []) (all_given.0.verdict n) (eq-eqb n n refl)

    others_stay : (j : ℕ) → eqb j n ≡ false → now_decided.verdict j ≡ w.verdict j
    others_stay j apart =
        pick_both (eqb j n) (vote_for n ∷ []) (all_given.0.verdict j) (λ ds. ds ≡ w.verdict j)
        (λ same. absurd (both_ways (eqb j n) apart same)) (λ _. ap (λ (r : ℕ → List Data). r j) all_given.1.verdicts)

    all_told : (v : World) × Told now_decided begins (decided n (vote_for n)) g.clients v
    all_told =
        tell now_decided begins (decided n (vote_for n)) decided_read
        (λ v i lived same ok. on_decided i n (vote_for n) lived ok (ap (λ (r : ℕ → List Data). r n) same ∙ decided_is)) decided_stands g.clients (omega arith)

    through : (v : World) × Through n w has v
    unfolding In
    through = (
      all_told.0,
      record {
        stands = told_stands now_decided all_told.0 begins (λ l. idle (suc n) (then_left n l (has l))) (decided n (vote_for n)) all_told.1
            (λ i ok. is_done (limits g i) (has (limits g i)) n can_decided);
        verdicts = λ j apart. ap (λ (r : ℕ → List Data). r j) all_told.1.verdicts ∙ others_stay j apart;
        still = λ x m. all_told.1.still x (all_given.1.still x m);
        sent = λ i ok. all_told.1.sent i ok ok.0 (share_for n (limits g i))
            (subst (In (share_for n (limits g i))) (sym (is_sent (limits g i) (has (limits g i)) n can_decided)) (inl refl));
      },
    )

  new_stands : Stands new_world (λ l. idle 0 nothing)
  unfolding world_readable all_readable all_carried state
  new_stands = record { lived = new; read = (λ i. refl, λ k e. refl); here = λ i ok. refl }

pub reaches : Reaches
unfolding unsafe
reaches can f g duties decidings right group =
    let a = through can f g right group duties decidings 1 0 new_world (λ l. nothing) (new_stands can f g right group) (omega arith) (omega arith) (omega arith) refl (λ i. refl) in
    let b = through can f g right group duties decidings 2 2 a.0 (λ l. then_left 1 l nothing) a.1.stands (omega arith) (omega arith) (omega arith) (a.1.verdicts 2 refl)
    (λ i. safe_second g.kept) in (
      b.0,
      vote_for 1,
      vote_for 2,
      b.1.stands.lived,
      b.1.stands.read,
      whole_if_sent can f g right group b.0 1 (λ i ok. b.1.still (share_for 1 (limits g i)) (a.1.sent i ok)),
      whole_if_sent can f g right group b.0 2 b.1.sent,
      omega arith,
    )

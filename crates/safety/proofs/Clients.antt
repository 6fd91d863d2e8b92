-- One good client over all that happens to it: what it keeps of its state, of what it lets and of what it signs, held again after each event that can happen.
-- That it does what the definitions say is used here, and nowhere else.
-- Assumes nothing.
use Rattle.std.proofs.Common.{◌≡◌, ℕ, suc, Bool, true, eqb, ◌⊎◌, List, [], ◌∷◌, ◌++◌, sym, refl, ap, ◌∙◌, subst, inl, inr, ⊎_elim, arith}
use Rattle.std.proofs.lemmas.Bool.{eqb-true, lt-ltb, or_cases}
use Rattle.protocol.specs.Data.{Data, Duty, first_of}
use Rattle.protocol.specs.Client.{Share, Event, duty, decided, share, block, resend, garbled, refused, Limits, State, new_client, own_with, share_of, next, with_own, without_current, with_got, with_after, signed, heard, turned, place, by_decided, sends_decided, told, by_block, duty_gone, stepped, doing, after, answer, state, lets_now}
use Rattle.protocol.specs.World.{Keeper, memory, sends, let_ever}
use Rattle.protocol.specs.Promise.{carried, readable, all_readable, GoodLimits, Right}
use Rattle.protocol.specs.Refusals.{Member}
use Rattle.safety.proofs.Basics.{member_first, member_shares_not_for, member_own_with, first_none}
use Rattle.safety.proofs.Picks.{pick_two}
use Rattle.safety.proofs.Record.{Slot, Verdict, VerdictsApart, Core, CoreOf, Grows, core_grows, begun_small}
use Rattle.safety.proofs.Steps.{Step, Fits, stays, done_step, from_none, duty_step, block_step}
use Rattle.safety.proofs.Shares.{Shares, shares_quiet, shares_signed, shares_others, shares_grow, next_own, duty_gone_own}
use Rattle.safety.proofs.Lets.{Clear, clear_grows, clear_since, lets_clear}

-- what an event leaves of a client, and what is sent: in its own name, or what had been sent
pub record Moves (v : ℕ → List Data) (l : Limits) (begun : List ℕ) (s : State) (sent : List Share) (t : State) (new : List Share) : Type 0 where
  pub step : Step v l.kept begun s.current t
  pub shares : Shares v l.me step.since t.current t.own (sent ++ new)
  pub named : (x : Share) → Member x new → Member x sent ⊎ (x.who ≡ l.me)

module _ (v : ℕ → List Data) (apart : VerdictsApart v) (l : Limits) (begun : List ℕ) (s : State) (sent : List Share)
    (core : CoreOf v l.kept begun s) (shares : Shares v l.me begun s.current s.own sent) where
  -- nothing is sent, and no share of its own is new
  silent : (t : State) → Step v l.kept begun s.current t → ((x : Share) → Member x t.own → Member x s.own) → Moves v l begun s sent t []
  silent t st less = record { step = st; shares = shares_quiet [] st less (λ x m. absurd m) shares; named = λ x m. absurd m }

  -- the duty at hand is signed for
  signs : (y : Duty) (ys : List Duty) (d : Data) → s.current ≡ y ∷ ys → Verdict v y.slot d → d.slot ≡ y.slot →
      Moves v l begun s sent (next l s.queue (with_own (first_of l.waiting (own_with (share_of l y d) s.own)) (without_current (signed l s d)))) (share_of l y d ∷ [])
  unfolding from_none
  signs y ys d e verdict at =
      let w : Share = share_of l y d in
      let own : List Share = first_of l.waiting (own_with w s.own) in
      let t : State = with_own own (without_current (signed l s d)) in
      let here : Core v l.kept begun s.queue (y ∷ ys) s.past s.active s.ahead s.after = rw e at core in
      let st = done_step l y d own s apart verdict here in
      let more : (x : Share) → Member x (next l s.queue t).own → (x ≡ w) ⊎ Member x s.own =
      λ x m. member_own_with w s.own x (member_first l.waiting (own_with w s.own) x (subst (λ os. Member x os) (next_own l s.queue t) m)) in
      record {
        step = from_none st;
        shares = shares_signed y w st at verdict here.hand.0 more (subst (λ cur. Shares v l.me begun cur s.own sent) e shares);
        named = λ x. ⊎_elim (λ i. inr (ap (λ (z : Share). z.who) i)) (λ m. absurd m);
      }

  decided_moves : (current : List Duty) (k : ℕ) (d : Data) → s.current ≡ current → Verdict v k d → d.slot ≡ k →
      Moves v l begun s sent (by_decided l current k d s) (sends_decided l current k d)
  unfolding by_decided sends_decided
  decided_moves [] k d e verdict at = silent s (stays core) (λ x m. m)
  decided_moves (y ∷ ys) k d e verdict at =
      pick_two (eqb y.slot k) (next l s.queue (with_own (first_of l.waiting (own_with (share_of l y d) s.own)) (without_current (signed l s d)))) s
      (share_of l y d ∷ []) [] (Moves v l begun s sent) (λ i. let j : y.slot ≡ k = eqb-true y.slot k i in signs y ys d e (rw j verdict) (at ∙ sym j))
      (λ i. silent s (stays core) (λ x m. m))

  event_moves : (e : Event) → Fits v e → turned l s e ≡ 0 → Moves v l begun s sent (stepped l s e) (sends (doing l s e))
  unfolding stepped doing sends
  event_moves (duty y) fits taken =
      let queue : List Duty = s.queue ++ (y ∷ []) in
      let t : State = with_after (suc y.slot) s in
      silent (next l queue t) (duty_step l y s taken core) (λ x m. subst (λ os. Member x os) (next_own l queue t) m)
  event_moves (decided k d) fits taken = decided_moves s.current k d refl fits.0 fits.1
  event_moves (share x) fits taken = silent (with_got (x ∷ heard s s.got) s) (stays core) (λ z m. m)
  event_moves (block ds) fits taken =
      let all : List Data = told l s ds in
      let t : State = by_block l s ds in
      silent (duty_gone l s.current all t) (block_step l ds s apart fits core)
      (λ x m. member_shares_not_for all s.own x (subst (λ os. Member x os) (duty_gone_own l s.current all t) m))
  event_moves resend fits taken =
      let st = stays core in
      record { step = st; shares = shares_quiet s.own st (λ x m. m) (λ x m. m) shares; named = λ x m. inl (shares.own_sent x m) }
  event_moves (garbled n) fits taken = silent s (stays core) (λ x m. m)

  -- an event that is turned away leaves all as it was
  after_moves : (e : Event) → Fits v e → Moves v l begun s sent (after l s e) (sends (answer l s e))
  unfolding sends
  after_moves e fits =
      pick_two (eqb (turned l s e) 0) (stepped l s e) s (doing l s e) (refused (turned l s e) (place e (turned l s e))) (λ t a. Moves v l begun s sent t (sends a))
      (λ i. event_moves e fits (eqb-true (turned l s e) 0 i)) (λ i. silent s (stays core) (λ x m. m))

-- what is known of a good client, by all that happened to it, the verdicts and the shares that were sent
pub record Client (f : Keeper) (l : Limits) (es : List Event) (v : ℕ → List Data) (sent : List Share) : Type 0 where
  pub begun : List ℕ
  pub core : CoreOf v l.kept begun (state l es)
  pub lets : (k : ℕ) (d : Data) → Slot k → carried d ≡ true → let_ever f l es k d ≡ true → Clear v begun k d
  pub shares : Shares v l.me begun (state l es).current (state l es).own sent

module _ (can : ℕ → Bool) (f : Keeper) (right : Right can f) (l : Limits) (good : GoodLimits can l) where
  -- what a right client says and lets
  says_right : (es : List Event) (e : Event) → all_readable (e ∷ es) ≡ true → f.says (memory f l es) e ≡ answer l (state l es) e
  unfolding Right
  says_right es e r = (right l es e good r).0

  lets_right : (es : List Event) (k : ℕ) (d : Data) → all_readable es ≡ true → Slot k → carried d ≡ true → f.lets (memory f l es) k d ≡ lets_now (state l es) k d
  unfolding Right all_readable readable
  lets_right es k d r s c = (right l es resend good r).1 k d (lt-ltb k 18446744073709551616 s) c

  -- what it lets now is clear
  now_clear : (v : ℕ → List Data) → VerdictsApart v → (es : List Event) → all_readable es ≡ true → (begun : List ℕ) → CoreOf v l.kept begun (state l es) →
      (k : ℕ) (d : Data) → Slot k → carried d ≡ true → f.lets (memory f l es) k d ≡ true → Clear v begun k d
  now_clear v apart es r begun c k d s u h = lets_clear (state l es) apart good.3 c k d (sym (lets_right es k d r s u) ∙ h)

  pub client_new : (v : ℕ → List Data) → VerdictsApart v → Client f l [] v []
  unfolding state let_ever all_readable
  client_new v apart =
      let core : CoreOf v l.kept [] new_client =
      record {
        full = [];
        past_is = sym (first_none l.kept);
        falls = tt;
        known = λ p m. absurd m;
        hand = λ j m. absurd m;
        waits = λ j m. absurd m;
        small = omega arith;
        decided_about = λ y m. absurd m;
        told = λ d m. absurd m;
      } in
      record {
        begun = [];
        core = core;
        lets = now_clear v apart [] refl [] core;
        shares = record { own_sent = λ x m. absurd m; mine = λ x m. absurd m; one = λ x z m. absurd m };
      }

  -- an event comes to it
  pub client_step : (v : ℕ → List Data) → VerdictsApart v → (es : List Event) (e : Event) (sent : List Share) → all_readable (e ∷ es) ≡ true → Fits v e → Client f l es v sent →
      Client f l (e ∷ es) v (sent ++ sends (f.says (memory f l es) e))
      × ((x : Share) → Member x (sends (f.says (memory f l es) e)) → Member x sent ⊎ (x.who ≡ l.me))
  unfolding state let_ever
  client_step v apart es e sent r fits c =
      let s : State = state l es in
      let t : State = after l s e in
      let m = after_moves v apart l c.begun s sent c.core c.shares e fits in
      let st : Step v l.kept c.begun s.current t = m.step in
      let new : sends (answer l s e) ≡ sends (f.says (memory f l es) e) = ap sends (sym (says_right es e r)) in (
        record {
          begun = st.since;
          core = st.core;
          lets = λ k d small u h.
              ⊎_elim (now_clear v apart (e ∷ es) r st.since st.core k d small u) (λ before. clear_since st k d (c.lets k d small u before))
              (or_cases (f.lets (memory f l (e ∷ es)) k d) (let_ever f l es k d) h);
          shares = subst (λ ss. Shares v l.me st.since t.current t.own (sent ++ ss)) new m.shares;
        },
        subst (λ ss. (x : Share) → Member x ss → Member x sent ⊎ (x.who ≡ l.me)) new m.named,
      )

module _ {f : Keeper} {l : Limits} {es : List Event} where
  -- others send
  pub client_hears : {v : ℕ → List Data} {sent : List Share} (new : List Share) → ((x : Share) → Member x new → x.who ≡ l.me → Member x sent) →
      Client f l es v sent → Client f l es v (sent ++ new)
  client_hears new other c = record { begun = c.begun; core = c.core; lets = c.lets; shares = shares_others new other c.shares }

  -- the deciding comes to more
  pub client_grows : {v w : ℕ → List Data} {sent : List Share} → Grows v w → Client f l es v sent → Client f l es w sent
  client_grows {v} {w} grows c =
      record {
        begun = c.begun;
        core = core_grows grows c.core;
        lets = λ k d small u h. clear_grows v w c.begun k d grows (c.lets k d small u h);
        shares = shares_grow grows c.shares;
      }

  -- a slot that it began is one that bytes can carry
  pub client_slot : {v : ℕ → List Data} {sent : List Share} (c : Client f l es v sent) (k : ℕ) → Member k c.begun → Slot k
  client_slot c = begun_small c.core

-- What a client signs: each share of its own was sent; each share in its name is of the verdict for a slot that it began and that is not at hand; and there is one
-- for a slot. So what it signs when the deciding ends for the duty at hand is its first word for that slot, and resending says nothing new.
-- Assumes nothing.
use Rattle.std.proofs.Common.{◌≡◌, ℕ, ◌<◌, ◌⊎◌, List, [], ◌∷◌, ◌++◌, sym, refl, ap, ◌∙◌, subst, inl, ⊎_elim, arith}
use Rattle.protocol.specs.Data.{Data, Duty}
use Rattle.protocol.specs.Client.{Share, Limits, State, ahead_of, has_slot, learned, begin_or_wait, next, gone, duty_gone}
use Rattle.protocol.specs.Refusals.{Member}
use Rattle.safety.proofs.Basics.{member_append, member_left, member_right}
use Rattle.safety.proofs.Picks.{pick_both}
use Rattle.safety.proofs.Record.{Verdict, Off, Grows}
use Rattle.safety.proofs.Steps.{Step}

-- a share of the verdict for a slot that was begun and is not at hand
abbrev pub Signed : (ℕ → List Data) → List ℕ → List Duty → Share → Type 0
Signed v begun current x = Verdict v x.what.slot x.what × Member x.what.slot begun × Off current x.what.slot

-- what client i keeps of its own, and what was sent
pub record Shares (v : ℕ → List Data) (i : ℕ) (begun : List ℕ) (current : List Duty) (own sent : List Share) : Type 0 where
  pub own_sent : (x : Share) → Member x own → Member x sent  -- what it keeps of its own was sent
  pub mine : (x : Share) → Member x sent → x.who ≡ i → Signed v begun current x  -- what was sent in its name was decided, and is done
  pub one : (x z : Share) → Member x sent → Member z sent → x.who ≡ i → z.who ≡ i → x.what.slot ≡ z.what.slot → x ≡ z

-- what was signed stays so when a step is made
signed_since : {v : ℕ → List Data} {n : ℕ} {begun : List ℕ} {current : List Duty} {t : State} (x : Share) (st : Step v n begun current t) → Signed v begun current x →
    Signed v st.since t.current x
signed_since x st s = (s.0, st.grown x.what.slot s.1, st.off x.what.slot s.1 s.2)

-- nothing new is said
pub shares_quiet : {v : ℕ → List Data} {n i : ℕ} {begun : List ℕ} {current : List Duty} {own sent : List Share} {t : State} (new : List Share) (st : Step v n begun current t) →
    ((x : Share) → Member x t.own → Member x own) → ((x : Share) → Member x new → Member x own) →
    Shares v i begun current own sent → Shares v i st.since t.current t.own (sent ++ new)
shares_quiet {sent = sent} new st less quiet s =
    let old : (x : Share) → Member x (sent ++ new) → Member x sent = λ x m. ⊎_elim (λ h. h) (λ h. s.own_sent x (quiet x h)) (member_append sent new x m) in
    record {
      own_sent = λ x m. member_left sent new x (s.own_sent x (less x m));
      mine = λ x m e. signed_since x st (s.mine x (old x m) e);
      one = λ x z m k e d j. s.one x z (old x m) (old z k) e d j;
    }

-- the duty at hand is signed for: the first word for its slot
pub shares_signed : {v : ℕ → List Data} {n i : ℕ} {begun : List ℕ} (y : Duty) {ys : List Duty} {own sent : List Share} {t : State} (w : Share) (st : Step v n begun [] t) →
    w.what.slot ≡ y.slot → Verdict v y.slot w.what → Member y.slot begun → ((x : Share) → Member x t.own → (x ≡ w) ⊎ Member x own) →
    Shares v i begun (y ∷ ys) own sent → Shares v i st.since t.current t.own (sent ++ (w ∷ []))
shares_signed {v = v} {i = i} {begun = begun} y {sent = sent} {t = t} w st at verdict b more s =
    let done : Signed v begun [] w = (subst (λ k. Verdict v k w.what) (sym at) verdict, subst (λ k. Member k begun) (sym at) b, tt) in
    let is : (x : Share) → Member x (w ∷ []) → x ≡ w = λ x. ⊎_elim (λ j. j) (λ m. absurd m) in
    let slot_is : (x : Share) → Member x (w ∷ []) → x.what.slot ≡ y.slot = λ x h. ap (λ (u : Share). u.what.slot) (is x h) ∙ at in
    let before : (x : Share) → Member x sent → x.who ≡ i → x.what.slot ≡ y.slot → ⊥ =
    λ x m e j. let low : x.what.slot < y.slot = (s.mine x m e).2 in omega arith in
    let now : (x : Share) → Member x (sent ++ (w ∷ [])) → Member x sent ⊎ Member x (w ∷ []) = λ x m. member_append sent (w ∷ []) x m in
    record {
      own_sent = λ x m. ⊎_elim (λ j. member_right sent (w ∷ []) x (inl j)) (λ h. member_left sent (w ∷ []) x (s.own_sent x h)) (more x m);
      mine = λ x m e.
          ⊎_elim (λ h. let r = s.mine x h e in signed_since x st (r.0, r.1, tt))
          (λ h. subst (Signed v st.since t.current) (sym (is x h)) (signed_since w st done)) (now x m);
      one = λ x z m k e d j.
          ⊎_elim (λ h. ⊎_elim (λ o. s.one x z h o e d j) (λ o. absurd (before x h e (j ∙ slot_is z o))) (now z k))
          (λ h. ⊎_elim (λ o. absurd (before z o d (sym j ∙ slot_is x h))) (λ o. is x h ∙ sym (is z o)) (now z k)) (now x m);
    }

-- another client's shares, or ones that were sent before, leave what this one said
pub shares_others : {v : ℕ → List Data} {i : ℕ} {begun : List ℕ} {current : List Duty} {own sent : List Share} (new : List Share) →
    ((x : Share) → Member x new → x.who ≡ i → Member x sent) → Shares v i begun current own sent → Shares v i begun current own (sent ++ new)
shares_others {i = i} {sent = sent} new other s =
    let old : (x : Share) → Member x (sent ++ new) → x.who ≡ i → Member x sent = λ x m e. ⊎_elim (λ h. h) (λ h. other x h e) (member_append sent new x m) in
    record {
      own_sent = λ x m. member_left sent new x (s.own_sent x m);
      mine = λ x m e. s.mine x (old x m e) e;
      one = λ x z m k e d j. s.one x z (old x m e) (old z k d) e d j;
    }

pub shares_grow : {v w : ℕ → List Data} {i : ℕ} {begun : List ℕ} {current : List Duty} {own sent : List Share} → Grows v w →
    Shares v i begun current own sent → Shares w i begun current own sent
shares_grow grows s =
    record {
      own_sent = s.own_sent;
      mine = λ x m e. let r = s.mine x m e in (grows x.what.slot x.what r.0, r.1, r.2);
      one = s.one;
    }

-- looking at the queue leaves the shares of its own
learned_own : (l : Limits) (ds : List Data) (k : ℕ) (s : State) → (learned l ds k s).own ≡ s.own
unfolding learned
learned_own l [] k s = refl
learned_own l (d ∷ ds) k s = refl

begin_own : (l : Limits) (current : List Duty) (y : Duty) (ys : List Duty) (s : State) → (begin_or_wait l current y ys s).own ≡ s.own
unfolding begin_or_wait
begin_own l [] y ys s = refl
begin_own l (c ∷ cs) y ys s = refl

pub next_own : (l : Limits) (q : List Duty) (s : State) → (next l q s).own ≡ s.own
unfolding next
next_own l [] s = refl
next_own l (y ∷ ys) s =
    let ds = ahead_of y.slot s.ahead in
    pick_both (has_slot y.slot s.ahead) (next l ys (learned l ds y.slot s)) (begin_or_wait l s.current y ys s) (λ t. t.own ≡ s.own)
    (λ e. next_own l ys (learned l ds y.slot s) ∙ learned_own l ds y.slot s) (λ e. begin_own l s.current y ys s)

gone_own : (l : Limits) (ds : List Data) (s : State) → (gone l ds s).own ≡ s.own
unfolding gone
gone_own l [] s = refl
gone_own l (d ∷ ds) s = next_own l s.queue _

pub duty_gone_own : (l : Limits) (current : List Duty) (ds : List Data) (s : State) → (duty_gone l current ds s).own ≡ s.own
unfolding duty_gone
duty_gone_own l [] ds s = refl
duty_gone_own l (y ∷ ys) ds s = gone_own l (ahead_of y.slot ds) s

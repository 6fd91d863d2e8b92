-- Each event keeps what always holds of a state, so it does hold, after any events whatever. Assumes nothing.
use Rattle.std.proofs.Common.{◌≡◌, ℕ, suc, ◌<◌, eqb, List, [], ◌∷◌, ◌++◌, sym, subst, inl, inr, ⊎_elim, arith}
use Rattle.std.proofs.lemmas.Bool.{eqb-true, cases_Bool}
use Rattle.protocol.specs.Data.{Data, Duty}
use Rattle.protocol.specs.Client.{Share, Event, duty, decided, share, block, resend, garbled, Limits, State, turned, listens, heard, next, learned, begin_or_wait, ahead_of, has_slot, not_for, by_decided, told, by_block, gone, duty_gone, stepped, state, with_after}
use Rattle.protocol.specs.Refusals.{Member}
use Rattle.safety.proofs.Basics.{member_not_for, member_shares_not_for}
use Rattle.safety.proofs.Held.{share_taken}
use Rattle.safety.proofs.Picks.{pick_both}
use Rattle.stored.specs.Stands.{duties_for}
use Rattle.keeper.proofs.Duties.{none_told, others_left}
use Rattle.keeper.proofs.FittingLists.{all_among}
use Rattle.keeper.proofs.SizesLists.{not_for_length}
use Rattle.keeper.proofs.Sound.{SoundWith, Sound, heard_below, skipped, begun_sound, done_sound, given_sound}

-- the queue is looked at
begin_sound : (l : Limits) (current : List Duty) (y : Duty) (ys : List Duty) (s : State) → SoundWith l (y ∷ ys) s → Sound l (begin_or_wait l current y ys s)
unfolding begin_or_wait
begin_sound l [] y ys s h = begun_sound h
begin_sound l (c ∷ cs) y ys s h = h

learned_sound : (l : Limits) (ds : List Data) (k : ℕ) (ys : List Duty) (s : State) → SoundWith l ys s → SoundWith l ys (learned l ds k s)
unfolding learned
learned_sound l [] k ys s h = h
learned_sound l (d ∷ ds) k ys s h = h

next_sound : (l : Limits) (ys : List Duty) (s : State) → SoundWith l ys s → Sound l (next l ys s)
unfolding next
next_sound l [] s h = h
next_sound l (y ∷ ys) s h =
    let ds : List Data = ahead_of y.slot s.ahead in
    pick_both (has_slot y.slot s.ahead) (next l ys (learned l ds y.slot s)) (begin_or_wait l s.current y ys s) (Sound l)
    (λ _. next_sound l ys (learned l ds y.slot s) (learned_sound l ds y.slot ys s (skipped h))) (λ _. begin_sound l s.current y ys s h)

-- the deciding has come to something
decided_sound : (l : Limits) (current : List Duty) (k : ℕ) (d : Data) (s : State) → Sound l s → Sound l (by_decided l current k d s)
unfolding by_decided
decided_sound l [] k d s h = h
decided_sound l (y ∷ ys) k d s h = pick_both (eqb y.slot k) _ s (Sound l) (λ _. next_sound l s.queue _ (done_sound h)) (λ _. h)

-- shares that are listened for are among those that came
member_heard : (s : State) (xs : List Share) (x : Share) → Member x (heard s xs) → Member x xs
unfolding heard
member_heard s [] x = λ m. m
member_heard s (z ∷ zs) x =
    pick_both (listens s z.what.slot) (z ∷ heard s zs) (heard s zs) (λ ys. Member x ys → Member x (z ∷ zs))
    (λ _. ⊎_elim (λ e. inl e) (λ m. inr (member_heard s zs x m))) (λ _ m. inr (member_heard s zs x m))

-- a share that is taken
share_sound : (l : Limits) (s : State) (x : Share) → turned l s (share x) ≡ 0 → Sound l s → Sound l (stepped l s (share x))
unfolding stepped
share_sound l s x e h =
    let low = heard_below l s x.what.slot h (share_taken l s x e).1 in
    record {
      few_wait = h.few_wait;
      few_active = h.few_active;
      one_at_hand = h.one_at_hand;
      active_below = h.active_below;
      queue_below = h.queue_below;
      apart = h.apart;
      came_below = λ z. ⊎_elim (λ is. subst (λ (v : Share). v.what.slot < s.after) (sym is) low) (λ m. h.came_below z (member_heard s s.got z m));
    }

-- a block, but for the duty at hand
block_sound : (l : Limits) (s : State) (ds : List Data) → Sound l s → Sound l (by_block l s ds)
block_sound l s ds h =
    let all : List Data = told l s ds in
    record {
      few_wait = h.few_wait;
      few_active = omega (arith, h.few_active, not_for_length all s.active);
      one_at_hand = h.one_at_hand;
      active_below = all_among (λ (y : Duty). y.slot < s.after) s.active (not_for all s.active) (member_not_for all s.active) h.active_below;
      queue_below = h.queue_below;
      apart = λ k. ⊎_elim (λ t. omega (arith, h.apart k, none_told all k s.active t)) (λ f. omega (arith, h.apart k, others_left all k s.active f))
          (cases_Bool (has_slot k all));
      came_below = λ x m. h.came_below x (member_shares_not_for all s.got x m);
    }

-- the duty at hand goes if the block has it
gone_sound : (l : Limits) (ds : List Data) (s : State) → Sound l s → Sound l (gone l ds s)
unfolding gone
gone_sound l [] s h = h
gone_sound l (d ∷ ds) s h = next_sound l s.queue _ (done_sound h)

hand_sound : (l : Limits) (current : List Duty) (all : List Data) (s : State) → Sound l s → Sound l (duty_gone l current all s)
unfolding duty_gone
hand_sound l [] all s h = h
hand_sound l (y ∷ ys) all s h = gone_sound l (ahead_of y.slot all) s h

-- an event that is taken
taken_sound : (l : Limits) (s : State) (e : Event) → turned l s e ≡ 0 → Sound l s → Sound l (stepped l s e)
unfolding stepped
taken_sound l s (duty y) e h = next_sound l (s.queue ++ (y ∷ [])) (with_after (suc y.slot) s) (given_sound l s y e h)
taken_sound l s (decided k d) e h = decided_sound l s.current k d s h
taken_sound l s (share x) e h = share_sound l s x e h
taken_sound l s (block ds) e h = hand_sound l s.current (told l s ds) (by_block l s ds) (block_sound l s ds h)
taken_sound l s resend e h = h
taken_sound l s (garbled n) e h = h

-- after any events whatever
pub sound : (l : Limits) (es : List Event) → Sound l (state l es)
unfolding state duties_for
sound l [] =
    record {
      few_wait = omega arith;
      few_active = omega arith;
      one_at_hand = omega arith;
      active_below = tt;
      queue_below = tt;
      apart = λ k. omega arith;
      came_below = λ x m. absurd m;
    }
sound l (e ∷ es) =
    let s : State = state l es in
    pick_both (eqb (turned l s e) 0) (stepped l s e) s (Sound l) (λ t. taken_sound l s e (eqb-true (turned l s e) 0 t) (sound l es)) (λ _. sound l es)

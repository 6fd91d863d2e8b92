-- What holds of a stored client, and lasts through each part of a step, lasts through every step.
use Rattle.std.proofs.Common.{◌≡◌, ℕ, zero, suc, Bool, eqb, List, [], ◌∷◌, ◌++◌, refl, subst, inl}
use Rattle.std.proofs.lemmas.Bool.{eqb-true}
use Rattle.protocol.specs.Data.{Data, Duty, first_of}
use Rattle.protocol.specs.Client.{Share, Event, duty, decided, share, block, resend, garbled, ahead_of, has_slot, own_with}
use Rattle.protocol.specs.Refusals.{Member}
use Rattle.safety.proofs.Basics.{member_first, member_ahead}
use Rattle.safety.proofs.Picks.{pick_both}
use Rattle.stored.specs.Stored.{Stored, taken, with_at_hand, with_queue, with_own}
use Rattle.keeper.specs.Step.{hand, remembered, learnt, started, start_or_wait, settle, refusal, settled, put_share, told, block_kept, hand_gone, hand_shown, moved, step}

-- a duty that is taken, and waits; a duty at hand that is signed, and is at hand no more
abbrev pub given : Duty → Stored → Stored
given y t =
    record {
      sizes = t.sizes;
      at_hand = t.at_hand;
      latest = t.latest;
      after = suc y.slot;
      past = t.past;
      queue = t.queue ++ y ∷ [];
      active = t.active;
      ahead = t.ahead;
      own = t.own;
      banks = taken y.slot t.banks;
    }

abbrev pub signed : Duty → Data → Stored → Stored
signed y d t =
    with_own (first_of t.sizes.waiting (own_with (record { who = t.sizes.me; what = d; seat = y.seat }) t.own)) (with_at_hand 0 (remembered d t))

-- what has to be shown of P, for the events of E: it lasts when the queue's first is shown to be decided or is begun, when a duty is taken, when one is signed,
-- when a share is put into its cell, and when a block comes, which may show the duty at hand
pub record Lasting (can : ℕ → Bool) (E : Event → Type 0) (P : Stored → Type 0) : Type 0 where
  pub learns : (y : Duty) (ys : List Duty) (t : Stored) → P (with_queue (y ∷ ys) t) → P (learnt (ahead_of y.slot t.ahead) y (with_queue ys t))
  pub starts : (y : Duty) (ys : List Duty) (t : Stored) → P (with_queue (y ∷ ys) t) → P (started y ys t)
  pub takes : (y : Duty) (t : Stored) → E (duty y) → refusal can t (duty y) ≡ 0 → P t → P (given y t)
  pub signs : (k : ℕ) (d : Data) (y : Duty) (t : Stored) → E (decided k d) → Member y t.active → P t → P (signed y d t)
  pub hears : (x : Share) (t : Stored) → E (share x) → P t → P (put_share x t)
  pub shows : (ds : List Data) (t : Stored) → E (block ds) → P t → P (block_kept (told t ds) t)
  pub goes : (ds : List Data) (d : Data) (t : Stored) → E (block ds) → Member d (told t ds) → P t → P (with_at_hand 0 (remembered d (block_kept (told t ds) t)))

-- what is learnt of a duty leaves the queue alone
learnt_queue : (ds : List Data) (y : Duty) (ys : List Duty) (t : Stored) → learnt ds y (with_queue ys t) ≡ with_queue ys (learnt ds y t)
unfolding learnt
learnt_queue [] y ys t = refl
learnt_queue (d ∷ ds) y ys t = refl

module _ (can : ℕ → Bool) (E : Event → Type 0) (P : Stored → Type 0) (lasting : Lasting can E P) where
  start_or_wait_lasts : (h : ℕ) (y : Duty) (ys : List Duty) (t : Stored) → P (with_queue (y ∷ ys) t) → P (start_or_wait h y ys t)
  unfolding start_or_wait
  start_or_wait_lasts zero y ys t p = lasting.starts y ys t p
  start_or_wait_lasts (suc h) y ys t p = p

  settle_lasts : (ys : List Duty) (t : Stored) → P (with_queue ys t) → P (settle ys t)
  unfolding settle
  settle_lasts [] t p = p
  settle_lasts (y ∷ ys) t p =
      let ds : List Data = ahead_of y.slot t.ahead in
      pick_both (has_slot y.slot t.ahead) (settle ys (learnt ds y t)) (start_or_wait t.at_hand y ys t) P
      (λ _. settle_lasts ys (learnt ds y t) (subst P (learnt_queue ds y ys t) (lasting.learns y ys t p)))
      (λ _. start_or_wait_lasts t.at_hand y ys t p)

  settled_lasts : (ys : List Duty) (k : ℕ) (d : Data) (t : Stored) → E (decided k d) → ((y : Duty) → Member y ys → Member y t.active) → P t → P (settled ys k d t)
  unfolding settled
  settled_lasts [] k d t e inside p = p
  settled_lasts (y ∷ ys) k d t e inside p =
      pick_both (eqb y.slot k) (settle t.queue (signed y d t)) t P
      (λ _. settle_lasts t.queue (signed y d t) (lasting.signs k d y t e (inside y (inl refl)) p)) (λ _. p)

  hand_gone_lasts : (es ds : List Data) (t : Stored) → E (block ds) → ((d : Data) → Member d es → Member d (told t ds)) → P t → P (hand_gone es (block_kept (told t ds) t))
  unfolding hand_gone
  hand_gone_lasts [] ds t e inside p = lasting.shows ds t e p
  hand_gone_lasts (d ∷ es) ds t e inside p =
      settle_lasts t.queue (with_at_hand 0 (remembered d (block_kept (told t ds) t))) (lasting.goes ds d t e (inside d (inl refl)) p)

  hand_shown_lasts : (ys : List Duty) (ds : List Data) (t : Stored) → E (block ds) → P t → P (hand_shown ys (told t ds) (block_kept (told t ds) t))
  unfolding hand_shown
  hand_shown_lasts [] ds t e p = lasting.shows ds t e p
  hand_shown_lasts (y ∷ ys) ds t e p =
      hand_gone_lasts (ahead_of y.slot (told t ds)) ds t e (λ d m. (member_ahead y.slot (told t ds) d m).0) p

  moved_lasts : (e : Event) (t : Stored) → E e → refusal can t e ≡ 0 → P t → P (moved t e)
  unfolding moved
  moved_lasts (duty y) t e r p = settle_lasts (t.queue ++ y ∷ []) (with_queue t.queue (given y t)) (lasting.takes y t e r p)
  moved_lasts (decided k d) t e r p =
      settled_lasts (hand t) k d t e (λ y m. member_first t.at_hand t.active y m) p
  moved_lasts (share x) t e r p = lasting.hears x t e p
  moved_lasts (block ds) t e r p = hand_shown_lasts (hand t) ds t e p
  moved_lasts resend t e r p = p
  moved_lasts (garbled n) t e r p = p

  pub step_lasts : (e : Event) (t : Stored) → E e → P t → P (step can t e)
  step_lasts e t h p =
      pick_both (eqb (refusal can t e) 0) (moved t e) t P (λ b. moved_lasts e t h (eqb-true (refusal can t e) 0 b) p) (λ _. p)

-- What the deciding has come to: for the duty at hand it is signed, and for any other slot nothing happens.
use Rattle.std.proofs.Common.{◌≡◌, ℕ, ◌≤◌, Bool, true, false, ◌&&◌, eqb, List, [], ◌∷◌, length, take, drop, sym, refl, ap, ◌∙◌, ap₂, arith}
use Rattle.std.proofs.lemmas.Bool.{eq-eqb, ne_eqb}
use Rattle.protocol.specs.Data.{pick, Data, Duty, first_of}
use Rattle.protocol.specs.Client.{Share, decided, does, good_fields, event_number, sends_decided, begun_if, own_with}
use Rattle.past.proofs.Laws.{first_of_is}
use Rattle.stored.specs.Stored.{Stored, with_own, with_at_hand}
use Rattle.keeper.specs.Ready.{Ready}
use Rattle.keeper.specs.Step.{limits_in, hand, remembered, settle, settled, refusal, refused_by, moved, done}
use Rattle.steps.specs.Queue.{for_slot, upcoming}
use Rattle.steps.proofs.Hands.{hand_new}

-- the duty at hand, as it is found
pub hand_none : (k : ℕ) (t : Stored) → t.at_hand ≡ 0 → [] ≡ for_slot k (hand t)
unfolding for_slot first_of
hand_none k t e = sym (ap (λ n. for_slot k (first_of n t.active)) e)

hand_first : (t : Stored) → t.at_hand ≡ 1 → hand t ≡ take 1 (drop 0 t.active)
hand_first t e = ap (λ n. first_of n t.active) e ∙ first_of_is 1 t.active

module _ (k : ℕ) (t : Stored) (one : t.at_hand ≡ 1) where
  pub hand_empty : [] ≡ take 1 (drop 0 t.active) → [] ≡ for_slot k (hand t)
  unfolding for_slot
  hand_empty e = sym (ap (for_slot k) (hand_first t one ∙ sym e))

  pub hand_other : (y : Duty) → y ∷ [] ≡ take 1 (drop 0 t.active) → (y.slot ≡ k → ⊥) → [] ≡ for_slot k (hand t)
  unfolding for_slot pick
  hand_other y e n = sym (ap (for_slot k) (hand_first t one ∙ sym e) ∙ ap (λ b. pick b (y ∷ []) []) (ne_eqb y.slot k n))

  pub hand_that : (y : Duty) → y ∷ [] ≡ take 1 (drop 0 t.active) → y.slot ≡ k → y ∷ [] ≡ for_slot k (hand t)
  unfolding for_slot pick
  hand_that y e s = sym (ap (for_slot k) (hand_first t one ∙ sym e) ∙ ap (λ b. pick b (y ∷ []) []) (eq-eqb y.slot k s))

-- it is never turned away
pub decided_taken : (can : ℕ → Bool) (t : Stored) (k : ℕ) (d : Data) → can 1 ≡ true → refusal can t (decided k d) ≡ 0
unfolding event_number good_fields refused_by pick
decided_taken can t k d on = ap (λ b. pick (b && true) (refused_by t (decided k d)) 2) on

-- a share of its own
abbrev pub own_share : Stored → Duty → Data → Share
own_share t y d = record { who = t.sizes.me; what = d; seat = y.seat }

-- the client once it has signed, before the queue is looked at
abbrev pub signed_so : Stored → Duty → Data → Stored
signed_so t y d = with_own (first_of t.sizes.waiting (own_with (own_share t y d) t.own)) (with_at_hand 0 (remembered d t))

module _ (can : ℕ → Bool) (t : Stored) (k : ℕ) (d : Data) where
  impossible : (y : Duty) → [] ≡ pick true (y ∷ []) [] → ⊥
  unfolding pick
  impossible y e = let v : ◌≡◌ {A = ℕ} 0 1 = ap length e in omega arith

  kept : (y : Duty) → (pick false (settle t.queue (signed_so t y d)) t ≡ t) × (pick false (own_share t y d ∷ []) [] ≡ [])
  unfolding pick
  kept y = (refl, refl)

  none_there : (y x : Duty) → y ∷ [] ≡ pick false (x ∷ []) [] → ⊥
  unfolding pick
  none_there y x e = let v : ◌≡◌ {A = ℕ} 1 0 = ap length e in omega arith

  signs : (y x : Duty) → y ∷ [] ≡ pick true (x ∷ []) [] → (pick true (settle t.queue (signed_so t x d)) t ≡ settle t.queue (signed_so t y d)) × (pick true (own_share t x d ∷ []) [] ≡ own_share t y d ∷ [])
  unfolding pick
  signs y x e = let same : x ≡ y = cc in (ap (λ v. settle t.queue (signed_so t v d)) same, ap (λ v. own_share t v d ∷ []) same)

  nothing : (ys : List Duty) → [] ≡ for_slot k ys → (settled ys k d t ≡ t) × (sends_decided (limits_in can t) ys k d ≡ [])
  unfolding for_slot settled sends_decided
  nothing [] = λ e. (refl, refl)
  nothing (y ∷ ys) =
      elim (eqb y.slot k) as (λ b. [] ≡ pick b (y ∷ []) [] → (pick b (settle t.queue (signed_so t y d)) t ≡ t) × (pick b (own_share t y d ∷ []) [] ≡ [])) [
        | true ↦ λ e. absurd (impossible y e)
        | false ↦ λ e. kept y
      ]

  something : (y : Duty) (ys : List Duty) → y ∷ [] ≡ for_slot k ys → (settled ys k d t ≡ settle t.queue (signed_so t y d)) × (sends_decided (limits_in can t) ys k d ≡ own_share t y d ∷ [])
  unfolding for_slot settled sends_decided
  something y [] = λ e. absurd cc
  something y (x ∷ ys) =
      elim (eqb x.slot k) as (λ b. y ∷ [] ≡ pick b (x ∷ []) [] → (pick b (settle t.queue (signed_so t x d)) t ≡ settle t.queue (signed_so t y d)) × (pick b (own_share t x d ∷ []) [] ≡ own_share t y d ∷ [])) [
        | true ↦ λ e. signs y x e
        | false ↦ λ e. absurd (none_there y x e)
      ]

  -- for another slot nothing happens
  pub nothing_done : [] ≡ for_slot k (hand t) → (moved t (decided k d) ≡ t) × (done can t (decided k d) ≡ does [] [] [] [])
  unfolding moved done begun_if
  nothing_done e =
      let n = nothing (hand t) e in
      (n.0, ap (λ ss. does ss [] (begun_if ss (hand (settled (hand t) k d t))) []) n.1)

  -- for its own it is signed, and the first that isn't ahead is begun
  pub signed_done : (y : Duty) → y ∷ [] ≡ for_slot k (hand t) → 1 ≤ t.sizes.waiting → Ready t → (row : List Duty) → row ≡ upcoming t.queue t.ahead → (moved t (decided k d) ≡ settle t.queue (signed_so t y d)) × (done can t (decided k d) ≡ does (own_share t y d ∷ []) [] row [])
  unfolding moved done begun_if
  signed_done y e some ready row is =
      let n = something y (hand t) e in
      let first : hand (settled (hand t) k d t) ≡ row = ap hand n.0 ∙ hand_new t.queue (signed_so t y d) refl some ready.queue ∙ sym is in
      (n.0, ap₂ (λ ss ys. does ss [] (begun_if ss ys) []) n.1 first)

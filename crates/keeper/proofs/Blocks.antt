-- A block: the stored client takes it as the definitions do. Assumes nothing.
use Rattle.std.proofs.Common.{◌≡◌, ℕ, ◌≤◌, Bool, false, eqb, List, [], ◌∷◌, map, length, sym, refl, ap, ◌∙◌, subst, ap₂, ⊎_elim, arith}
use Rattle.std.proofs.lemmas.Bool.{cases_Bool}
use Rattle.protocol.specs.Data.{pick, Data, Duty, first_of}
use Rattle.protocol.specs.Client.{block, does, Limits, State, begun, all_by_slot, ends, ahead_of, has_slot, not_for, still_ahead, by_block, gone, duty_gone, stepped, doing, without_current, signed}
use Rattle.stored.specs.Stored.{Bank, Stored, with_ahead}
use Rattle.stored.specs.Stands.{one_more, stored_of, StandsFor}
use Rattle.keeper.specs.Step.{still_after, bank_after, block_kept, hand_gone, hand_shown, moved, done}
use Rattle.keeper.proofs.Marks.{pick_false}
use Rattle.keeper.proofs.Sound.{Sound}
use Rattle.keeper.proofs.Queue.{AtHand, BanksWith, hand_is, some_told, settle_stands}
use Rattle.keeper.proofs.Shown.{shown_holds}

-- what is after the last duty begun
after_same : (latest : List Duty) (all : List Data) → still_after (one_more latest) all ≡ still_ahead latest all
unfolding still_after still_ahead
after_same [] all = refl
after_same (y ∷ ys) all = refl

-- the duty at hand stays so, where the block does not have its slot
still_at_hand : (active : List Duty) (y : Duty) (all : List Data) → first_of 1 active ≡ y ∷ [] → has_slot y.slot all ≡ false → first_of 1 (not_for all active) ≡ y ∷ []
unfolding first_of not_for
still_at_hand [] y all newest off = newest
still_at_hand (z ∷ zs) y all newest off =
    let same : z.slot ≡ y.slot = cc in
    ap (first_of 1) (pick_false (has_slot z.slot all) (not_for all zs) (z ∷ not_for all zs) (ap (λ k. has_slot k all) same ∙ off)) ∙ newest

module _ (l : Limits) (some : 1 ≤ l.waiting) (s : State) (bs : List Bank) (newest : AtHand s) (banks : BanksWith l s.queue s bs) (sound : Sound l s) (ds : List Data) where
  abbrev all : List Data
  all = all_by_slot ds s.ahead

  -- what the block leaves but for the duty at hand
  abbrev left : State
  left = by_block l s ds

  abbrev left_banks : List Bank
  left_banks = map (bank_after l.clients s.active all) bs

  left_is : block_kept all (stored_of l s bs) ≡ stored_of l left left_banks
  left_is = ap (λ ahead. with_ahead (first_of l.waiting ahead) (stored_of l left left_banks)) (after_same s.latest all)

  banks_left : BanksWith l s.queue left left_banks
  banks_left = shown_holds l.clients s.active all s.queue sound.apart banks

  -- the duty at hand goes if the block has its slot
  gone_stands : (found : List Data) → (length found ≡ 0 → AtHand left) → StandsFor l (gone l found left) (hand_gone found (stored_of l left left_banks))
  unfolding gone hand_gone first_of
  gone_stands [] stays = record { is = refl; hand = stays refl; banks = banks_left }
  gone_stands (d ∷ found) stays = settle_stands l some s.queue (without_current (signed l left d)) left_banks refl banks_left

  none_found : (k : ℕ) → length (ahead_of k all) ≡ 0 → has_slot k all ≡ false
  none_found k none = ⊎_elim (λ t. absurd (omega (arith, some_told k all t))) (λ f. f) (cases_Bool (has_slot k all))

  shown_stands : (current : List Duty) → s.current ≡ current → StandsFor l (duty_gone l current all left) (hand_shown current all (stored_of l left left_banks))
  unfolding duty_gone hand_shown first_of
  shown_stands [] e = record { is = refl; hand = rw e refl; banks = banks_left }
  shown_stands (y ∷ []) e =
      gone_stands (ahead_of y.slot all)
      (λ none. rw e (still_at_hand s.active y all (rw e at newest) (none_found y.slot none)))
  shown_stands (y ∷ (z ∷ zs)) e = absurd (omega (arith, ap length e, sound.one_at_hand))

  pub block_stands : StandsFor l (stepped l s (block ds)) (moved (stored_of l s bs) (block ds))
  unfolding stepped moved
  block_stands =
      subst (λ (h : List Duty). StandsFor l (duty_gone l s.current all left) (hand_shown h all (block_kept all (stored_of l s bs)))) (sym newest)
      (subst (λ (t : Stored). StandsFor l (duty_gone l s.current all left) (hand_shown s.current all t)) (sym left_is) (shown_stands s.current refl))

  pub block_done : (can : ℕ → Bool) → done can (stored_of l s bs) (block ds) ≡ doing l s (block ds)
  unfolding done doing
  block_done can =
      ap₂ (λ a b. does [] [] (begun (pick (eqb (length (ends all a)) 0) a []) b) (ends all s.active)) newest (hand_is block_stands)

-- Each event but a block: the stored client turns it away as the definitions do, and leaves and does what they say. Assumes nothing.
use Rattle.std.proofs.Common.{◌≡◌, ℕ, suc, ◌*◌, ◌<◌, ◌≤◌, Bool, eqb, leb, List, [], ◌∷◌, ◌++◌, length, sym, refl, ap, ◌∙◌, subst, ap₂, arith, length-append}
use Rattle.std.proofs.lemmas.Bool.{ltb-true}
use Rattle.protocol.specs.Data.{pick, Data, Duty, first_of, quorum}
use Rattle.protocol.specs.Client.{Share, duty, decided, share, does, Limits, State, turned, begun, begun_if, by_decided, sends_decided, heard, stepped, doing, with_after}
use Rattle.safety.proofs.Held.{Held, share_taken, held_with}
use Rattle.safety.proofs.Picks.{pick_two}
use Rattle.stored.specs.Stored.{Bank, alike, taken}
use Rattle.stored.specs.Stands.{stored_of, StandsFor}
use Rattle.keeper.specs.Step.{limits_in, settled, put_share, moved, done}
use Rattle.keeper.proofs.Marks.{duties_more, duties_both, duties_last}
use Rattle.keeper.proofs.Banks.{rearranged, taken_holds}
use Rattle.keeper.proofs.Cells.{cells_none, cell_none}
use Rattle.keeper.proofs.Sound.{Sound, duty_taken}
use Rattle.keeper.proofs.Signers.{alike_signers}
use Rattle.keeper.proofs.Queue.{AtHand, BanksWith, hand_is, settle_stands}
use Rattle.keeper.proofs.Putting.{put_holds, slot_cells_are}

-- a client with what is known of it: its limits let a duty wait, the duty at hand is the last one begun, and its banks are right
module _ (l : Limits) (some : 1 ≤ l.waiting) (s : State) (bs : List Bank) (newest : AtHand s) (banks : BanksWith l s.queue s bs) where
  -- a duty takes a free bank and waits, and the queue is looked at
  pub duty_stands : (y : Duty) → turned l s (duty y) ≡ 0 → Sound l s → StandsFor l (stepped l s (duty y)) (moved (stored_of l s bs) (duty y))
  unfolding stepped moved
  duty_stands y e sound =
      let t = duty_taken l s y e in
      let room : length (s.active ++ s.queue) < 2 * l.waiting = omega (arith, length-append s.active s.queue, sound.few_active, t.1) in
      let new = cells_none l.clients s.got y.slot (λ i. cell_none y.slot i s.got (λ x m is. omega (arith, sound.came_below x m, t.0))) in
      settle_stands l some (s.queue ++ (y ∷ [])) (with_after (suc y.slot) s) (taken y.slot bs) newest
      (rearranged (λ k. omega (arith, duties_more k y (s.active ++ s.queue), duties_both k s.active s.queue, duties_both k s.active (s.queue ++ (y ∷ [])), duties_last k s.queue y))
      (taken_holds {y = y} room new banks))

  -- the deciding has come to something: for the duty at hand it is signed, and the queue is looked at
  settled_stands : (current : List Duty) (k : ℕ) (d : Data) → StandsFor l (by_decided l current k d s) (settled current k d (stored_of l s bs))
  unfolding by_decided settled first_of
  settled_stands [] k d = record { is = refl; hand = newest; banks = banks }
  settled_stands (y ∷ ys) k d =
      pick_two (eqb y.slot k) _ _ _ _ (StandsFor l) (λ _. settle_stands l some s.queue _ bs refl banks) (λ _. record { is = refl; hand = newest; banks = banks })

  pub decided_stands : (k : ℕ) (d : Data) → StandsFor l (stepped l s (decided k d)) (moved (stored_of l s bs) (decided k d))
  unfolding stepped moved
  decided_stands k d =
      subst (λ ys. StandsFor l (by_decided l s.current k d s) (settled ys k d (stored_of l s bs))) (sym newest) (settled_stands s.current k d)

  -- a share goes into its cell
  pub share_stands : (x : Share) → turned l s (share x) ≡ 0 → Sound l s → StandsFor l (stepped l s (share x)) (moved (stored_of l s bs) (share x))
  unfolding stepped moved
  share_stands x e sound =
      let t = share_taken l s x e in
      let k : ℕ = x.what.slot in
      record {
        is = refl;
        hand = newest;
        banks = put_holds l.clients l.waiting s x bs (ltb-true x.who l.clients t.0) t.1 (omega (arith, sound.apart k, duties_both k s.active s.queue)) banks;
      }

  -- what is done then
  pub duty_done : (can : ℕ → Bool) (y : Duty) → turned l s (duty y) ≡ 0 → Sound l s → done can (stored_of l s bs) (duty y) ≡ doing l s (duty y)
  unfolding done doing
  duty_done can y e sound = ap₂ (λ a b. does [] [] (begun a b) []) newest (hand_is (duty_stands y e sound))

  -- the share that is sent says who this client is
  sends_same : (can : ℕ → Bool) (current : List Duty) (k : ℕ) (d : Data) → sends_decided (limits_in can (stored_of l s bs)) current k d ≡ sends_decided l current k d
  unfolding sends_decided
  sends_same can [] k d = refl
  sends_same can (y ∷ ys) k d = refl

  pub decided_done : (can : ℕ → Bool) (k : ℕ) (d : Data) → done can (stored_of l s bs) (decided k d) ≡ doing l s (decided k d)
  unfolding done doing
  decided_done can k d =
      ap₂ (λ sent b. does sent [] (begun_if sent b) []) (ap (λ ys. sends_decided (limits_in can (stored_of l s bs)) ys k d) newest ∙ sends_same can s.current k d)
      (hand_is (decided_stands k d))

  pub share_done : (can : ℕ → Bool) (x : Share) → turned l s (share x) ≡ 0 → Sound l s → Held l.clients (λ z. Unit {0}) s.got →
      done can (stored_of l s bs) (share x) ≡ doing l s (share x)
  unfolding done doing stepped moved
  share_done can x e sound held =
      let k : ℕ = x.what.slot in
      let now : Held l.clients (λ z. Unit {0}) (x ∷ heard s s.got) = held_with l (λ z. Unit {0}) s x e tt held in
      let cells = slot_cells_are l.clients l.waiting (x ∷ heard s s.got) s k (put_share x (stored_of l s bs)).banks (share_stands x e sound).banks (share_taken l s x e).1 in
      ap (λ n. does [] (pick (leb (quorum l.clients) n) (x.what ∷ []) []) [] [])
      (ap (alike x.seat x.what) cells ∙ alike_signers l.clients x (x ∷ heard s s.got) now.clients now.apart)

-- Looking at the queue: the stored client does it as the definitions do. Assumes nothing.
use Rattle.std.proofs.Common.{◌≡◌, ℕ, zero, suc, ◌≤◌, Bool, true, false, ◌||◌, eqb, List, [], ◌∷◌, ◌++◌, length, drop, refl, ap, ◌∙◌, arith}
use Rattle.std.proofs.lemmas.Bool.{both_ways}
use Rattle.protocol.specs.Data.{pick, Data, Duty, first_of}
use Rattle.protocol.specs.Client.{Limits, State, next, learned, begin_or_wait, ahead_of, has_slot}
use Rattle.safety.proofs.Picks.{pick_two}
use Rattle.stored.specs.Stored.{Bank, Stored}
use Rattle.stored.specs.Stands.{stored_of, BanksHold, StandsFor}
use Rattle.keeper.specs.Step.{hand, learnt, start_or_wait, settle}
use Rattle.keeper.proofs.Marks.{duties_more, duties_both}
use Rattle.keeper.proofs.Duties.{duties_parted}
use Rattle.keeper.proofs.Banks.{rearranged, freed_holds, all_freed_holds}

-- the duty at hand is the last one begun
abbrev pub AtHand : State → Type 0
AtHand s = first_of (length s.current) s.active ≡ s.current

-- the banks of a client with another queue
abbrev pub BanksWith : Limits → List Duty → State → List Bank → Type 0
BanksWith l ys s bs = BanksHold l.clients l.waiting s.got (s.active ++ ys) bs

-- so the hand of what stands for a state is its duty at hand
pub hand_is : {l : Limits} {s : State} {t : Stored} → StandsFor l s t → hand t ≡ s.current
hand_is h = ap hand h.is ∙ h.hand

-- where data has a slot, there is a first of it for that slot
pub some_told : (k : ℕ) (ds : List Data) → has_slot k ds ≡ true → 1 ≤ length (ahead_of k ds)
unfolding has_slot ahead_of pick
some_told k [] h = absurd (both_ways false refl h)
some_told k (d ∷ ds) h = by_first (eqb d.slot k) (some_told k ds) h
  where
    by_first : (b : Bool) → (has_slot k ds ≡ true → 1 ≤ length (ahead_of k ds)) → (b || has_slot k ds) ≡ true → 1 ≤ length (pick b (d ∷ []) (ahead_of k ds))
    by_first true rest h = omega arith
    by_first false rest h = rest h

-- the duty begun is at hand
first_begun : (w : ℕ) (y : Duty) (ys : List Duty) → 1 ≤ w → first_of 1 (first_of w (y ∷ ys)) ≡ y ∷ []
unfolding first_of
first_begun zero y ys h = absurd (omega arith)
first_begun (suc w) y ys h = refl

-- with nothing at hand the first that waits is begun, and the banks of those that are no longer decided are freed
start_stands : (l : Limits) (current : List Duty) (y : Duty) (ys : List Duty) (s : State) (bs : List Bank) → 1 ≤ l.waiting → AtHand s → BanksWith l (y ∷ ys) s bs →
    StandsFor l (begin_or_wait l current y ys s) (start_or_wait (length current) y ys (stored_of l s bs))
unfolding begin_or_wait start_or_wait
start_stands l [] y ys s bs some newest banks =
    let w : ℕ = l.waiting in
    let kept : List Duty = first_of w (y ∷ s.active) in
    record {
      is = refl;
      hand = first_begun w y s.active some;
      banks = all_freed_holds (drop w (y ∷ s.active)) (rearranged (λ k.
          omega (
            arith,
            duties_both k s.active (y ∷ ys),
            duties_more k y ys,
            duties_both k (drop w (y ∷ s.active)) (kept ++ ys),
            duties_both k kept ys,
            duties_parted k w (y ∷ s.active),
            duties_more k y s.active,
          )) banks);
    }
start_stands l (c ∷ cs) y ys s bs some newest banks = record { is = refl; hand = newest; banks = banks }

-- what was told for the first that waits is learned, and its bank is freed
learnt_stands : (l : Limits) (ds : List Data) (y : Duty) (ys : List Duty) (s : State) (bs : List Bank) →
    ((v : State) (cs : List Bank) → AtHand v → BanksWith l ys v cs → StandsFor l (next l ys v) (settle ys (stored_of l v cs))) →
    1 ≤ length ds → AtHand s → BanksWith l (y ∷ ys) s bs → StandsFor l (next l ys (learned l ds y.slot s)) (settle ys (learnt ds y (stored_of l s bs)))
unfolding learned learnt
learnt_stands l [] y ys s bs rest some newest banks = absurd (omega arith)
learnt_stands l (d ∷ ds) y ys s bs rest some newest banks =
    rest (learned l (d ∷ ds) y.slot s) _ newest
    (freed_holds {y = y} (rearranged (λ k. omega (arith, duties_both k s.active (y ∷ ys), duties_more k y ys, duties_more k y (s.active ++ ys), duties_both k s.active ys)) banks))

-- the queue is looked at, to its end
pub settle_stands : (l : Limits) → 1 ≤ l.waiting → (ys : List Duty) (s : State) (bs : List Bank) → AtHand s → BanksWith l ys s bs → StandsFor l (next l ys s) (settle ys (stored_of l s bs))
unfolding next settle
settle_stands l some [] s bs newest banks = record { is = refl; hand = newest; banks = banks }
settle_stands l some (y ∷ ys) s bs newest banks =
    let ds : List Data = ahead_of y.slot s.ahead in
    pick_two (has_slot y.slot s.ahead) _ _ _ _ (StandsFor l)
    (λ e. learnt_stands l ds y ys s bs (settle_stands l some ys) (some_told y.slot s.ahead e) newest banks)
    (λ _. start_stands l s.current y ys s bs some newest banks)

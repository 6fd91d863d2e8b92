-- What always holds of a state: no more duties wait, or are being decided, than may; at most one is at hand; no two are for one slot, and they and all shares that came are
-- for slots below the next duty. It holds again when a duty is given, begun or done. Assumes nothing.
use Rattle.std.proofs.Common.{◌≡◌, ℕ, suc, ◌+◌, ◌<◌, ◌≤◌, Bool, true, false, ltb, List, [], ◌∷◌, ◌++◌, length, refl, ◌∙◌, ⊎_elim, arith, length-append}
use Rattle.std.specs.List.{AllByRecursion}
use Rattle.std.proofs.ByRecursion.{All-push, All-weaker}
use Rattle.std.proofs.lemmas.Bool.{ltb-true, ltb-false, le-ltb, cases_lt, both_ways, or_from}
use Rattle.protocol.specs.Data.{pick, Duty, first_of}
use Rattle.protocol.specs.Client.{Share, duty, Limits, State, turned, turned_by, listens, for_some, with_after}
use Rattle.protocol.specs.Refusals.{Member}
use Rattle.safety.proofs.Basics.{member_first}
use Rattle.stored.specs.Stands.{duties_for}
use Rattle.keeper.proofs.Marks.{hit, hit_tells, duties_more, duties_last}
use Rattle.keeper.proofs.Duties.{some_counted, duties_parted, none_from}
use Rattle.keeper.proofs.FittingLists.{all_among}
use Rattle.keeper.proofs.SizesLists.{first_length}

-- what always holds, part by part
pub record SoundParts (w : ℕ) (current active queue : List Duty) (after : ℕ) (got : List Share) : Type 0 where
  pub few_wait : length queue ≤ w  -- no more wait than may
  pub few_active : length active ≤ w  -- nor are being decided
  pub one_at_hand : length current ≤ 1
  pub active_below : AllByRecursion (λ (y : Duty). y.slot < after) active  -- what is being decided, and what waits, is below the next duty
  pub queue_below : AllByRecursion (λ (y : Duty). y.slot < after) queue
  pub apart : (k : ℕ) → duties_for k active + duties_for k queue ≤ 1  -- no two are for one slot
  pub came_below : (x : Share) → Member x got → x.what.slot < after  -- nor did a share come for a slot that is still to be given

-- a state, and a state with another queue
abbrev pub SoundWith : Limits → List Duty → State → Type 0
SoundWith l ys s = SoundParts l.waiting s.current s.active ys s.after s.got

abbrev pub Sound : Limits → State → Type 0
Sound l s = SoundWith l s.queue s

-- only slots below the next duty are listened for
pub heard_below : (l : Limits) (s : State) (k : ℕ) → Sound l s → listens s k ≡ true → k < s.after
heard_below l s k h on =
    ⊎_elim (λ low. low)
    (λ high. absurd (both_ways (listens s k) (or_from (for_some k s.active) (for_some k s.queue)
    (some_counted k s.active ∙ le-ltb 0 (duties_for k s.active) (omega (arith, none_from s.after k s.active h.active_below high)))
    (some_counted k s.queue ∙ le-ltb 0 (duties_for k s.queue) (omega (arith, none_from s.after k s.queue h.queue_below high)))) on))
    (cases_lt k s.after)

-- the first that waits goes
pub skipped : {w after : ℕ} {current active : List Duty} {y : Duty} {ys : List Duty} {got : List Share} →
    SoundParts w current active (y ∷ ys) after got → SoundParts w current active ys after got
skipped {y = y} {ys = ys} h =
    record {
      few_wait = omega (arith, h.few_wait);
      few_active = h.few_active;
      one_at_hand = h.one_at_hand;
      active_below = h.active_below;
      queue_below = h.queue_below.1;
      apart = λ k. omega (arith, h.apart k, duties_more k y ys);
      came_below = h.came_below;
    }

-- or is begun
pub begun_sound : {w after : ℕ} {current active : List Duty} {y : Duty} {ys : List Duty} {got : List Share} →
    SoundParts w current active (y ∷ ys) after got → SoundParts w (y ∷ []) (first_of w (y ∷ active)) ys after got
begun_sound {w} {after} {active = active} {y = y} {ys = ys} h =
    record {
      few_wait = omega (arith, h.few_wait);
      few_active = first_length w (y ∷ active);
      one_at_hand = omega arith;
      active_below = all_among (λ (z : Duty). z.slot < after) (y ∷ active) (first_of w (y ∷ active)) (member_first w (y ∷ active)) (h.queue_below.0, h.active_below);
      queue_below = h.queue_below.1;
      apart = λ k. omega (arith, h.apart k, duties_more k y ys, duties_more k y active, duties_parted k w (y ∷ active));
      came_below = h.came_below;
    }

-- nothing is at hand
pub done_sound : {w after : ℕ} {current active queue : List Duty} {got : List Share} → SoundParts w current active queue after got → SoundParts w [] active queue after got
done_sound h =
    record {
      few_wait = h.few_wait;
      few_active = h.few_active;
      one_at_hand = omega arith;
      active_below = h.active_below;
      queue_below = h.queue_below;
      apart = h.apart;
      came_below = h.came_below;
    }

-- a duty that is taken is for no slot below, and there is room for it
by_duty : (a b c : Bool) → pick {A = ℕ} a (pick b 3 (pick c 0 4)) 2 ≡ 0 → (b ≡ false) × (c ≡ true)
unfolding pick
by_duty true true c e = absurd (omega arith)
by_duty true false true e = (refl, refl)
by_duty true false false e = absurd (omega arith)
by_duty false b c e = absurd (omega arith)

pub duty_taken : (l : Limits) (s : State) (y : Duty) → turned l s (duty y) ≡ 0 → (s.after ≤ y.slot) × (length s.queue < l.waiting)
unfolding turned_by
duty_taken l s y e =
    let r = by_duty _ (ltb y.slot s.after) (ltb (length s.queue) l.waiting) e in
    (ltb-false y.slot s.after r.0, ltb-true (length s.queue) l.waiting r.1)

-- it waits
pub given_sound : (l : Limits) (s : State) (y : Duty) → turned l s (duty y) ≡ 0 → Sound l s → SoundWith l (s.queue ++ (y ∷ [])) (with_after (suc y.slot) s)
given_sound l s y e h =
    let t = duty_taken l s y e in
    let low : s.after ≤ y.slot = t.0 in
    let more : (z : Duty) → z.slot < s.after → z.slot < suc y.slot = λ z less. omega arith in
    record {
      few_wait = omega (arith, length-append s.queue (y ∷ []), t.1);
      few_active = h.few_active;
      one_at_hand = h.one_at_hand;
      active_below = All-weaker _ _ more s.active h.active_below;
      queue_below = All-push (λ (z : Duty). z.slot < suc y.slot) s.queue y (All-weaker _ _ more s.queue h.queue_below) (omega arith);
      apart = λ k. omega (arith, duties_last k s.queue y, alone k);
      came_below = λ x m. let less = h.came_below x m in omega arith;
    }
  where
    alone : (k : ℕ) → hit y.slot k + (duties_for k s.active + duties_for k s.queue) ≤ 1
    alone k =
        let low : s.after ≤ y.slot = (duty_taken l s y e).0 in
        ⊎_elim
        (λ same. let high : s.after ≤ k = omega (arith, same.0) in
        omega (arith, same.1, none_from s.after k s.active h.active_below high, none_from s.after k s.queue h.queue_below high))
        (λ other. omega (arith, other.1, h.apart k)) (hit_tells y.slot k)

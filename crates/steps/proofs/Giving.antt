-- A duty that is given: by what it is turned away, and the client with it behind all that wait.
use Rattle.std.proofs.Common.{◌≡◌, ℕ, suc, ◌<◌, ◌≤◌, Bool, true, false, ◌&&◌, eqb, ltb, List, [], ◌∷◌, ◌++◌, length, sym, refl, ap, ◌∙◌, ap₂, arith}
use Rattle.std.specs.List.{AllByRecursion}
use Rattle.std.proofs.lemmas.Bool.{lt-ltb, le-ltb}
use Rattle.protocol.specs.Data.{pick, Data, Duty}
use Rattle.protocol.specs.Client.{duty, does, good_fields, event_number, has_slot}
use Rattle.stored.specs.Stored.{Stored, with_after, with_banks, taken as given_to}
use Rattle.stored.specs.Kept.{DutyFits}
use Rattle.keeper.specs.Ready.{Ascending, duty_slots, Ready}
use Rattle.keeper.specs.Step.{refusal, refused_by, moved, done}
use Rattle.steps.specs.Orderly.{SlotFits, Orderly}
use Rattle.steps.specs.Queue.{upcoming}
use Rattle.steps.proofs.Hands.{begun_row}

-- what is ready is in order
fits_slots : (ys : List Duty) → AllByRecursion DutyFits ys → AllByRecursion SlotFits ys
fits_slots [] h = tt
fits_slots (y ∷ ys) h = (h.0.0, fits_slots ys h.1)

pub ready_orderly : (t : Stored) → Ready t → Orderly t
ready_orderly t r =
    record { waiting = fits_slots t.queue r.fits.queue; deciding = fits_slots t.active r.fits.active; queue = r.queue; ahead = r.ahead }

-- one more behind all others
all_more : (P : ℕ → Type 0) (y : Duty) (ys : List Duty) → AllByRecursion P (duty_slots ys) → P y.slot → AllByRecursion P (duty_slots (ys ++ y ∷ []))
all_more P y [] h p = (p, tt)
all_more P y (x ∷ ys) h p = (h.0, all_more P y ys h.1 p)

pub ascends_more : (k : ℕ) (y : Duty) (ys : List Duty) → Ascending (duty_slots ys) → AllByRecursion (λ j. j < k) (duty_slots ys) → k ≤ y.slot → Ascending (duty_slots (ys ++ y ∷ []))
ascends_more k y [] up low h = (tt, tt)
ascends_more k y (x ∷ ys) up low h =
    (all_more (λ j. x.slot < j) y ys up.0 (omega (arith, low.0)), ascends_more k y ys up.1 low.1 h)

pub fits_more : (y : Duty) (ys : List Duty) → AllByRecursion SlotFits ys → SlotFits y → AllByRecursion SlotFits (ys ++ y ∷ [])
fits_more y [] h p = (p, tt)
fits_more y (x ∷ ys) h p = (h.0, fits_more y ys h.1 p)

-- the first that isn't ahead, with one more behind
pub up_found : (x y : Duty) (ys : List Duty) (ds : List Data) → x ∷ [] ≡ upcoming ys ds → upcoming (ys ++ y ∷ []) ds ≡ x ∷ []
unfolding upcoming pick
up_found x y [] ds = λ e. absurd cc
up_found x y (z ∷ ys) ds =
    elim (has_slot z.slot ds) as (λ b. x ∷ [] ≡ pick b (upcoming ys ds) (z ∷ []) → pick b (upcoming (ys ++ y ∷ []) ds) (z ∷ []) ≡ x ∷ []) [
      | true ↦ up_found x y ys ds
      | false ↦ λ e. sym e
    ]

pub up_last : (y : Duty) (ys : List Duty) (ds : List Data) → [] ≡ upcoming ys ds → upcoming (ys ++ y ∷ []) ds ≡ pick (has_slot y.slot ds) [] (y ∷ [])
unfolding upcoming pick
up_last y [] ds = λ e. refl
up_last y (z ∷ ys) ds =
    elim (has_slot z.slot ds) as (λ b. [] ≡ pick b (upcoming ys ds) (z ∷ []) → pick b (upcoming (ys ++ y ∷ []) ds) (z ∷ []) ≡ pick (has_slot y.slot ds) [] (y ∷ [])) [
      | true ↦ up_last y ys ds
      | false ↦ λ e. absurd cc
    ]

-- by what it is turned away
module _ (can : ℕ → Bool) (on : can 0 ≡ true) (t : Stored) (y : Duty) where
  fields : (b : Bool) → ltb (suc y.slot) 18446744073709551616 ≡ b → refusal can t (duty y) ≡ pick b (refused_by t (duty y)) 2
  unfolding event_number good_fields
  fields b e = ap₂ (λ c g. pick (c && g) (refused_by t (duty y)) 2) on e

  pub last_slot : 18446744073709551616 ≤ suc y.slot → refusal can t (duty y) ≡ 2
  unfolding pick
  last_slot h = fields false (le-ltb (suc y.slot) 18446744073709551616 h)

  module _ (fits : suc y.slot < 18446744073709551616) where
    by_order : refusal can t (duty y) ≡ pick (ltb y.slot t.after) 3 (pick (ltb (length t.queue) t.sizes.waiting) 0 4)
    unfolding pick refused_by
    by_order = fields true (lt-ltb (suc y.slot) 18446744073709551616 fits)

    pub too_early : y.slot < t.after → refusal can t (duty y) ≡ 3
    unfolding pick
    too_early h = by_order ∙ ap (λ b. pick b 3 (pick (ltb (length t.queue) t.sizes.waiting) 0 4)) (lt-ltb y.slot t.after h)

    module _ (later : t.after ≤ y.slot) where
      by_room : refusal can t (duty y) ≡ pick (ltb (length t.queue) t.sizes.waiting) 0 4
      unfolding pick
      by_room = by_order ∙ ap (λ b. pick b 3 (pick (ltb (length t.queue) t.sizes.waiting) 0 4)) (le-ltb y.slot t.after later)

      pub no_room : t.sizes.waiting ≤ length t.queue → refusal can t (duty y) ≡ 4
      unfolding pick
      no_room h = by_room ∙ ap (λ b. pick b 0 4) (le-ltb (length t.queue) t.sizes.waiting h)

      pub taken : length t.queue < t.sizes.waiting → refusal can t (duty y) ≡ 0
      unfolding pick
      taken h = by_room ∙ ap (λ b. pick b 0 4) (lt-ltb (length t.queue) t.sizes.waiting h)

-- what is answered: a duty that is begun
pub duty_done : (can : ℕ → Bool) (t : Stored) (y : Duty) (row : List Duty) → 1 ≤ t.sizes.waiting → Ready t → t.after ≤ y.slot → row ≡ pick (eqb t.at_hand 0) (upcoming (t.queue ++ y ∷ []) t.ahead) [] → done can t (duty y) ≡ does [] [] row []
unfolding done moved
duty_done can t y row some ready later e =
    let qs : List Duty = t.queue ++ y ∷ [] in
    let given : Stored = with_banks (given_to y.slot t.banks) (with_after (suc y.slot) t) in
    ap (λ ys. does [] [] ys []) (begun_row qs given some (ascends_more t.after y t.queue ready.queue ready.given later) ∙ sym e)

-- The first duty that waits and isn't ahead, as the queue is gone through.
use Rattle.std.proofs.Common.{◌≡◌, ℕ, true, false, cond, not, ◌||◌, eqb, List, [], ◌∷◌, map, Some, None, Option, refl, ap, ◌∙◌, ap₂}
use Rattle.std.specs.List.{find}
use Rattle.std.specs.Option.{option_map, is_some}
use Rattle.wire.specs.Meaning.{data_of, duty_of}
use Rattle.wire.specs.declared.values.Data.{Data as Found}
use Rattle.wire.specs.declared.values.Duty.{Duty as Waiting}
use Rattle.stored.specs.Numbers.{duty_numbers, duty_in}
use Rattle.stored.proofs.Entries.{duty_back}
use Rattle.store.specs.Store.{data_found, duty_found}
use Rattle.protocol.specs.Data.{pick, Data, Duty}
use Rattle.protocol.specs.Client.{has_slot, ahead_of}
use Rattle.steps.specs.Queue.{upcoming}

-- whether data is ahead for a slot, by what is found for it
pub told_none : (k : ℕ) (ds : List Data) → [] ≡ ahead_of k ds → has_slot k ds ≡ false
unfolding ahead_of has_slot pick
told_none k [] = λ e. refl
told_none k (d ∷ ds) =
    elim (eqb d.slot k) as (λ b. [] ≡ pick b (d ∷ []) (ahead_of k ds) → (b || has_slot k ds) ≡ false) [
      | true ↦ λ e. absurd cc
      | false ↦ told_none k ds
    ]

pub told_some : (k : ℕ) (d : Data) (ds : List Data) → d ∷ [] ≡ ahead_of k ds → has_slot k ds ≡ true
unfolding ahead_of has_slot pick
told_some k d [] = λ e. absurd cc
told_some k d (x ∷ ds) =
    elim (eqb x.slot k) as (λ b. d ∷ [] ≡ pick b (x ∷ []) (ahead_of k ds) → (b || has_slot k ds) ≡ true) [
      | true ↦ λ e. refl
      | false ↦ told_some k d ds
    ]

-- the same, as none or one is found
pub told : (k : ℕ) (o : Option Found) (ds : List Data) → data_found o ≡ ahead_of k ds → has_slot k ds ≡ is_some o
told k None ds e = told_none k ds e
told k (Some d) ds e = told_some k (data_of d) ds e

-- duties are read back from their rows
pub read_back : (ys : List Duty) → map duty_in (map duty_numbers ys) ≡ ys
read_back [] = refl
read_back (y ∷ ys) = ap₂ ◌∷◌ (duty_back y) (read_back ys)

-- the first that isn't ahead, as it is found
as_list : Option Duty → List Duty
as_list None = []
as_list (Some y) = y ∷ []

listed : (o : Option Waiting) → duty_found o ≡ as_list (option_map duty_of o)
unfolding as_list
listed None = refl
listed (Some y) = refl

first_up : (ys : List Duty) (ds : List Data) → as_list (find (λ y. not (has_slot y.slot ds)) ys) ≡ upcoming ys ds
unfolding as_list upcoming pick
first_up [] ds = refl
first_up (y ∷ ys) ds =
    elim (has_slot y.slot ds) as (λ b. as_list (cond (not b) (Some y) (find (λ y. not (has_slot y.slot ds)) ys)) ≡ pick b (upcoming ys ds) (y ∷ [])) [
      | true ↦ first_up ys ds
      | false ↦ refl
    ]

pub found_up : (o : Option Waiting) (ys : List Duty) (ds : List Data) → option_map duty_of o ≡ find (λ y. not (has_slot y.slot ds)) ys → duty_found o ≡ upcoming ys ds
found_up o ys ds e = listed o ∙ ap as_list e ∙ first_up ys ds

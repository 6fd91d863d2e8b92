-- Lists whose slots ascend still do when one more is put in by its slot, when one is put behind all, and when some are dropped.
use Rattle.std.proofs.Common.{ℕ, zero, suc, ◌<◌, Bool, true, false, cond, List, [], ◌∷◌, ◌++◌, sym, subst, arith}
use Rattle.std.specs.List.{AllByRecursion}
use Rattle.std.proofs.lemmas.List.{map_push}
use Rattle.std.proofs.ByRecursion.{All-push, All-weaker}
use Rattle.protocol.specs.Data.{Data, Duty, first_of}
use Rattle.protocol.specs.Client.{without, by_slot, all_by_slot, slots}
use Rattle.rows.specs.Rows.{kept}
use Rattle.keeper.specs.Step.{still_after}
use Rattle.keeper.specs.Ready.{Ascending, duty_slots}
use Rattle.keeper.proofs.Told.{put_cases}
use Rattle.keeper.proofs.ToldKept.{without_kept, still_after_kept}

-- data whose slots ascend
abbrev pub Rises : List Data → Type 0
Rises ds = Ascending (slots ds)

-- those that pass a test: what holds of each slot, and that they ascend
slots_kept : (P : ℕ → Type 0) (test : Data → Bool) (ds : List Data) → AllByRecursion P (slots ds) → AllByRecursion P (slots (kept test ds))
unfolding slots kept
slots_kept P test [] h = tt
slots_kept P test (d ∷ ds) h =
    let rest = slots_kept P test ds h.1 in
    elim (test d) as (λ b. AllByRecursion P (slots (cond b (d ∷ kept test ds) (kept test ds)))) [ true ↦ (h.0, rest) | false ↦ rest ]

rises_kept : (test : Data → Bool) (ds : List Data) → Rises ds → Rises (kept test ds)
unfolding slots kept
rises_kept test [] h = tt
rises_kept test (d ∷ ds) h =
    let rest = rises_kept test ds h.1 in
    elim (test d) as (λ b. Rises (cond b (d ∷ kept test ds) (kept test ds))) [ true ↦ (slots_kept (λ j. d.slot < j) test ds h.0, rest) | false ↦ rest ]

pub rises_without : (k : ℕ) (ds : List Data) → Rises ds → Rises (without k ds)
rises_without k ds h = subst Rises (sym (without_kept k ds)) (rises_kept _ ds h)

pub rises_still : (j : ℕ) (ds : List Data) → Rises ds → Rises (still_after j ds)
rises_still j ds h = subst Rises (sym (still_after_kept j ds)) (rises_kept _ ds h)

-- the first n
slots_first : (P : ℕ → Type 0) (n : ℕ) (ds : List Data) → AllByRecursion P (slots ds) → AllByRecursion P (slots (first_of n ds))
unfolding slots first_of
slots_first P zero ds h = tt
slots_first P (suc n) [] h = tt
slots_first P (suc n) (d ∷ ds) h = (h.0, slots_first P n ds h.1)

pub rises_first : (n : ℕ) (ds : List Data) → Rises ds → Rises (first_of n ds)
unfolding slots first_of
rises_first zero ds h = tt
rises_first (suc n) [] h = tt
rises_first (suc n) (d ∷ ds) h = (slots_first (λ j. d.slot < j) n ds h.0, rises_first n ds h.1)

-- one more, by its slot
slots_put : (P : ℕ → Type 0) (d : Data) (xs : List Data) → P d.slot → AllByRecursion P (slots xs) → AllByRecursion P (slots (by_slot d xs))
unfolding slots by_slot
slots_put P d [] p h = (p, tt)
slots_put P d (x ∷ xs) p h =
    put_cases d x xs (λ t. AllByRecursion P (slots t)) (λ _. (p, h)) (λ _. (p, h.1)) (λ _. (h.0, slots_put P d xs p h.1))

rises_put : (d : Data) (xs : List Data) → Rises xs → Rises (by_slot d xs)
unfolding slots by_slot
rises_put d [] h = (tt, tt)
rises_put d (x ∷ xs) h =
    put_cases d x xs Rises
    (λ less. ((less, All-weaker (λ j. x.slot < j) (λ j. d.slot < j) (λ j k. omega arith) (slots xs) h.0), h))
    (λ same. (subst (λ k. AllByRecursion (λ j. k < j) (slots xs)) (sym same) h.0, h.1))
    (λ more. (slots_put (λ j. x.slot < j) d xs more h.0, rises_put d xs h.1))

pub rises_told : (ds xs : List Data) → Rises xs → Rises (all_by_slot ds xs)
unfolding all_by_slot
rises_told [] xs h = h
rises_told (d ∷ ds) xs h = rises_told ds (by_slot d xs) (rises_put d xs h)

-- one more duty behind those that wait, for a slot above theirs
pub slots_behind : (P : ℕ → Type 0) (ys : List Duty) (y : Duty) → AllByRecursion P (duty_slots ys) → P y.slot → AllByRecursion P (duty_slots (ys ++ y ∷ []))
slots_behind P ys y h p =
    subst (AllByRecursion P) (sym (map_push (λ (z : Duty). z.slot) ys y)) (All-push P (duty_slots ys) y.slot h p)

pub ascends_behind : (ys : List Duty) (y : Duty) → Ascending (duty_slots ys) → AllByRecursion (λ k. k < y.slot) (duty_slots ys) → Ascending (duty_slots (ys ++ y ∷ []))
ascends_behind [] y h b = (tt, tt)
ascends_behind (z ∷ ys) y h b = (slots_behind (λ j. z.slot < j) ys y h.0 b.0, ascends_behind ys y h.1 b.1)

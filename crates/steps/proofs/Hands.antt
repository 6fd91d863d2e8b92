-- The duty at hand once the queue was looked at: the same as before, or else the first that wasn't ahead.
use Rattle.std.proofs.Common.{◌≡◌, ℕ, zero, suc, ◌<◌, ◌≤◌, true, false, ◌||◌, eqb, List, [], ◌∷◌, sym, refl, ap, ◌∙◌, ap₂, ⊎_elim, arith}
use Rattle.std.specs.List.{AllByRecursion}
use Rattle.std.proofs.lemmas.Bool.{ne_eqb, eqb-true, cases_Bool}
use Rattle.protocol.specs.Data.{pick, Data, Duty, first_of}
use Rattle.protocol.specs.Client.{has_slot, ahead_of, without, begun}
use Rattle.stored.specs.Stored.{Stored, with_queue}
use Rattle.keeper.specs.Ready.{Ascending, duty_slots}
use Rattle.keeper.specs.Step.{hand, learnt, start_or_wait, settle}
use Rattle.steps.specs.Queue.{upcoming, first_begun}
use Rattle.steps.proofs.Skipping.{settle_is, skipped_queue}

-- the queue that is written down does not matter
pub settle_queue : (ys zs : List Duty) (t : Stored) → settle ys (with_queue zs t) ≡ settle ys t
settle_queue ys zs t =
    settle_is ys (with_queue zs t) ∙ ap (λ (u : Stored). first_begun u.queue u) (skipped_queue ys zs t) ∙ sym (settle_is ys t)

-- being without one slot tells nothing of another
has_without : (j k : ℕ) (ds : List Data) → (k ≡ j → ⊥) → has_slot j (without k ds) ≡ has_slot j ds
unfolding has_slot without pick
has_without j k [] n = refl
has_without j k (d ∷ ds) n =
    let rest = has_without j k ds n in
    ⊎_elim
    (λ e.
    let same = eqb-true d.slot k e in
    ap (λ b. has_slot j (pick b (without k ds) (d ∷ without k ds))) e ∙ rest ∙ sym (ap (λ b. b || has_slot j ds) (ne_eqb d.slot j (λ q. n (sym same ∙ q)))))
    (λ e. ap (λ b. has_slot j (pick b (without k ds) (d ∷ without k ds))) e ∙ ap (λ b. eqb d.slot j || b) rest)
    (cases_Bool (eqb d.slot k))

upcoming_without : (k : ℕ) (ys : List Duty) (ds : List Data) → AllByRecursion (λ j. k < j) (duty_slots ys) → upcoming ys (without k ds) ≡ upcoming ys ds
unfolding upcoming
upcoming_without k [] ds h = refl
upcoming_without k (y ∷ ys) ds h =
    ap₂ (λ b u. pick b u (y ∷ [])) (has_without y.slot k ds (λ e. omega (arith, h.0))) (upcoming_without k ys ds h.1)

after_learnt : (es : List Data) (y : Duty) (ys : List Duty) (t : Stored) → AllByRecursion (λ j. y.slot < j) (duty_slots ys) → upcoming ys (learnt es y t).ahead ≡ upcoming ys t.ahead
unfolding learnt
after_learnt [] y ys t h = refl
after_learnt (e ∷ es) y ys t h = upcoming_without y.slot ys t.ahead h

same_learnt : (es : List Data) (y : Duty) (t : Stored) → ((learnt es y t).at_hand ≡ t.at_hand) × ((learnt es y t).active ≡ t.active) × ((learnt es y t).sizes ≡ t.sizes)
unfolding learnt
same_learnt [] y t = (refl, refl, refl)
same_learnt (e ∷ es) y t = (refl, refl, refl)

first_first : (w : ℕ) (y : Duty) (ys : List Duty) → 1 ≤ w → first_of 1 (first_of w (y ∷ ys)) ≡ y ∷ []
unfolding first_of
first_first zero y ys h = absurd (omega arith)
first_first (suc w) y ys h = refl

-- with none at hand
hand_begun : (y : Duty) (ys : List Duty) (t : Stored) → t.at_hand ≡ 0 → 1 ≤ t.sizes.waiting → hand (start_or_wait t.at_hand y ys t) ≡ y ∷ []
unfolding start_or_wait
hand_begun y ys t none some = ap (λ n. hand (start_or_wait n y ys t)) none ∙ first_first t.sizes.waiting y t.active some

pub hand_new : (ys : List Duty) (t : Stored) → t.at_hand ≡ 0 → 1 ≤ t.sizes.waiting → Ascending (duty_slots ys) → hand (settle ys t) ≡ upcoming ys t.ahead
unfolding settle upcoming pick first_of
hand_new [] t none some up = ap (λ n. first_of n t.active) none
hand_new (y ∷ ys) t none some up =
    let es : List Data = ahead_of y.slot t.ahead in
    let same = same_learnt es y t in
    let rest : hand (settle ys (learnt es y t)) ≡ upcoming ys t.ahead =
    hand_new ys (learnt es y t) (same.0 ∙ none) (omega (arith, ap (λ z. z.waiting) same.2)) up.1 ∙ after_learnt es y ys t up.0 in
    elim (has_slot y.slot t.ahead) as (λ b. hand (pick b (settle ys (learnt es y t)) (start_or_wait t.at_hand y ys t)) ≡ pick b (upcoming ys t.ahead) (y ∷ [])) [
      | true ↦ rest
      | false ↦ hand_begun y ys t none some
    ]

-- with one at hand
hand_waits : (h : ℕ) (y : Duty) (ys : List Duty) (t : Stored) → t.at_hand ≡ suc h → hand (start_or_wait t.at_hand y ys t) ≡ hand t
unfolding start_or_wait
hand_waits h y ys t one = ap (λ n. hand (start_or_wait n y ys t)) one

hand_stays : (h : ℕ) (ys : List Duty) (t : Stored) → t.at_hand ≡ suc h → hand (settle ys t) ≡ hand t
unfolding settle pick
hand_stays h [] t one = refl
hand_stays h (y ∷ ys) t one =
    let es : List Data = ahead_of y.slot t.ahead in
    let same = same_learnt es y t in
    let rest : hand (settle ys (learnt es y t)) ≡ hand t =
    hand_stays h ys (learnt es y t) (same.0 ∙ one) ∙ ap₂ first_of same.0 same.1 in
    elim (has_slot y.slot t.ahead) as (λ b. hand (pick b (settle ys (learnt es y t)) (start_or_wait t.at_hand y ys t)) ≡ hand t) [
      | true ↦ rest
      | false ↦ hand_waits h y ys t one
    ]

begun_same : (ys : List Duty) → begun ys ys ≡ []
unfolding begun
begun_same [] = refl
begun_same (y ∷ ys) = refl

begun_new : (ys : List Duty) → begun [] ys ≡ ys
unfolding begun
begun_new ys = refl

none_at_hand : (t : Stored) → t.at_hand ≡ 0 → hand t ≡ []
unfolding first_of
none_at_hand t e = ap (λ n. first_of n t.active) e

pub picked_first : {A : Type 0} (h : ℕ) (x y : A) → h ≡ 0 → pick (eqb h 0) x y ≡ x
unfolding pick
picked_first h x y e = ap (λ n. pick (eqb n 0) x y) e

pub picked_second : {A : Type 0} (h : ℕ) (x y : A) → 0 < h → pick (eqb h 0) x y ≡ y
unfolding pick
picked_second h x y some = ap (λ b. pick b x y) (ne_eqb h 0 (λ q. omega arith))

-- what is begun
pub begun_row : (ys : List Duty) (t : Stored) → 1 ≤ t.sizes.waiting → Ascending (duty_slots ys) → begun (hand t) (hand (settle ys t)) ≡ pick (eqb t.at_hand 0) (upcoming ys t.ahead) []
begun_row ys t some up = by_hand t.at_hand refl
  where
    by_hand : (h : ℕ) → t.at_hand ≡ h → begun (hand t) (hand (settle ys t)) ≡ pick (eqb t.at_hand 0) (upcoming ys t.ahead) []
    by_hand zero e = ap (λ xs. begun xs (hand (settle ys t))) (none_at_hand t e) ∙ begun_new (hand (settle ys t)) ∙ hand_new ys t e some up ∙ sym (picked_first t.at_hand (upcoming ys t.ahead) [] e)
    by_hand (suc h) e = ap (begun (hand t)) (hand_stays h ys t e) ∙ begun_same (hand t) ∙ sym (picked_second t.at_hand (upcoming ys t.ahead) [] (omega arith))

-- Those at the front of the queue that are ahead: what going on without them leaves, and that looking at the queue is that and then a beginning.
use Rattle.std.proofs.Common.{◌≡◌, ℕ, zero, suc, true, false, List, [], ◌∷◌, sym, refl, ap, ◌∙◌}
use Rattle.std.specs.List.{AllByRecursion}
use Rattle.protocol.specs.Data.{pick, Data, Duty}
use Rattle.protocol.specs.Client.{has_slot, ahead_of}
use Rattle.safety.proofs.Picks.{pick_both}
use Rattle.stored.specs.Stored.{Stored, with_queue}
use Rattle.keeper.specs.Step.{learnt, start_or_wait, settle}
use Rattle.steps.specs.Queue.{skipped, first_begun}

-- the queue that is written down does not matter
learnt_queue : (ds : List Data) (y : Duty) (zs : List Duty) (t : Stored) → learnt ds y (with_queue zs t) ≡ with_queue zs (learnt ds y t)
unfolding learnt
learnt_queue [] y zs t = refl
learnt_queue (d ∷ ds) y zs t = refl

pub skipped_queue : (ys zs : List Duty) (t : Stored) → skipped ys (with_queue zs t) ≡ skipped ys t
unfolding skipped
skipped_queue [] zs t = refl
skipped_queue (y ∷ ys) zs t =
    let ds : List Data = ahead_of y.slot t.ahead in
    ap (λ u. pick (has_slot y.slot t.ahead) u (with_queue (y ∷ ys) t)) (ap (skipped ys) (learnt_queue ds y zs t) ∙ skipped_queue ys zs (learnt ds y t))

-- a first one that is ahead goes; one that isn't stays, with all behind it
pub skip_one : (y : Duty) (ys : List Duty) (d : Data) (t : Stored) → t.queue ≡ y ∷ ys → has_slot y.slot t.ahead ≡ true → ahead_of y.slot t.ahead ≡ d ∷ [] → skipped t.queue t ≡ skipped ys (with_queue ys (learnt (d ∷ []) y t))
unfolding skipped pick
skip_one y ys d t q there is =
    ap (λ zs. skipped zs t) q
    ∙ ap (λ b. pick b (skipped ys (learnt (ahead_of y.slot t.ahead) y t)) (with_queue (y ∷ ys) t)) there
    ∙ ap (λ ds. skipped ys (learnt ds y t)) is
    ∙ sym (skipped_queue ys ys (learnt (d ∷ []) y t))

pub skip_none : (y : Duty) (ys : List Duty) (t : Stored) → t.queue ≡ y ∷ ys → has_slot y.slot t.ahead ≡ false → skipped t.queue t ≡ t
unfolding skipped pick
skip_none y ys t q gone =
    ap (λ zs. skipped zs t) q
    ∙ ap (λ b. pick b (skipped ys (learnt (ahead_of y.slot t.ahead) y t)) (with_queue (y ∷ ys) t)) gone
    ∙ ap (λ zs. with_queue zs t) (sym q)

pub skip_empty : (t : Stored) → t.queue ≡ [] → skipped t.queue t ≡ t
unfolding skipped
skip_empty t q = ap (λ zs. skipped zs t) q ∙ ap (λ zs. with_queue zs t) (sym q)

-- looking at the queue is this, and then the first may be begun
begin_first : Stored → Stored
begin_first t = first_begun t.queue t

start_queue : (h : ℕ) (y : Duty) (ys zs : List Duty) (t : Stored) → start_or_wait h y ys t ≡ start_or_wait h y ys (with_queue zs t)
unfolding start_or_wait
start_queue zero y ys zs t = refl
start_queue (suc h) y ys zs t = refl

pub settle_is : (ys : List Duty) (t : Stored) → settle ys t ≡ first_begun (skipped ys t).queue (skipped ys t)
unfolding settle skipped first_begun begin_first pick
settle_is [] t = refl
settle_is (y ∷ ys) t =
    let rest : settle ys (learnt (ahead_of y.slot t.ahead) y t) ≡ begin_first (skipped ys (learnt (ahead_of y.slot t.ahead) y t)) =
    settle_is ys (learnt (ahead_of y.slot t.ahead) y t) in
    elim (has_slot y.slot t.ahead) as (λ b. pick b (settle ys (learnt (ahead_of y.slot t.ahead) y t)) (start_or_wait t.at_hand y ys t) ≡ begin_first (pick b (skipped ys (learnt (ahead_of y.slot t.ahead) y t)) (with_queue (y ∷ ys) t))) [
      | true ↦ rest
      | false ↦ start_queue t.at_hand y ys (y ∷ ys) t
    ]

-- what it leaves as it was, and of the queue only some
same_learnt : (ds : List Data) (y : Duty) (t : Stored) → ((learnt ds y t).active ≡ t.active) × ((learnt ds y t).at_hand ≡ t.at_hand)
unfolding learnt
same_learnt [] y t = (refl, refl)
same_learnt (d ∷ ds) y t = (refl, refl)

pub skipped_keeps : (ys : List Duty) (t : Stored) → ((skipped ys t).active ≡ t.active) × ((skipped ys t).at_hand ≡ t.at_hand)
unfolding skipped
skipped_keeps [] t = (refl, refl)
skipped_keeps (y ∷ ys) t =
    let ds : List Data = ahead_of y.slot t.ahead in
    let rest = skipped_keeps ys (learnt ds y t) in
    let one = same_learnt ds y t in
    pick_both (has_slot y.slot t.ahead) (skipped ys (learnt ds y t)) (with_queue (y ∷ ys) t) (λ (u : Stored). (u.active ≡ t.active) × (u.at_hand ≡ t.at_hand)) (λ _. (rest.0 ∙ one.0, rest.1 ∙ one.1)) (λ _. (refl, refl))

pub skipped_all : (P : Duty → Type 0) (ys : List Duty) (t : Stored) → AllByRecursion P ys → AllByRecursion P (skipped ys t).queue
unfolding skipped
skipped_all P [] t h = tt
skipped_all P (y ∷ ys) t h =
    let ds : List Data = ahead_of y.slot t.ahead in
    pick_both (has_slot y.slot t.ahead) (skipped ys (learnt ds y t)) (with_queue (y ∷ ys) t) (λ (u : Stored). AllByRecursion P u.queue) (λ _. skipped_all P ys (learnt ds y t) h.1) (λ _. h)

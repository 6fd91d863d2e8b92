-- Whatever came, a client's numbers fit, and its duties that wait and what is ahead are in the order of slots.
use Rattle.std.proofs.Common.{◌≡◌, ℕ, suc, ◌<◌, ◌≤◌, Bool, List, [], ◌∷◌, arith}
use Rattle.std.specs.List.{AllByRecursion}
use Rattle.std.proofs.ByRecursion.{All-weaker}
use Rattle.std.proofs.lemmas.Bool.{ltb-false}
use Rattle.protocol.specs.Data.{Data, Duty}
use Rattle.protocol.specs.Client.{Event, duty, Limits, slots, ahead_of, good_fields, event_number}
use Rattle.safety.proofs.Order.{not_before}
use Rattle.stored.specs.Stored.{Stored, with_queue}
use Rattle.keeper.specs.Step.{learnt, still_after, refusal, refused_by, told, block_kept}
use Rattle.keeper.specs.Keeper.{stored_after}
use Rattle.keeper.specs.Ready.{Ascending, duty_slots, AlwaysReady}
use Rattle.keeper.proofs.SizesLasting.{Lasting, step_lasts, given}
use Rattle.keeper.proofs.FittingMemory.{memory_holds}
use Rattle.keeper.proofs.ReadyLists.{Rises, rises_without, rises_still, rises_first, rises_told, slots_behind, ascends_behind}

-- the duties that wait ascend and are below the next one, and what is ahead ascends
record InOrder (waiting : List Duty) (after : ℕ) (shown : List Data) : Type 0 where
  queue : Ascending (duty_slots waiting)
  given : AllByRecursion (λ k. k < after) (duty_slots waiting)
  ahead : Rises shown

abbrev Ordered : Stored → Type 0
Ordered t = InOrder t.queue t.after t.ahead

-- a duty that is taken is not before the last one given
late : (can : ℕ → Bool) (y : Duty) (t : Stored) → refusal can t (duty y) ≡ 0 → t.after ≤ y.slot
unfolding refused_by good_fields event_number
late can y t r = ltb-false y.slot t.after (not_before _ _ _ r)

-- the parts of a step
learnt_ordered : (ds : List Data) (y : Duty) (t : Stored) → Ordered t → Ordered (learnt ds y t)
unfolding learnt
learnt_ordered [] y t o = o
learnt_ordered (d ∷ ds) y t o = record { queue = o.queue; given = o.given; ahead = rises_without y.slot t.ahead o.ahead }

given_ordered : (y : Duty) (t : Stored) → t.after ≤ y.slot → Ordered t → Ordered (given y t)
given_ordered y t le o =
    let upto : (n : ℕ) → t.after ≤ n → AllByRecursion (λ k. k < n) (duty_slots t.queue) =
    λ n h. All-weaker (λ k. k < t.after) (λ k. k < n) (λ k b. omega arith) (duty_slots t.queue) o.given in
    record {
      queue = ascends_behind t.queue y o.queue (upto y.slot le);
      given = slots_behind (λ k. k < suc y.slot) t.queue y (upto (suc y.slot) (omega arith)) (omega arith);
      ahead = o.ahead;
    }

shown_ordered : (ds : List Data) (t : Stored) → Ordered t → Ordered (block_kept (told t ds) t)
shown_ordered ds t o =
    let all : List Data = told t ds in
    record {
      queue = o.queue;
      given = o.given;
      ahead = rises_first t.sizes.waiting (still_after t.latest all) (rises_still t.latest all (rises_told ds t.ahead o.ahead));
    }

fewer_ordered : (y : Duty) (ys : List Duty) (t : Stored) → Ordered (with_queue (y ∷ ys) t) → Ordered (with_queue ys t)
fewer_ordered y ys t o = record { queue = o.queue.1; given = o.given.1; ahead = o.ahead }

order_lasts : (can : ℕ → Bool) → Lasting can (λ e. Unit {0}) Ordered
order_lasts can =
    record {
      learns = λ y ys t o. learnt_ordered (ahead_of y.slot t.ahead) y (with_queue ys t) (fewer_ordered y ys t o);
      starts = λ y ys t o. fewer_ordered y ys t o;
      takes = λ y t e r o. given_ordered y t (late can y t r) o;
      signs = λ k d y t e m o. o;
      hears = λ x t e o. o;
      shows = λ ds t e o. shown_ordered ds t o;
      goes = λ ds d t e m o. shown_ordered ds t o;
    }

always_ordered : (can : ℕ → Bool) (l : Limits) (es : List Event) → Ordered (stored_after can l es)
unfolding stored_after slots
always_ordered can l [] = record { queue = tt; given = tt; ahead = tt }
always_ordered can l (e ∷ es) =
    step_lasts can (λ x. Unit {0}) Ordered (order_lasts can) e (stored_after can l es) tt (always_ordered can l es)

pub always_ready : AlwaysReady
always_ready can l es g r =
    let o = always_ordered can l es in
    record { fits = (memory_holds can l es g r).1; queue = o.queue; given = o.given; ahead = o.ahead }

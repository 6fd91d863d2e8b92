-- After any events the front of a slice holds the stored client, and what a call does with it is what the keeper does.
use Rattle.std.proofs.Common.{◌≡◌, ℕ, ◌<◌, true, List, ◌∷◌, ◌++◌, length, take, drop, Ok, Err, sym, refl, ap, ◌∙◌, subst, ap₂, take_at, drop_at}
use Rattle.std.proofs.lemmas.Bool.{and_from}
use Rattle.protocol.specs.Data.{Data}
use Rattle.protocol.specs.Client.{Event, Answer, Limits, state, answer, lets_now}
use Rattle.protocol.specs.World.{memory}
use Rattle.protocol.specs.Promise.{readable, all_readable, Right}
use Rattle.wire.specs.Bytes.{AllBytes}
use Rattle.wire.specs.Fixed.{Written, Unwritten}
use Rattle.wire.specs.declared.fixed.Short.{Short}
use Rattle.events.specs.Layout.{parse, answer_bytes}
use Rattle.events.proofs.EventLaws.{read_readable}
use Rattle.stored.specs.Stored.{Sizes, Stored, sizes_of}
use Rattle.stored.specs.Numbers.{encode, decode, needed, sizes_in}
use Rattle.stored.specs.Kept.{Held}
use Rattle.stored.proofs.Regions.{reads_back, has_its_size}
use Rattle.layout.specs.Layout.{plausible}
use Rattle.layout.proofs.Passing.{memory_is_plausible, front}
use Rattle.keeper.specs.Keeper.{stored_after}
use Rattle.keeper.specs.Ready.{Ready}
use Rattle.keeper.specs.Step.{step, reply, allows}
use Rattle.keeper.proofs.FittingMemory.{memory_holds}
use Rattle.keeper.proofs.Promises.{keeps_its_promises}
use Rattle.keeper.proofs.Ready.{always_ready}
use Rattle.keeper.proofs.Simulation.{always_stands}
use Rattle.stored.specs.Stands.{StandsFor}
use Rattle.steps.specs.Served.{Served}
use Rattle.client_in_memory.specs.Calls.{stage, kept_memory, After, Took}
use Rattle.client_in_memory.specs.declared.errors.CallError.TheVariants.{ShortAnswer}

module _ (l : Limits) (es : List Event) (xs : List ℕ) (a : After l es xs) where
  -- the stored client, and what always holds of it
  pub client : Stored
  client = stored_after stage l es

  m : List ℕ
  m = kept_memory l es

  held : Held (sizes_of l) m client
  unfolding client m
  held = (memory_holds stage l es a.good a.readable).0

  ready : Ready client
  unfolding client
  ready = always_ready stage l es a.good a.readable

  long : length m ≡ needed (sizes_of l)
  unfolding client m
  long = ap length held.is ∙ (has_its_size client held.well).0 ∙ ap needed held.sized

  read : decode m ≡ client
  unfolding client m
  read = ap decode held.is ∙ reads_back client held.well

  -- the slice may be a client's, and says its sizes
  whole : xs ≡ encode client ++ drop (length m) xs
  unfolding m
  whole = a.front ∙ ap (λ ys. ys ++ drop (length m) xs) held.is

  pub passes : plausible xs ≡ true
  passes = ap plausible whole ∙ memory_is_plausible client (drop (length m) xs) held.well

  says_sizes : sizes_in xs ≡ sizes_of l
  says_sizes = ap sizes_in whole ∙ (front client (drop (length m) xs)).1 ∙ held.sized

  -- the part of it that is lent, for a layout that was read from it
  module _ (z : Sizes) (size : ℕ) (sized : z ≡ sizes_in xs) (counted : size ≡ needed z) where
    same : z ≡ sizes_of l
    same = sized ∙ says_sizes

    size_is : size ≡ length m
    size_is = counted ∙ ap needed same ∙ sym long

    lent : take size xs ≡ m
    unfolding m
    lent =
        ap₂ take size_is a.front ∙ take_at m (drop (length m) xs) (length m) refl

    pub held_part : Held z (take size xs) client
    held_part = subst (λ (y : Sizes). Held y (take size xs) client) (sym same) (subst (λ (ys : List ℕ). Held (sizes_of l) ys client) (sym lent) held)

    -- the same, as it is lent to be read
    pub held_view : (ys : List ℕ) → ys ≡ take size xs → Held z ys client
    held_view ys is = subst (λ (vs : List ℕ). Held z vs client) (sym is) held_part

    -- an event's bytes, as a call is given them
    module _ (event out out' part : List ℕ) (small : AllBytes event) (short : length event < 18446744073709551616) where
      e : Event
      e = parse event

      readable_now : all_readable (parse event ∷ es) ≡ true
      unfolding all_readable
      readable_now = and_from (readable (parse event)) (all_readable es) (read_readable event small short) a.readable

      replies : reply stage client (parse event) ≡ answer l (state l es) (parse event)
      unfolding Right m
      replies =
          ap (λ (t : Stored). reply stage t (parse event)) (sym read) ∙ ((keeps_its_promises stage).0 l es (parse event) a.good readable_now).0

      next : encode (step stage client (parse event)) ≡ kept_memory l (parse event ∷ es)
      unfolding memory m
      next = ap (λ (t : Stored). encode (step stage t (parse event))) (sym read)

      rest_is : (ys : List ℕ) → (ys ++ drop size xs) ≡ ys ++ drop (length m) xs
      rest_is ys = ap (λ n. ys ++ drop n xs) size_is

      after_is : (ys : List ℕ) → ys ≡ kept_memory l (parse event ∷ es) → (ys ++ drop size xs) ≡ kept_memory l (parse event ∷ es) ++ drop (length m) xs
      after_is ys is = rest_is ys ∙ ap (λ v. v ++ drop (length m) xs) is

      again : (ys : List ℕ) → ys ≡ kept_memory l (parse event ∷ es) ++ drop (length m) xs → After l (parse event ∷ es) ys
      unfolding m
      again ys is =
          let m' : List ℕ = kept_memory l (parse event ∷ es) in
          record {
            good = a.good;
            readable = readable_now;
            front = is ∙ ap (λ v. m' ++ v) (sym (ap (drop (length m')) is ∙ drop_at m' (drop (length m) xs) (length m') refl));
          }

      -- it was taken
      pub took_it : (n : ℕ) → Served z stage (parse event) (take size xs) part out out' (Ok n) → Took l es event xs ((part ++ drop size xs)) out out' (Ok n)
      unfolding m
      took_it n served =
          let s = served client held_part ready in
          let after = after_is part (s.leaves.is ∙ next) in (
            subst (λ (x : Answer). Written (length (answer_bytes x)) (answer_bytes x) out out' n) replies s.says,
            after,
            again (part ++ drop size xs) after,
          )

      -- its answer has no room
      pub no_room : (v : Short) → Served z stage (parse event) (take size xs) part out out' (Err v) → Took l es event xs ((part ++ drop size xs)) out out' (Err ShortAnswer)
      unfolding m
      no_room v served =
          let s = served client held_part ready in (
            subst (λ (x : Answer). Unwritten (length (answer_bytes x)) out out') replies s.says,
            rest_is part ∙ ap (λ ys. ys ++ drop (length m) xs) (s.leaves ∙ lent) ∙ sym a.front,
          )

  -- what is let, and what is remembered
  stands : StandsFor l (state l es) client
  unfolding client
  stands = always_stands stage l a.good.5 a.good.7 es

  pub lets : (k : ℕ) (d : Data) → allows client k d ≡ lets_now (state l es) k d
  lets k d = ap (λ (t : Stored). allows t k d) stands.is

  pub remembers : client.past ≡ (state l es).past
  remembers = ap (λ (t : Stored). t.past) stands.is

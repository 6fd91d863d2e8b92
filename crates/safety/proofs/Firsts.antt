-- A right keeper's first events: a duty, what is decided for it, and a second duty. What it says and lets is what the definitions say of these states, and so it
-- signs. Assumes nothing.
use Rattle.std.proofs.Common.{◌≡◌, ℕ, zero, suc, ◌<◌, ◌≤◌, Bool, true, List, [], ◌∷◌, refl, ap, ◌∙◌, arith}
use Rattle.std.proofs.lemmas.Bool.{lt-ltb, le-ltb, eq-eqb, and_from}
use Rattle.protocol.specs.Data.{pick, Data, past_of, Duty, into, first_of}
use Rattle.protocol.specs.Client.{Event, duty, decided, resend, does, Limits, State, new_client, share_of, event_number, has_slot, begin_or_wait, next, begun, own_with, good_fields, turned_by, by_decided, sends_decided, stepped, begun_if, doing, answer, after, state, lets_now}
use Rattle.protocol.specs.World.{Keeper, sends}
use Rattle.protocol.specs.Promise.{eight, carried, readable, all_readable, Right}
use Rattle.safety.specs.Weaker.{RightClient, says, lets, Takeable, ItSigns, ItAlwaysSigns}

-- of a list of one, the first n are that one
first_one : {A : Type 0} (n : ℕ) (x : A) → 1 ≤ n → first_of n (x ∷ []) ≡ x ∷ []
unfolding first_of
first_one zero x le = absurd (omega arith)
first_one (suc zero) x le = refl
first_one (suc (suc n)) x le = refl

-- a client's state when its first duty is begun; when that is signed; and when a second one is begun then
abbrev pub begun_first : Duty → State
begun_first y = record { current = y ∷ []; latest = y ∷ []; queue = []; after = suc y.slot; past = []; active = y ∷ []; ahead = []; own = []; got = [] }

abbrev pub signed_first : Limits → Duty → Data → State
signed_first l y d =
    record { current = []; latest = y ∷ []; queue = []; after = suc y.slot; past = past_of d ∷ []; active = y ∷ []; ahead = []; own = share_of l y d ∷ []; got = [] }

abbrev pub begun_second : Limits → Duty → Data → Duty → State
begun_second l y d z =
    record { current = z ∷ []; latest = z ∷ []; queue = []; after = suc z.slot; past = past_of d ∷ []; active = first_of l.waiting (z ∷ (y ∷ [])); ahead = []; own = share_of l y d ∷ []; got = [] }

-- bytes can carry these events
module _ (y : Duty) (t : Takeable y) where
  pub slot_read : eight y.slot ≡ true
  slot_read = lt-ltb y.slot 18446744073709551616 (omega (arith, t.1))

  pub duty_read : (es : List Event) → all_readable es ≡ true → all_readable (duty y ∷ es) ≡ true
  unfolding all_readable
  duty_read es r = and_from (readable (duty y)) (all_readable es) t.0 r

  pub decided_read : (d : Data) → carried d ≡ true → (es : List Event) → all_readable es ≡ true → all_readable (decided y.slot d ∷ es) ≡ true
  unfolding all_readable readable
  decided_read d cd es r = and_from (readable (decided y.slot d)) (all_readable es) (and_from (eight y.slot) (carried d) slot_read cd) r

  pub first_read : all_readable (duty y ∷ []) ≡ true
  unfolding all_readable
  first_read = duty_read [] refl

  pub signed_read : (d : Data) → carried d ≡ true → all_readable (decided y.slot d ∷ (duty y ∷ [])) ≡ true
  signed_read d cd = decided_read d cd (duty y ∷ []) first_read

module _ (can : ℕ → Bool) (f : Keeper) (l : Limits) (c : RightClient can f l) where
  -- what it says, and lets, is what the definitions say of the state
  pub says_as : (es : List Event) (e : Event) (s : State) → all_readable (e ∷ es) ≡ true → state l es ≡ s → says f l es e ≡ answer l s e
  unfolding Right
  says_as es e s r h = (c.right l es e c.limits r).0 ∙ ap (λ (t : State). answer l t e) h

  pub lets_as : (es : List Event) (s : State) (k : ℕ) (d : Data) → all_readable es ≡ true → eight k ≡ true → carried d ≡ true → state l es ≡ s → lets f l es k d ≡ lets_now s k d
  unfolding Right all_readable readable
  lets_as es s k d r ek cd h = (c.right l es resend c.limits r).1 k d ek cd ∙ ap (λ (t : State). lets_now t k d) h

  -- it can do what the keeper can
  pub can_duty : l.events_can 0 ≡ true
  can_duty = c.limits.7 0 ∙ c.duties

  pub can_decided : l.events_can 1 ≡ true
  can_decided = c.limits.7 1 ∙ c.decidings

  pub can_share : l.events_can 2 ≡ true
  can_share = c.limits.7 2 ∙ c.shares

  module _ (y : Duty) (t : Takeable y) where
    -- its first duty is begun
    pub first_state : state l (duty y ∷ []) ≡ begun_first y
    unfolding state stepped turned_by good_fields event_number next begin_or_wait pick has_slot
    first_state = rw (can_duty, lt-ltb (suc y.slot) 18446744073709551616 t.1, le-ltb y.slot 0 (omega arith), lt-ltb 0 l.waiting c.limits.5, first_one l.waiting y c.limits.5)

    module _ (d : Data) (cd : carried d ≡ true) where
      -- then signed
      done : after l (begun_first y) (decided y.slot d) ≡ signed_first l y d
      unfolding stepped turned_by good_fields event_number next by_decided own_with into pick
      done =
          rw (can_decided, eq-eqb y.slot y.slot refl, first_one l.waiting (share_of l y d) c.limits.5, first_one l.kept (past_of d) c.limits.3)

      pub signed_state : state l (decided y.slot d ∷ (duty y ∷ [])) ≡ signed_first l y d
      unfolding state
      signed_state = ap (λ (s : State). after l s (decided y.slot d)) first_state ∙ done

      module _ (z : Duty) (u : Takeable z) (later : y.slot < z.slot) where
        -- and then a second one is begun
        given : after l (signed_first l y d) (duty z) ≡ begun_second l y d z
        unfolding stepped turned_by good_fields event_number next begin_or_wait pick has_slot first_of
        given =
            rw (can_duty, lt-ltb (suc z.slot) 18446744073709551616 u.1, le-ltb z.slot (suc y.slot) (omega arith), lt-ltb 0 l.waiting c.limits.5)

        pub second_state : state l (duty z ∷ (decided y.slot d ∷ (duty y ∷ []))) ≡ begun_second l y d z
        unfolding state
        second_state = ap (λ (s : State). after l s (duty z)) signed_state ∙ given

  -- what it says to a first duty, and to what is decided for it
  begins : (y : Duty) → Takeable y → says f l [] (duty y) ≡ does [] [] (y ∷ []) []
  unfolding state doing stepped turned_by good_fields event_number next begin_or_wait begun pick has_slot
  begins y t =
      says_as [] (duty y) new_client (first_read y t) refl
      ∙ rw (can_duty, lt-ltb (suc y.slot) 18446744073709551616 t.1, le-ltb y.slot 0 (omega arith), lt-ltb 0 l.waiting c.limits.5)

  signs : (y : Duty) → Takeable y → (d : Data) → carried d ≡ true → says f l (duty y ∷ []) (decided y.slot d) ≡ does (share_of l y d ∷ []) [] [] []
  unfolding doing stepped turned_by good_fields event_number next by_decided sends_decided begun_if pick
  signs y t d cd = says_as (duty y ∷ []) (decided y.slot d) (begun_first y) (signed_read y t d cd) (first_state y t) ∙ rw (can_decided, eq-eqb y.slot y.slot refl)

  -- the duty at hand is signed, whatever else there is
  signs_now : (y : Duty) (d : Data) (s : State) → s.current ≡ y ∷ [] → sends (answer l s (decided y.slot d)) ≡ share_of l y d ∷ []
  unfolding sends doing turned_by good_fields event_number sends_decided pick
  signs_now y d s h = rw (can_decided, h, eq-eqb y.slot y.slot refl)

pub it_signs : ItSigns
it_signs can f l c y d t cd = (begins can f l c y t, signs can f l c y t d cd)

pub it_always_signs : ItAlwaysSigns
it_always_signs can f l c es y d r h = ap sends (says_as can f l c es (decided y.slot d) (state l es) r refl) ∙ signs_now can f l c y d (state l es) h

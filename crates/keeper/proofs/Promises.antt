-- The keeper keeps its promises: its memory is read back as the stored client, which does what the definitions say. Assumes nothing.
use Rattle.std.proofs.Common.{◌≡◌, ℕ, ◌<◌, Bool, true, eqb, List, ◌∷◌, sym, refl, ap, ◌∙◌, subst, arith}
use Rattle.std.proofs.lemmas.Bool.{eqb-true, and_parts}
use Rattle.protocol.specs.Client.{Event, Limits, state}
use Rattle.protocol.specs.World.{memory}
use Rattle.protocol.specs.Promise.{readable, all_readable, GoodLimits, Right, RefusalKeeps}
use Rattle.safety.proofs.Picks.{pick_both}
use Rattle.safety.proofs.Theorems.{right_is_safe}
use Rattle.stored.specs.Stored.{Stored}
use Rattle.stored.specs.Numbers.{encode, decode}
use Rattle.stored.proofs.Regions.{reads_back}
use Rattle.stored.specs.Stands.{StandsFor}
use Rattle.keeper.specs.Step.{moved, refusal, step, reply, allows}
use Rattle.keeper.specs.Keeper.{keeper, stored_after, KeepsItsPromises}
use Rattle.keeper.proofs.FittingMemory.{memory_holds, stays_small}
use Rattle.keeper.proofs.Lasting.{sound}
use Rattle.keeper.proofs.Simulation.{Does, does_as, allows_as, came, always_stands}

-- an event that is turned away leaves the stored client
stays : (can : ℕ → Bool) (t : Stored) (e : Event) → 0 < refusal can t e → step can t e ≡ t
stays can t e some =
    pick_both (eqb (refusal can t e) 0) (moved t e) t (λ u. u ≡ t) (λ z. absurd (omega (arith, eqb-true (refusal can t e) 0 z))) (λ _. refl)

-- what came before was readable too
earlier : (e : Event) (es : List Event) → all_readable (e ∷ es) ≡ true → all_readable es ≡ true
unfolding all_readable
earlier e es h = (and_parts (readable e) (all_readable es) h).1

module _ (can : ℕ → Bool) (l : Limits) (es : List Event) (good : GoodLimits can l) where
  -- the stored client after any events does what the definitions say
  stands : StandsFor l (state l es) (stored_after can l es)
  stands = always_stands can l good.5 good.7 es

  does_next : (e : Event) → Does can l (state l es) (stored_after can l es) e
  does_next e = does_as can l good.5 good.7 (state l es) (stored_after can l es) (sound l es) (came l es) stands e

  -- and memory is read back as that
  read : all_readable es ≡ true → decode (memory (keeper can) l es) ≡ stored_after can l es
  read r = let h = (memory_holds can l es good r).0 in ap decode h.is ∙ reads_back (stored_after can l es) h.well

-- it does what the definitions say
right : (can : ℕ → Bool) → Right can (keeper can)
unfolding Right
right can l es e good r =
    let is = read can l es good (earlier e es r) in (
      ap (λ (t : Stored). reply can t e) is ∙ (does_next can l es good e).replies,
      λ k d small whole. ap (λ (t : Stored). allows t k d) is ∙ allows_as (stands can l es good) k d,
    )

-- what is turned away changes nothing
refusal_keeps : (can : ℕ → Bool) → RefusalKeeps can (keeper can)
unfolding RefusalKeeps
refusal_keeps can l es e good r some =
    let before = earlier e es r in
    ap (λ (t : Stored). encode (step can t e)) (read can l es good before)
    ∙ ap encode (stays can (stored_after can l es) e (subst (λ n. 0 < n) (sym (does_next can l es good e).refuses) some))
    ∙ sym (memory_holds can l es good before).0.is

-- THE MAIN PROMISE
pub keeps_its_promises : KeepsItsPromises
keeps_its_promises can = (right can, refusal_keeps can, stays_small can, right_is_safe can (keeper can) (right can))

-- An event is served: it is turned away with nothing changed, or taken once its answer is written.
use Rattle.std.proofs.Common.{◌≡◌, ℕ, ◌<◌, Bool, false, eqb, List, length, Ok, Err, Result, sym, refl, ap, ◌∙◌, subst, arith}
use Rattle.std.proofs.lemmas.Bool.{eq-eqb, ne_eqb}
use Rattle.protocol.specs.Data.{pick}
use Rattle.protocol.specs.Client.{Event, Answer, refused, place}
use Rattle.wire.specs.Fixed.{Written, Unwritten}
use Rattle.wire.specs.declared.fixed.Short.{Short}
use Rattle.events.specs.Layout.{answer_bytes}
use Rattle.stored.specs.Stored.{Sizes, Stored}
use Rattle.stored.specs.Kept.{Held}
use Rattle.layout.specs.Layout.{sizes}
use Rattle.layout.specs.declared.layout.Layout.{Layout}
use Rattle.layout.specs.declared.memory.Memory.{Memory}
use Rattle.keeper.specs.Step.{refusal, moved, done, step, reply}
use Rattle.keeper.specs.Ready.{Ready}
use Rattle.steps.specs.Served.{Writes, Leaves, Serves, Step}

-- a memory whose layout stays holds what it holds by the layout that it had
pub held_by : (l l' : Layout) → l' ≡ l → (xs : List ℕ) (t : Stored) → Held (sizes l') xs t → Held (sizes l) xs t
held_by l l' e xs t h = subst (λ (k : Layout). Held (sizes k) xs t) e h

module _ (z : Sizes) (can : ℕ → Bool) (e : Event) (before out out' : List ℕ) (t : Stored) where
  -- turned away by a number, at a place
  serves_refused_at : (r : Result ℕ Short) (n p : ℕ) → Held z before t → 0 < n → refusal can t e ≡ n → place e n ≡ p → Writes (refused n p) out out' r → Serves z can e before before out out' r t
  unfolding pick
  serves_refused_at r n p h some is at_p w =
      let off : eqb (refusal can t e) 0 ≡ false = ne_eqb (refusal can t e) 0 (λ v. omega arith) in
      let says : reply can t e ≡ refused n p =
      ap (λ b. pick b (done can t e) (refused (refusal can t e) (place e (refusal can t e)))) off
      ∙ ap (λ k. refused k (place e k)) is
      ∙ ap (refused n) at_p in
      let stays : step can t e ≡ t = ap (λ b. pick b (moved t e) t) off in
      record {
        says = subst (λ (a : Answer). Writes a out out' r) (sym says) w;
        leaves = by_result r (subst (Held z before) (sym stays) h);
      }
    where
      by_result : (r : Result ℕ Short) → Held z before (step can t e) → Leaves z before before (step can t e) r
      by_result (Ok k) h = h
      by_result (Err s) h = refl

  -- taken
  module _ (a : Answer) (taken : refusal can t e ≡ 0) (says : done can t e ≡ a) where
    reply_is : reply can t e ≡ a
    unfolding pick
    reply_is = ap (λ b. pick b (done can t e) (refused (refusal can t e) (place e (refusal can t e)))) (eq-eqb (refusal can t e) 0 taken) ∙ says

    step_is : step can t e ≡ moved t e
    unfolding pick
    step_is = ap (λ b. pick b (moved t e) t) (eq-eqb (refusal can t e) 0 taken)

    pub serves_done : (after : List ℕ) (n : ℕ) → Written (length (answer_bytes a)) (answer_bytes a) out out' n → Held z after (moved t e) → Serves z can e before after out out' (Ok n) t
    serves_done after n w h =
        record {
          says = subst (λ (x : Answer). Written (length (answer_bytes x)) (answer_bytes x) out out' n) (sym reply_is) w;
          leaves = subst (Held z after) (sym step_is) h;
        }

    pub serves_unwritten : (s : Short) → Unwritten (length (answer_bytes a)) out out' → Serves z can e before before out out' (Err s) t
    serves_unwritten s w =
        record { says = subst (λ (x : Answer). Unwritten (length (answer_bytes x)) out out') (sym reply_is) w; leaves = refl }

    pub serves_failed : (s : Short) (r : Result ℕ Short) → r ≡ Err s → Unwritten (length (answer_bytes a)) out out' → Serves z can e before before out out' r t
    serves_failed s r is w =
        subst (λ (q : Result ℕ Short). Serves z can e before before out out' q t) (sym is) (serves_unwritten s w)

    -- nothing changes, whether or not the answer has room
    pub serves_still : (r : Result ℕ Short) → Held z before (moved t e) → Writes a out out' r → Serves z can e before before out out' r t
    serves_still (Ok n) h w = serves_done before n w h
    serves_still (Err s) h w = serves_unwritten s w

-- the same event by another name
pub step_by : {can : ℕ → Bool} {e e' : Event} {before after : Memory} {out out' : List ℕ} {r : Result ℕ Short} → e ≡ e' → Step can e before after out out' r → Step can e' before after out out' r
step_by {can} {e} {e'} {before} {after} {out} {out'} {r} is s = subst (λ (x : Event). Step can x before after out out' r) is s

-- an event is turned away by a number, at a place
pub step_refused : (can : ℕ → Bool) (e : Event) (n p : ℕ) {memory : Memory} {out out' : List ℕ} {r : Result ℕ Short} → 0 < n → ((t : Stored) → Held (sizes memory.layout) memory.numbers.now t → Ready t → refusal can t e ≡ n) → place e n ≡ p → Writes (refused n p) out out' r → Step can e memory memory out out' r
step_refused can e n p {memory} {out} {out'} {r} some is at_p w =
    record {
      layout = refl;
      lent = refl;
      serves =
          λ t h ready.
          serves_refused_at (sizes memory.layout) can e memory.numbers.now out out' t r n p h some (is t h ready) at_p w;
    }
